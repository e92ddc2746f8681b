use Rattle.std.proofs.Common.{arith, refl, false}
use Rattle.pipe_latch.specs.declared.in_flight.Stage.{Stage}
use Rattle.pipe_latch.proofs.FlightLemmas.{shifted_flights, shifted_stages}
use Rattle.pipe_latch.proofs.in_flight.shifted.Goals as goal

abbrev empty : Stage
empty = record { is_full = false; reg = 0; value = 0 }

pub returns-clause-flights : goal.returns-clause-flights
returns-clause-flights c = shifted_flights c.args.stages.now empty empty empty empty empty c.told-stages c.requires refl

pub returns-clause-stages : goal.returns-clause-stages
returns-clause-stages c = λ d h. shifted_stages d c.args.stages.now empty empty empty empty empty c.told-stages h (omega arith) refl
