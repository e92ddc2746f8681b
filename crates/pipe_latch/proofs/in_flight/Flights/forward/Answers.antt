use Rattle.std.proofs.Common.{ap, sym, ◌∙◌}
use Rattle.std.specs.Option.{option_map}
use Rattle.pipe_latch.specs.declared.in_flight.Stage.{Stage}
use Rattle.pipe_latch.proofs.FlightLemmas.{found_youngest}
use Rattle.pipe_latch.proofs.in_flight.Flights.forward.Goals as goal

pub returns-in-Some : goal.returns-in-Some
returns-in-Some c = sym (ap (option_map (λ (s : Stage). s.value)) (sym c.found.ensures ∙ c.in-Some.is)) ∙ found_youngest 0 c.args.reg c.args.self.now.stages

pub returns-in-None : goal.returns-in-None
returns-in-None c = sym (ap (option_map (λ (s : Stage). s.value)) (sym c.found.ensures ∙ c.in-None.is)) ∙ found_youngest 0 c.args.reg c.args.self.now.stages
