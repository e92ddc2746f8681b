use Rattle.std.proofs.Common.{ℕ, ◌≡◌, ◌+◌, ◌-◌, ◌≤◌, arith, refl, not, Bool, true, false}
use Rattle.pipe_latch.specs.declared.in_flight.Stage.{Stage}
use Rattle.pipe_latch.proofs.FlightLemmas.{flying_file, flying_flights, flying_stages, landed_file, landed_flights, landed_stages, stage_named}
use Rattle.pipe_latch.proofs.in_flight.Flights.land.Goals as goal

abbrev empty : Stage
empty = record { is_full = false; reg = 0; value = 0 }

was_false : (b : Bool) → not b ≡ true → b ≡ false
was_false true is = cc
was_false false is = refl

was_true : (b : Bool) → not b ≡ false → b ≡ true
was_true true is = refl
was_true false is = cc

last_of : (d : ℕ) → 1 ≤ d → d - 1 + 1 ≡ d
last_of d le = omega (arith, le)

pub returns-then-not-last-clause-flights : goal.returns-then-not-last-clause-flights
returns-then-not-last-clause-flights c =
    let last = last_of c.args.depth c.requires.depth.0 in
    flying_flights c.args.depth (c.args.depth - 1) c.args.self.now.stages (flying_stages c.args.depth (c.args.depth - 1) c.args.self.now.stages empty c.requires.stages last (was_false _ c.if-not-last.true)) last

pub returns-then-not-last-clause-file : goal.returns-then-not-last-clause-file
returns-then-not-last-clause-file c =
    let last = last_of c.args.depth c.requires.depth.0 in
    flying_file c.args.depth (c.args.depth - 1) c.args.self.now.stages c.args.file.now (flying_stages c.args.depth (c.args.depth - 1) c.args.self.now.stages empty c.requires.stages last (was_false _ c.if-not-last.true)) last

pub returns-then-not-last-clause-stages : goal.returns-then-not-last-clause-stages
returns-then-not-last-clause-stages c = flying_stages c.args.depth (c.args.depth - 1) c.args.self.now.stages empty c.requires.stages (last_of c.args.depth c.requires.depth.0) (was_false _ c.if-not-last.true)

pub bounds-file-last : goal.bounds-file-last
bounds-file-last c = stage_named c.args.depth 0 c.args.self.now.stages (c.args.depth - 1) empty c.requires.stages (omega arith)

pub returns-clause-flights : goal.returns-clause-flights
returns-clause-flights c = landed_flights c.args.depth (c.args.depth - 1) c.args.self.now.stages empty empty c.requires.stages (last_of c.args.depth c.requires.depth.0) refl (was_true _ c.if-not-last.false) refl

pub returns-clause-file : goal.returns-clause-file
returns-clause-file c = landed_file c.args.depth (c.args.depth - 1) c.args.self.now.stages empty empty c.args.file.now c.requires.stages (last_of c.args.depth c.requires.depth.0) refl (was_true _ c.if-not-last.false) refl

pub returns-clause-stages : goal.returns-clause-stages
returns-clause-stages c = landed_stages c.args.depth (c.args.depth - 1) c.args.self.now.stages empty c.requires.stages (last_of c.args.depth c.requires.depth.0) (omega arith) refl
