use Rattle.std.proofs.Common.{ℕ, ◌≡◌, ◌+◌, ◌-◌, ◌≤◌, arith, subst}
use Rattle.pipe_latch.specs.Latches.{InStages}
use Rattle.pipe_latch.proofs.FlightLemmas.{stages_within}
use Rattle.pipe_latch.proofs.in_flight.Flights.advance.Goals as goal

last_of : (d : ℕ) → 1 ≤ d → d - 1 + 1 ≡ d
last_of d le = omega (arith, le)

pub shift-requires : goal.shift-requires
shift-requires c = stages_within (c.args.depth - 1) 4 0 c.land.new.self.stages c.land.ensures.stages (omega (arith, c.requires.depth.1))

pub returns-clause-stages : goal.returns-clause-stages
returns-clause-stages c = subst (λ d. InStages d 0 c.shift.new.self.stages) (last_of c.args.depth c.requires.depth.0) (c.shift.ensures.stages (c.args.depth - 1) c.land.ensures.stages)
