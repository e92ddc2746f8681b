use Rattle.pipe_latch.proofs.ClockLemmas.{moves_timed}
use Rattle.pipe_latch.proofs.clock.Clock.act.Goals as goal

pub invariant_of-self : goal.invariant_of-self
invariant_of-self c = moves_timed c.args.here.now c.args.done.now c.args.pc _ c.pass.new.self c.pass.ensures c.self.invariant
