use Rattle.pipe_latch.proofs.ClockLemmas.{begins_soon}
use Rattle.pipe_latch.proofs.clock.Clock.begin.Goals as goal

pub load-requires-clause-near : goal.load-requires-clause-near
load-requires-clause-near c = begins_soon _ c.args.self.now _ c.args.in_slot c.begins-begins.result c.begins-begins.ensures c.self.invariant c.self.view_is
