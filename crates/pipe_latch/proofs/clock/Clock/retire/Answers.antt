use Rattle.pipe_latch.proofs.ClockLemmas.{goes_timed}
use Rattle.pipe_latch.proofs.clock.Clock.retire.Goals as goal

pub invariant_of-self : goal.invariant_of-self
invariant_of-self c = goes_timed c.args.word.now.instr c.jump_by.result _ c.retired_as.new.self c.retired_as.ensures c.self.invariant
