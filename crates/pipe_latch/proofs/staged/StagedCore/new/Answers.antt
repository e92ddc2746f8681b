use Rattle.pipe_latch.proofs.staged.StagedCore.new.Goals as goal

pub meet-at_once-requires-clause-words : goal.meet-at_once-requires-clause-words
meet-at_once-requires-clause-words g c = c.new-queue.ensures _ _

pub invariant_of-result-clause-fetched : goal.invariant_of-result-clause-fetched
invariant_of-result-clause-fetched g c = c.new-queue.ensures _ _

pub invariant_of-result-clause-flying : goal.invariant_of-result-clause-flying
invariant_of-result-clause-flying g c = c.new.ensures.stages _
