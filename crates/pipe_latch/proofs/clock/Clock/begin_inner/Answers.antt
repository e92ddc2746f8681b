use Rattle.std.proofs.Common.{Some, ap, ◌∙◌}
use Rattle.timing_law.specs.Past.{begins_at}
use Rattle.pipe_latch.specs.Clocks.{Clocked}
use Rattle.pipe_latch.proofs.ClockLemmas.{begins_soon, inner_set}
use Rattle.pipe_latch.proofs.clock.Clock.begin_inner.Goals as goal

pub load-requires-clause-near : goal.load-requires-clause-near
load-requires-clause-near c = begins_soon _ c.args.self.now _ c.args.in_slot c.begins_by-begins.result c.begins_by-begins.ensures c.self.invariant c.self.view_is

pub returns : goal.returns
returns c = inner_set c.args.word.now c.args.in_slot c.begins_by-begins.result c.args.self.now c.load.new.self c.load.ensures
    (c.begins_by-begins.ensures ∙ ap (λ (t : Clocked). begins_at t.past (Some c.args.word.now.instr) c.args.in_slot) c.self.view_is) c.requires.inner
