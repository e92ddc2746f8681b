use Rattle.std.proofs.Common.{sym, ◌∙◌}
use Rattle.layout_faults.proofs.NextSolid.{solid_here, solid_later, solid_none}
use Rattle.layout_faults.proofs.slots.next_solid.Goals as goal

pub returns-then-is_solid-clause-next : goal.returns-then-is_solid-clause-next
returns-then-is_solid-clause-next c = λ F laid.
    sym (solid_here c.args.all.now F c.loop-k.k c.loop-k-test.true (sym (c.is_solid.ensures F laid) ∙ c.if-is_solid.true)) ∙ c.loop-k.invariant F laid

pub loop-k-preserved : goal.loop-k-preserved
loop-k-preserved c = λ F laid.
    solid_later c.args.all.now F c.loop-k.k c.loop-k-test.true (sym (c.is_solid.ensures F laid) ∙ c.if-is_solid.false) ∙ c.loop-k.invariant F laid

pub returns-clause-next : goal.returns-clause-next
returns-clause-next c = λ F laid. sym (solid_none c.args.all.now F c.loop-k.k c.loop-k-test.false) ∙ c.loop-k.invariant F laid
