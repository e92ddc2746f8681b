use Rattle.std.proofs.Common.{refl, sym, ◌∙◌}
use Rattle.asm_reading.proofs.Following.{all_after, next_after}
use Rattle.asm_reading.proofs.reading.after_items.Goals as goal

pub loop-k-init : goal.loop-k-init
loop-k-init c = refl

pub loop-k-preserved : goal.loop-k-preserved
loop-k-preserved c = next_after c.args.items.now c.loop-k.k _ c.loop-k.after c.after_item-after.result c.loop-k-test.true c.after_item-after.ensures ∙ c.loop-k.invariant

pub returns : goal.returns
returns c = sym (all_after c.args.items.now c.loop-k.k c.loop-k.after c.loop-k-test.false) ∙ c.loop-k.invariant
