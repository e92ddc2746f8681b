use Rattle.std.proofs.Common.{arith}
use Rattle.std.proofs.lemmas.Grind.{common_steps}
use Rattle.link_file.proofs.Steps.{items_more, no_items_at_end}
use Rattle.link_file.proofs.file.read_items.Goals as goal

pub loop-left-preserved : goal.loop-left-preserved
loop-left-preserved c = let h = items_more c.loop-left.left.now c.in-len5-up.len_at_least in grind (arith, common_steps)

pub returns : goal.returns
returns c = let h = no_items_at_end c.loop-left.left.now c.in_default.len_below in grind (arith, common_steps)
