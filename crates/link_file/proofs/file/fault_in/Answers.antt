use Rattle.std.proofs.Common.{◌∙◌, sym, arith}
use Rattle.std.proofs.lemmas.Grind.{common_steps}
use Rattle.link_file.proofs.Steps.{fault_at_end, fault_here, fault_more, no_fault_at_end}
use Rattle.link_file.proofs.file.fault_in.Goals as goal

pub loop-left-preserved : goal.loop-left-preserved
loop-left-preserved c =
    (fault_more c.loop-left.left.now c.loop-left.at c.in-len5-up.len_at_least (omega (arith, c.if-control-gt1.false)) ∙ c.loop-left.invariant.0, grind (arith, common_steps))

pub returns-then-control-gt1 : goal.returns-then-control-gt1
returns-then-control-gt1 c = sym (fault_here c.loop-left.left.now c.loop-left.at c.in-len5-up.len_at_least (omega (arith, c.if-control-gt1.true))) ∙ c.loop-left.invariant.0

pub returns-then-is_empty : goal.returns-then-is_empty
returns-then-is_empty c = sym (no_fault_at_end c.loop-left.left.now c.loop-left.at (grind (arith, common_steps))) ∙ c.loop-left.invariant.0

pub returns-else-is_empty : goal.returns-else-is_empty
returns-else-is_empty c = sym (fault_at_end c.loop-left.left.now c.loop-left.at c.in_default.len_below (grind (arith, common_steps))) ∙ c.loop-left.invariant.0
