use Rattle.std.proofs.Common.{◌≡◌, ◌∙◌, true, false, sym, arith}
use Rattle.op_table.specs.declared.kinds.ShiftKind.TheVariants.{Left, Right, Arith}
use Rattle.alu_units.proofs.StagesLemmas.{moved_is}
use Rattle.mb_word.specs.Word.{is_negative}
use Rattle.alu_units.proofs.shifts.stage.Goals as goal

pub returns-in-Left : goal.returns-in-Left
returns-in-Left c = rw c.in-Left.is (moved_is Left c.args.a c.args.step (omega arith))

pub returns-in-Right : goal.returns-in-Right
returns-in-Right c = rw c.in-Right.is (moved_is Right c.args.a c.args.step (omega arith))

pub returns-then-is_negative : goal.returns-then-is_negative
returns-then-is_negative c =
    let negative : is_negative c.args.a ≡ true = sym c.is_negative.ensures ∙ c.if-is_negative.true in
    rw c.in-Arith.is (rw negative at (moved_is Arith c.args.a c.args.step (omega arith)))

pub returns-else-is_negative : goal.returns-else-is_negative
returns-else-is_negative c =
    let positive : is_negative c.args.a ≡ false = sym c.is_negative.ensures ∙ c.if-is_negative.false in
    rw c.in-Arith.is (rw positive at (moved_is Arith c.args.a c.args.step (omega arith)))
