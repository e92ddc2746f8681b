-- How long names are.
use Rattle.std.proofs.Common.{◌≡◌, ◌≤◌, true, length, refl}
use Rattle.std.specs.Prelude.{nat_le}
use Rattle.std.proofs.lemmas.Bool.{leb-true}
use Rattle.op_table.specs.declared.op.Op.{Op}
use Rattle.op_table.specs.declared.op.Op.TheVariants.{Add}
use Rattle.op_table.specs.Mnemonics.{text_of}
use Rattle.op_table.specs.Table.{row_for, rows}

short_name : (name : Op) → nat_le (length (text_of (row_for name).name)) 9 ≡ true
unfolding rows row_for
short_name Add = refl
short_name name = refl

pub name_is_short : (name : Op) → length (text_of (row_for name).name) ≤ 9
name_is_short name = leb-true _ _ (short_name name)
