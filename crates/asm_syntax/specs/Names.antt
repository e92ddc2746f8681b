-- The names of instructions, and of the special registers that a few of them name.
use Rattle.std.specs.Prelude.{ℕ, List, codes}
use Rattle.op_table.specs.declared.kinds.Kind.{Kind}
use Rattle.op_table.specs.declared.kinds.Kind.TheVariants.{MoveFrom, MoveToMsr}
use Rattle.op_table.specs.declared.kinds.Special.TheVariants.{Pc, Msr, Ear, Esr, Btr, Edr}
use Rattle.op_table.specs.declared.op.Op.{Op}
use Rattle.op_table.specs.Mnemonics.{text_of}
use Rattle.op_table.specs.Table.{kind_of, row_for}

-- the name of an instruction; a stream access has letters before it
unfoldable pub name_of : Op → List ℕ
name_of name = text_of (row_for name).name

-- the special register that an instruction reads or writes; where it does neither, the empty name
abbrev pub special_name : Kind → List ℕ
special_name (MoveFrom Pc) = codes "rpc"
special_name (MoveFrom Msr) = codes "rmsr"
special_name (MoveFrom Ear) = codes "rear"
special_name (MoveFrom Esr) = codes "resr"
special_name (MoveFrom Btr) = codes "rbtr"
special_name (MoveFrom Edr) = codes "redr"
special_name MoveToMsr = codes "rmsr"
special_name _ = codes ""

unfoldable pub special_of : Op → List ℕ
special_of name = special_name (kind_of name)
