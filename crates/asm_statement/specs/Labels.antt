-- Which words name labels, and the items before which they stand.
use Rattle.std.specs.Prelude.{ℕ, Bool, not, ◌&&◌, List, Option, is_some}
use Rattle.op_table.specs.declared.op.Op.TheVariants.{MfsRpc}
use Rattle.asm_syntax.specs.Operands.{port_of, register_of, with_special}

-- the item before which the label of a name stands, where there is one
abbrev pub Labels : Type 0
Labels = List ℕ → Option ℕ

-- a special register, by its name
abbrev pub is_special : List ℕ → Bool
is_special word = is_some (with_special MfsRpc word)

-- a word that is no register, no port and no special register can be the name of a label that is a value
unfoldable pub is_label_name : List ℕ → Bool
is_label_name word = not (is_some (register_of word)) && not (is_some (port_of word)) && not (is_special word)
