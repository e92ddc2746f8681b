-- The ways to write an instruction: one table, which assembler and disassembler share.
use Rattle.std.specs.Prelude.{ℕ, ◌*◌, ◌/◌, ◌%◌, ◌==◌, List, [], ◌∷◌, ◌++◌, map, true, false, if◌then◌else◌, Option, Some, None, bytes_eq, codes, find}
use Rattle.std.specs.List.{range_with_len}
use Rattle.op_table.specs.declared.entry.Row.{Row}
use Rattle.op_table.specs.declared.op.Op.{Op}
use Rattle.op_table.specs.declared.op.Op.TheVariants as op
use Rattle.op_table.specs.declared.form.Form.{Form}
use Rattle.op_table.specs.declared.form.Form.TheVariants.{G, P, Gd, Pd}
use Rattle.op_table.specs.Mnemonics.{text_of}
use Rattle.op_table.specs.Table.{kind_of, row_for, rows}
use Rattle.asm_syntax.specs.declared.mnemonics.Named.{Named}
use Rattle.asm_syntax.specs.declared.slot.Slot.{Slot}
use Rattle.asm_syntax.specs.Names.{name_of}
use Rattle.asm_syntax.specs.Shapes.{shape_of}

-- the letter of a flag, where it is set
abbrev pub letter : ℕ → ℕ → List ℕ → List ℕ
letter bit flags text = if flags / bit % 2 == 1 then text else []

-- the letters of a stream access: t 4, n 16, e 1, c 8, a 2
abbrev pub letters : ℕ → List ℕ
letters flags = letter 4 flags (codes "t") ++ letter 16 flags (codes "n") ++ letter 1 flags (codes "e") ++ letter 8 flags (codes "c") ++ letter 2 flags (codes "a")

-- the mnemonic of an instruction with these flags
unfoldable pub spelled : Op → ℕ → List ℕ
spelled name flags = letters flags ++ name_of name

-- the flags that instructions of a form can have
abbrev pub flags_of : Form → List ℕ
flags_of G = range_with_len 0 32
flags_of Gd = range_with_len 0 32
flags_of P = map (λ k. 2 * k) (range_with_len 0 16)
flags_of Pd = map (λ k. 2 * k) (range_with_len 0 16)
flags_of _ = 0 ∷ []

-- the letters with which a word names a row
abbrev pub letters_in : List ℕ → Row → Option ℕ
letters_in word r = find (λ flags. bytes_eq (letters flags ++ text_of r.name) word) (flags_of r.form)

-- two mnemonics that are short for others: `nop` is `or r0, r0, r0`, and `la` is `addik`
abbrev pub alias : List ℕ → Option Named
alias word =
    if bytes_eq word (codes "nop") then Some (record { op = op.Or; flags = 0; bare = true })
    else if bytes_eq word (codes "la") then Some (record { op = op.Addik; flags = 0; bare = false })
    else None

abbrev pub or_else : Row → Option ℕ → Option Named → Option Named
or_else r None others = others
or_else r (Some flags) others = Some (record { op = r.op; flags = flags; bare = false })

-- what a word names: the first of the rows whose mnemonic it is, or else one that it is short for
unfoldable pub named_in : List Row → List ℕ → Option Named
named_in [] word = alias word
named_in (r ∷ rs) word = or_else r (letters_in word r) (named_in rs word)

unfoldable pub mnemonic : List ℕ → Option Named
mnemonic word = named_in rows word

-- the operands that are written
unfoldable pub shape_of_named : Named → List Slot
shape_of_named n = if n.bare then [] else shape_of (row_for n.op).form (kind_of n.op)
