-- Instructions as they are written: a mnemonic, and its operands.
use Rattle.std.specs.Prelude.{ℕ, ◌+◌, ◌/◌, ◌%◌, ◌==◌, Bool, true, false, ◌&&◌, List, drop, length, Option, None, Some, if◌then◌else◌}
use Rattle.op_table.specs.declared.form.Form.{Form}
use Rattle.op_table.specs.declared.form.Form.TheVariants.{P, Pd}
use Rattle.op_table.specs.Table.{row_for}
use Rattle.mb_lex.specs.Lexemes.{Placed}
use Rattle.asm_syntax.specs.declared.mnemonics.Named.{Named}
use Rattle.asm_syntax.specs.declared.slot.Slot.{Slot}
use Rattle.asm_syntax.specs.Spelling.{shape_of_named}
use Rattle.asm_statement.specs.declared.operands.Operation.{Operation}
use Rattle.asm_statement.specs.Labels.{Labels}
use Rattle.asm_statement.specs.Operands.{take_all, with_all}

abbrev pub is_put : Form → Bool
is_put P = true
is_put Pd = true
is_put _ = false

-- a put with the letter t, which may be written without its register
unfoldable pub is_test_put : Named → Bool
is_test_put n = is_put (row_for n.op).form && n.flags / 4 % 2 == 1

-- the operands of a mnemonic, where so many are written
unfoldable pub shape_for : Named → ℕ → List Slot
shape_for n count = if is_test_put n && count + 1 == length (shape_of_named n) then drop 1 (shape_of_named n) else shape_of_named n

-- an instruction none of whose operands is read
abbrev pub unread : Named → Operation
unread n = record { instr = record { op = n.op; rd = 0; ra = 0; rb = 0; imm = 0; flags = n.flags }; value = None; fault = None }

-- what a mnemonic with these operands is; None where their number or kind is wrong
unfoldable pub instruction : Labels → Bool → Named → List Placed → Option Operation
instruction labels after_imm n xs =
    if take_all n.op after_imm (shape_for n (length xs)) xs then Some (with_all labels after_imm (shape_for n (length xs)) xs (unread n)) else None
