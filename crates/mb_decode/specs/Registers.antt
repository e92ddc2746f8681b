-- Which registers an instruction reads and writes, by its word alone. Register 0 always holds 0 and never counts; as a field that
-- a form lacks is 0, the fields rA and rB that count are those of the form.
use Rattle.std.specs.Prelude.{ℕ, Bool, not, ◌==◌, ◌&&◌, ◌||◌, Option, None, Some, if◌then◌else◌}
use Rattle.op_table.specs.Table.{is_store}
use Rattle.mb_decode.specs.declared.instruction.Instr.{Instr}

-- a field rA or rB names a register that is read
abbrev pub reads_a : Instr → Bool
reads_a i = not (i.ra == 0)

abbrev pub reads_b : Instr → Bool
reads_b i = not (i.rb == 0)

-- and the field rD of a store, which holds what is stored
abbrev pub reads_d : Instr → Bool
reads_d i = not (i.rd == 0) && is_store i.op

abbrev pub reads : Instr → ℕ → Bool
reads i register = reads_a i && i.ra == register || reads_b i && i.rb == register || reads_d i && i.rd == register

-- the field rD of all others is the register that is written, if the act writes one: a get that misses, or a division that
-- raises, leaves it
abbrev pub written : Instr → Option ℕ
written i = if not (i.rd == 0) && not (is_store i.op) then Some i.rd else None
