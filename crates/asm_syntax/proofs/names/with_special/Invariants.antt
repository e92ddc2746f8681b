use Rattle.std.proofs.Common.{◌≡◌, drop}
use Rattle.std.specs.Prelude.{find}
use Rattle.op_table.specs.Mnemonics.{text_of}
use Rattle.op_table.specs.Table.{rows}
use Rattle.asm_syntax.specs.Operands.{has_special}
use Rattle.asm_syntax.proofs.names.with_special.Given as goal

abbrev pub invariant-loop-k : goal.invariant-loop-k
invariant-loop-k l = find (has_special (text_of l.name) l.word) rows ≡ find (has_special (text_of l.name) l.word) (drop l.k rows)
