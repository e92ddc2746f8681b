use Rattle.std.proofs.Common.{◌≡◌, drop}
use Rattle.op_table.specs.Table.{rows}
use Rattle.asm_syntax.specs.Spelling.{named_in}
use Rattle.asm_syntax.proofs.mnemonics.mnemonic.Given as goal

abbrev pub invariant-loop-k : goal.invariant-loop-k
invariant-loop-k l = named_in rows l.word ≡ named_in (drop l.k rows) l.word
