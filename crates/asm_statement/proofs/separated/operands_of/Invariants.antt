use Rattle.std.proofs.Common.{◌≡◌, ◌≤◌, false, drop, length, map}
use Rattle.mb_lex.specs.Lines.{placed_of}
use Rattle.asm_statement.specs.Operands.{operands_from}
use Rattle.asm_statement.proofs.Commas.{prepend}
use Rattle.asm_statement.proofs.separated.operands_of.Given as goal

abbrev pub invariant-loop-k : goal.invariant-loop-k
invariant-loop-k l = record {
  few : length l.operands.items ≤ l.k;
  told : operands_from false (map (placed_of l.line) l.tokens) ≡ prepend (map (placed_of l.line) l.operands.items) (operands_from l.comma_due (map (placed_of l.line) (drop l.k l.tokens)));
}
