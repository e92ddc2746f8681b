use Rattle.std.proofs.Common.{◌≡◌, drop, map}
use Rattle.mb_lex.specs.Lines.{placed_of}
use Rattle.asm_statement.specs.Operands.{take_all}
use Rattle.asm_statement.proofs.operands.take_all.Given as goal

abbrev pub invariant-loop-k : goal.invariant-loop-k
invariant-loop-k l =
    take_all l.op l.after_imm l.shape (map (placed_of l.line) l.tokens) ≡ take_all l.op l.after_imm (drop l.k l.shape) (map (placed_of l.line) (drop l.k l.tokens))
