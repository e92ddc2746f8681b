use Rattle.std.proofs.Common.{◌≡◌, drop, map}
use Rattle.mb_lex.specs.Lines.{placed_of}
use Rattle.asm_statement.specs.Operands.{with_all}
use Rattle.asm_statement.proofs.operands.Operation.with_all.Given as goal

abbrev pub invariant-loop-k : goal.invariant-loop-k
invariant-loop-k g l =
    with_all (g.L.Labels.items l.labels) l.after_imm (drop l.k l.shape) (map (placed_of l.line) (drop l.k l.tokens)) l.operation
    ≡ with_all (g.L.Labels.items l.labels) l.after_imm l.shape (map (placed_of l.line) l.tokens) l.initial.operation
