use Rattle.std.proofs.Common.{◌≡◌, None, drop, map}
use Rattle.mb_lex.specs.Lines.{placed_of}
use Rattle.asm_statement.proofs.Writing.{noted_from}
use Rattle.asm_statement.proofs.values.fault_for.Given as goal

abbrev pub invariant-loop-k : goal.invariant-loop-k
invariant-loop-k g l =
    noted_from (g.L.Labels.items l.labels) l.directive l.fault (map (placed_of l.line) (drop l.k l.tokens))
    ≡ noted_from (g.L.Labels.items l.labels) l.directive None (map (placed_of l.line) l.tokens)
