use Rattle.std.proofs.Common.{◌≡◌, ◌++◌, drop, map}
use Rattle.mb_lex.specs.Lines.{placed_of}
use Rattle.asm_statement.specs.Values.{at_head, items_for}
use Rattle.asm_statement.proofs.values.add_operands.Given as goal

abbrev pub invariant-loop-k : goal.invariant-loop-k
invariant-loop-k g l =
    l.out.items ++ map (at_head l.head) (items_for (g.L.Labels.items l.labels) l.directive (map (placed_of l.line) (drop l.k l.tokens)))
    ≡ l.initial.out.items ++ map (at_head l.head) (items_for (g.L.Labels.items l.labels) l.directive (map (placed_of l.line) l.tokens))
