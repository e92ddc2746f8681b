use Rattle.std.proofs.Common.{sym, ◌∙◌}
use Rattle.asm_statement.proofs.Writing.{taken_with_count}
use Rattle.asm_statement.proofs.statement.takes_all.Goals as goal

pub returns-then-takes_count : goal.returns-then-takes_count
returns-then-takes_count c = taken_with_count c.args.directive c.args.line.now c.args.tokens.now c.takes_each.result (sym c.takes_count.ensures ∙ c.if-takes_count.true) c.takes_each.ensures
