use Rattle.std.proofs.Common.{sym, ◌∙◌, arith}
use Rattle.asm_statement.proofs.Commas.{cut_short, due_read, none_of, not_due, read_fits, whole}
use Rattle.asm_statement.proofs.separated.operands_of.Goals as goal

pub loop-k-preserved : goal.loop-k-preserved
loop-k-preserved c =
    record {
      few = read_fits c.loop-k.comma_due c.loop-k.k c.loop-k.operands.items c.add_due.new.operands.items _ c.loop-k.invariant.few c.add_due.ensures.added;
      told = c.loop-k.invariant.told
          ∙ due_read c.loop-k.comma_due c.args.line.now c.loop-k.operands.items c.add_due.new.operands.items c.args.tokens.now c.loop-k.k _ c.loop-k-test.true
          (sym (c.add_due.ensures.due c.args.line.now) ∙ c.if-not-add_due.false) c.add_due.ensures.added;
    }

pub returns-then-not-add_due : goal.returns-then-not-add_due
returns-then-not-add_due c =
    none_of c.args.line.now c.args.tokens.now (omega (arith, c.loop-k-test.true))
    (c.loop-k.invariant.told ∙ not_due c.loop-k.comma_due c.args.line.now c.loop-k.operands.items c.args.tokens.now c.loop-k.k _ c.loop-k-test.true (sym (c.add_due.ensures.due c.args.line.now) ∙ c.if-not-add_due.true))

pub returns-then-comma_due : goal.returns-then-comma_due
returns-then-comma_due c = whole c.args.line.now c.loop-k.operands.items c.args.tokens.now c.loop-k.k c.loop-k.comma_due c.if-comma_due.true c.loop-k-test.false c.loop-k.invariant.told

pub returns-else-comma_due : goal.returns-else-comma_due
returns-else-comma_due c =
    none_of c.args.line.now c.args.tokens.now (omega (arith, c.loop-k.invariant.few))
    (cut_short c.args.line.now c.loop-k.operands.items c.args.tokens.now c.loop-k.k c.loop-k.comma_due c.if-comma_due.false c.loop-k-test.false c.loop-k.invariant.told)
