use Rattle.asm_statement.proofs.Writing.{operand_more, operands_past}
use Rattle.asm_statement.proofs.values.add_operands.Goals as goal

pub loop-k-preserved : goal.loop-k-preserved
loop-k-preserved g c =
    operand_more c.args.head (g.L.Labels.items c.args.labels.now) c.args.directive c.args.line.now c.args.tokens.now c.loop-k.k _ c.loop-k.out.items c.add_operand.new.out.items _ c.loop-k-test.true c.loop-k.invariant c.in_ok-add_operand.ensures

pub returns : goal.returns
returns g c = operands_past c.args.head (g.L.Labels.items c.args.labels.now) c.args.directive c.args.line.now c.args.tokens.now c.loop-k.k c.loop-k.out.items _ c.loop-k-test.false c.loop-k.invariant
