use Rattle.std.proofs.Common.{sym, ◌∙◌, arith}
use Rattle.asm_statement.proofs.Loops.{all_taken, not_as_many, takes_next, takes_not}
use Rattle.asm_statement.proofs.operands.take_all.Goals as goal

pub loop-k-preserved : goal.loop-k-preserved
loop-k-preserved c =
    c.loop-k.invariant
    ∙ takes_next c.args.op c.args.after_imm c.args.line.now c.args.shape.now c.args.tokens.now c.loop-k.k _ _ c.loop-k-test.true (omega arith) (sym c.takes.ensures ∙ c.if-not-takes.false)

pub returns-then-tokens-shape-clause-all : goal.returns-then-tokens-shape-clause-all
returns-then-tokens-shape-clause-all c = not_as_many c.args.op c.args.after_imm c.args.line.now c.args.shape.now c.args.tokens.now c.if-tokens-shape.true

pub returns-then-not-takes-clause-all : goal.returns-then-not-takes-clause-all
returns-then-not-takes-clause-all c =
    sym (c.loop-k.invariant
    ∙ takes_not c.args.op c.args.after_imm c.args.line.now c.args.shape.now c.args.tokens.now c.loop-k.k _ _ c.loop-k-test.true (omega arith) (sym c.takes.ensures ∙ c.if-not-takes.true))

pub returns-clause-all : goal.returns-clause-all
returns-clause-all c =
    sym (c.loop-k.invariant ∙ all_taken c.args.op c.args.after_imm c.args.line.now c.args.shape.now c.args.tokens.now c.loop-k.k c.loop-k-test.false (omega arith))
