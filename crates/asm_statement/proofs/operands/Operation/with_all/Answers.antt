use Rattle.std.proofs.Common.{◌+◌, drop, map, sym, ap, refl, ◌∙◌, arith}
use Rattle.mb_lex.specs.Lines.{placed_of}
use Rattle.asm_statement.specs.Operands.{with_all}
use Rattle.asm_statement.proofs.Loops.{with_next, with_none}
use Rattle.asm_statement.proofs.operands.Operation.with_all.Goals as goal

pub loop-k-init : goal.loop-k-init
loop-k-init g c = refl

pub loop-k-preserved : goal.loop-k-preserved
loop-k-preserved g c =
    let labels = g.L.Labels.items c.args.labels.now in
    ap (λ o. with_all labels c.args.after_imm (drop (c.loop-k.k + 1) c.args.shape.now) (map (placed_of c.args.line.now) (drop (c.loop-k.k + 1) c.args.tokens.now)) o) c.with_token-operation.ensures
    ∙ sym (with_next labels c.args.after_imm c.args.line.now c.args.shape.now c.args.tokens.now c.loop-k.k _ _ c.loop-k.operation c.loop-k-test.true (omega (arith, c.requires)))
    ∙ c.loop-k.invariant

pub returns : goal.returns
returns g c =
    sym (with_none (g.L.Labels.items c.args.labels.now) c.args.after_imm c.args.line.now c.args.shape.now c.args.tokens.now c.loop-k.k c.loop-k.operation c.loop-k-test.false)
    ∙ c.loop-k.invariant
