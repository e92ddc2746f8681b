use Rattle.std.proofs.Common.{sym, ◌∙◌}
use Rattle.asm_statement.proofs.Writing.{fault_past, fault_step}
use Rattle.asm_statement.proofs.values.fault_for.Goals as goal

pub loop-k-preserved : goal.loop-k-preserved
loop-k-preserved g c =
    fault_step (g.L.Labels.items c.args.labels.now) c.args.directive c.args.line.now c.args.tokens.now c.loop-k.k _ c.loop-k.fault c.noted-fault.result c.rule_for-rule.result c.loop-k-test.true
    c.noted-fault.ensures c.rule_for-rule.ensures
    ∙ c.loop-k.invariant

pub returns : goal.returns
returns g c =
    sym (fault_past (g.L.Labels.items c.args.labels.now) c.args.directive c.args.line.now c.args.tokens.now c.loop-k.k c.loop-k.fault c.loop-k-test.false) ∙ c.loop-k.invariant
