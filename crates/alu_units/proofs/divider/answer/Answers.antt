use Rattle.std.proofs.Common.{◌≡◌, ◌∙◌, sym, ap, arith}
use Rattle.alu_units.specs.Division.{with_sign, signs_differ}
use Rattle.alu_units.proofs.QuotientLemmas.{quotient_is, exact}
use Rattle.alu_units.proofs.divider.answer.Goals as goal

pub returns-clause-value : goal.returns-clause-value
returns-clause-value c =
    let q : c.with_sign.result ≡ with_sign (signs_differ c.args.signed c.args.dividend c.args.divisor) c.args.unsigned = c.with_sign.ensures ∙ ap (λ n. with_sign n c.args.unsigned) c.signs_differ-negative.ensures in
    q ∙ ap (with_sign (signs_differ c.args.signed c.args.dividend c.args.divisor)) c.requires ∙ quotient_is c.args.dividend c.args.divisor c.args.signed (omega arith) (omega arith)

pub returns-clause-towards_zero : goal.returns-clause-towards_zero
returns-clause-towards_zero c = λ fine. exact c.args.dividend c.args.divisor c.args.signed c.with_sign.result (omega arith) (omega arith) (returns-clause-value c) (sym c.fault.ensures ∙ fine)
