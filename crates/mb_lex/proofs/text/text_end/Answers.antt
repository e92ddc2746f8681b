use Rattle.std.proofs.Common.{◌+◌, drop, sym, ap, ◌∙◌}
use Rattle.mb_lex.specs.Literals.{text_end}
use Rattle.mb_lex.proofs.Texts.{counted, ends_here, goes_on_here, is_none_here, no_end}
use Rattle.mb_lex.proofs.text.text_end.Goals as goal

pub returns-then-ends_text-clause-end : goal.returns-then-ends_text-clause-end
returns-then-ends_text-clause-end c =
    sym (c.loop-k.invariant ∙ ends_here c.loop-k.escaped c.loop-k.k c.args.text.now c.loop-k-test.true (sym c.if-ends_text.ensures))

pub returns-then-not-is_in_text-clause-end : goal.returns-then-not-is_in_text-clause-end
returns-then-not-is_in_text-clause-end c =
    sym (c.loop-k.invariant ∙ is_none_here c.loop-k.escaped c.loop-k.k c.args.text.now c.loop-k-test.true (sym c.if-ends_text.ensures) (sym c.if-not-is_in_text.ensures))

pub loop-k-preserved : goal.loop-k-preserved
loop-k-preserved c =
    c.loop-k.invariant
    ∙ goes_on_here c.loop-k.escaped c.loop-k.k c.args.text.now c.loop-k-test.true (sym c.if-ends_text.ensures) (sym c.if-not-is_in_text.ensures)
    ∙ ap (λ e. counted (c.loop-k.k + 1) (text_end e (drop (c.loop-k.k + 1) c.args.text.now))) (sym c.escapes-escaped.ensures)

pub returns-clause-end : goal.returns-clause-end
returns-clause-end c = sym (c.loop-k.invariant ∙ no_end c.loop-k.escaped c.loop-k.k c.args.text.now c.loop-k-test.false)
