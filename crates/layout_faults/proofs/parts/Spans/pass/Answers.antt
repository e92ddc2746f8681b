use Rattle.std.proofs.Common.{◌+◌, sym, ap, ◌∙◌, arith}
use Rattle.asm_source.specs.Second.{is_part}
use Rattle.asm_source.specs.declared.item.Written.{Written}
use Rattle.layout_faults.proofs.Spanning.{span_more, span_same}
use Rattle.layout_faults.proofs.parts.Spans.pass.Goals as goal

pub returns-then-not-is_part : goal.returns-then-not-is_part
returns-then-not-is_part c = λ F total laid before.
    span_same c.args.all.now F c.args.k _ c.args.self.now.from c.args.self.now.org c.args.self.now.ended.items total c.requires.within
    (ap (λ (w : Written). is_part w.item) (sym c.written_at-w.ensures) ∙ sym c.is_part.ensures ∙ c.if-not-is_part.true) before

pub returns : goal.returns
returns c = λ F total laid before.
    span_more c.args.all.now F c.args.k _ c.written_at-w.result c.args.self.now.from _ _ c.args.self.now.org c.args.self.now.ended.items c.end.new.self.ended.items total c.requires.within
    (ap (λ (w : Written). is_part w.item) (sym c.written_at-w.ensures) ∙ sym c.is_part.ensures ∙ c.if-not-is_part.false)
    (laid c.args.k (omega (arith, c.requires.within))) (laid (c.args.k + 1) (omega (arith, c.requires.within))) c.written_at-w.ensures before c.in_ok-end.ensures
