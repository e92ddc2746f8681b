use Rattle.std.proofs.Common.{◌∷◌, ◌++◌, [], get_or, sym, ap, ◌∙◌, arith}
use Rattle.asm_source.specs.declared.fault.Rule.TheVariants.{TooMuch}
use Rattle.asm_source.specs.Faults.{least_after}
use Rattle.asm_source.specs.Second.{fault_if}
use Rattle.layout_faults.proofs.Spanning.{all_apart, apart, none_spanned, shares}
use Rattle.layout_faults.proofs.parts.note_parts.Goals as goal

pub returns-then-meets : goal.returns-then-meets
returns-then-meets c =
    let i = c.loop-k.invariant in
    shares c.loop-k.kept i.earlier c.args.spans.now c.loop-k.k _ c.loop-k.first _ _ c.loop-k-test.true (sym (c.meets.ensures i.earlier i.keeps) ∙ c.if-meets.true) i.noted c.note_if.ensures

pub loop-k-preserved : goal.loop-k-preserved
loop-k-preserved c =
    let i = c.loop-k.invariant in
    let apart_here = sym (c.meets.ensures i.earlier i.keeps) ∙ c.if-meets.false in
    record {
      few = omega (arith, i.few, c.kept_with-kept.ensures.few);
      earlier = i.earlier ++ (get_or c.args.spans.now c.loop-k.k none_spanned).range ∷ [];
      keeps = c.in_ok-add.ensures.ok i.earlier i.keeps apart_here;
      noted = apart c.loop-k.kept c.kept_with-kept.result i.earlier c.args.spans.now c.loop-k.k _ c.loop-k.first c.note_if-in-loop-k.new.first _ c.loop-k-test.true apart_here i.noted
          (c.note_if-in-loop-k.ensures ∙ ap (λ t. least_after c.loop-k.first (fault_if t TooMuch (get_or c.args.spans.now c.loop-k.k none_spanned).org)) c.is_too_many.ensures) c.kept_with-kept.ensures.count;
    }

pub returns : goal.returns
returns c =
    let i = c.loop-k.invariant in
    all_apart c.loop-k.kept i.earlier c.args.spans.now c.loop-k.k c.loop-k.first _ c.loop-k-test.false i.noted
