use Rattle.std.proofs.Common.{◌≡◌, List, None, refl, sym, ap, subst, ◌∙◌, inr}
use Rattle.std.specs.List.{All}
use Rattle.asm_source.specs.declared.item.Written.{Written}
use Rattle.asm_source.specs.Source.{HasWord}
use Rattle.asm_reading.specs.Reading.{Read, source_read}
use Rattle.mb_asm.specs.declared.answer.AsmFault.{AsmFault}
use Rattle.mb_asm.specs.Assembly.{IsRefusal}
use Rattle.mb_asm.proofs.Answering.{assembled_by, second_by}
use Rattle.mb_asm.proofs.assembling.assemble.Goals as goal

pub returns-in-Some-2 : goal.returns-in-Some-2
returns-in-Some-2 c =
    let sound : (source_read c.args.source.now).first ≡ None = sym (ap (λ (r : Read). r.first) c.in_ok-reading.ensures.read) ∙ sym c.get.ensures ∙ c.in_default.is in
    let second = second_by c.args.source.now c.as_slice-all.result.now c.in_ok-laid.laid.grown.items c.as_slice-grown.result.now c.in_ok-fault.field-0
    (c.as_slice-all.ensures.value ∙ ap (λ (r : Read). r.items) c.in_ok-reading.ensures.read) c.as_slice-grown.ensures.value sound c.in_ok-laid.ensures.is_grown c.in_ok-fault.ensures c.in-Some-2.fault c.in-Some-2.is in
    subst (λ (a : AsmFault). IsRefusal c.args.source.now a) (sym c.refusal-in-Some-2.ensures) (record { fault = c.in-Some-2.fault; first = inr second; told = refl })

pub returns : goal.returns
returns c =
    let sound : (source_read c.args.source.now).first ≡ None = sym (ap (λ (r : Read). r.first) c.in_ok-reading.ensures.read) ∙ sym c.get.ensures ∙ c.in_default.is in
    assembled_by c.args.source.now c.as_slice-all.result.now c.in_ok-laid.laid.grown.items c.as_slice-grown.result.now c.in_ok-fault.field-0
    (c.as_slice-all.ensures.value ∙ ap (λ (r : Read). r.items) c.in_ok-reading.ensures.read) c.as_slice-grown.ensures.value sound c.in_ok-laid.ensures.is_grown c.in_ok-fault.ensures c.args.order c.in_ok-assembled.assembled c.in_ok-reading.reading.entry
    c.in_default-2.is (ap (λ (r : Read). r.entry) c.in_ok-reading.ensures.read) c.in_ok-assembled.ensures

pub build-requires-clause-spelled : goal.build-requires-clause-spelled
build-requires-clause-spelled c =
    subst (λ (ws : List Written). All (λ (w : Written). HasWord w.item) ws) (sym c.as_slice-all.ensures.value) (c.in_ok-reading.ensures.spelled (sym c.get.ensures ∙ c.in_default.is))
