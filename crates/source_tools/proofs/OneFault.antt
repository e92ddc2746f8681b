-- A source has one first fault, or none where it has an image.
use Rattle.std.proofs.Common.{◌≡◌, ◌∙◌, List, ℕ, Option, None, Some, inl, inr, ap, sym, unwrap_or, arith}
use Rattle.asm_layout.proofs.Turns.{grown_is_one, same_set}
use Rattle.asm_reading.specs.Reading.{source_read}
use Rattle.asm_source.specs.declared.fault.Fault.{Fault}
use Rattle.asm_source.specs.Faults.{least}
use Rattle.asm_source.specs.Items.{pieces}
use Rattle.asm_source.specs.Second.{items_of, second_faults}
use Rattle.core_regs.specs.declared.causes.Order.{Order}
use Rattle.mb_asm.specs.Assembly.{IsAssembled, IsFirstFault}
use Rattle.mb_asm.specs.declared.answer.Assembled.{Assembled}

some_is_no_none : {X : Type 0} (x : X) → Some x ≡ None → ⊥
some_is_no_none x e = let bad : Some x ≡ None = e in grind arith

pub no_fault : (order : Order) (bytes : List ℕ) (a : Assembled) (fault : Fault) → IsAssembled order bytes a → IsFirstFault bytes fault → ⊥
no_fault order bytes a fault h (inl first) = some_is_no_none fault (sym first ∙ h.sound)
no_fault order bytes a fault h (inr second) =
    let items = (source_read bytes).items in
    let same : second.F ≡ h.F = same_set second.F h.F (grown_is_one (pieces (items_of items)) second.F h.F second.grown h.grown) in
    some_is_no_none fault (sym second.first ∙ ap (λ F. least (second_faults items F)) same ∙ h.good)

same_inside : (o : Option Fault) (f g : Fault) → o ≡ Some f → o ≡ Some g → f ≡ g
same_inside o f g p q = ap (λ x. unwrap_or x f) (sym p ∙ q)

pub one_fault : (bytes : List ℕ) (f g : Fault) → IsFirstFault bytes f → IsFirstFault bytes g → f ≡ g
one_fault bytes f g (inl p) (inl q) = same_inside (source_read bytes).first f g p q
one_fault bytes f g (inl p) (inr q) = absurd (some_is_no_none f (sym p ∙ q.sound))
one_fault bytes f g (inr p) (inl q) = absurd (some_is_no_none g (sym q ∙ p.sound))
one_fault bytes f g (inr p) (inr q) =
    let items = (source_read bytes).items in
    let same : p.F ≡ q.F = same_set p.F q.F (grown_is_one (pieces (items_of items)) p.F q.F p.grown q.grown) in
    same_inside (least (second_faults items q.F)) f g (ap (λ F. least (second_faults items F)) (sym same) ∙ p.first) q.first
