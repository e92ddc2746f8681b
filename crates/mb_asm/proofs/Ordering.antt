-- The fault that is told is the first of all that a source has.
use Rattle.std.proofs.Common.{◌≡◌, ℕ, List, [], Option, None, Some, sym, ◌∙◌, subst, inl, inr}
use Rattle.std.specs.Prelude.{◌⊎◌}
use Rattle.core_regs.specs.declared.causes.Order.{Order}
use Rattle.asm_layout.specs.Layout.{Numbers}
use Rattle.asm_source.specs.declared.fault.Fault.{Fault}
use Rattle.asm_source.specs.Faults.{IsFirst, IsLeast, least}
use Rattle.asm_source.specs.Laws.{LeastIsFirst, PartsMayStop}
use Rattle.asm_source.specs.Second.{all_second_faults, second_faults}
use Rattle.asm_reading.specs.FirstRound.{first_faults}
use Rattle.asm_reading.specs.Laws.{ItemsAreInOrder, LinesHaveALeast}
use Rattle.asm_reading.specs.Reading.{source_read}
use Rattle.mb_asm.specs.declared.answer.Assembled.{Assembled}
use Rattle.mb_asm.specs.Assembly.{IsAssembled, IsFirstFault}
use Rattle.mb_asm.specs.Orders.{HasNoFault, IsLeastLaid}

first_by : (is_first : LeastIsFirst) (all : List Fault) (o : Option Fault) → least all ≡ o → IsFirst all o
first_by is_first all o is = subst (λ (x : Option Fault). IsFirst all x) is (is_first all)

module _ (is_first : LeastIsFirst) (lines : LinesHaveALeast) (items : ItemsAreInOrder) (stop : PartsMayStop) where
  none_read : (source : List ℕ) → (source_read source).first ≡ None → first_faults source ≡ []
  none_read source sound = first_by is_first (first_faults source) None (sym (lines source) ∙ sound)

  all_laid : (source : List ℕ) (F : Numbers) (o : Option Fault) → least (second_faults (source_read source).items F) ≡ o → IsFirst (all_second_faults (source_read source).items F) o
  all_laid source F o is = first_by is_first (all_second_faults (source_read source).items F) o (sym (stop (source_read source).items F (items source)) ∙ is)

  pub in_order : (source : List ℕ) (fault : Fault) → IsFirstFault source fault → IsLeast (first_faults source) fault ⊎ IsLeastLaid source fault
  in_order source fault (inl read) = inl (first_by is_first (first_faults source) (Some fault) (sym (lines source) ∙ read))
  in_order source fault (inr second) = inr (record {
    F = second.F;
    none = none_read source second.sound;
    grown = second.grown;
    least = all_laid source second.F (Some fault) second.first;
  })

  pub no_fault : (order : Order) (source : List ℕ) (a : Assembled) → IsAssembled order source a → HasNoFault source
  no_fault order source a built = record {
    F = built.F;
    none = none_read source built.sound;
    grown = built.grown;
    sound = all_laid source built.F None built.good;
  }
