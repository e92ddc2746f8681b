-- What a source has that has no fault in its layout: near addresses, few bytes and few parts.
use Rattle.std.proofs.Common.{◌≡◌, ℕ, zero, suc, ◌+◌, ◌<◌, ◌≤◌, Bool, true, false, List, [], ◌∷◌, ◌++◌, length, None, refl, ap, ◌∙◌, subst, arith, add-one}
use Rattle.std.specs.Prelude.{flat_map, nat_lt, ◌&&◌, if◌then◌else◌, Option}
use Rattle.std.specs.List.{list_any, range_with_len}
use Rattle.std.proofs.lemmas.Bool.{ltb-false}
use Rattle.byte_ranges.specs.declared.kept.Range.{Range}
use Rattle.byte_ranges.specs.Ranges.{has_bytes, shares_byte}
use Rattle.asm_layout.specs.Layout.{Numbers, place}
use Rattle.asm_source.specs.declared.fault.Fault.{Fault}
use Rattle.asm_source.specs.declared.fault.Rule.{Rule}
use Rattle.asm_source.specs.declared.fault.Rule.TheVariants.{TooMuch}
use Rattle.asm_source.specs.declared.item.Span.{Span}
use Rattle.asm_source.specs.declared.item.Written.{Written}
use Rattle.asm_source.specs.Faults.{IsFirst, least}
use Rattle.asm_source.specs.Laws.{FaultlessIsNear}
use Rattle.asm_source.specs.Second.{fault_if, item_faults, kept_with, part_faults, place_of, second_faults, size_before, spans_from, written}
use Rattle.asm_source.proofs.Noted.{least_is_first}

no_faults : (all : List Fault) → least all ≡ None → all ≡ []
no_faults all none = subst (λ (o : Option Fault). IsFirst all o) none (least_is_first all)

-- ---- lists without an item

none_left : {X : Type 0} (xs ys : List X) → xs ++ ys ≡ [] → xs ≡ []
none_left [] ys none = refl
none_left (x ∷ xs) ys none = absurd (omega (arith, ap length none))

pub none_right : {X : Type 0} (xs ys : List X) → xs ++ ys ≡ [] → ys ≡ []
none_right [] ys none = none
none_right (x ∷ xs) ys none = absurd (omega (arith, ap length none))

none_else : {X : Type 0} (b : Bool) (x : X) (ys : List X) → (if b then x ∷ [] else ys) ≡ [] → ys ≡ []
none_else true x ys none = absurd (omega (arith, ap length none))
none_else false x ys none = none

none_each : {X : Type 0} (f : ℕ → List X) (a n k m : ℕ) → k < n → m ≡ a + k → flat_map f (range_with_len a n) ≡ [] → f m ≡ []
none_each f a zero k m within is none = absurd (omega arith)
none_each f a (suc n) zero m within is none = ap f (omega (arith, is)) ∙ none_left (f a) _ none
none_each f a (suc n) (suc k) m within is none = none_each f (a + 1) n k m (omega (arith, within)) (omega (arith, is)) (none_right (f a) _ none)

unfailing : (fails : Bool) (rule : Rule) (w : Written) → fault_if fails rule w ≡ [] → fails ≡ false
unfailing true rule w none = absurd (omega (arith, ap length none))
unfailing false rule w none = refl

-- ---- parts

unfoldable pub count : List Span → ℕ
count [] = 0
count (p ∷ ps) = kept_with p.range (count ps)

few_with : (has : Bool) (kept : ℕ) → kept ≤ 65_534 → (has && nat_lt 65_534 (kept + 1)) ≡ false → (if has then kept + 1 else kept) ≤ 65_534
few_with true kept few none = ltb-false 65_534 (kept + 1) none
few_with false kept few none = few

moved : (has : Bool) (kept rest : ℕ) → (if has then kept + 1 else kept) + rest ≡ kept + (if has then rest + 1 else rest)
moved true kept rest = omega arith
moved false kept rest = omega arith

few_kept : (kept : ℕ) (earlier : List Range) (ps : List Span) → kept ≤ 65_534 → part_faults kept earlier ps ≡ [] → kept + count ps ≤ 65_534
unfolding part_faults count
few_kept kept earlier [] few none = omega (arith, few)
few_kept kept earlier (p ∷ ps) few none =
    let here = fault_if (has_bytes p.range && nat_lt 65_534 (kept + 1)) TooMuch p.org in
    let left = part_faults (kept_with p.range kept) (earlier ++ p.range ∷ []) ps in
    let clean : here ++ left ≡ [] = none_else (list_any (shares_byte p.range) earlier) _ (here ++ left) none in
    let with = few_with (has_bytes p.range) kept few (unfailing _ TooMuch p.org (none_left here left clean)) in
    let rest = few_kept (kept_with p.range kept) (earlier ++ p.range ∷ []) ps with (none_right here left clean) in
    omega (arith, rest, moved (has_bytes p.range) kept (count ps))

module _ (all : List Written) (F : Numbers) (sound : least (second_faults all F) ≡ None) where
  item_clean : (k : ℕ) → k < length all → item_faults all F k ≡ []
  unfolding second_faults
  item_clean k within = none_each (item_faults all F) 0 (length all) k k within (omega arith) (none_left _ _ (no_faults (second_faults all F) sound))

  pub few_parts : count (spans_from all F 0 0 (written all 0) all) ≤ 65_534
  unfolding second_faults
  few_parts =
      let few = few_kept 0 [] (spans_from all F 0 0 (written all 0) all) (omega arith) (none_right (flat_map (item_faults all F) (range_with_len 0 (length all))) _ (no_faults (second_faults all F) sound)) in
      omega (arith, few)

  size_after : (k : ℕ) → k < length all → size_before all F (k + 1) ≤ 1_048_576
  unfolding item_faults
  size_after k within = ltb-false 1_048_576 (size_before all F (k + 1)) (unfailing _ TooMuch (written all k) (none_right _ _ (none_left _ _ (none_left _ _ (item_clean k within)))))

  few_before : (k : ℕ) → k ≤ length all → size_before all F k ≤ 1_048_576
  unfolding size_before
  few_before zero within = omega arith
  few_before (suc k) within =
      let last = size_after k within in
      omega (arith, last, ap (size_before all F) (add-one k))

  pub few_bytes : size_before all F (length all) ≤ 1_048_576
  few_bytes = few_before (length all) (omega arith)

  near : (k : ℕ) → k ≤ length all → place_of all F k ≤ 67_108_864
  unfolding item_faults place
  near zero within = omega arith
  near (suc k) within =
      let last = ltb-false 67_108_864 (place_of all F (k + 1)) (unfailing _ TooMuch (written all k) (none_right _ _ (none_left _ _ (item_clean k within)))) in
      omega (arith, last, ap (place_of all F) (add-one k))

pub faultless_is_near : FaultlessIsNear
faultless_is_near all F sound = near all F sound
