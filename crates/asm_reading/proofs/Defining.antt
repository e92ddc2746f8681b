-- A label that is defined in the table.
use Rattle.std.proofs.Common.{◌≡◌, ℕ, true, false, List, Some, sym, ap, ◌∙◌, subst, ⊎_elim}
use Rattle.std.specs.Prelude.{is_some, if◌then◌else◌, bytes_eq}
use Rattle.std.specs.BTreeMap.{BTreeMap, UpdatesBy, get_by, is_at}
use Rattle.std.specs.Cmp.{eq_by_cmp_equiv}
use Rattle.std.specs.Cmp.Lexicographic.{bytes_decides, nat_list_cmp_total, nat_list_eq_equiv, slice_cmp}
use Rattle.std.specs.Map.{KeepsOthers}
use Rattle.std.specs.Ordering.{eq_by_cmp, is_eq, nat_cmp}
use Rattle.std.proofs.lemmas.Bool.{cases_Bool, cond-true, cond-false}
use Rattle.std.proofs.lemmas.Map.Text.{is_eq-slice_cmp}
use Rattle.asm_statement.specs.Labels.{Labels}
use Rattle.asm_reading.specs.Marks.{defined}

pub known_stays : (labels : Labels) (name : List ℕ) (item : ℕ) → is_some (labels name) ≡ true → labels ≡ defined labels name item
known_stays labels name item known = λ i other. sym (ap (λ b. if b then labels other else if bytes_eq name other then Some item else labels other) known) i

pub new_added : (labels new : Labels) (name : List ℕ) (item : ℕ) → is_some (labels name) ≡ false → ((other : List ℕ) → new other ≡ (if bytes_eq name other then Some item else labels other)) → new ≡ defined labels name item
new_added labels new name item unknown added = λ i other. (added other ∙ sym (ap (λ b. if b then labels other else if bytes_eq name other then Some item else labels other) unknown)) i

-- ---- the table, as its map is written

-- a key that is equal to one name isn't equal to another
apart_keys : (name other key : List ℕ) → bytes_eq name other ≡ false → is_eq (slice_cmp nat_cmp name key) ≡ true → is_eq (slice_cmp nat_cmp other key) ≡ false
apart_keys name other key differs same =
    is_eq-slice_cmp other key ∙ nat_list_eq_equiv.symm other key ∙ sym (nat_list_eq_equiv.congr name key other (sym (is_eq-slice_cmp name key) ∙ same)) ∙ differs

module _ {K : Type 0} (old new : BTreeMap K ℕ) (bytes : K → List ℕ) where
  others_stay : (name : List ℕ) → KeepsOthers (eq_by_cmp (λ x y. slice_cmp nat_cmp (bytes x) (bytes y))) (is_at (λ k. slice_cmp nat_cmp name (bytes k))) old.entries new.entries
      → (other : List ℕ) → bytes_eq name other ≡ false → get_by (λ k. slice_cmp nat_cmp other (bytes k)) new ≡ get_by (λ k. slice_cmp nat_cmp other (bytes k)) old
  unfolding KeepsOthers
  others_stay name keeps other differs =
      keeps (λ k. is_eq (slice_cmp nat_cmp other (bytes k))) (λ x y. (eq_by_cmp_equiv nat_list_cmp_total).congr other (bytes x) (bytes y)) (λ k. apart_keys name other (bytes k) differs)

  pub map_updated : (name : List ℕ) (item : ℕ) → UpdatesBy (λ x y. slice_cmp nat_cmp (bytes x) (bytes y)) (λ k. slice_cmp nat_cmp name (bytes k)) old new (Some item)
      → (other : List ℕ) → get_by (λ k. slice_cmp nat_cmp other (bytes k)) new ≡ (if bytes_eq name other then Some item else get_by (λ k. slice_cmp nat_cmp other (bytes k)) old)
  map_updated name item updates other =
      let before = get_by (λ k. slice_cmp nat_cmp other (bytes k)) old in
      ⊎_elim
      (λ (same : bytes_eq name other ≡ true).
      subst (λ (l : List ℕ). get_by (λ k. slice_cmp nat_cmp l (bytes k)) new ≡ Some item) ((bytes_decides name other).0 same) updates.1 ∙ sym (cond-true (bytes_eq name other) (Some item) before same))
      (λ (differs : bytes_eq name other ≡ false). others_stay name updates.3 other differs ∙ sym (cond-false (bytes_eq name other) (Some item) before differs))
      (cases_Bool (bytes_eq name other))
