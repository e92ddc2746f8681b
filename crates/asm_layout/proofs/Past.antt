-- Behind the last piece all places are its end.
use Rattle.std.proofs.Common.{◌≡◌, ℕ, zero, suc, ◌+◌, ◌≤◌, List, length, get_or, sym, ap, ◌∙◌, inl, inr, arith}
use Rattle.std.specs.Prelude.{min}
use Rattle.std.proofs.lemmas.Bool.{cases_lt}
use Rattle.std.proofs.lemmas.List.{get_or_past}
use Rattle.asm_layout.specs.declared.piece.Piece.{Piece}
use Rattle.asm_layout.specs.declared.piece.Piece.TheVariants.{Bytes}
use Rattle.asm_layout.specs.Layout.{Numbers, end_of, piece, place}
use Rattle.asm_layout.specs.Places.{ArePlaces}

-- one piece more, behind the last
same_next : (all : List Piece) (F : Numbers) (k : ℕ) → length all ≤ k → place all F (suc k) ≡ place all F k
unfolding place
same_next all F k past =
    let none : piece all k ≡ Bytes 0 = get_or_past all k (Bytes 0) past in
    let stays : place all F k + 0 ≡ place all F k = omega arith in
    ap (λ p. end_of p (F k) (place all F k)) none ∙ stays

place_past : (all : List Piece) (F : Numbers) (k : ℕ) → length all ≤ k → place all F k ≡ place all F (length all)
place_past all F zero past = ap (place all F) (omega arith)
place_past all F (suc k) past = elim (cases_lt k (length all)) [
  | inl last ↦ ap (place all F) (omega arith)
  | inr behind ↦ same_next all F k behind ∙ place_past all F k behind
]

-- the place of a number, which may be behind the last
pub place_read : (all : List Piece) (F : Numbers) (places : List ℕ) (k n : ℕ) → n ≡ length all → ArePlaces all F (length all) places → get_or places (min k n) 0 ≡ place all F k
place_read all F places k n is laid = elim (cases_lt k n) [
  | inl within ↦
      let same : min k n ≡ k = omega arith in
      ap (λ j. get_or places j 0) same ∙ laid k (omega arith)
  | inr past ↦
      let same : min k n ≡ length all = omega arith in
      ap (λ j. get_or places j 0) same ∙ laid (length all) (omega arith) ∙ sym (place_past all F k (omega arith))
]
