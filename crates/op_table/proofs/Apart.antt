-- No word is of two rows: a test of the rows alone, which the checker computes, and what follows from it.
use Rattle.std.proofs.Common.{◌≡◌, ℕ, ◌≤◌, Bool, true, not, ◌&&◌, eqb, List, [], ◌∷◌, length, refl, sym, ap, ◌∙◌, inl, inr, arith}
use Rattle.std.specs.List.{filter, list_all}
use Rattle.std.specs.Int.Bits.{bit_and}
use Rattle.std.proofs.lemmas.Nat.{and_assoc, and_comm}
use Rattle.std.proofs.lemmas.Bool.{and_parts, eqb-true, eq-eqb, not-true, false≢true, cases_Bool}
use Rattle.op_table.specs.declared.entry.Row.{Row}
use Rattle.op_table.specs.Table.{rows, matches, rows_of}

-- some word has the bits of both rows
abbrev meet : Row → Row → Bool
meet r s = eqb (bit_and r.bits s.mask) (bit_and s.bits r.mask)

-- no word has the bits of a row and of a later one
unfoldable apart : List Row → Bool
apart [] = true
apart (r ∷ rs) = list_all (λ s. not (meet r s)) rs && apart rs

-- two rows that a word is of meet
meet_from_word : (w : ℕ) (r s : Row) → matches w r ≡ true → matches w s ≡ true → meet r s ≡ true
meet_from_word w r s of_r of_s =
    let r_is : bit_and w r.mask ≡ r.bits = eqb-true _ _ of_r in
    let s_is : bit_and w s.mask ≡ s.bits = eqb-true _ _ of_s in
    let left : bit_and r.bits s.mask ≡ bit_and w (bit_and r.mask s.mask) = rw (← r_is) (and_assoc s.mask w r.mask) in
    let right : bit_and s.bits r.mask ≡ bit_and w (bit_and s.mask r.mask) = rw (← s_is) (and_assoc r.mask w s.mask) in
    eq-eqb _ _ (left ∙ ap (bit_and w) (and_comm r.mask s.mask) ∙ sym right)

-- a word of a row is of none that does not meet it
none_of_apart : (w : ℕ) (r : Row) (rs : List Row) → matches w r ≡ true → list_all (λ s. not (meet r s)) rs ≡ true → filter (matches w) rs ≡ []
none_of_apart w r [] of_r apart_r = refl
none_of_apart w r (s ∷ rs) of_r apart_r =
    let parts = and_parts (not (meet r s)) (list_all (λ t. not (meet r t)) rs) apart_r in
    let rest : filter (matches w) rs ≡ [] = none_of_apart w r rs of_r parts.1 in
    elim (cases_Bool (matches w s)) [
      | inl of_s ↦ absurd (false≢true (sym (not-true _ parts.0) ∙ meet_from_word w r s of_r of_s))
      | inr not_s ↦ rw not_s rest
    ]

few_of_apart : (w : ℕ) (rs : List Row) → apart rs ≡ true → length (filter (matches w) rs) ≤ 1
unfolding apart
few_of_apart w [] h = omega arith
few_of_apart w (r ∷ rs) h =
    let parts = and_parts (list_all (λ s. not (meet r s)) rs) (apart rs) h in
    elim (cases_Bool (matches w r)) [
      | inl of_r ↦ rw (of_r, none_of_apart w r rs of_r parts.0) (omega arith)
      | inr not_r ↦ rw not_r (few_of_apart w rs parts.1)
    ]

pub at_most_one_row : (w : ℕ) → length (rows_of w) ≤ 1
unfolding rows apart
at_most_one_row w = few_of_apart w rows refl
