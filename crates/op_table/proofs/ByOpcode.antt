-- Each row stands between the places that the index gives for its opcode: a test that the checker computes, and what follows.
use Rattle.std.proofs.Common.{◌≡◌, ℕ, zero, suc, ◌+◌, ◌/◌, ◌^◌, ◌<◌, ◌≤◌, Bool, true, not, ◌&&◌, eqb, leb, List, [], ◌∷◌, ◌++◌, length, take, drop, get_or, refl, sym, ap, ◌∙◌, inl, inr, arith}
use Rattle.std.specs.List.{filter, list_all, slice_range}
use Rattle.std.specs.Int.Bits.{bit_and}
use Rattle.std.proofs.lemmas.Nat.{and_shr, and_mask, shr_below}
use Rattle.std.proofs.Math.Nat.{mod-eq_of_lt}
use Rattle.std.proofs.lemmas.List.{take-append-drop, append-nil}
use Rattle.std.proofs.lemmas.List.Folds.{drop_split}
use Rattle.std.proofs.lemmas.List.Elements.{filter-append}
use Rattle.std.proofs.lemmas.Bool.{and_parts, eqb-true, eqb-false, leb-true, not-true, cases_Bool}
use Rattle.op_table.specs.declared.entry.Row.{Row}
use Rattle.op_table.specs.Table.{rows, first_rows, matches, opcode, rows_of}

-- the row has another opcode, and its mask has all of the opcode
abbrev other : ℕ → Row → Bool
other code r = eqb (r.mask / 2 ^ 26) 63 && not (eqb (r.bits / 2 ^ 26) code)

-- the rows of this opcode stand between its place and the next
unfoldable pub stands : List Row → List ℕ → ℕ → Bool
stands rs starts code =
    leb (get_or starts code 0) (get_or starts (code + 1) 0)
    && leb (get_or starts (code + 1) 0) (length rs)
    && list_all (other code) (take (get_or starts code 0) rs)
    && list_all (other code) (drop (get_or starts (code + 1) 0) rs)

-- so it is of each opcode below n
unfoldable all_stand : List Row → List ℕ → ℕ → Bool
all_stand rs starts zero = true
all_stand rs starts (suc n) = stands rs starts n && all_stand rs starts n

stands_of_all : (rs : List Row) (starts : List ℕ) (n code : ℕ) → all_stand rs starts n ≡ true → code < n → stands rs starts code ≡ true
unfolding all_stand
stands_of_all rs starts zero code h lt = absurd (omega arith)
stands_of_all rs starts (suc n) code h lt =
    let parts = and_parts (stands rs starts n) (all_stand rs starts n) h in
    elim (cases_Bool (eqb code n)) [
      | inl same ↦ rw (eqb-true code n same) parts.0
      | inr differs ↦ stands_of_all rs starts n code parts.1 (omega (arith, eqb-false code n differs))
    ]

-- a word of a row has the row's opcode
opcode_of_row : (w : ℕ) (r : Row) → w < 2 ^ 32 → r.mask / 2 ^ 26 ≡ 63 → matches w r ≡ true → r.bits / 2 ^ 26 ≡ opcode w
opcode_of_row w r word mask of_r =
    let r_is : bit_and w r.mask ≡ r.bits = eqb-true _ _ of_r in
    rw (← r_is, and_shr w r.mask 26, mask, and_mask (w / 2 ^ 26) 6) (mod-eq_of_lt (shr_below w 6 26 word))

none_of_other : (w : ℕ) (rs : List Row) → w < 2 ^ 32 → list_all (other (opcode w)) rs ≡ true → filter (matches w) rs ≡ []
none_of_other w [] word h = refl
none_of_other w (r ∷ rs) word h =
    let parts = and_parts (other (opcode w) r) (list_all (other (opcode w)) rs) h in
    let here = and_parts (eqb (r.mask / 2 ^ 26) 63) (not (eqb (r.bits / 2 ^ 26) (opcode w))) parts.0 in
    let rest : filter (matches w) rs ≡ [] = none_of_other w rs word parts.1 in
    elim (cases_Bool (matches w r)) [
      | inl of_r ↦ absurd (eqb-false _ _ (not-true _ here.1) (opcode_of_row w r word (eqb-true _ _ here.0) of_r))
      | inr not_r ↦ rw not_r rest
    ]

-- what the index gives for an opcode
pub record Stands (code : ℕ) : Type 0 where
  pub in_order : get_or first_rows code 0 ≤ get_or first_rows (code + 1) 0
  pub within : get_or first_rows (code + 1) 0 ≤ length rows
  pub before : list_all (other code) (take (get_or first_rows code 0) rows) ≡ true
  pub after : list_all (other code) (drop (get_or first_rows (code + 1) 0) rows) ≡ true

all_stand_here : all_stand rows first_rows 64 ≡ true
unfolding rows first_rows stands all_stand
all_stand_here = refl

pub stands_below : (code : ℕ) → code < 64 → Stands code
unfolding stands
stands_below code lt =
    let from = get_or first_rows code 0 in
    let to = get_or first_rows (code + 1) 0 in
    let h = stands_of_all rows first_rows 64 code all_stand_here lt in
    let abc = and_parts (leb from to && leb to (length rows) && list_all (other code) (take from rows)) (list_all (other code) (drop to rows)) h in
    let ab = and_parts (leb from to && leb to (length rows)) (list_all (other code) (take from rows)) abc.0 in
    let a = and_parts (leb from to) (leb to (length rows)) ab.0 in
    record {
      in_order = leb-true _ _ a.0;
      within = leb-true _ _ a.1;
      before = ab.1;
      after = abc.1;
    }

-- the rows between the two places are all that a word of this opcode can be of
pub filter_between : (code : ℕ) → code < 64 → (w : ℕ) → w < 2 ^ 32 → opcode w ≡ code → filter (matches w) (slice_range rows (get_or first_rows code 0) (get_or first_rows (code + 1) 0)) ≡ rows_of w
filter_between code lt w word is =
    let from = get_or first_rows code 0 in
    let to = get_or first_rows (code + 1) 0 in
    let s = stands_below code lt in
    let front : filter (matches w) (take from rows) ≡ [] = none_of_other w (take from rows) word (rw is s.before) in
    let back : filter (matches w) (drop to rows) ≡ [] = none_of_other w (drop to rows) word (rw is s.after) in
    let split : rows ≡ take from rows ++ (slice_range rows from to ++ drop to rows) =
    sym (take-append-drop from rows) ∙ ap (λ xs. take from rows ++ xs) (drop_split rows from to s.in_order) in
    let parts : filter (matches w) rows ≡ filter (matches w) (take from rows) ++ (filter (matches w) (slice_range rows from to) ++ filter (matches w) (drop to rows)) =
    ap (filter (matches w)) split ∙ filter-append (matches w) (take from rows) (slice_range rows from to ++ drop to rows)
    ∙ ap (λ xs. filter (matches w) (take from rows) ++ xs) (filter-append (matches w) (slice_range rows from to) (drop to rows)) in
    sym (parts ∙ ap (λ xs. xs ++ (filter (matches w) (slice_range rows from to) ++ filter (matches w) (drop to rows))) front
    ∙ ap (λ xs. filter (matches w) (slice_range rows from to) ++ xs) back ∙ append-nil _)
