-- Instructions have different mnemonics, but for those that read special registers: a test of the rows, which the checker
-- computes, and what follows from it.
use Rattle.std.proofs.Common.{◌≡◌, ℕ, zero, suc, ◌<◌, Bool, true, false, not, ◌&&◌, ◌||◌, eqb, List, [], ◌∷◌, length, get_or, refl, sym, ap, ◌∙◌, inl, inr, arith}
use Rattle.std.specs.Prelude.{codes, ◌⊎◌}
use Rattle.std.specs.List.{Contains, list_all}
use Rattle.std.proofs.lemmas.Bool.{and_parts, eqb-true, eq-eqb}
use Rattle.op_table.specs.declared.entry.Row.{Row}
use Rattle.op_table.specs.declared.mnemonic.Mnemonic.{Mnemonic}
use Rattle.op_table.specs.declared.op.Op.{Op}
use Rattle.op_table.specs.Mnemonics.{mnemonic}
use Rattle.op_table.specs.Table.{rows, place, row_for, IsRowOf}
use Rattle.op_table.proofs.PlacesLemmas.{known_row, row_at_place}

-- the same letters
unfoldable same : List ℕ → List ℕ → Bool
same [] [] = true
same [] (y ∷ ys) = false
same (x ∷ xs) [] = false
same (x ∷ xs) (y ∷ ys) = eqb x y && same xs ys

same_of_equal : (xs : List ℕ) → same xs xs ≡ true
unfolding same
same_of_equal [] = refl
same_of_equal (x ∷ xs) = rw (eq-eqb x x refl) (same_of_equal xs)

equal_of_same : (xs ys : List ℕ) → same xs ys ≡ true → xs ≡ ys
unfolding same
equal_of_same [] [] h = refl
equal_of_same [] (y ∷ ys) h = cc
equal_of_same (x ∷ xs) [] h = cc
equal_of_same (x ∷ xs) (y ∷ ys) h =
    let parts = and_parts (eqb x y) (same xs ys) h in
    let tail : xs ≡ ys = equal_of_same xs ys parts.1 in
    rw (eqb-true x y parts.0, tail) refl

-- a row that reads a special register
abbrev reads_special : Row → Bool
reads_special r = same r.name.letters (mnemonic (codes "mfs")).letters

-- two rows have different names, or are one
abbrev differ : Row → Row → Bool
differ r s = not (same r.name.letters s.name.letters) || (reads_special r || eqb (place r.op) (place s.op))

unfoldable all_differ : List Row → Bool
all_differ rs = list_all (λ r. list_all (differ r) rs) rs

all_differ_here : all_differ rows ≡ true
unfolding rows same all_differ
all_differ_here = refl

all_within : {X : Type 0} (p : X → Bool) (xs : List X) (k : ℕ) (x : X) → k < length xs → get_or xs k x ≡ x → list_all p xs ≡ true → p x ≡ true
all_within p [] k x lt is h = absurd (omega arith)
all_within p (y ∷ ys) zero x lt is h = sym (ap p is) ∙ (and_parts (p y) (list_all p ys) h).0
all_within p (y ∷ ys) (suc k) x lt is h = all_within p ys k x (omega arith) is (and_parts (p y) (list_all p ys) h).1

rows_differ : (r s : Row) → Contains rows r → Contains rows s → differ r s ≡ true
unfolding all_differ
rows_differ r s r_listed s_listed =
    all_within (differ r) rows s_listed.0 s s_listed.1 s_listed.2
    (all_within (λ t. list_all (differ t) rows) rows r_listed.0 r r_listed.1 r_listed.2 all_differ_here)

-- instructions at one place are one
one_place : (op other : Op) → place op ≡ place other → op ≡ other
one_place op other h =
    sym (row_at_place op (row_for op)) ∙ ap (λ k. (get_or rows k (row_for op)).op) h ∙ row_at_place other (row_for op)

last_of : (a b c : Bool) → a ≡ true → b ≡ false → (not a || (b || c)) ≡ true → c ≡ true
last_of true false c is_a no_b h = h
last_of true true c is_a no_b h = cc
last_of false b c is_a no_b h = cc

by_case : (op other : Op) (is : IsRowOf op (row_for op)) (too : IsRowOf other (row_for other)) → (special : Bool) → reads_special (row_for op) ≡ special → same (row_for op).name.letters (row_for other).name.letters ≡ true → differ (row_for op) (row_for other) ≡ true → (op ≡ other) ⊎ ((row_for op).name ≡ mnemonic (codes "mfs"))
by_case op other is too true special named h =
    let letters : (row_for op).name.letters ≡ (mnemonic (codes "mfs")).letters = equal_of_same _ _ special in
    inr (λ i. record { letters = letters i })
by_case op other is too false special named h =
    let placed : eqb (place (row_for op).op) (place (row_for other).op) ≡ true = last_of _ _ _ named special h in
    inl (one_place op other (ap place (sym is.named) ∙ eqb-true _ _ placed ∙ ap place too.named))

pub names_differ : (op other : Op) → (row_for op).name ≡ (row_for other).name → (op ≡ other) ⊎ ((row_for op).name ≡ mnemonic (codes "mfs"))
names_differ op other h =
    let is : IsRowOf op (row_for op) = known_row op in
    let too : IsRowOf other (row_for other) = known_row other in
    let named : same (row_for op).name.letters (row_for other).name.letters ≡ true =
    ap (λ (n : Mnemonic). same (row_for op).name.letters n.letters) (sym h) ∙ same_of_equal (row_for op).name.letters in
    by_case op other is too (reads_special (row_for op)) refl named (rows_differ (row_for op) (row_for other) is.listed too.listed)
