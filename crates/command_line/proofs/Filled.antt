-- The rows of clap's matches, as one more place or option is given.
use Rattle.std.proofs.Common.{◌≡◌, ◌∙◌, ◌||◌, ◌++◌, Bool, true, false, refl, sym, ap, subst, arith, length, List, [], ◌∷◌, Some, None}
use Rattle.std.proofs.lemmas.Bool.{false≢true}
use Rattle.std.proofs.lemmas.Slice.Eq.{bytes_eq-Decides}
use Rattle.std.specs.List.{flat_map}
use Rattle.std.specs.Option.{option_to_list}
use Rattle.std.specs.Str.{bytes_eq}
use Rattle.clap.specs.Walk.{Row, Text, first_of, has_row}
use Rattle.clap.specs.declared.parser.matches.ValueSource.TheVariants.{CommandLine}
use Rattle.clap.specs.declared.builder.value_parser.Reading.{Reading}
use Rattle.command_line.proofs.Rows.{knows, put}

-- ---- tests

pub same_text : (n : Text) → bytes_eq n n ≡ true
same_text n = (bytes_eq-Decides n n).1 refl

pub text_is : (a b : Text) → bytes_eq a b ≡ true → a ≡ b
text_is a b e = (bytes_eq-Decides a b).0 e

pub neither : (a b : Bool) → (a || b) ≡ false → (a ≡ false) × (b ≡ false)
neither false b e = (refl, e)
neither true b e = absurd (false≢true (sym e))

differ_by : (a b : Text) (t : Bool) → bytes_eq b a ≡ t → bytes_eq a b ≡ false → t ≡ false
differ_by a b false e other = refl
differ_by a b true e other = absurd (false≢true (sym other ∙ subst (λ c. bytes_eq a c ≡ true) (sym (text_is b a e)) (same_text a)))

pub differ : (a b : Text) → bytes_eq a b ≡ false → bytes_eq b a ≡ false
differ a b other = differ_by a b (bytes_eq b a) refl other

-- ---- a row at the end

abbrev pub row : Reading → Text → Text → Row
row how n v = record { id = n; values = v ∷ []; count = None; source = Some CommandLine; reading = how }

pub put_new : (how : Reading) (n v : Text) (rows : List Row) → has_row n rows ≡ false → put how n v rows ≡ rows ++ row how n v ∷ []
put_new how n v [] new = refl
put_new how n v (r ∷ rs) new =
    let (here, others) = neither (bytes_eq r.id n) (has_row n rs) new in
    rw (here, here) (ap (λ rows. r ∷ rows) (put_new how n v rs others))

pub no_row : (n : Text) (rows : List Row) → has_row n rows ≡ false → first_of n rows ≡ None
no_row n [] new = refl
no_row n (r ∷ rs) new =
    let (here, others) = neither (bytes_eq r.id n) (has_row n rs) new in
    rw here (no_row n rs others)

pub first_step : (m : Text) (r : Row) (rs ss : List Row) (b : Bool) → bytes_eq r.id m ≡ b → first_of m rs ≡ first_of m ss → first_of m (r ∷ rs) ≡ first_of m (r ∷ ss)
first_step m r rs ss true e more = rw e refl
first_step m r rs ss false e more = rw e more

pub first_other : (how : Reading) (n m v : Text) (rows : List Row) → bytes_eq n m ≡ false → first_of m (rows ++ row how n v ∷ []) ≡ first_of m rows
first_other how n m v [] other = rw other refl
first_other how n m v (r ∷ rs) other = first_step m r (rs ++ row how n v ∷ []) rs (bytes_eq r.id m) refl (first_other how n m v rs other)

pub first_same : (how : Reading) (n v : Text) (rows : List Row) → has_row n rows ≡ false → first_of n (rows ++ row how n v ∷ []) ≡ Some v
first_same how n v [] new = rw (same_text n) refl
first_same how n v (r ∷ rs) new =
    let (here, others) = neither (bytes_eq r.id n) (has_row n rs) new in
    rw here (first_same how n v rs others)

has_step : (m : Text) (r : Row) (rs ss : List Row) → has_row m rs ≡ has_row m ss → has_row m (r ∷ rs) ≡ has_row m (r ∷ ss)
has_step m r rs ss more = ap (λ b. bytes_eq r.id m || b) more

pub has_other : (how : Reading) (n m v : Text) (rows : List Row) → bytes_eq n m ≡ false → has_row m (rows ++ row how n v ∷ []) ≡ has_row m rows
has_other how n m v [] other = rw other refl
has_other how n m v (r ∷ rs) other = has_step m r (rs ++ row how n v ∷ []) rs (has_other how n m v rs other)

-- ---- the places

-- places that have no row
abbrev pub Free : List Text → List Row → Type 0
Free [] rows = Unit {0}
Free (p ∷ ps) rows = (has_row p rows ≡ false) × Free ps rows

-- the first places have these texts, in order, and those that are left have none
abbrev pub Filled : List Text → List Text → List Row → List Text → Type 0
Filled ps left rows [] = (ps ≡ left) × Free left rows
Filled [] left rows (x ∷ xs) = ⊥
Filled (p ∷ ps) left rows (x ∷ xs) = (first_of p rows ≡ Some x) × Filled ps left rows xs

-- no place stands twice
abbrev pub Distinct : List Text → Type 0
Distinct [] = Unit {0}
Distinct (p ∷ ps) = (knows ps p ≡ false) × Distinct ps

free_texts : (ps : List Text) (rows : List Row) → Free ps rows → flat_map (λ p. option_to_list (first_of p rows)) ps ≡ []
free_texts [] rows free = refl
free_texts (p ∷ ps) rows free = rw (no_row p rows free.0) (free_texts ps rows free.1)

pub filled_texts : (ps left : List Text) (rows : List Row) (xs : List Text) → Filled ps left rows xs → flat_map (λ p. option_to_list (first_of p rows)) ps ≡ xs
filled_texts [] left rows [] f = refl
filled_texts (p ∷ ps) left rows [] f = free_texts (p ∷ ps) rows (subst (λ qs. Free qs rows) (sym f.0) f.1)
filled_texts [] left rows (x ∷ xs) f = absurd f
filled_texts (p ∷ ps) left rows (x ∷ xs) f = rw f.0 (ap (λ ys. x ∷ ys) (filled_texts ps left rows xs f.1))

pub filled_length : (ps : List Text) (rows : List Row) (xs : List Text) → Filled ps [] rows xs → length ps ≡ length xs
filled_length ps rows [] f = ap length f.0
filled_length [] rows (x ∷ xs) f = absurd f
filled_length (p ∷ ps) rows (x ∷ xs) f = let more = filled_length ps rows xs f.1 in grind (arith, more)

-- the first place that is left
pub left_free : (ps : List Text) (p : Text) (left : List Text) (rows : List Row) (xs : List Text) → Filled ps (p ∷ left) rows xs → has_row p rows ≡ false
left_free ps p left rows [] f = f.1.0
left_free [] p left rows (x ∷ xs) f = absurd f
left_free (q ∷ ps) p left rows (x ∷ xs) f = left_free ps p left rows xs f.1

or_right : (a b : Bool) → b ≡ true → (a || b) ≡ true
or_right true b e = refl
or_right false b e = e

pub left_known : (ps : List Text) (p : Text) (left : List Text) (rows : List Row) (xs : List Text) → Filled ps (p ∷ left) rows xs → knows ps p ≡ true
left_known ps p left rows [] f = rw f.0 (rw (same_text p) refl)
left_known [] p left rows (x ∷ xs) f = absurd f
left_known (q ∷ ps) p left rows (x ∷ xs) f = or_right (bytes_eq q p) (knows ps p) (left_known ps p left rows xs f.1)

free_more : (how : Reading) (ps : List Text) (n v : Text) (rows : List Row) → knows ps n ≡ false → Free ps rows → Free ps (rows ++ row how n v ∷ [])
free_more how [] n v rows other free = tt
free_more how (p ∷ ps) n v rows other free =
    let (here, others) = neither (bytes_eq p n) (knows ps n) other in
    (has_other how n p v rows (differ p n here) ∙ free.0, free_more how ps n v rows others free.1)

-- a row of what is no place
pub filled_other : (how : Reading) (ps left : List Text) (n v : Text) (rows : List Row) (xs : List Text) → knows ps n ≡ false → Filled ps left rows xs → Filled ps left (rows ++ row how n v ∷ []) xs
filled_other how ps left n v rows [] other f = (f.0, free_more how left n v rows (subst (λ qs. knows qs n ≡ false) f.0 other) f.1)
filled_other how [] left n v rows (x ∷ xs) other f = absurd f
filled_other how (p ∷ ps) left n v rows (x ∷ xs) other f =
    let (here, others) = neither (bytes_eq p n) (knows ps n) other in
    (first_other how n p v rows (differ p n here) ∙ f.0, filled_other how ps left n v rows xs others f.1)

no_text : (x : Text) → Some x ≡ None → ⊥
no_text x e = let bad : Some x ≡ None = e in grind arith

-- a place that has a text is another than one without a row
apart : (p q x : Text) (rows : List Row) (b : Bool) → bytes_eq p q ≡ b → has_row p rows ≡ false → first_of q rows ≡ Some x → b ≡ false
apart p q x rows false e new is = refl
apart p q x rows true e new is = absurd (no_text x (sym is ∙ ap (λ r. first_of r rows) (sym (text_is p q e)) ∙ no_row p rows new))

first_filled : (how : Reading) (p : Text) (left : List Text) (w : Text) (rows : List Row) → Distinct (p ∷ left) → Free (p ∷ left) rows → Filled (p ∷ left) left (rows ++ row how p w ∷ []) (w ∷ [])
first_filled how p left w rows distinct free = (first_same how p w rows free.0, (refl, free_more how left p w rows distinct.0 free.1))

-- a row of the first place that is left
pub filled_more : (how : Reading) (ps : List Text) (p : Text) (left : List Text) (w : Text) (rows : List Row) (xs : List Text) → Distinct ps → Filled ps (p ∷ left) rows xs
    → Filled ps left (rows ++ row how p w ∷ []) (xs ++ w ∷ [])
filled_more how ps p left w rows [] distinct f =
    subst (λ qs. Filled qs left (rows ++ row how p w ∷ []) (w ∷ [])) (sym f.0) (first_filled how p left w rows (subst Distinct f.0 distinct) f.1)
filled_more how [] p left w rows (x ∷ xs) distinct f = absurd f
filled_more how (q ∷ ps) p left w rows (x ∷ xs) distinct f =
    (first_other how p q w rows (apart p q x rows (bytes_eq p q) refl (left_free ps p left rows xs f.1) f.0) ∙ f.0, filled_more how ps p left w rows xs distinct.1 f.1)
