-- Lists with one more element at the end, and splits of them.
use Rattle.std.proofs.Common.{◌≡◌, List, [], ◌∷◌, ◌++◌, filter, Option, Some, None, refl, ap, sym, ◌∙◌, inl, inr, ◌⊎◌, Bool, false, cond}
use Rattle.std.specs.List.{filter_map}
use Rattle.std.specs.Option.{option_map}
use Rattle.std.proofs.lemmas.List.{append-nil}
use Rattle.std.proofs.lemmas.List.Elements.{filter-append, filter_map-append}

pub cons_append : {X : Type 0} (xs ys : List X) (x : X) → (xs ++ x ∷ []) ++ ys ≡ xs ++ x ∷ ys
cons_append [] ys x = refl
cons_append (z ∷ xs) ys x = ap (λ zs. z ∷ zs) (cons_append xs ys x)

pub map_some : {X Y : Type 0} (f : X → Y) (o : Option X) (y : Y) → option_map f o ≡ Some y → (x : X) × (o ≡ Some x) × (f x ≡ y)
map_some f None y e = cc
map_some f (Some x) y e = (x, refl, cc)

pub map_none : {X Y : Type 0} (f : X → Y) (o : Option X) → option_map f o ≡ None → o ≡ None
map_none f None e = refl
map_none f (Some x) e = cc

nothing_left : {X : Type 0} (b x : X) (bs later : List X) → x ≡ b → [] ≡ bs ++ later → b ∷ bs ≡ x ∷ []
nothing_left b x [] later e t = ap (λ z. z ∷ []) (sym e)
nothing_left b x (c ∷ bs) later e t = cc

-- a split of a list with one more element: past the end, or a split of the list
pub split_more : {X : Type 0} (before later xs : List X) (x : X) → xs ++ x ∷ [] ≡ before ++ later → (before ≡ xs ++ x ∷ []) ⊎ ((rest : List X) × (xs ≡ before ++ rest))
split_more [] later xs x h = inr (xs, refl)
split_more (b ∷ bs) later [] x h = inl (
    let e : x ≡ b = cc in
    let t : [] ≡ bs ++ later = cc in
    nothing_left b x bs later e t)
split_more (b ∷ bs) later (y ∷ xs) x h =
    let e : y ≡ b = cc in
    let t : xs ++ x ∷ [] ≡ bs ++ later = cc in
    elim (split_more bs later xs x t) [
      | inl p ↦ inl (ap (λ z. z ∷ bs) (sym e) ∙ ap (λ zs. y ∷ zs) p)
      | inr p ↦ inr (p.0, ap (λ z. z ∷ xs) e ∙ ap (λ zs. b ∷ zs) p.1)
    ]

one_is_not_two : {X : Type 0} (b x : X) (bs later : List X) (e : X) → x ∷ [] ≡ b ∷ (bs ++ e ∷ later) → ⊥
one_is_not_two b x [] later e h = cc
one_is_not_two b x (c ∷ bs) later e h = cc

-- the same for a split at an element
pub split_at_more : {X : Type 0} (before later xs : List X) (e x : X) → xs ++ x ∷ [] ≡ before ++ e ∷ later → ((before ≡ xs) × (e ≡ x)) ⊎ ((rest : List X) × (xs ≡ before ++ e ∷ rest))
split_at_more [] later [] e x h = inl (refl, cc)
split_at_more [] later (y ∷ xs) e x h = inr (xs, (let i : y ≡ e = cc in ap (λ z. z ∷ xs) i))
split_at_more (b ∷ bs) later [] e x h = absurd (one_is_not_two b x bs later e h)
split_at_more (b ∷ bs) later (y ∷ xs) e x h =
    let i : y ≡ b = cc in
    let t : xs ++ x ∷ [] ≡ bs ++ e ∷ later = cc in
    elim (split_at_more bs later xs e x t) [
      | inl p ↦ inl (ap (λ z. z ∷ bs) (sym i) ∙ ap (λ zs. y ∷ zs) p.0, p.1)
      | inr p ↦ inr (p.0, ap (λ z. z ∷ xs) i ∙ ap (λ zs. b ∷ zs) p.1)
    ]

pub no_split : {X : Type 0} (before later : List X) → [] ≡ before ++ later → before ≡ []
no_split [] later h = refl
no_split (x ∷ xs) later h = cc

pub no_split_at : {X : Type 0} (before later : List X) (x : X) → [] ≡ before ++ x ∷ later → ⊥
no_split_at [] later x h = cc
no_split_at (y ∷ ys) later x h = cc

abbrev pub one_or_none : {X : Type 0} → Option X → List X
one_or_none None = []
one_or_none (Some x) = x ∷ []

filter_map_one : {X Y : Type 0} (h : X → Option Y) (x : X) (o : Option Y) → h x ≡ o → filter_map h (x ∷ []) ≡ one_or_none o
filter_map_one h x None e = rw e refl
filter_map_one h x (Some y) e = rw e refl

pub filter_map_more : {X Y : Type 0} (h : X → Option Y) (xs : List X) (x : X) (o : Option Y) → h x ≡ o → filter_map h (xs ++ x ∷ []) ≡ filter_map h xs ++ one_or_none o
filter_map_more h xs x o e = filter_map-append h xs (x ∷ []) ∙ ap (λ ys. filter_map h xs ++ ys) (filter_map_one h x o e)

pub filter_more : {X : Type 0} (p : X → Bool) (xs : List X) (x : X) (t : Bool) → p x ≡ t → filter p (xs ++ x ∷ []) ≡ filter p xs ++ cond t (x ∷ []) []
filter_more p xs x t h = filter-append p xs (x ∷ []) ∙ ap (λ b. filter p xs ++ cond b (x ∷ []) []) h

pub filter_skips : {X : Type 0} (p : X → Bool) (xs : List X) (x : X) → p x ≡ false → filter p (xs ++ x ∷ []) ≡ filter p xs
filter_skips p xs x h = filter_more p xs x false h ∙ append-nil (filter p xs)
