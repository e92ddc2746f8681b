-- What the first item that passes a test is, by membership.
use Rattle.std.proofs.Common.{◌≡◌, Bool, true, false, List, [], ◌∷◌, refl, sym, ap, ◌∙◌, ◌⊎◌, inl, inr, arith, Some, None}
use Rattle.std.specs.List.{Contains, find}
use Rattle.std.proofs.lemmas.Bool.{cases_Bool, false≢true}
use Rattle.std.proofs.lemmas.List.Elements.{Contains-append_right, Contains-append_cases, Contains-push_cases}

pub first_is_in : {X : Type 0} (x : X) (xs : List X) → Contains (x ∷ xs) x
first_is_in x xs = (0, omega arith, refl)

pub rest_is_in : {X : Type 0} (x y : X) (xs : List X) → Contains xs y → Contains (x ∷ xs) y
rest_is_in x y xs i = Contains-append_right (x ∷ []) xs y i

only_first : {X : Type 0} (x y : X) → Contains (x ∷ []) y → x ≡ y
only_first x y i =
    elim (Contains-push_cases [] x y i) [
      | inl none ↦ absurd (omega (arith, none.1))
      | inr same ↦ same
    ]

pub first_or_rest : {X : Type 0} (x y : X) (xs : List X) → Contains (x ∷ xs) y → (x ≡ y) ⊎ Contains xs y
first_or_rest x y xs i =
    elim (Contains-append_cases (x ∷ []) xs y i) [
      | inl one ↦ inl (only_first x y one)
      | inr more ↦ inr more
    ]

-- no item passes: none is found
pub find_none : {X : Type 0} (p : X → Bool) (xs : List X) → ((y : X) → Contains xs y → p y ≡ false) → find p xs ≡ None
find_none p [] none = refl
find_none p (x ∷ xs) none = rw (none x (first_is_in x xs)) (find_none p xs (λ y i. none y (rest_is_in x y xs i)))

-- one item passes: it is found
pub find_only : {X : Type 0} (p : X → Bool) (xs : List X) (x : X) → Contains xs x → p x ≡ true → ((y : X) → Contains xs y → p y ≡ true → y ≡ x) → find p xs ≡ Some x
find_only p [] x i passes only = absurd (omega (arith, i.1))
find_only p (y ∷ ys) x i passes only =
    elim (cases_Bool (p y)) [
      | inl this ↦ rw this (ap Some (only y (first_is_in y ys) this))
      | inr fails ↦ rw fails (find_only p ys x (
          elim (first_or_rest y x ys i) [
            | inl same ↦ absurd (false≢true (sym fails ∙ ap p same ∙ passes))
            | inr more ↦ more
          ]) passes (λ z j. only z (rest_is_in y z ys j)))
    ]

pub record IsFound {X : Type 0} (p : X → Bool) (xs : List X) (x : X) : Type 0 where
  pub member : Contains xs x
  pub passes : p x ≡ true
  pub is : find p xs ≡ Some x

-- an item is found, or none passes
pub found_or_none : {X : Type 0} (p : X → Bool) (xs : List X) → ((x : X) × IsFound p xs x) ⊎ ((y : X) → Contains xs y → p y ≡ false)
found_or_none p [] = inr (λ y i. absurd (omega (arith, i.1)))
found_or_none p (x ∷ xs) =
    elim (cases_Bool (p x)) [
      | inl this ↦ inl (x, record { member = first_is_in x xs; passes = this; is = rw this refl })
      | inr fails ↦ elim (found_or_none p xs) [
        | inl (y, f) ↦ inl (y, record { member = rest_is_in x y xs f.member; passes = f.passes; is = rw fails f.is })
        | inr none ↦ inr (λ y i. elim (first_or_rest x y xs i) [
          | inl same ↦ ap p (sym same) ∙ fails
          | inr more ↦ none y more
        ])
      ]
    ]
