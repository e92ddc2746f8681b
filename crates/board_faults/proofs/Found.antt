-- Where a fault of a list comes from.
use Rattle.std.proofs.Common.{◌≡◌, ◌⊎◌, inl, inr, ℕ, Bool, true, false, ◌&&◌, ◌||◌, not, List, [], ◌∷◌, ◌++◌, flat_map, Option, Some, None, refl, arith}
use Rattle.std.specs.List.{list_any}
use Rattle.board_file.specs.Faults.{IsOneOf, fault, fault_at, fault_unless}
use Rattle.board_file.specs.declared.fault.BoardRule.{BoardRule}
use Rattle.board_file.specs.declared.fault.Fault.{Fault}
use Rattle.board_faults.specs.Told.{IsIn}

pub one_of_two : (f : Fault) (xs ys : List Fault) → IsOneOf f (xs ++ ys) → IsOneOf f xs ⊎ IsOneOf f ys
one_of_two f [] ys h = inr h
one_of_two f (x ∷ xs) ys (inl same) = inl (inl same)
one_of_two f (x ∷ xs) ys (inr more) = later (one_of_two f xs ys more)
  where
    later : IsOneOf f xs ⊎ IsOneOf f ys → ((x ≡ f) ⊎ IsOneOf f xs) ⊎ IsOneOf f ys
    later (inl h) = inl (inr h)
    later (inr h) = inr h

pub in_two : {X : Type 0} (c : X) (xs ys : List X) → IsIn c (xs ++ ys) → IsIn c xs ⊎ IsIn c ys
in_two c [] ys h = inr h
in_two c (x ∷ xs) ys (inl same) = inl (inl same)
in_two c (x ∷ xs) ys (inr more) = later (in_two c xs ys more)
  where
    later : IsIn c xs ⊎ IsIn c ys → ((x ≡ c) ⊎ IsIn c xs) ⊎ IsIn c ys
    later (inl h) = inl (inr h)
    later (inr h) = inr h

pub in_first : {X : Type 0} (c : X) (xs ys : List X) → IsIn c xs → IsIn c (xs ++ ys)
in_first c [] ys h = elim h [ ]
in_first c (x ∷ xs) ys (inl same) = inl same
in_first c (x ∷ xs) ys (inr more) = inr (in_first c xs ys more)

pub in_later : {X : Type 0} (c : X) (xs ys : List X) → IsIn c ys → IsIn c (xs ++ ys)
in_later c [] ys h = h
in_later c (x ∷ xs) ys h = inr (in_later c xs ys h)

-- the element whose faults hold this one
pub from_each : {X : Type 0} (f : Fault) (of : X → List Fault) (xs : List X) → IsOneOf f (flat_map of xs) → (x : X) × IsIn x xs × IsOneOf f (of x)
from_each f of [] h = elim h [ ]
from_each {X} f of (x ∷ xs) h = by_side (one_of_two f (of x) (flat_map of xs) h) (λ g. from_each f of xs g)
  where
    by_side : IsOneOf f (of x) ⊎ IsOneOf f (flat_map of xs) → (IsOneOf f (flat_map of xs) → (y : X) × IsIn y xs × IsOneOf f (of y)) → (y : X) × IsIn y (x ∷ xs) × IsOneOf f (of y)
    by_side (inl here) later = (x, inl refl, here)
    by_side (inr more) later = let found = later more in (found.0, inr found.1, found.2)

pub unless : (f : Fault) (right : Bool) (code : BoardRule) (at : List ℕ) → IsOneOf f (fault_unless right code at) → (right ≡ false) × (fault code at ≡ f)
unless f true code at h = elim h [ ]
unless f false code at (inl same) = (refl, same)
unless f false code at (inr h) = elim h [ ]

pub at_code : (f : Fault) (o : Option BoardRule) (at : List ℕ) → IsOneOf f (fault_at o at) → (code : BoardRule) × (o ≡ Some code) × (fault code at ≡ f)
at_code f None at h = elim h [ ]
at_code f (Some code) at (inl same) = (code, refl, same)
at_code f (Some code) at (inr h) = elim h [ ]

pub not_false : (b : Bool) → not b ≡ false → b ≡ true
not_false true e = refl
not_false false e = grind (arith, e)

pub both_true : (a b : Bool) → (a && b) ≡ true → (a ≡ true) × (b ≡ true)
both_true true b e = (refl, e)
both_true false b e = grind (arith, e)

pub some_holds : {X : Type 0} (test : X → Bool) (xs : List X) → list_any test xs ≡ true → (x : X) × IsIn x xs × (test x ≡ true)
some_holds test [] e = grind (arith, e)
some_holds {X} test (x ∷ xs) e = by_test (test x) refl e (λ g. some_holds test xs g)
  where
    by_test : (b : Bool) → test x ≡ b → (b || list_any test xs) ≡ true → (list_any test xs ≡ true → (y : X) × IsIn y xs × (test y ≡ true)) → (y : X) × IsIn y (x ∷ xs) × (test y ≡ true)
    by_test true is g later = (x, inl refl, is)
    by_test false is g later = let found = later g in (found.0, inr found.1, found.2)

pub none_holds : {X : Type 0} (test : X → Bool) (xs : List X) (x : X) → list_any test xs ≡ false → IsIn x xs → test x ≡ false
none_holds test [] x e h = elim h [ ]
none_holds test (y ∷ ys) x e (inl same) = rw same at (both_false (test y) (list_any test ys) e).0
  where
    both_false : (a b : Bool) → (a || b) ≡ false → (a ≡ false) × (b ≡ false)
    both_false false b e = (refl, e)
    both_false true b e = grind (arith, e)
none_holds test (y ∷ ys) x e (inr more) = none_holds test ys x (rest (test y) (list_any test ys) e) more
  where
    rest : (a b : Bool) → (a || b) ≡ false → b ≡ false
    rest false b e = e
    rest true b e = grind (arith, e)
