-- Where at most one item passes a test, the first that does is the only one.
use Rattle.std.proofs.Common.{◌≡◌, ◌≤◌, Bool, List, [], ◌∷◌, length, refl, sym, inl, inr, arith, Some}
use Rattle.std.specs.List.{filter, find}
use Rattle.std.proofs.lemmas.Bool.{cases_Bool}
use Rattle.mb_decode.specs.Meaning.{the_only}

only_of_short : {X : Type 0} (x : X) (xs : List X) → length (x ∷ xs) ≤ 1 → the_only (x ∷ xs) ≡ Some x
only_of_short x [] h = refl
only_of_short x (y ∷ ys) h = absurd (omega arith)

pub find_is_only : {X : Type 0} (p : X → Bool) (xs : List X) → length (filter p xs) ≤ 1 → find p xs ≡ the_only (filter p xs)
find_is_only p [] h = refl
find_is_only p (x ∷ xs) h =
    elim (cases_Bool (p x)) [
      | inl passes ↦ rw passes (sym (only_of_short x (filter p xs) (rw passes at h)))
      | inr fails ↦ rw fails (find_is_only p xs (rw fails at h))
    ]
