-- The first of a list that passes a test, found one after the other.
use Rattle.std.proofs.Common.{◌≡◌, ℕ, ◌+◌, ◌<◌, ◌≤◌, Bool, true, false, cond, List, ◌∷◌, length, drop, get_or, Option, Some, None, sym, ap, ◌∙◌, add-one, suc}
use Rattle.std.specs.List.{find}
use Rattle.std.proofs.Math.Seq.{drop-cons}
use Rattle.std.proofs.lemmas.List.{drop_all}

-- what is left from the next on
left_of : {X : Type 0} (xs : List X) (k : ℕ) (x : X) → k < length xs → x ≡ get_or xs k x → drop k xs ≡ x ∷ drop (k + 1) xs
left_of xs k x there found = drop-cons xs k x there ∙ ap (λ y. y ∷ drop (suc k) xs) (sym found) ∙ ap (λ i. x ∷ drop i xs) (sym (add-one k))

module _ {X : Type 0} (p : X → Bool) (all : Option X) (xs : List X) (k : ℕ) where
  by_next : (x : X) (b : Bool) → k < length xs → x ≡ get_or xs k x → p x ≡ b → all ≡ find p (drop k xs) → all ≡ cond b (Some x) (find p (drop (k + 1) xs))
  by_next x b there found is so_far =
      so_far ∙ ap (find p) (left_of xs k x there found) ∙ ap (λ c. cond c (Some x) (find p (drop (k + 1) xs))) is

  pub find_here : (x : X) → k < length xs → x ≡ get_or xs k x → p x ≡ true → all ≡ find p (drop k xs) → Some x ≡ all
  find_here x there found is so_far = sym (by_next x true there found is so_far)

  pub find_past : (x : X) → k < length xs → x ≡ get_or xs k x → p x ≡ false → all ≡ find p (drop k xs) → all ≡ find p (drop (k + 1) xs)
  find_past x there found is so_far = by_next x false there found is so_far

  pub find_end : length xs ≤ k → all ≡ find p (drop k xs) → None ≡ all
  find_end past so_far = sym (so_far ∙ ap (find p) (drop_all k xs past))
