-- Texts for the numbers up to an end, one after the other.
use Rattle.std.proofs.Common.{◌≡◌, ℕ, ◌+◌, ◌-◌, ◌<◌, ◌≤◌, List, [], ◌∷◌, ◌++◌, flat_map, sym, ap, ◌∙◌, arith, append_assoc, append-nil, suc}
use Rattle.std.specs.List.{range_with_len}

-- numbers up to an end: the first, and the others
numbers_left : (k n : ℕ) → k < n → range_with_len k (n - k) ≡ k ∷ range_with_len (k + 1) (n - (k + 1))
numbers_left k n below = let e : n - k ≡ suc (n - (k + 1)) = omega arith in ap (range_with_len k) e

no_numbers_left : (k n : ℕ) → n ≤ k → range_with_len k (n - k) ≡ []
no_numbers_left k n past = let e : n - k ≡ 0 = omega arith in ap (range_with_len k) e

module _ (total text : List ℕ) (f : ℕ → List ℕ) (k n : ℕ) where
  -- one more text was added
  pub range_more : (new : List ℕ) → k < n → new ≡ text ++ f k → total ≡ text ++ flat_map f (range_with_len k (n - k)) → total ≡ new ++ flat_map f (range_with_len (k + 1) (n - (k + 1)))
  range_more new below added so_far =
      so_far ∙ ap (λ ks. text ++ flat_map f ks) (numbers_left k n below)
      ∙ sym (append_assoc text (f k) (flat_map f (range_with_len (k + 1) (n - (k + 1)))))
      ∙ ap (λ t. t ++ flat_map f (range_with_len (k + 1) (n - (k + 1)))) (sym added)

  -- all were
  pub range_end : n ≤ k → total ≡ text ++ flat_map f (range_with_len k (n - k)) → text ≡ total
  range_end past so_far = sym (so_far ∙ ap (λ ks. text ++ flat_map f ks) (no_numbers_left k n past) ∙ append-nil text)
