-- Lines for the elements of a list that was mapped.
use Rattle.std.proofs.Common.{◌≡◌, ℕ, ◌≤◌, List, [], ◌∷◌, ◌++◌, flat_map, length, map, take, refl, ap, ◌∙◌}
use Rattle.std.proofs.lemmas.List.{take_all}

lines_of_mapped : {X Y : Type 0} (f : X → Y) (h : Y → List ℕ) (xs : List X) → flat_map (λ x. h (f x)) xs ≡ flat_map h (map f xs)
lines_of_mapped f h [] = refl
lines_of_mapped f h (x ∷ xs) = ap (λ t. h (f x) ++ t) (lines_of_mapped f h xs)

-- the lines of all are there
pub all_lines_of : {X Y : Type 0} (f : X → Y) (h : Y → List ℕ) (items xs : List X) (k : ℕ) (total text : List ℕ) → items ≡ xs → length items ≤ k
    → total ≡ text ++ flat_map (λ x. h (f x)) (take k items) → total ≡ text ++ flat_map h (map f xs)
all_lines_of f h items xs k total text is past so_far =
    so_far ∙ ap (λ l. text ++ flat_map (λ x. h (f x)) l) (take_all k items past) ∙ ap (λ t. text ++ t) (lines_of_mapped f h items) ∙ ap (λ l. text ++ flat_map h (map f l)) is
