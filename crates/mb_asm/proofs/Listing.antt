-- Lists that are made item by item.
use Rattle.std.proofs.Common.{◌≡◌, ℕ, suc, ◌+◌, ◌-◌, ◌<◌, ◌≤◌, List, [], ◌∷◌, ◌++◌, length, map, drop, get_or, sym, ap, ◌∙◌, arith, append_assoc, drop-cons, add-one}
use Rattle.std.specs.Prelude.{flat_map}
use Rattle.std.specs.List.{range_with_len}
use Rattle.std.proofs.lemmas.List.{append-nil, drop_all}

cut : {X : Type 0} (xs : List X) (k : ℕ) (d : X) → k < length xs → drop k xs ≡ get_or xs k d ∷ drop (k + 1) xs
cut xs k d within = drop-cons xs k d within ∙ ap (λ n. get_or xs k d ∷ drop n xs) (sym (add-one k))

-- one result for each item
pub mapped_more : {X Y : Type 0} (f : X → Y) (xs : List X) (k : ℕ) (d : X) (y : Y) (old new total : List Y) → k < length xs → y ≡ f (get_or xs k d) → old ++ map f (drop k xs) ≡ total → new ≡ old ++ y ∷ [] → new ++ map f (drop (k + 1) xs) ≡ total
mapped_more f xs k d y old new total within is before added =
    let left = map f (drop (k + 1) xs) in
    let split : map f (drop k xs) ≡ y ∷ left = ap (map f) (cut xs k d within) ∙ ap (λ z. z ∷ left) (sym is) in
    ap (λ zs. zs ++ left) added ∙ append_assoc old (y ∷ []) left ∙ ap (λ zs. old ++ zs) (sym split) ∙ before

pub mapped_all : {X Y : Type 0} (f : X → Y) (xs : List X) (k : ℕ) (old total : List Y) → length xs ≤ k → old ++ map f (drop k xs) ≡ total → old ≡ total
mapped_all f xs k old total past before = sym (append-nil old) ∙ ap (λ zs. old ++ map f zs) (sym (drop_all k xs past)) ∙ before

-- a list for each number
left_more : (n k : ℕ) → k < n → n - k ≡ suc (n - (k + 1))
left_more n k within = omega arith

pub listed_more : {Y : Type 0} (f : ℕ → List Y) (n k : ℕ) (old new total : List Y) → k < n → old ++ flat_map f (range_with_len k (n - k)) ≡ total → new ≡ old ++ f k → new ++ flat_map f (range_with_len (k + 1) (n - (k + 1))) ≡ total
listed_more f n k old new total within before added =
    let left = flat_map f (range_with_len (k + 1) (n - (k + 1))) in
    let split : flat_map f (range_with_len k (n - k)) ≡ f k ++ left = ap (λ m. flat_map f (range_with_len k m)) (left_more n k within) in
    ap (λ zs. zs ++ left) added ∙ append_assoc old (f k) left ∙ ap (λ zs. old ++ zs) (sym split) ∙ before

pub listed_all : {Y : Type 0} (f : ℕ → List Y) (n k : ℕ) (old total : List Y) → n ≤ k → old ++ flat_map f (range_with_len k (n - k)) ≡ total → old ≡ total
listed_all f n k old total past before =
    let none : n - k ≡ 0 = omega arith in
    sym (append-nil old) ∙ ap (λ m. old ++ flat_map f (range_with_len k m)) (sym none) ∙ before
