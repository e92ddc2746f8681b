-- Lists that grow by one.
use Rattle.std.proofs.Common.{◌≡◌, ℕ, suc, ◌+◌, List, [], ◌∷◌, ◌++◌, get_or, map, flat_map, take, slice_get, Some, ap, ◌∙◌, arith, append-nil}
use Rattle.std.specs.List.{range_with_len}
use Rattle.std.proofs.lemmas.List.Concat.{flat_map-append}
use Rattle.std.proofs.lemmas.List.FromFn.{map-range_with_len_more}
use Rattle.std.proofs.lemmas.Option.{get_or_from_slice_get, slice_get_within}
use Rattle.std.proofs.Math.Seq.{take-suc}

-- a row for one more number
pub row_next : {X : Type 0} (f : ℕ → X) (k : ℕ) → map f (range_with_len 0 (k + 1)) ≡ map f (range_with_len 0 k) ++ f k ∷ []
row_next f k = map-range_with_len_more f 0 k k (omega arith)

-- the pieces before an item, and its own
pub pieces_next : {X Y : Type 0} (f : X → List Y) (xs : List X) (k : ℕ) (x : X) → slice_get xs k ≡ Some x
    → flat_map f (take (k + 1) xs) ≡ flat_map f (take k xs) ++ f x
pieces_next f xs k x at =
    let one : k + 1 ≡ suc k = omega arith in
    ap (λ n. flat_map f (take n xs)) one
    ∙ ap (flat_map f) (take-suc xs k x (slice_get_within xs k x at))
    ∙ flat_map-append f (take k xs) (get_or xs k x ∷ [])
    ∙ ap (λ ys. flat_map f (take k xs) ++ ys) (append-nil (f (get_or xs k x)) ∙ ap f (get_or_from_slice_get xs k x x at))
