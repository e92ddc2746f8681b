-- Lines that are added one after another.
use Rattle.std.proofs.Common.{◌≡◌, ℕ, ◌+◌, ◌<◌, arith, slice_get, Some, sym, ap, subst, ◌∙◌}
use Rattle.std.specs.List.{range_with_len}
use Rattle.std.proofs.lemmas.List.FromFn.{get_or-range_with_len, length-range_with_len}
use Rattle.std.proofs.lemmas.Option.{slice_get-get_or}

pub number_at_place : (n k : ℕ) → k < n → slice_get (range_with_len 0 n) k ≡ Some k
number_at_place n k l =
    let P : ℕ → Type 0 = λ m. k < m in
    let same : 0 + k ≡ k = omega arith in
    slice_get-get_or (range_with_len 0 n) k 0 (subst P (sym (length-range_with_len 0 n)) l) ∙ ap Some (get_or-range_with_len 0 n k 0 l ∙ same)
