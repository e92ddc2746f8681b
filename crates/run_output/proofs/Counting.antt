-- How many entries pass a test, counted one by one.
use mir.Val.{bool_byte}
use Rattle.std.proofs.Common.{◌≡◌, ℕ, ◌+◌, ◌≤◌, Bool, true, false, List, length, filter, take, slice_get, cond, Some, refl, sym, ap, ◌∙◌, arith}
use Rattle.std.proofs.lemmas.List.Filters.{length-filter_more}
use Rattle.std.proofs.lemmas.Option.{slice_get_within, get_or_from_slice_get}

one_where : (b : Bool) → bool_byte b ≡ cond b 1 0
one_where true = refl
one_where false = refl

-- one more was looked at
pub counted : {X : Type 0} (p : X → Bool) (xs : List X) (k : ℕ) (x : X) (n : ℕ) (b : Bool) → slice_get xs k ≡ Some x → b ≡ p x
    → n ≡ length (filter p (take k xs)) → n + bool_byte b ≡ length (filter p (take (k + 1) xs))
counted p xs k x n b at is so_far =
    ap (λ m. m + bool_byte b) so_far
    ∙ ap (λ m. length (filter p (take k xs)) + m) (one_where b ∙ ap (λ t. cond t 1 0) (is ∙ ap p (sym (get_or_from_slice_get xs k x x at))))
    ∙ sym (length-filter_more p xs k x (slice_get_within xs k x at))

pub few : (n k : ℕ) (b : Bool) → n ≤ k → n + bool_byte b ≤ k + 1
few n k true h = omega (arith, h)
few n k false h = omega (arith, h)
