-- Small facts on truth values.
use Rattle.std.proofs.Common.{◌≡◌, ◌&&◌, ◌||◌, refl, inl, inr, ◌⊎◌, Bool, true, false}
use Rattle.std.specs.Prelude.{not}

pub or_cases : (a b : Bool) → a || b ≡ true → (a ≡ true) ⊎ (b ≡ true)
or_cases true b h = inl refl
or_cases false b h = inr h

pub or_left : (a b : Bool) → a ≡ true → a || b ≡ true
or_left a b e = rw e refl

pub or_right : (a b : Bool) → b ≡ true → a || b ≡ true
or_right true b e = refl
or_right false b e = e

pub or_no : (a b : Bool) → a ≡ false → b ≡ false → a || b ≡ false
or_no a b e f = rw (e, f) refl

pub or_false : (a b : Bool) → a || b ≡ false → (a ≡ false) × (b ≡ false)
or_false true b h = cc
or_false false b h = (refl, h)

pub and_both : (a b : Bool) → a && b ≡ true → (a ≡ true) × (b ≡ true)
and_both true b h = (refl, h)
and_both false b h = cc

pub and_yes : (a b : Bool) → a ≡ true → b ≡ true → a && b ≡ true
and_yes a b e f = rw (e, f) refl

pub not_true : (b : Bool) → not b ≡ true → b ≡ false
not_true false h = refl
not_true true h = cc
