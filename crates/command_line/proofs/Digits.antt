-- What is known of the digits of a number.
use Rattle.std.proofs.Common.{◌≡◌, ℕ, ◌^◌, ◌<◌, ◌≤◌, Bool, true, false, List, length, get_or, refl, arith}
use Rattle.std.specs.List.{list_all}
use Rattle.std.specs.Char.{is_ascii_digit}
use Rattle.std.proofs.lemmas.List.Folds.{list_all_at}
use Rattle.std.proofs.Math.Nat.{pow-le-pow_right}

passes_by : (p : ℕ → Bool) (xs : List ℕ) (i : ℕ) → i < length xs → list_all p xs ≡ true → (b : Bool) → p (get_or xs i 0) ≡ b → p (get_or xs i 0) ≡ true
passes_by p xs i h all true e = e
passes_by p xs i h all false e = let none : list_all p xs ≡ false = list_all_at p xs i 0 h e in cc

pub digit_from : (xs : List ℕ) (i : ℕ) → i < length xs → list_all is_ascii_digit xs ≡ true → (48 ≤ get_or xs i 0) × (get_or xs i 0 ≤ 57)
digit_from xs i h all =
    let e : is_ascii_digit (get_or xs i 0) ≡ true = passes_by is_ascii_digit xs i h all (is_ascii_digit (get_or xs i 0)) refl in
    (grind (arith, e), grind (arith, e))

-- what at most 18 digits stand for
pub eighteen_digits : (value i : ℕ) → value < 10 ^ i → i < 19 → value < 1_000_000_000_000_000_000
eighteen_digits value i h few =
    let positive : 0 < 10 = omega arith in
    let at_most : i ≤ 18 = omega arith in
    let e : 10 ^ i ≤ 10 ^ 18 = pow-le-pow_right positive at_most in
    omega (arith, e)
