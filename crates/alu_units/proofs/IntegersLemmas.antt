-- Words as integers: what is left of an integer modulo 2 ^ 32, and of its upper bits.
use Rattle.std.proofs.Common.{◌≡◌, ℕ, zero, suc, ◌+◌, ◌-◌, ◌*◌, ◌/◌, ◌%◌, ◌^◌, ◌<◌, ◌≤◌, true, false, refl, ap, arith, ℤ, pos, negsuc, neg_ℤ, ◌+ℤ◌, ◌*ℤ◌}
use Rattle.std.proofs.lemmas.Int.{ints, int_rem_euclid_is}
use Rattle.std.proofs.lemmas.Bool.{leb-true}
use Rattle.std.specs.Prelude.{unsigned_abs}
use Rattle.mb_word.specs.Word.{is_negative}
use Rattle.alu_units.specs.Integers.{signed_value, word_of, high_word}

-- n in two's complement, where the sign bit is set
pub negative_is : (a : ℕ) → a < 2 ^ 32 → is_negative a ≡ true → signed_value a ≡ negsuc (2 ^ 32 - 1 - a)
negative_is a word negative =
    let high : 2 ^ 31 ≤ a = leb-true _ _ negative in
    rw negative (omega (arith, ints))

pub negative_from : (a : ℕ) → a < 2 ^ 32 → is_negative a ≡ true → signed_value a ≡ neg_ℤ (pos (2 ^ 32 - a))
negative_from a word negative =
    let high : 2 ^ 31 ≤ a = leb-true _ _ negative in
    rw negative (omega (arith, ints))

pub positive_is : (a : ℕ) → is_negative a ≡ false → signed_value a ≡ pos a
positive_is a positive = rw positive refl

-- an integer and its word differ by a multiple of 2 ^ 32
pub word_is : (z : ℤ) (k m : ℕ) → z +ℤ pos (k * 2 ^ 32) ≡ pos m → word_of z ≡ m % 2 ^ 32
word_is z k m e = ap unsigned_abs (int_rem_euclid_is z (pos (2 ^ 32)) (2 ^ 32) k m (omega arith) refl e)

pub word_of_negative : (q : ℕ) → q ≤ 2 ^ 32 → word_of (neg_ℤ (pos q)) ≡ (2 ^ 32 - q) % 2 ^ 32
word_of_negative q le = word_is (neg_ℤ (pos q)) 1 (2 ^ 32 - q) (omega (arith, ints))

pub high_is : (z : ℤ) (k m : ℕ) → z +ℤ pos (k * 2 ^ 64) ≡ pos m → high_word z ≡ m / 2 ^ 32 % 2 ^ 32
high_is (pos a) k m e =
    let sum : a + k * 2 ^ 64 ≡ m = omega (arith, ints) in
    omega (arith, sum)
high_is (negsuc a) k m e =
    let sum : m + a + 1 ≡ k * 2 ^ 64 = omega (arith, ints) in
    omega (arith, sum)

-- products and quotients by the signs
pub negative_times : (c b : ℕ) → neg_ℤ (pos c) *ℤ pos b ≡ neg_ℤ (pos (c * b))
negative_times zero b = omega (arith, ints)
negative_times (suc c) b = refl

pub negative_times_negative : (c d : ℕ) → neg_ℤ (pos c) *ℤ neg_ℤ (pos d) ≡ pos (c * d)
negative_times_negative zero d = omega (arith, ints)
negative_times_negative (suc c) zero = omega (arith, ints)
negative_times_negative (suc c) (suc d) = refl
