-- The high word of a product of signed values, from that of the words' own product.
use Rattle.std.proofs.Common.{◌≡◌, ℕ, ◌+◌, ◌-◌, ◌*◌, ◌/◌, ◌%◌, ◌^◌, ◌<◌, sym, ap, ◌∙◌, inl, inr, arith, pos, neg_ℤ, ◌*ℤ◌}
use Rattle.std.proofs.Math.IntN.{*ℤ_comm}
use Rattle.std.proofs.lemmas.Int.{ints}
use Rattle.std.proofs.lemmas.Bool.{cases_Bool}
use Rattle.mb_word.specs.Word.{is_negative, bit_of}
use Rattle.alu_units.specs.Integers.{signed_value, high_word}
use Rattle.alu_units.proofs.IntegersLemmas.{high_is, negative_from, negative_times, negative_times_negative, positive_is}

-- a word less another one
abbrev pub less : ℕ → ℕ → ℕ
less high taken = (high + (2 ^ 32 - taken)) % 2 ^ 32

high_negative : (a b high low : ℕ) → a < 2 ^ 32 → b < 2 ^ 32 → low < 2 ^ 32 → high * 2 ^ 32 + low ≡ a * b → high_word (neg_ℤ (pos ((2 ^ 32 - a) * b))) ≡ less high b
high_negative a b high low a_word b_word low_word whole =
    let c = 2 ^ 32 - a in
    let sum : c + a ≡ 2 ^ 32 = omega arith in
    let both : c * b + a * b ≡ 2 ^ 32 * b = omega (arith, ap (λ n. n * b) sum) in
    high_is (neg_ℤ (pos (c * b))) 1 (2 ^ 64 - c * b) (omega (arith, ints, both)) ∙ omega (arith, both, whole)

pub high_su : (a b high low : ℕ) → a < 2 ^ 32 → b < 2 ^ 32 → low < 2 ^ 32 → high * 2 ^ 32 + low ≡ a * b → high < 2 ^ 32 → less high (b * bit_of (is_negative a)) ≡ high_word (signed_value a *ℤ pos b)
high_su a b high low a_word b_word low_word whole high_below =
    elim (cases_Bool (is_negative a)) [
      | inl negative ↦ sym (ap (λ z. high_word (z *ℤ pos b)) (negative_from a a_word negative) ∙ ap high_word (negative_times (2 ^ 32 - a) b) ∙ high_negative a b high low a_word b_word low_word whole ∙ rw negative (omega arith))
      | inr positive ↦ sym (ap (λ z. high_word (z *ℤ pos b)) (positive_is a positive) ∙ high_is (pos (a * b)) 0 (a * b) (omega (arith, ints)) ∙ rw positive (omega (arith, whole)))
    ]

pub high_ss : (a b high low : ℕ) → a < 2 ^ 32 → b < 2 ^ 32 → low < 2 ^ 32 → high * 2 ^ 32 + low ≡ a * b → high < 2 ^ 32 → less (less high (b * bit_of (is_negative a))) (a * bit_of (is_negative b)) ≡ high_word (signed_value a *ℤ signed_value b)
high_ss a b high low a_word b_word low_word whole high_below =
    let c = 2 ^ 32 - a in
    let d = 2 ^ 32 - b in
    let a_sum : c + a ≡ 2 ^ 32 = omega arith in
    let b_sum : d + b ≡ 2 ^ 32 = omega arith in
    let swapped : high * 2 ^ 32 + low ≡ b * a = omega (arith, whole) in
    elim (cases_Bool (is_negative b)) [
      | inr positive ↦
          let value : signed_value a *ℤ signed_value b ≡ signed_value a *ℤ pos b = ap (λ z. signed_value a *ℤ z) (positive_is b positive) in
          rw value (rw positive (omega (arith, high_su a b high low a_word b_word low_word whole high_below)))
      | inl negative ↦ elim (cases_Bool (is_negative a)) [
        | inr a_positive ↦
            let value : signed_value a *ℤ signed_value b ≡ neg_ℤ (pos (d * a)) = ap (λ z. z *ℤ signed_value b) (positive_is a a_positive) ∙ ap (λ z. pos a *ℤ z) (negative_from b b_word negative) ∙ *ℤ_comm (pos a) (neg_ℤ (pos d)) ∙ negative_times d a in
            rw value (rw (a_positive, negative) (omega (arith, high_negative b a high low b_word a_word low_word swapped)))
        | inl a_negative ↦
            let value : signed_value a *ℤ signed_value b ≡ pos (c * d) = ap (λ z. z *ℤ signed_value b) (negative_from a a_word a_negative) ∙ ap (λ z. neg_ℤ (pos c) *ℤ z) (negative_from b b_word negative) ∙ negative_times_negative c d in
            let ad : c * d + a * d ≡ 2 ^ 32 * d = omega (arith, ap (λ n. n * d) a_sum) in
            let ab : a * d + a * b ≡ 2 ^ 32 * a = omega (arith, ap (λ n. a * n) b_sum) in
            let both : high_word (pos (c * d)) ≡ c * d / 2 ^ 32 % 2 ^ 32 = high_is (pos (c * d)) 0 (c * d) (omega (arith, ints)) in
            rw value (rw (a_negative, negative) (omega (arith, both, ad, ab, whole)))
      ]
    ]
