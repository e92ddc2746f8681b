-- Quotients towards 0, from the quotient of the magnitudes.
use Rattle.std.proofs.Common.{◌≡◌, ℕ, zero, suc, negsuc, ◌+◌, ◌-◌, ◌*◌, ◌/◌, ◌%◌, ◌^◌, ◌<◌, ◌≤◌, Bool, true, false, refl, sym, ap, subst, if◌then◌else◌, ◌∙◌, inl, inr, arith, ℤ, pos, neg_ℤ}
use Rattle.std.specs.Prelude.{◌==◌, int_div, int_rem, unsigned_abs, None}
use Rattle.std.proofs.lemmas.Int.{ints, quot-rem, rem_below}
use Rattle.std.proofs.Math.Nat.{mod-le, div-le_self, le_trans}
use Rattle.std.proofs.lemmas.Bool.{cases_Bool, leb-true, leb-false, le-leb, lt-leb, eqb-true, eqb-false, cases_order}
use Rattle.mb_word.specs.Word.{is_negative}
use Rattle.alu_units.specs.Integers.{signed_value, value_of, word_of}
use Rattle.alu_units.specs.Division.{IsTowardsZero, quotient_of, fault_of, magnitude, signs_differ, with_sign}
use Rattle.alu_units.proofs.IntegersLemmas.{negative_from, positive_is, word_of_negative}

-- a quotient by the signs
quot_negative : (c b : ℕ) → int_div (neg_ℤ (pos c)) (pos b) ≡ neg_ℤ (pos (c / b))
quot_negative zero b = omega (arith, ints)
quot_negative (suc c) b = refl

quot_by_negative : (a d : ℕ) → 0 < d → int_div (pos a) (neg_ℤ (pos d)) ≡ neg_ℤ (pos (a / d))
quot_by_negative a zero some = absurd (omega arith)
quot_by_negative a (suc d) some = refl

quot_negatives : (c d : ℕ) → 0 < d → int_div (neg_ℤ (pos c)) (neg_ℤ (pos d)) ≡ pos (c / d)
quot_negatives c zero some = absurd (omega arith)
quot_negatives zero (suc d) some = omega (arith, ints)
quot_negatives (suc c) (suc d) some = refl

-- what std's division leaves
pub towards_zero : (n d : ℤ) → 0 < unsigned_abs d → IsTowardsZero n d (int_div n d)
towards_zero (pos a) d some =
    let less : a % unsigned_abs d ≤ a = mod-le a (unsigned_abs d) in
    record {
      rest = int_rem (pos a) d;
      whole = quot-rem (pos a) d;
      small = rem_below (pos a) d some;
      not_below = λ up. omega (arith, ints);
      not_above = λ down. omega (arith, ints, down, less);
    }
towards_zero (negsuc a) d some = record {
  rest = int_rem (negsuc a) d;
  whole = quot-rem (negsuc a) d;
  small = rem_below (negsuc a) d some;
  not_below = λ up. absurd (omega (arith, ints, up));
  not_above = λ down. omega (arith, ints);
}

-- magnitudes of words with signs
magnitude_below : (n : ℕ) → n < 2 ^ 32 → magnitude true n ≤ 2 ^ 31
magnitude_below n word =
    elim (cases_Bool (is_negative n)) [
      | inl negative ↦ let high : 2 ^ 31 ≤ n = leb-true _ _ negative in rw negative (omega arith)
      | inr positive ↦ let low : n < 2 ^ 31 = leb-false _ _ positive in rw positive (omega arith)
    ]

-- the quotient of the values, by their signs
value_by_sign : (n d : ℕ) → n < 2 ^ 32 → d < 2 ^ 32 → 0 < d → int_div (signed_value n) (signed_value d) ≡ (if signs_differ true n d then neg_ℤ (pos (magnitude true n / magnitude true d)) else pos (magnitude true n / magnitude true d))
value_by_sign n d n_word d_word some =
    let c = 2 ^ 32 - n in
    let b = 2 ^ 32 - d in
    elim (cases_Bool (is_negative n)) [
      | inl n_negative ↦
          let from : int_div (signed_value n) (signed_value d) ≡ int_div (neg_ℤ (pos c)) (signed_value d) = ap (λ z. int_div z (signed_value d)) (negative_from n n_word n_negative) in
          elim (cases_Bool (is_negative d)) [
            | inl d_negative ↦
                let value : int_div (signed_value n) (signed_value d) ≡ pos (c / b) = from ∙ ap (int_div (neg_ℤ (pos c))) (negative_from d d_word d_negative) ∙ quot_negatives c b (omega arith) in
                rw value (rw (n_negative, d_negative) refl)
            | inr d_positive ↦
                let value : int_div (signed_value n) (signed_value d) ≡ neg_ℤ (pos (c / d)) = from ∙ ap (int_div (neg_ℤ (pos c))) (positive_is d d_positive) ∙ quot_negative c d in
                rw value (rw (n_negative, d_positive) refl)
          ]
      | inr n_positive ↦
          let from : int_div (signed_value n) (signed_value d) ≡ int_div (pos n) (signed_value d) = ap (λ z. int_div z (signed_value d)) (positive_is n n_positive) in
          elim (cases_Bool (is_negative d)) [
            | inl d_negative ↦
                let value : int_div (signed_value n) (signed_value d) ≡ neg_ℤ (pos (n / b)) = from ∙ ap (int_div (pos n)) (negative_from d d_word d_negative) ∙ quot_by_negative n b (omega arith) in
                rw value (rw (n_positive, d_negative) refl)
            | inr d_positive ↦
                let value : int_div (signed_value n) (signed_value d) ≡ pos (n / d) = from ∙ ap (int_div (pos n)) (positive_is d d_positive) in
                rw value (rw (n_positive, d_positive) refl)
          ]
    ]

-- a magnitude's word with its sign is the word of the integer
by_sign : (negative : Bool) (q : ℕ) → q ≤ 2 ^ 31 → with_sign negative q ≡ word_of (if negative then neg_ℤ (pos q) else pos q)
by_sign true q small = sym (word_of_negative q (omega arith))
by_sign false q small = let same : q ≡ q % 2 ^ 32 = omega arith in same

signed_quotient : (n d : ℕ) → n < 2 ^ 32 → d < 2 ^ 32 → 0 < d → with_sign (signs_differ true n d) (magnitude true n / magnitude true d) ≡ word_of (int_div (signed_value n) (signed_value d))
signed_quotient n d n_word d_word some =
    let q = magnitude true n / magnitude true d in
    let less : q ≤ magnitude true n = div-le_self (magnitude true n) (magnitude true d) in
    let small : q ≤ 2 ^ 31 = le_trans less (magnitude_below n n_word) in
    rw (value_by_sign n d n_word d_word some) (by_sign (signs_differ true n d) q small)

quotient_by_zero : (signed : Bool) (n : ℕ) → with_sign (signs_differ signed n 0) (magnitude signed n / magnitude signed 0) ≡ 0
quotient_by_zero false n = omega arith
quotient_by_zero true n =
    elim (cases_Bool (is_negative n)) [
      | inl negative ↦ rw negative (omega arith)
      | inr positive ↦ rw positive (omega arith)
    ]

quotient_by_some : (n d : ℕ) (signed : Bool) → n < 2 ^ 32 → d < 2 ^ 32 → 0 < d → with_sign (signs_differ signed n d) (magnitude signed n / magnitude signed d) ≡ word_of (int_div (value_of signed n) (value_of signed d))
quotient_by_some n d true n_word d_word some = signed_quotient n d n_word d_word some
quotient_by_some n d false n_word d_word some =
    let less : n / d ≤ n = div-le_self n d in
    let same : n / d ≡ n / d % 2 ^ 32 = omega (arith, less) in
    same

-- what the code computes is the quotient
pub quotient_is : (n d : ℕ) (signed : Bool) → n < 2 ^ 32 → d < 2 ^ 32 → with_sign (signs_differ signed n d) (magnitude signed n / magnitude signed d) ≡ quotient_of n d signed
unfolding quotient_of
quotient_is n d signed n_word d_word =
    elim (cases_Bool (d == 0)) [
      | inl none ↦ rw none (rw (eqb-true _ _ none) (quotient_by_zero signed n))
      | inr some ↦ rw some (quotient_by_some n d signed n_word d_word (omega (arith, eqb-false _ _ some)))
    ]

-- a word for an integer that is a signed word stands for it
back_positive : (m : ℕ) → m < 2 ^ 31 → signed_value m ≡ pos m
back_positive m small = positive_is m (lt-leb _ _ (omega arith))

back_negative : (m : ℕ) → m ≤ 2 ^ 31 → signed_value ((2 ^ 32 - m) % 2 ^ 32) ≡ neg_ℤ (pos m)
back_negative zero small = omega (arith, ints)
back_negative (suc m) small =
    let n = 2 ^ 32 - suc m in
    let word : n % 2 ^ 32 ≡ n = omega arith in
    let same : 2 ^ 32 - n ≡ suc m = omega arith in
    ap signed_value word ∙ negative_from n (omega arith) (le-leb _ _ (omega arith)) ∙ ap (λ c. neg_ℤ (pos c)) same

back_by_sign : (negative : Bool) (q : ℕ) → q ≤ 2 ^ 31 → (negative ≡ false → q < 2 ^ 31) → signed_value (with_sign negative q) ≡ (if negative then neg_ℤ (pos q) else pos q)
back_by_sign true q small below = back_negative q small
back_by_sign false q small below = back_positive q (below refl)

divisor_some : (n d : ℕ) (signed : Bool) → fault_of n d signed ≡ None → 0 < d
unfolding fault_of
divisor_some n zero signed fine = absurd (cc fine)
divisor_some n (suc d) signed fine = omega arith

no_overflow : (n d : ℕ) → fault_of n d true ≡ None → n ≡ 0x8000_0000 → d ≡ 0xFFFF_FFFF → ⊥
unfolding fault_of
no_overflow n d fine least minus = let none = rw (least, minus) at fine in cc none

negative_too : (n d : ℕ) → is_negative n ≡ true → signs_differ true n d ≡ false → is_negative d ≡ true
negative_too n d negative same =
    elim (cases_Bool (is_negative d)) [
      | inl d_negative ↦ d_negative
      | inr d_positive ↦ let differ = rw (negative, d_positive) at same in absurd (cc differ)
    ]

-- where the signs are the same and nothing overflows, the quotient stays below the sign bit
quotient_below : (n d : ℕ) → n < 2 ^ 32 → d < 2 ^ 32 → fault_of n d true ≡ None → signs_differ true n d ≡ false → magnitude true n / magnitude true d < 2 ^ 31
quotient_below n d n_word d_word fine same =
    elim (cases_Bool (is_negative n)) [
      | inr positive ↦
          let less : n / magnitude true d ≤ n = div-le_self n (magnitude true d) in
          let low : n < 2 ^ 31 = leb-false _ _ positive in
          rw positive (omega (arith, less))
      | inl negative ↦
          let c = 2 ^ 32 - n in
          let b = 2 ^ 32 - d in
          let high : 2 ^ 31 ≤ n = leb-true _ _ negative in
          let d_negative : is_negative d ≡ true = negative_too n d negative same in
          let d_high : 2 ^ 31 ≤ d = leb-true _ _ d_negative in
          let less : c / b ≤ c = div-le_self c b in
          let apart : n ≡ 0x8000_0000 → d ≡ 0xFFFF_FFFF → ⊥ = no_overflow n d fine in
          let short : c / b < 2 ^ 31 = elim (cases_order b 1) [
            | inl one ↦
                let not_least : n ≡ 0x8000_0000 → ⊥ = λ least. apart least (omega arith) in
                omega (arith, less, not_least)
            | inr more ↦
                let e = b - 2 in
                let split : b ≡ 2 + e = omega arith in
                let twice : b * (c / b) ≡ (2 + e) * (c / b) = ap (λ x. x * (c / b)) split in
                omega (arith, twice)
          ] in
          rw (negative, d_negative) short
    ]

-- where nothing is at fault, the word stands for the quotient of the values
value_back : (n d : ℕ) (signed : Bool) → n < 2 ^ 32 → d < 2 ^ 32 → fault_of n d signed ≡ None → value_of signed (quotient_of n d signed) ≡ int_div (value_of signed n) (value_of signed d)
value_back n d false n_word d_word fine = ap pos (sym (quotient_is n d false n_word d_word))
value_back n d true n_word d_word fine =
    let some = divisor_some n d true fine in
    let q = magnitude true n / magnitude true d in
    let less : q ≤ magnitude true n = div-le_self (magnitude true n) (magnitude true d) in
    let small : q ≤ 2 ^ 31 = le_trans less (magnitude_below n n_word) in
    let back : signed_value (with_sign (signs_differ true n d) q) ≡ (if signs_differ true n d then neg_ℤ (pos q) else pos q) = back_by_sign (signs_differ true n d) q small (λ same. quotient_below n d n_word d_word fine same) in
    ap signed_value (sym (quotient_is n d true n_word d_word)) ∙ back ∙ sym (value_by_sign n d n_word d_word some)

divisor_value : (d : ℕ) (signed : Bool) → d < 2 ^ 32 → 0 < d → 0 < unsigned_abs (value_of signed d)
divisor_value d false word some = some
divisor_value d true word some =
    elim (cases_Bool (is_negative d)) [
      | inl negative ↦ rw (negative_from d word negative) (omega (arith, ints))
      | inr positive ↦ rw (positive_is d positive) some
    ]

-- where nothing is at fault, the word itself is the quotient towards 0
pub exact : (n d : ℕ) (signed : Bool) (value : ℕ) → n < 2 ^ 32 → d < 2 ^ 32 → value ≡ quotient_of n d signed → fault_of n d signed ≡ None → IsTowardsZero (value_of signed n) (value_of signed d) (value_of signed value)
exact n d signed value n_word d_word is fine =
    let whole = towards_zero (value_of signed n) (value_of signed d) (divisor_value d signed d_word (divisor_some n d signed fine)) in
    let same : value_of signed value ≡ int_div (value_of signed n) (value_of signed d) = ap (value_of signed) is ∙ value_back n d signed n_word d_word fine in
    subst (λ (q : ℤ). IsTowardsZero (value_of signed n) (value_of signed d) q) (sym same) whole
