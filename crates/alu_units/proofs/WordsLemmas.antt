-- Orders, differences and sign extensions of words.
use Rattle.std.proofs.Common.{◌≡◌, ℕ, ◌+◌, ◌-◌, ◌*◌, ◌/◌, ◌%◌, ◌^◌, ◌<◌, ◌≤◌, Bool, true, false, sym, ◌∙◌, inl, inr, refl, ap, arith, pos, negsuc, ◌-ℤ◌}
use Rattle.std.specs.Prelude.{int_lt, nat_le, bit_and, bit_or}
use Rattle.std.specs.Int.{from_bool}
use Rattle.std.proofs.lemmas.Nat.{and_mask, or_shifted}
use Rattle.std.proofs.lemmas.Int.{ints}
use Rattle.std.proofs.lemmas.Bool.{cases_Bool, leb-true, leb-false, le-leb, lt-leb, lt-ltb, le-ltb}
use Rattle.mb_word.specs.Word.{is_negative, less_signed, sign_extend_16, signed}
use Rattle.alu_units.specs.Integers.{signed_value, value_of, word_of}
use Rattle.alu_units.specs.Units.{compared, sign_extended, swapped_halves}
use Rattle.alu_units.proofs.IntegersLemmas.{negative_is, positive_is, word_is}

-- a word in two's complement is the integer that it stands for
signed_is : (a : ℕ) → a < 2 ^ 32 → signed a ≡ signed_value a
signed_is a a_word =
    elim (cases_Bool (is_negative a)) [
      | inl negative ↦
          rw (negative_is a a_word negative, le-ltb a (2 ^ 31) (leb-true _ _ negative)) (ap negsuc (omega arith))
      | inr positive ↦
          rw (positive_is a positive, lt-ltb a (2 ^ 31) (leb-false _ _ positive)) refl
    ]

pub signed_order : (a b : ℕ) → a < 2 ^ 32 → b < 2 ^ 32 → less_signed a b ≡ int_lt (signed_value a) (signed_value b)
signed_order a b a_word b_word = ap (λ x. int_lt x (signed b)) (signed_is a a_word) ∙ ap (int_lt (signed_value a)) (signed_is b b_word)

pub difference_is : (a b : ℕ) → a < 2 ^ 32 → word_of (pos b -ℤ pos a) ≡ (b + (2 ^ 32 - a)) % 2 ^ 32
difference_is a b word = word_is (pos b -ℤ pos a) 1 (b + (2 ^ 32 - a)) (omega (arith, ints))

pub compared_is : (a b top : ℕ) (signed greater : Bool) → a < 2 ^ 32 → greater ≡ int_lt (value_of signed b) (value_of signed a) → top ≡ from_bool greater → top * 2 ^ 31 % 2 ^ 32 + bit_and ((b + (2 ^ 32 - a)) % 2 ^ 32) 0x7FFF_FFFF ≡ compared a b signed
unfolding compared
compared_is a b top signed true word is top_is = rw (sym is, difference_is a b word, and_mask ((b + (2 ^ 32 - a)) % 2 ^ 32) 31) (omega (arith, top_is))
compared_is a b top signed false word is top_is = rw (sym is, difference_is a b word, and_mask ((b + (2 ^ 32 - a)) % 2 ^ 32) 31) (omega (arith, top_is))

-- bits with their sign, where it is set
extended : (size x : ℕ) → x < size → size ≤ 2 ^ 32 → word_of (pos x -ℤ pos size) ≡ x + (2 ^ 32 - size)
extended size x below fits = word_is (pos x -ℤ pos size) 1 (x + (2 ^ 32 - size)) (omega (arith, ints)) ∙ omega arith

pub high_byte : (a : ℕ) → 2 ^ 7 ≤ a % 2 ^ 8 → a % 2 ^ 8 + 0xFFFF_FF00 ≡ sign_extended 8 a
unfolding sign_extended
high_byte a high = rw (le-leb _ _ high) (sym (extended (2 ^ 8) (a % 2 ^ 8) (omega arith) (omega arith)))

pub low_byte : (a : ℕ) → a % 2 ^ 8 < 2 ^ 7 → a % 2 ^ 8 ≡ sign_extended 8 a
unfolding sign_extended
low_byte a low = rw (lt-leb _ _ low) (omega arith)

pub half : (a : ℕ) → sign_extend_16 (a % 2 ^ 16) ≡ sign_extended 16 a
unfolding sign_extended
half a =
    elim (cases_Bool (nat_le (2 ^ 15) (a % 2 ^ 16))) [
      | inl high ↦ rw high (sym (extended (2 ^ 16) (a % 2 ^ 16) (omega arith) (omega arith)))
      | inr low ↦ rw low (omega arith)
    ]

-- a word turned round by 16 bits
pub turned : (a : ℕ) → a < 2 ^ 32 → bit_or (a * 2 ^ 16 % 2 ^ 32) (a / 2 ^ 16) ≡ swapped_halves a
unfolding swapped_halves
turned a word =
    let high : a * 2 ^ 16 % 2 ^ 32 ≡ a % 2 ^ 16 * 2 ^ 16 = omega arith in
    ap (λ x. bit_or x (a / 2 ^ 16)) high ∙ or_shifted (a % 2 ^ 16) 16 (a / 2 ^ 16) (omega (arith, word))
