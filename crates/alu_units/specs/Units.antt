-- What each arithmetic unit computes, as an equation over integers and modulo 2 ^ 32 (UG984, "MicroBlaze Instructions").
use Rattle.std.specs.Prelude.{ℕ, ◌+◌, ◌-◌, ◌*◌, ◌/◌, ◌%◌, ◌^◌, Bool, ◌==◌, nat_le, pos, ◌-ℤ◌, ◌*ℤ◌, int_lt, unwrap_or, bit_and, bit_or, bit_xor}
use Rattle.std.specs.Int.{to_be_bytes, w32}
use Rattle.std.specs.List.{find, position_from, range_with_len, zip}
use Rattle.mb_word.specs.Word.{bit_of}
use Rattle.alu_units.specs.Integers.{signed_bits, signed_value, value_of, word_of, floor_shift, high_word}
use Rattle.op_table.specs.declared.kinds.LogicKind.{LogicKind}
use Rattle.op_table.specs.declared.kinds.LogicKind.TheVariants.{And, Or, Xor, Andn}
use Rattle.op_table.specs.declared.kinds.MulKind.{MulKind}
use Rattle.op_table.specs.declared.kinds.MulKind.TheVariants.{Low, High, HighSu, HighU}
use Rattle.op_table.specs.declared.kinds.ShiftKind.{ShiftKind}
use Rattle.op_table.specs.declared.kinds.ShiftKind.TheVariants.{Left, Right, Arith}
use Rattle.op_table.specs.declared.kinds.UnaryKind.{UnaryKind}
use Rattle.op_table.specs.declared.kinds.UnaryKind.TheVariants.{ExtendByte, ExtendHalf, CountZeros, SwapBytes, SwapHalves}

-- a word with all its bits turned round
abbrev pub complement : ℕ → ℕ
complement a = 2 ^ 32 - 1 - a

-- or, and, xor; andn is a and not b
unfoldable pub logic_of : LogicKind → ℕ → ℕ → ℕ
logic_of And a b = bit_and a b
logic_of Or a b = bit_or a b
logic_of Xor a b = bit_xor a b
logic_of Andn a b = bit_and a (complement b)

-- cmp, cmpu: b - a, with whether a is the greater in place of the top bit
unfoldable pub compared : ℕ → ℕ → Bool → ℕ
compared a b signed = 2 ^ 31 * bit_of (int_lt (value_of signed b) (value_of signed a)) + word_of (pos b -ℤ pos a) % 2 ^ 31

-- mul, mulh, mulhsu (a with its sign, b without), mulhu
unfoldable pub product_of : MulKind → ℕ → ℕ → ℕ
product_of Low a b = a * b % 2 ^ 32
product_of High a b = high_word (signed_value a *ℤ signed_value b)
product_of HighSu a b = high_word (signed_value a *ℤ pos b)
product_of HighU a b = a * b / 2 ^ 32

-- bsll, bsrl, bsra: a times 2 ^ n; a divided by 2 ^ n and rounded down, without its sign and with it
unfoldable pub shifted : ShiftKind → ℕ → ℕ → ℕ
shifted Left a n = a * 2 ^ n % 2 ^ 32
shifted Right a n = a / 2 ^ n
shifted Arith a n = word_of (floor_shift (signed_value a) n)

-- sra, src, srl: one place to the right, with the bit that comes in at the top
abbrev pub shifted_in : Bool → ℕ → ℕ
shifted_in top a = 2 ^ 31 * bit_of top + a / 2

-- sra, src, srl: the bit that goes out at the low end
abbrev pub low_bit : ℕ → Bool
low_bit a = a % 2 == 1

-- sext8, sext16: the lowest n bits with their sign
unfoldable pub sign_extended : ℕ → ℕ → ℕ
sign_extended n a = word_of (signed_bits n (a % 2 ^ n))

-- clz: the first n from 0 on for which the word reaches 2 ^ (31 - n), the worth of the bit n places below the top; 32 in 0
unfoldable pub leading_zeros : ℕ → ℕ
leading_zeros a = unwrap_or (find (λ n. nat_le (2 ^ (31 - n)) a) (range_with_len 0 32)) 32

-- a byte of a word, counted from the low end
abbrev pub byte_of : ℕ → ℕ → ℕ
byte_of k a = a / 2 ^ (8 * k) % 2 ^ 8

-- swapb: the low byte becomes the highest, and so on
unfoldable pub reversed_bytes : ℕ → ℕ
reversed_bytes a = byte_of 0 a * 2 ^ 24 + byte_of 1 a * 2 ^ 16 + byte_of 2 a * 2 ^ 8 + byte_of 3 a

-- swaph: the low half becomes the high one, and the high half the low one
unfoldable pub swapped_halves : ℕ → ℕ
swapped_halves a = a % 2 ^ 16 * 2 ^ 16 + a / 2 ^ 16

-- what an instruction of one register makes of it
unfoldable pub unary_of : UnaryKind → ℕ → ℕ
unary_of ExtendByte a = sign_extended 8 a
unary_of ExtendHalf a = sign_extended 16 a
unary_of CountZeros a = leading_zeros a
unary_of SwapBytes a = reversed_bytes a
unary_of SwapHalves a = swapped_halves a

-- pcmpbf: the number, from 1 on, of the first byte from the top that is equal in both words; 0 where none is
unfoldable pub first_equal_byte : ℕ → ℕ → ℕ
first_equal_byte a b = unwrap_or (position_from (λ pair. pair.0 == pair.1) 1 (zip (to_be_bytes w32 a) (to_be_bytes w32 b))) 0
