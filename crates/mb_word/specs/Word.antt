-- 32-bit words as numbers: their fields, their signs, and sums with a carry.
use Rattle.std.specs.Prelude.{ℕ, ◌+◌, ◌-◌, ◌/◌, ◌%◌, ◌^◌, Bool, nat_le, if◌then◌else◌, ℤ, int_lt}
use Rattle.std.specs.Int.{cast_signed, w32}
use Rattle.mb_word.specs.declared.sum.Sum.{Sum}

-- the bits of a word from a place on, where bit 0 is the highest
abbrev pub field : ℕ → ℕ → ℕ → ℕ
field w first width = w / 2 ^ (32 - first - width) % 2 ^ width

-- 0 or 1
abbrev pub bit_of : Bool → ℕ
bit_of b = if b then 1 else 0

-- whether the sign bit of a word is set
abbrev pub is_negative : ℕ → Bool
is_negative a = nat_le (2 ^ 31) a

-- 16 bits with their sign extended to a word
abbrev pub sign_extend_16 : ℕ → ℕ
sign_extend_16 x = if nat_le (2 ^ 15) x then x + 0xFFFF_0000 else x

-- the sum of two words and a carry, modulo 2 ^ 32, and whether it carries
abbrev pub sum_of : ℕ → ℕ → Bool → Sum
sum_of a b c = record { value = (a + b + bit_of c) % 2 ^ 32; carry = nat_le (2 ^ 32) (a + b + bit_of c) }

-- the number that a word is in two's complement
abbrev pub signed : ℕ → ℤ
signed a = cast_signed w32 a

abbrev pub less_signed : ℕ → ℕ → Bool
less_signed a b = int_lt (signed a) (signed b)
