-- 32-bit words and the integers that they stand for.
use Rattle.std.specs.Prelude.{ℕ, ◌-◌, ◌^◌, Bool, nat_le, if◌then◌else◌, ℤ, pos, ◌-ℤ◌, unsigned_abs}
use Rattle.std.specs.Int.{int_rem_euclid, int_div_euclid}

-- n bits in two's complement
abbrev pub signed_bits : ℕ → ℕ → ℤ
signed_bits n x = if nat_le (2 ^ (n - 1)) x then pos x -ℤ pos (2 ^ n) else pos x

-- a word with its sign
abbrev pub signed_value : ℕ → ℤ
signed_value a = signed_bits 32 a

-- a word with its sign, or without one
abbrev pub value_of : Bool → ℕ → ℤ
value_of signed a = if signed then signed_value a else pos a

-- an integer modulo 2 ^ 32
abbrev pub word_of : ℤ → ℕ
word_of z = unsigned_abs (int_rem_euclid z (pos (2 ^ 32)))

-- an integer divided by 2 ^ n and rounded down
abbrev pub floor_shift : ℤ → ℕ → ℤ
floor_shift z n = int_div_euclid z (pos (2 ^ n))

-- the second word of an integer, from the low end
abbrev pub high_word : ℤ → ℕ
high_word z = word_of (floor_shift z 32)
