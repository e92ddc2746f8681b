-- Numbers as upper-case hexadecimal digits.
use Rattle.std.specs.Prelude.{ℕ, ◌+◌, ◌/◌, ◌%◌, ◌^◌, nat_lt, if◌then◌else◌, List, [], ◌∷◌}

-- 0 to 9, then A to F
abbrev pub hex_digit : ℕ → ℕ
hex_digit d = if nat_lt d 10 then 48 + d else 55 + d

-- the digit that stands for the four bits of a number from that bit on
abbrev pub digit_at : ℕ → ℕ → ℕ
digit_at n bit = hex_digit (n / 2 ^ bit % 16)

-- a word as eight digits, the most significant first
unfoldable pub hex_of : ℕ → List ℕ
hex_of word =
    digit_at word 28 ∷ digit_at word 24 ∷ digit_at word 20 ∷ digit_at word 16
    ∷ digit_at word 12 ∷ digit_at word 8 ∷ digit_at word 4 ∷ digit_at word 0 ∷ []

-- 16 bits as four digits
unfoldable pub hex_16 : ℕ → List ℕ
hex_16 n = hex_digit (n / 2 ^ 12 % 16) ∷ hex_digit (n / 2 ^ 8 % 16) ∷ hex_digit (n / 2 ^ 4 % 16) ∷ hex_digit (n % 16) ∷ []

-- a byte as two digits, the most significant first
unfoldable pub hex_of_byte : ℕ → List ℕ
hex_of_byte byte = digit_at byte 4 ∷ digit_at byte 0 ∷ []
