-- Numbers of a script.
use Rattle.std.specs.Prelude.{ℕ, nat_le, nat_lt, Bool, false, ◌&&◌, List, [], ◌∷◌, take, drop, length, if◌then◌else◌, Option, Some, None, bytes_eq}
use Rattle.std.specs.List.{list_all}
use Rattle.std.specs.Char.{digit_value}
use Rattle.std.specs.Str.Parse.{digits_value}

-- whether all bytes are digits of a radix
abbrev pub all_digits : ℕ → List ℕ → Bool
all_digits radix bytes = list_all (λ c. nat_lt (digit_value c) radix) bytes

-- digits of a radix, at least one, and the number that they write
unfoldable pub numeral : ℕ → List ℕ → Option ℕ
numeral radix digits = if nat_lt 0 (length digits) && all_digits radix digits then Some (digits_value radix digits) else None

-- the same of at most so many digits
abbrev pub short_numeral : ℕ → ℕ → List ℕ → Option ℕ
short_numeral radix most digits = if nat_le (length digits) most then numeral radix digits else None

-- 1 to 19 decimal digits, or `0x` and 1 to 8 hexadecimal ones
unfoldable pub number : List ℕ → Option ℕ
number word = if bytes_eq (take 2 word) (48 ∷ 120 ∷ []) then short_numeral 16 8 (drop 2 word) else short_numeral 10 19 word

-- a value within limits
abbrev pub at_most : ℕ → Option ℕ → Option ℕ
at_most limit None = None
at_most limit (Some n) = if nat_le n limit then Some n else None

abbrev pub at_least : ℕ → Option ℕ → Option ℕ
at_least limit None = None
at_least limit (Some n) = if nat_le limit n then Some n else None

abbrev pub number_in : ℕ → ℕ → List ℕ → Option ℕ
number_in low high word = at_least low (at_most high (number word))

-- whether a word begins with a decimal digit
abbrev pub begins_with_digit : List ℕ → Bool
begins_with_digit [] = false
begins_with_digit (b ∷ bs) = nat_le 48 b && nat_le b 57
