-- Numbers and texts.
use Rattle.std.specs.Prelude.{ℕ, ◌+◌, ◌-◌, ◌^◌, ◌==◌, nat_lt, nat_le, Bool, not, ◌&&◌, List, [], ◌∷◌, take, drop, length, if◌then◌else◌, Option, None, Some, ℤ, pos, neg_ℤ, bytes_eq}
use Rattle.std.specs.Option.{option_map}
use Rattle.std.specs.List.{list_all}
use Rattle.std.specs.Char.{digit_value}
use Rattle.std.specs.Str.Parse.{digits_value}
use Rattle.mb_lex.specs.Bytes.{is_escaped, is_printable}

abbrev pub all_digits : ℕ → List ℕ → Bool
all_digits radix bytes = list_all (λ c. nat_lt (digit_value c) radix) bytes

-- digits of a radix, at least one, and the number that they write
unfoldable pub numeral : ℕ → List ℕ → Option ℕ
numeral radix digits = if nat_lt 0 (length digits) && all_digits radix digits then Some (digits_value radix digits) else None

-- a number without its sign: hexadecimal after `0x`, else decimal
unfoldable pub magnitude : List ℕ → Option ℕ
magnitude text = if bytes_eq (take 2 text) (48 ∷ 120 ∷ []) then numeral 16 (drop 2 text) else numeral 10 text

-- a value within limits
abbrev pub at_most : ℕ → Option ℕ → Option ℕ
at_most limit None = None
at_most limit (Some n) = if nat_le n limit then Some n else None

-- the number that a literal writes, from -2^31 to 2^32 - 1
unfoldable pub number_of : List ℕ → Option ℤ
number_of [] = None
number_of (b ∷ text) =
    if b == 45 then option_map (λ n. neg_ℤ (pos n)) (at_most (2 ^ 31) (magnitude text))
    else option_map pos (at_most (2 ^ 32 - 1) (magnitude (b ∷ text)))

-- a quote that no backslash escapes ends a text, and such a backslash escapes the next byte
abbrev pub ends_text : Bool → ℕ → Bool
ends_text escaped b = not escaped && b == 34

abbrev pub escapes : Bool → ℕ → Bool
escapes escaped b = not escaped && b == 92

-- a byte that a text may hold, behind a backslash or not
abbrev pub is_in_text : Bool → ℕ → Bool
is_in_text escaped b = if escaped then is_escaped b else is_printable b

-- how many bytes a text has behind its opening quote, the closing one among them; `escaped` tells whether a backslash that
-- escapes stands before these bytes
unfoldable pub text_end : Bool → List ℕ → Option ℕ
text_end escaped [] = None
text_end escaped (b ∷ text) =
    if ends_text escaped b then Some 1
    else if is_in_text escaped b then option_map (λ n. 1 + n) (text_end (escapes escaped b) text)
    else None
