-- What a byte may be part of.
use Rattle.std.specs.Prelude.{ℕ, ◌==◌, nat_le, Bool, ◌&&◌, ◌||◌}

-- space and tab
abbrev pub is_blank : ℕ → Bool
is_blank b = b == 32 || b == 9

abbrev pub is_digit : ℕ → Bool
is_digit b = nat_le 48 b && nat_le b 57

-- letters, `_`, `.` and `$`
abbrev pub starts_name : ℕ → Bool
starts_name b = nat_le 97 b && nat_le b 122 || nat_le 65 b && nat_le b 90 || b == 95 || b == 46 || b == 36

abbrev pub continues_name : ℕ → Bool
continues_name b = starts_name b || is_digit b

-- a digit or a sign
abbrev pub begins_number : ℕ → Bool
begins_number b = is_digit b || b == 45

-- the printable characters of ASCII
abbrev pub is_printable : ℕ → Bool
is_printable b = nat_le 32 b && nat_le b 126

-- what may stand behind a backslash: `n`, a backslash and a quote
abbrev pub is_escaped : ℕ → Bool
is_escaped b = b == 110 || b == 92 || b == 34
