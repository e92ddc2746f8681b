-- Which texts are names.
use Rattle.std.specs.Prelude.{ℕ, Bool, false, ◌==◌, ◌&&◌, ◌||◌, nat_le, not, List, [], ◌∷◌, length}
use Rattle.std.specs.List.{list_all}

-- a name of a part of a board has 1 to 24 bytes
abbrev pub is_name : List ℕ → Bool
is_name text = nat_le 1 (length text) && nat_le (length text) 24

abbrev pub is_between : ℕ → ℕ → ℕ → Bool
is_between low high b = nat_le low b && nat_le b high

-- a letter, a digit or one of `_`, `-`, `.` and `/`
abbrev pub is_file_byte : ℕ → Bool
is_file_byte b =
    is_between 97 122 b || is_between 65 90 b || is_between 48 57 b || (b == 95) || (b == 45) || (b == 46) || (b == 47)

-- there is a first byte, and it is no `-`
abbrev pub begins_well : List ℕ → Bool
begins_well [] = false
begins_well (b ∷ bs) = not (b == 45)

-- a name of a file has 1 to 64 of these bytes, the first not `-`
abbrev pub is_file_name : List ℕ → Bool
is_file_name text = begins_well text && nat_le (length text) 64 && list_all is_file_byte text
