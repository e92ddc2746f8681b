-- The lines of a source: a line feed ends one, and a carriage return directly before it belongs to that end.
use Rattle.std.specs.Prelude.{ℕ, zero, suc, ◌-◌, ◌==◌, nat_lt, not, List, [], ◌∷◌, get_or, length, take, if◌then◌else◌}
use Rattle.std.specs.List.{take_while}

-- how many bytes stand before the first line feed
abbrev pub line_len : List ℕ → ℕ
line_len text = length (take_while (λ b. not (b == 10)) text)

abbrev pub without_return : List ℕ → List ℕ
without_return line = if get_or line (length line - 1) 0 == 13 then take (length line - 1) line else line

-- the line with which a text begins; where no line feed ends it, a carriage return is a byte of it
unfoldable pub first_line : List ℕ → List ℕ
first_line text = if nat_lt (line_len text) (length text) then without_return (take (line_len text) text) else take (line_len text) text

-- the lines of a text; the first `skip` bytes belong to the line before them
unfoldable pub lines_from : ℕ → List ℕ → List (List ℕ)
lines_from skip [] = []
lines_from (suc skip) (b ∷ text) = lines_from skip text
lines_from zero (b ∷ text) = first_line (b ∷ text) ∷ lines_from (line_len (b ∷ text)) text

abbrev pub lines_of : List ℕ → List (List ℕ)
lines_of text = lines_from 0 text
