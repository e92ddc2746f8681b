-- The link of each port of the cores, as a table: place k is port k % 16 of core k / 16.
use Rattle.std.specs.Prelude.{◌≡◌, ℕ, ◌+◌, ◌/◌, ◌%◌, List, [], ◌∷◌, Option}
use Rattle.board_file.specs.declared.board.LinkRow.{LinkRow}

-- the link of the port at a place
abbrev pub link_at : (List LinkRow → ℕ → ℕ → Option ℕ) → List LinkRow → ℕ → Option ℕ
link_at find rows place = find rows (place / 16) (place % 16)

-- these are the links of the ports from a place on
abbrev pub AreLinks : (ℕ → Option ℕ) → ℕ → List (Option ℕ) → Type 0
AreLinks link place [] = Unit {0}
AreLinks link place (x ∷ xs) = (x ≡ link place) × AreLinks link (place + 1) xs
