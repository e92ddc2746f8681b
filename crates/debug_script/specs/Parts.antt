-- Lines and words: the parts of a text between the places of a separator.
use Rattle.std.specs.Prelude.{ℕ, ◌==◌, List, [], ◌∷◌, if◌then◌else◌, Option, Some, None}

-- a byte more before the first part
abbrev pub begun_with : ℕ → List (List ℕ) → List (List ℕ)
begun_with b [] = (b ∷ []) ∷ []
begun_with b (part ∷ parts) = (b ∷ part) ∷ parts

-- the parts of a text; one more than it has separators
abbrev pub parts : ℕ → List ℕ → List (List ℕ)
parts separator [] = [] ∷ []
parts separator (b ∷ text) = if b == separator then [] ∷ parts separator text else begun_with b (parts separator text)

-- the bytes before the first separator
abbrev pub first_part : ℕ → List ℕ → List ℕ
first_part separator [] = []
first_part separator (b ∷ text) = if b == separator then [] else b ∷ first_part separator text

-- what stands behind the first separator
abbrev pub after_part : ℕ → List ℕ → Option (List ℕ)
after_part separator [] = None
after_part separator (b ∷ text) = if b == separator then Some text else after_part separator text

-- the parts of what stands behind a separator
abbrev pub parts_after : ℕ → Option (List ℕ) → List (List ℕ)
parts_after separator None = []
parts_after separator (Some text) = parts separator text
