-- Tokens are slices of their line, in order, and cover all but blanks and a comment.
use Rattle.std.specs.Prelude.{◌≡◌, ℕ, ◌+◌, ◌<◌, ◌≤◌, true, List, [], ◌∷◌, get_or, length, ◌⊎◌}
use Rattle.mb_lex.specs.Bytes.{is_blank}
use Rattle.mb_lex.specs.Lexemes.{Bad, Lexeme, Placed, lex}

-- the bytes from one place up to another are blanks
abbrev pub AreBlank : List ℕ → ℕ → ℕ → Type 0
AreBlank line from to = (k : ℕ) → from ≤ k → k < to → is_blank (get_or line k 0) ≡ true

-- from a place on there are blanks alone, up to a comment or the end
pub record EndsBlank (line : List ℕ) (at : ℕ) : Type 0 where
  pub end : ℕ
  pub blanks : AreBlank line at end
  pub stops : (end ≡ length line) ⊎ (get_or line end 0 ≡ 35)

-- a lexeme is a slice, and blanks alone stand before it
pub record Follows (line : List ℕ) (at : ℕ) (p : Placed) : Type 0 where
  pub blanks : AreBlank line at p.place
  pub order : at ≤ p.place
  pub some : 0 < p.len
  pub within : p.place + p.len ≤ length line

-- the lexemes from a place on follow each other, and cover the line but for blanks and a comment; behind a bad one nothing is read
abbrev pub After : Lexeme → Type 0 → Type 0
After (Bad rule) others = Unit {0}
After _ others = others

unfoldable pub Covers : List ℕ → ℕ → List Placed → Type 0
Covers line at [] = EndsBlank line at
Covers line at (p ∷ ps) = Follows line at p × After p.lexeme (Covers line (p.place + p.len) ps)

abbrev pub TokensCover : Type 0
TokensCover = (line : List ℕ) → Covers line 0 (lex 0 0 line)
