-- The lexemes of a line: a run of bytes each, told by its first.
use Rattle.std.specs.Prelude.{ℕ, zero, suc, ◌+◌, ◌==◌, false, List, [], ◌∷◌, take, length, if◌then◌else◌, Option, None, Some, ℤ}
use Rattle.std.specs.List.{take_while}
use Rattle.mb_lex.specs.declared.token.LexRule.{LexRule}
use Rattle.mb_lex.specs.declared.token.LexRule.TheVariants.{BadLiteral, BadCharacter}
use Rattle.mb_lex.specs.Bytes.{begins_number, continues_name, is_blank, starts_name}
use Rattle.mb_lex.specs.Literals.{number_of, text_end}

-- a word and a text with all their bytes, a number with its value
pub data Lexeme : Type 0 where
  Word : List ℕ → Lexeme
  Literal : ℤ → Lexeme
  Text : List ℕ → Lexeme
  Comma : Lexeme
  Colon : Lexeme
  Bad : LexRule → Lexeme

-- a lexeme, and how many bytes after its first belong to it
pub record Munch : Type 0 where
  pub lexeme : Lexeme
  pub more : ℕ

-- the bytes that go on with a name or a number
abbrev pub run : List ℕ → List ℕ
run text = take_while continues_name text

abbrev pub literal : Option ℤ → Lexeme
literal None = Bad BadLiteral
literal (Some n) = Literal n

-- a text that goes on with these bytes behind its opening quote
abbrev pub quoted : Option ℕ → List ℕ → Munch
quoted None text = record { lexeme = Bad BadLiteral; more = 0 }
quoted (Some n) text = record { lexeme = Text (34 ∷ take n text); more = n }

-- the lexeme that begins with byte b and goes on in the text
unfoldable pub munch : ℕ → List ℕ → Munch
munch b text =
    if starts_name b then record { lexeme = Word (b ∷ run text); more = length (run text) }
    else if begins_number b then record { lexeme = literal (number_of (b ∷ run text)); more = length (run text) }
    else if b == 34 then quoted (text_end false text) text
    else if b == 44 then record { lexeme = Comma; more = 0 }
    else if b == 58 then record { lexeme = Colon; more = 0 }
    else record { lexeme = Bad BadCharacter; more = 0 }

-- a lexeme, the place of its first byte in the line, and how many bytes it has
pub record Placed : Type 0 where
  pub place : ℕ
  pub len : ℕ
  pub lexeme : Lexeme

-- behind a bad lexeme there is no other
abbrev pub ends : Lexeme → List Placed → List Placed
ends (Bad rule) others = []
ends _ others = others

-- The lexemes of the bytes from a place on, up to a comment or the first that is bad; the first `skip` bytes belong to
-- the lexeme before them.
unfoldable pub lex : ℕ → ℕ → List ℕ → List Placed
lex at skip [] = []
lex at (suc skip) (b ∷ text) = lex (at + 1) skip text
lex at zero (b ∷ text) =
    if is_blank b then lex (at + 1) 0 text
    else if b == 35 then []
    else record { place = at; len = 1 + (munch b text).more; lexeme = (munch b text).lexeme } ∷ ends (munch b text).lexeme (lex (at + 1) (munch b text).more text)
