-- A text that is a lexeme, and what follows it, as lexemes.
use Rattle.std.proofs.Common.{◌≡◌, ℕ, suc, ◌+◌, true, false, ◌||◌, ◌==◌, List, [], ◌∷◌, ◌++◌, length, take, Some, ℤ, refl, ap, ◌∙◌, arith, add-zero}
use Rattle.std.specs.List.{list_all, take_while}
use Rattle.std.proofs.lemmas.Bool.{and_parts, false≢true}
use Rattle.std.proofs.lemmas.Bool.Decides.{nat_tests}
use Rattle.mb_dis.specs.Statement.{lexemes}
use Rattle.mb_lex.specs.Bytes.{continues_name, is_blank, is_digit, starts_name}
use Rattle.mb_lex.specs.Lexemes.{Lexeme, Literal, Placed, Word, ends, lex, munch, run}
use Rattle.mb_lex.specs.Literals.{number_of}
use Rattle.mb_dis.proofs.Known.{is_word}

-- bytes of a lexeme are passed over
lex_skip : (at : ℕ) (more rest : List ℕ) → lex at (length more) (more ++ rest) ≡ lex (at + length more) 0 rest
unfolding lex
lex_skip at [] rest = rw add-zero refl
lex_skip at (b ∷ more) rest =
    let place : at + 1 + length more ≡ at + suc (length more) = omega arith in
    lex_skip (at + 1) more rest ∙ ap (λ n. lex n 0 rest) place

-- a rest that goes on with no name or number
abbrev pub Breaks : List ℕ → Type 0
Breaks rest = take_while continues_name rest ≡ []

take_one_more : (n b : ℕ) (xs : List ℕ) → take (1 + n) (b ∷ xs) ≡ b ∷ take n xs
take_one_more n b xs = let e : 1 + n ≡ suc n = omega arith in rw e refl

run_all : (more rest : List ℕ) → list_all continues_name more ≡ true → Breaks rest → run (more ++ rest) ≡ more
run_all [] rest all breaks = breaks
run_all (b ∷ more) rest all breaks =
    let parts = and_parts (continues_name b) (list_all continues_name more) all in
    rw parts.0 (take_one_more _ b _ ∙ ap (λ xs. b ∷ xs) (run_all more rest parts.1 breaks))

-- a text is a lexeme, whatever follows that goes on with no name or number
pub record IsLexeme (bytes : List ℕ) (x : Lexeme) : Type 0 where
  pub first : ℕ
  pub more : List ℕ
  pub text : bytes ≡ first ∷ more
  pub seen : is_blank first ≡ false
  pub counted : (first == 35) ≡ false
  pub goes_on : list_all continues_name more ≡ true
  pub munched : (rest : List ℕ) → run rest ≡ more → (munch first rest).lexeme ≡ x
  pub taken : (rest : List ℕ) → run rest ≡ more → (munch first rest).more ≡ length more
  pub good : (others : List Placed) → ends x others ≡ others

lex_first : (first : ℕ) (more rest : List ℕ) (x : Lexeme) (at : ℕ) → is_blank first ≡ false → (first == 35) ≡ false → (munch first (more ++ rest)).lexeme ≡ x → (munch first (more ++ rest)).more ≡ length more → ((others : List Placed) → ends x others ≡ others)
    → lexemes (lex at 0 ((first ∷ more) ++ rest)) ≡ x ∷ lexemes (lex (at + 1 + length more) 0 rest)
unfolding lex
lex_first first more rest x at seen counted munched taken good =
    rw (seen, counted, munched, taken, good (lex (at + 1) (length more) (more ++ rest)), lex_skip (at + 1) more rest) refl

pub lex_one : (text : List ℕ) (x : Lexeme) → IsLexeme text x → (rest : List ℕ) → Breaks rest → (at : ℕ) → lexemes (lex at 0 (text ++ rest)) ≡ x ∷ lexemes (lex (at + length text) 0 rest)
lex_one text x is rest breaks at =
    let runs : run (is.more ++ rest) ≡ is.more = run_all is.more rest is.goes_on breaks in
    let split : lexemes (lex at 0 ((is.first ∷ is.more) ++ rest)) ≡ x ∷ lexemes (lex (at + 1 + length is.more) 0 rest) =
    lex_first is.first is.more rest x at is.seen is.counted (is.munched (is.more ++ rest) runs) (is.taken (is.more ++ rest) runs) is.good in
    let place : at + 1 + length is.more ≡ at + length text = rw is.text (omega arith) in
    ap (λ t. lexemes (lex at 0 (t ++ rest))) is.text ∙ split ∙ ap (λ n. x ∷ lexemes (lex n 0 rest)) place

-- the first byte of a name is no blank, and begins no comment
name_is_seen : (b : ℕ) → starts_name b ≡ true → is_blank b ≡ false
name_is_seen b starts = grind (arith, nat_tests)

name_is_counted : (b : ℕ) → starts_name b ≡ true → (b == 35) ≡ false
name_is_counted b starts = grind (arith, nat_tests)

pub word_is_lexeme : (text : List ℕ) → is_word text ≡ true → IsLexeme text (Word text)
unfolding munch
word_is_lexeme [] word = absurd (false≢true word)
word_is_lexeme (b ∷ more) word =
    let parts = and_parts (starts_name b) (list_all continues_name more) word in
    record {
      first = b;
      more = more;
      text = refl;
      seen = name_is_seen b parts.0;
      counted = name_is_counted b parts.0;
      goes_on = parts.1;
      munched = λ rest runs. rw (parts.0, runs) refl;
      taken = λ rest runs. rw (parts.0, runs) refl;
      good = λ others. refl;
    }

-- a text that writes a number: a digit or a sign, and what goes on with it
pub record IsLiteral (bytes : List ℕ) (z : ℤ) : Type 0 where
  pub first : ℕ
  pub more : List ℕ
  pub text : bytes ≡ first ∷ more
  pub begins : (is_digit first || first == 45) ≡ true
  pub goes_on : list_all continues_name more ≡ true
  pub value : number_of (first ∷ more) ≡ Some z

digit_is_no_name : (b : ℕ) → (is_digit b || b == 45) ≡ true → starts_name b ≡ false
digit_is_no_name b begins = grind (arith, nat_tests)

digit_is_seen : (b : ℕ) → (is_digit b || b == 45) ≡ true → is_blank b ≡ false
digit_is_seen b begins = grind (arith, nat_tests)

digit_is_counted : (b : ℕ) → (is_digit b || b == 45) ≡ true → (b == 35) ≡ false
digit_is_counted b begins = grind (arith, nat_tests)

pub literal_is_lexeme : (text : List ℕ) (z : ℤ) → IsLiteral text z → IsLexeme text (Literal z)
unfolding munch
literal_is_lexeme text z is =
    let no_name : starts_name is.first ≡ false = digit_is_no_name is.first is.begins in
    record {
      first = is.first;
      more = is.more;
      text = is.text;
      seen = digit_is_seen is.first is.begins;
      counted = digit_is_counted is.first is.begins;
      goes_on = is.goes_on;
      munched = λ rest runs. rw (no_name, is.begins, runs, is.value) refl;
      taken = λ rest runs. rw (no_name, is.begins, runs) refl;
      good = λ others. refl;
    }
