-- The bytes of a token.
use Rattle.std.proofs.Common.{◌≡◌, ℕ, zero, suc, ◌+◌, ◌≤◌, true, false, List, [], ◌∷◌, length, take, drop, refl, ap, ◌∙◌, inl, inr, arith, add-zero, subst}
use Rattle.std.proofs.lemmas.Bool.{cases_Bool}
use Rattle.std.specs.Prelude.{IfOk, Result, Ok, Err, Option, Some, None, ℤ, ◌<◌, get_or}
use Rattle.mb_lex.specs.declared.munching.Munched.{Munched}
use Rattle.mb_lex.specs.declared.token.LexRule.{LexRule}
use Rattle.mb_lex.specs.Bytes.{begins_number, continues_name, starts_name}
use Rattle.mb_lex.specs.Lexemes.{lex, munch, run}
use Rattle.mb_lex.specs.Lines.{LiteralOf, Munches, TextOf}
use Rattle.mb_lex.specs.Literals.{number_of, text_end}

one_more : (n b : ℕ) (xs : List ℕ) → take (1 + n) (b ∷ xs) ≡ b ∷ take n xs
one_more n b xs = let e : 1 + n ≡ suc n = omega arith in rw e refl

run_is_front : (rest : List ℕ) → take (length (run rest)) rest ≡ run rest
run_is_front [] = refl
run_is_front (b ∷ rest) = elim (cases_Bool (continues_name b)) [
  | inl goes_on ↦ rw (goes_on, one_more _ b rest) (ap (λ xs. b ∷ xs) (run_is_front rest))
  | inr stops ↦ rw stops refl
]

pub taken : (b : ℕ) (rest : List ℕ) → take (1 + length (run rest)) (b ∷ rest) ≡ b ∷ run rest
taken b rest = one_more (length (run rest)) b rest ∙ ap (λ xs. b ∷ xs) (run_is_front rest)

-- the bytes of a token are passed over
pub lex_drop : (skip at : ℕ) (text : List ℕ) → lex at skip text ≡ lex (at + skip) 0 (drop skip text)
unfolding lex
lex_drop zero at text = rw add-zero refl
lex_drop (suc skip) at [] = refl
lex_drop (suc skip) at (b ∷ text) =
    let place : at + 1 + skip ≡ at + suc skip = omega arith in
    lex_drop skip (at + 1) text ∙ ap (λ n. lex n 0 (drop skip text)) place

literal_cases : (b : ℕ) (rest : List ℕ) (value : Option ℤ) (r : Result Munched LexRule) → number_of (b ∷ run rest) ≡ value → starts_name b ≡ false → begins_number b ≡ true
    → LiteralOf value (1 + length (run rest)) r → length (run rest) ≤ length rest → Munches (b ∷ rest) r
unfolding munch
literal_cases b rest (Some z) (Ok m) value no_name begins is within =
    (rw (no_name, begins, value, is.0) refl, rw (no_name, begins) is.1, rw is.1 (omega arith))
literal_cases b rest None (Err rule) value no_name begins is within = rw (no_name, begins, value, is) refl
literal_cases b rest (Some z) (Err rule) value no_name begins is within = absurd is
literal_cases b rest None (Ok m) value no_name begins is within = absurd is

pub literal_munches : (text : List ℕ) (r : Result Munched LexRule) → 0 < length text → starts_name (get_or text 0 0) ≡ false → begins_number (get_or text 0 0) ≡ true
    → LiteralOf (number_of (take (1 + length (run (drop 1 text))) text)) (1 + length (run (drop 1 text))) r → length (run (drop 1 text)) ≤ length (drop 1 text) → Munches text r
literal_munches [] r some no_name begins is within = absurd (omega arith)
literal_munches (b ∷ rest) r some no_name begins is within =
    let moved : LiteralOf (number_of (b ∷ run rest)) (1 + length (run rest)) r = subst (λ (t : List ℕ). LiteralOf (number_of t) (1 + length (run rest)) r) (taken b rest) is in
    literal_cases b rest (number_of (b ∷ run rest)) r refl no_name begins moved within

pub literal_munches_at : (text : List ℕ) (n : ℕ) (r : Result Munched LexRule) → 0 < length text → starts_name (get_or text 0 0) ≡ false → begins_number (get_or text 0 0) ≡ true
    → (tail : List ℕ) → tail ≡ drop 1 text → n ≡ length (run tail) → n ≤ length tail → LiteralOf (number_of (take (1 + n) text)) (1 + n) r → Munches text r
literal_munches_at text n r some no_name begins tail rest same_run within_tail is =
    let same : n ≡ length (run (drop 1 text)) = rw rest at same_run in
    let within : n ≤ length (drop 1 text) = rw rest at within_tail in
    let fits : length (run (drop 1 text)) ≤ length (drop 1 text) = omega arith in
    let moved : LiteralOf (number_of (take (1 + length (run (drop 1 text))) text)) (1 + length (run (drop 1 text))) r =
    subst (λ (k : ℕ). LiteralOf (number_of (take (1 + k) text)) (1 + k) r) same is in
    literal_munches text r some no_name begins moved fits

-- a quote begins a text
quote_cases : (rest : List ℕ) (end : Option ℕ) (r : Result Munched LexRule) → text_end false rest ≡ end → TextOf end r → IfOk r (λ (m : Munched). m.len ≤ 1 + length rest) → Munches (34 ∷ rest) r
unfolding munch
quote_cases rest (Some n) (Ok m) end is within = (rw (is.0, is.1, end, one_more n 34 rest) refl, rw end is.1, omega (arith, within))
quote_cases rest None (Err rule) end is within = rw (end, is) refl
quote_cases rest (Some n) (Err rule) end is within = absurd is
quote_cases rest None (Ok m) end is within = absurd is

pub quote_munches : (text : List ℕ) (r : Result Munched LexRule) → 0 < length text → get_or text 0 0 ≡ 34 → (tail : List ℕ) → tail ≡ drop 1 text
    → TextOf (text_end false tail) r → IfOk r (λ (m : Munched). m.len ≤ 1 + length tail) → Munches text r
quote_munches [] r some quote tail same is within = absurd (omega arith)
quote_munches (b ∷ rest) r some quote tail same is within =
    let at : (x : ℕ) → x ≡ 34 → Munches (x ∷ rest) r = λ x here. rw here (quote_cases rest (text_end false rest) r refl (rw same at is) (rw same at within)) in
    at b quote
