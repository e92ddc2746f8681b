-- One token of a line.
use Rattle.std.proofs.Common.{◌≡◌, ℕ, zero, suc, ◌+◌, ◌-◌, ◌<◌, ◌≤◌, ◌==◌, true, false, List, [], ◌∷◌, ◌++◌, length, take, drop, get_or, refl, sym, ap, ◌∙◌, subst, arith, drop-cons, add-one, zero-add, suc-add, append_assoc}
use Rattle.std.specs.Prelude.{map}
use Rattle.std.proofs.lemmas.List.{map-append}
use Rattle.std.specs.Prelude.{Ok}
use Rattle.mb_lex.specs.declared.munching.Munched.{Munched}
use Rattle.mb_lex.specs.declared.token.Token.{Token}
use Rattle.mb_lex.specs.declared.token.TokenKind.{TokenKind}
use Rattle.mb_lex.specs.declared.token.TokenKind.TheVariants as kind
use Rattle.mb_lex.specs.declared.token.LexRule.{LexRule}
use Rattle.mb_lex.specs.declared.token.LexRule.TheVariants.{TooManyTokens}
use Rattle.mb_lex.specs.Lines.{code_of, Adds, IsCause, Munches, Refuses, lexeme_by, munched, placed_of}
use Rattle.mb_lex.specs.Bytes.{is_blank}
use Rattle.mb_lex.specs.Lexemes.{Bad, Lexeme, Placed, ends, lex}
use Rattle.mb_lex.proofs.Munches.{lex_drop}

-- no blank and no comment begins here: a lexeme does
lex_cons : (at b : ℕ) (rest : List ℕ) → is_blank b ≡ false → (b == 35) ≡ false → lex at 0 (b ∷ rest) ≡ record { place = at; len = 1 + (munched (b ∷ rest)).more; lexeme = (munched (b ∷ rest)).lexeme } ∷ ends (munched (b ∷ rest)).lexeme (lex (at + 1) (munched (b ∷ rest)).more rest)
unfolding lex
lex_cons at b rest seen counted = rw (seen, counted) refl

lex_at : (line : List ℕ) (at : ℕ) → at < length line → is_blank (get_or line at 0) ≡ false → (get_or line at 0 == 35) ≡ false
    → lex at 0 (drop at line) ≡ record { place = at; len = 1 + (munched (drop at line)).more; lexeme = (munched (drop at line)).lexeme } ∷ ends (munched (drop at line)).lexeme (lex (at + 1) (munched (drop at line)).more (drop (at + 1) line))
lex_at line at within seen counted =
    let cut : drop at line ≡ get_or line at 0 ∷ drop (at + 1) line = drop-cons line at 0 within ∙ ap (λ n. get_or line at 0 ∷ drop n line) (sym (add-one at)) in
    rw cut (lex_cons at (get_or line at 0) (drop (at + 1) line) seen counted)

good_ends : (bytes : List ℕ) (k : TokenKind) (others : List Placed) → ends (lexeme_by bytes k) others ≡ others
good_ends bytes kind.Word others = refl
good_ends bytes (kind.Number value) others = refl
good_ends bytes kind.Text others = refl
good_ends bytes kind.Comma others = refl
good_ends bytes kind.Colon others = refl

good_cause : (count : ℕ) (bytes : List ℕ) (k : TokenKind) (code : ℕ) → count ≡ 40 → code ≡ code_of TooManyTokens → IsCause count (lexeme_by bytes k) code
good_cause count bytes kind.Word code full coded = (full, coded)
good_cause count bytes (kind.Number value) code full coded = (full, coded)
good_cause count bytes kind.Text code full coded = (full, coded)
good_cause count bytes kind.Comma code full coded = (full, coded)
good_cause count bytes kind.Colon code full coded = (full, coded)

pub refused_bad : (line : List ℕ) (at code : ℕ) (rule : LexRule) (tokens : List Token) (text : List ℕ) → text ≡ drop at line → at < length line → is_blank (get_or line at 0) ≡ false → (get_or line at 0 == 35) ≡ false
    → (munched text).lexeme ≡ Bad rule → code ≡ code_of rule → Refuses line at tokens (record { code = code; column = at + 1 })
refused_bad line at code rule tokens text same within seen counted bad coded =
    let here : (munched (drop at line)).lexeme ≡ Bad rule = rw same at bad in
    record {
      cause = record { place = at; len = 1 + (munched (drop at line)).more; lexeme = Bad rule };
      rest = [];
      lexed = lex_at line at within seen counted ∙ rw here refl;
      code = coded;
      column = refl;
    }

pub refused_full : (line : List ℕ) (at code : ℕ) → code ≡ code_of TooManyTokens → (tokens : List Token) (text : List ℕ) (m : Munched) → text ≡ drop at line → at < length line → is_blank (get_or line at 0) ≡ false → (get_or line at 0 == 35) ≡ false
    → Munches text (Ok m) → length tokens ≡ 40 → Refuses line at tokens (record { code = code; column = at + 1 })
refused_full line at code coded tokens text m same within seen counted is full =
    let here : (munched (drop at line)).lexeme ≡ lexeme_by (take m.len (drop at line)) m.kind = rw same at is.0 in
    record {
      cause = record { place = at; len = 1 + (munched (drop at line)).more; lexeme = (munched (drop at line)).lexeme };
      rest = ends (munched (drop at line)).lexeme (lex (at + 1) (munched (drop at line)).more (drop (at + 1) line));
      lexed = lex_at line at within seen counted;
      code = let P : Lexeme → Type 0 = λ x. IsCause (length tokens) x code in subst P (sym here) (good_cause (length tokens) (take m.len (drop at line)) m.kind code full coded);
      column = refl;
    }

drop_none : (m : ℕ) → let none : List ℕ = [] in drop m none ≡ []
drop_none zero = refl
drop_none (suc m) = refl

drop_plus : (m n : ℕ) (xs : List ℕ) → drop m (drop n xs) ≡ drop (n + m) xs
drop_plus m zero xs = rw zero-add refl
drop_plus m (suc n) [] = drop_none m ∙ sym (drop_none (suc n + m))
drop_plus m (suc n) (x ∷ xs) = rw suc-add (drop_plus m n xs)

pub added_token : (line : List ℕ) (at : ℕ) (old : List Token) (text : List ℕ) (m : Munched) → text ≡ drop at line → at < length line → is_blank (get_or line at 0) ≡ false → (get_or line at 0 == 35) ≡ false
    → Munches text (Ok m) → length text + at ≡ length line → Adds line at old (old ++ record { kind = m.kind; from = at; to = at + m.len } ∷ []) (at + m.len)
added_token line at old text m same within seen counted is len =
    let bytes : List ℕ = take m.len (drop at line) in
    let here : (munched (drop at line)).lexeme ≡ lexeme_by bytes m.kind = rw same at is.0 in
    let more : m.len ≡ 1 + (munched (drop at line)).more = rw same at is.1 in
    let next : at + 1 + (munched (drop at line)).more ≡ at + m.len = omega arith in
    let behind : lex (at + 1) (munched (drop at line)).more (drop (at + 1) line) ≡ lex (at + m.len) 0 (drop (at + m.len) line) =
    lex_drop (munched (drop at line)).more (at + 1) (drop (at + 1) line)
    ∙ ap (lex (at + 1 + (munched (drop at line)).more) 0) (drop_plus (munched (drop at line)).more (at + 1) line)
    ∙ ap (λ n. lex n 0 (drop n line)) next in
    let as_long : ℕ → List Placed = λ n. record { place = at; len = n; lexeme = lexeme_by bytes m.kind } ∷ lex (at + m.len) 0 (drop (at + m.len) line) in
    let span : at + m.len - at ≡ m.len = omega arith in
    record {
      token = record { kind = m.kind; from = at; to = at + m.len };
      added = refl;
      lexed = lex_at line at within seen counted ∙ rw (here, good_ends bytes m.kind (lex (at + 1) (munched (drop at line)).more (drop (at + 1) line)), behind, span) (ap as_long (sym more));
      later = omega arith;
      within = omega (arith, is.2);
    }

drop_all : (xs : List ℕ) (n : ℕ) → length xs ≤ n → drop n xs ≡ []
drop_all [] n past = drop_none n
drop_all (x ∷ xs) zero past = absurd (omega arith)
drop_all (x ∷ xs) (suc n) past = drop_all xs n (omega arith)

pub blank_skipped : (line : List ℕ) (at : ℕ) → at < length line → is_blank (get_or line at 0) ≡ true → lex at 0 (drop at line) ≡ lex (at + 1) 0 (drop (at + 1) line)
unfolding lex
blank_skipped line at within blank =
    let cut : drop at line ≡ get_or line at 0 ∷ drop (at + 1) line = drop-cons line at 0 within ∙ ap (λ n. get_or line at 0 ∷ drop n line) (sym (add-one at)) in
    rw (cut, blank) refl

pub comment_ends : (line : List ℕ) (at : ℕ) → at < length line → is_blank (get_or line at 0) ≡ false → (get_or line at 0 == 35) ≡ true → lex at 0 (drop at line) ≡ []
unfolding lex
comment_ends line at within seen comment =
    let cut : drop at line ≡ get_or line at 0 ∷ drop (at + 1) line = drop-cons line at 0 within ∙ ap (λ n. get_or line at 0 ∷ drop n line) (sym (add-one at)) in
    rw (cut, seen, comment) refl

pub line_ends : (line : List ℕ) (at : ℕ) → length line ≤ at → lex at 0 (drop at line) ≡ []
unfolding lex
line_ends line at past = rw (drop_all line at past) refl

-- one token more behind those so far
pub token_more : (line : List ℕ) (at next : ℕ) (old new : List Token) → lex 0 0 line ≡ map (placed_of line) old ++ lex at 0 (drop at line) → Adds line at old new next
    → lex 0 0 line ≡ map (placed_of line) new ++ lex next 0 (drop next line)
token_more line at next old new split adds =
    split ∙ ap (λ xs. map (placed_of line) old ++ xs) adds.lexed
    ∙ sym (append_assoc (map (placed_of line) old) (placed_of line adds.token ∷ []) (lex next 0 (drop next line)))
    ∙ ap (λ xs. xs ++ lex next 0 (drop next line)) (sym (map-append (placed_of line) old (adds.token ∷ [])) ∙ ap (map (placed_of line)) (sym adds.added))
