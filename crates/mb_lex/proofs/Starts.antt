-- The good lexemes with which a line begins, and the fault behind them.
use Rattle.std.proofs.Common.{◌≡◌, ℕ, zero, suc, ◌+◌, ◌-◌, ◌≤◌, true, List, [], ◌∷◌, ◌++◌, length, take, drop, None, Some, refl, sym, ap, ◌∙◌, arith}
use Rattle.std.specs.Prelude.{map}
use Rattle.std.proofs.lemmas.List.{append-nil}
use Rattle.mb_lex.specs.declared.token.LexFault.{LexFault}
use Rattle.mb_lex.specs.declared.token.LexRule.{LexRule}
use Rattle.mb_lex.specs.declared.token.Token.{Token}
use Rattle.mb_lex.specs.declared.token.TokenKind.{TokenKind}
use Rattle.mb_lex.specs.declared.token.TokenKind.TheVariants as kind
use Rattle.mb_lex.specs.Lexemes.{Bad, Colon, Comma, Lexeme, Literal, Placed, Text, Word, lex}
use Rattle.mb_lex.specs.Lines.{IsCause, Refuses, code_of, first_fault, first_good, is_good, lexeme_by, placed_of, rule_of}

good_token : (bytes : List ℕ) (k : TokenKind) → is_good (lexeme_by bytes k) ≡ true
good_token bytes kind.Word = refl
good_token bytes (kind.Number value) = refl
good_token bytes kind.Text = refl
good_token bytes kind.Comma = refl
good_token bytes kind.Colon = refl

good_front : (line : List ℕ) (ts : List Token) (room : ℕ) (rest : List Placed) → length ts ≤ room → first_good room (map (placed_of line) ts ++ rest) ≡ map (placed_of line) ts ++ first_good (room - length ts) rest
unfolding first_good
good_front line [] room rest few = let same : room ≡ room - 0 = omega arith in ap (λ n. first_good n rest) same
good_front line (t ∷ ts) zero rest few = absurd (omega arith)
good_front line (t ∷ ts) (suc room) rest few =
    let less : suc room - suc (length ts) ≡ room - length ts = omega arith in
    rw (good_token (take (t.to - t.from) (drop t.from line)) t.kind, less) (ap (λ ps. placed_of line t ∷ ps) (good_front line ts room rest (omega arith)))

fault_front : (line : List ℕ) (ts : List Token) (room : ℕ) (rest : List Placed) → length ts ≤ room → first_fault room (map (placed_of line) ts ++ rest) ≡ first_fault (room - length ts) rest
unfolding first_fault
fault_front line [] room rest few = let same : room ≡ room - 0 = omega arith in ap (λ n. first_fault n rest) same
fault_front line (t ∷ ts) zero rest few = absurd (omega arith)
fault_front line (t ∷ ts) (suc room) rest few =
    let less : suc room - suc (length ts) ≡ room - length ts = omega arith in
    rw (good_token (take (t.to - t.from) (drop t.from line)) t.kind, less) (fault_front line ts room rest (omega arith))

-- ---- a line whose lexemes are all tokens

nothing_good : (room : ℕ) → first_good room [] ≡ []
unfolding first_good
nothing_good room = refl

nothing_bad : (room : ℕ) → first_fault room [] ≡ None
unfolding first_fault
nothing_bad room = refl

pub all_tokens : (line : List ℕ) (ts : List Token) (left : List Placed) → length ts ≤ 40 → lex 0 0 line ≡ map (placed_of line) ts ++ left → left ≡ [] → map (placed_of line) ts ≡ lex 0 0 line
all_tokens line ts left few split none = sym (split ∙ ap (λ xs. map (placed_of line) ts ++ xs) none ∙ append-nil _)

pub all_good : (line : List ℕ) (ts : List Token) (left : List Placed) → length ts ≤ 40 → lex 0 0 line ≡ map (placed_of line) ts ++ left → left ≡ [] → map (placed_of line) ts ≡ first_good 40 (lex 0 0 line)
all_good line ts left few split none =
    sym (ap (first_good 40) split ∙ good_front line ts 40 left few ∙ ap (λ xs. map (placed_of line) ts ++ xs) (ap (first_good (40 - length ts)) none ∙ nothing_good (40 - length ts)) ∙ append-nil _)

pub no_fault : (line : List ℕ) (ts : List Token) (left : List Placed) → length ts ≤ 40 → lex 0 0 line ≡ map (placed_of line) ts ++ left → left ≡ [] → None ≡ first_fault 40 (lex 0 0 line)
no_fault line ts left few split none =
    sym (ap (first_fault 40) split ∙ fault_front line ts 40 left few ∙ ap (first_fault (40 - length ts)) none ∙ nothing_bad (40 - length ts))

-- ---- a line that is refused behind its tokens

bad_stops : (room place len : ℕ) (rule : LexRule) (rest : List Placed) → first_good room (record { place = place; len = len; lexeme = Bad rule } ∷ rest) ≡ []
unfolding first_good
bad_stops zero place len rule rest = refl
bad_stops (suc room) place len rule rest = refl

bad_is_fault : (room place len : ℕ) (rule : LexRule) (rest : List Placed) → first_fault room (record { place = place; len = len; lexeme = Bad rule } ∷ rest) ≡ Some (record { code = code_of rule; column = place + 1 })
unfolding first_fault
bad_is_fault zero place len rule rest = refl
bad_is_fault (suc room) place len rule rest = refl

full_stops : (p : Placed) (rest : List Placed) → first_good 0 (p ∷ rest) ≡ []
unfolding first_good
full_stops p rest = refl

full_is_fault : (p : Placed) (rest : List Placed) → first_fault 0 (p ∷ rest) ≡ Some (record { code = code_of (rule_of p.lexeme); column = p.place + 1 })
unfolding first_fault
full_is_fault p rest = refl

same_fault : (f : LexFault) (code column : ℕ) → f.code ≡ code → f.column ≡ column → let made : LexFault = record { code = code; column = column } in Some made ≡ Some f
same_fault f code column same at = λ i. Some (record { code = sym same i; column = sym at i })

-- none of what is behind the tokens is good, and the fault is this one
record Stops (count : ℕ) (p : Placed) (rest : List Placed) (f : LexFault) : Type 0 where
  good : first_good (40 - count) (p ∷ rest) ≡ []
  fault : first_fault (40 - count) (p ∷ rest) ≡ Some f

when_full : (count : ℕ) (p : Placed) (rest : List Placed) (f : LexFault) → count ≡ 40 → f.code ≡ code_of (rule_of p.lexeme) → f.column ≡ p.place + 1 → Stops count p rest f
when_full count p rest f full code column =
    let none : 40 - count ≡ 0 = omega arith in
    record {
      good = ap (λ n. first_good n (p ∷ rest)) none ∙ full_stops p rest;
      fault = ap (λ n. first_fault n (p ∷ rest)) none ∙ full_is_fault p rest ∙ same_fault f (code_of (rule_of p.lexeme)) (p.place + 1) code column;
    }

stops : (count place len : ℕ) (x : Lexeme) (rest : List Placed) (f : LexFault) → IsCause count x f.code → f.column ≡ place + 1 → Stops count (record { place = place; len = len; lexeme = x }) rest f
stops count place len (Bad rule) rest f code column = record {
  good = bad_stops (40 - count) place len rule rest;
  fault = bad_is_fault (40 - count) place len rule rest ∙ same_fault f (code_of rule) (place + 1) code column;
}
stops count place len (Word bytes) rest f cause column = when_full count _ rest f cause.0 cause.1 column
stops count place len (Literal value) rest f cause column = when_full count _ rest f cause.0 cause.1 column
stops count place len (Text bytes) rest f cause column = when_full count _ rest f cause.0 cause.1 column
stops count place len Comma rest f cause column = when_full count _ rest f cause.0 cause.1 column
stops count place len Colon rest f cause column = when_full count _ rest f cause.0 cause.1 column

stops_at : (line : List ℕ) (at : ℕ) (ts : List Token) (f : LexFault) (r : Refuses line at ts f) → Stops (length ts) r.cause r.rest f
stops_at line at ts f r = stops (length ts) r.cause.place r.cause.len r.cause.lexeme r.rest f r.code r.column

pub refused_good : (line : List ℕ) (at : ℕ) (ts : List Token) (f : LexFault) → length ts ≤ 40 → lex 0 0 line ≡ map (placed_of line) ts ++ lex at 0 (drop at line) → Refuses line at ts f → map (placed_of line) ts ≡ first_good 40 (lex 0 0 line)
refused_good line at ts f few split r =
    sym (ap (first_good 40) split ∙ good_front line ts 40 _ few ∙ ap (λ xs. map (placed_of line) ts ++ first_good (40 - length ts) xs) r.lexed
    ∙ ap (λ xs. map (placed_of line) ts ++ xs) (stops_at line at ts f r).good ∙ append-nil _)

pub refused_fault : (line : List ℕ) (at : ℕ) (ts : List Token) (f : LexFault) → length ts ≤ 40 → lex 0 0 line ≡ map (placed_of line) ts ++ lex at 0 (drop at line) → Refuses line at ts f → Some f ≡ first_fault 40 (lex 0 0 line)
refused_fault line at ts f few split r =
    sym (ap (first_fault 40) split ∙ fault_front line ts 40 _ few ∙ ap (first_fault (40 - length ts)) r.lexed ∙ (stops_at line at ts f r).fault)
