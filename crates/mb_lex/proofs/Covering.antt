-- Lexemes follow each other and cover the line.
use Rattle.std.proofs.Common.{◌≡◌, ℕ, zero, suc, ◌+◌, ◌≤◌, Bool, true, false, List, [], ◌∷◌, ◌++◌, length, take, get_or, Option, None, Some, refl, sym, ap, ◌∙◌, subst, inl, inr, arith, length-append, append_assoc}
use Rattle.std.specs.Prelude.{◌==◌}
use Rattle.std.specs.Option.{option_map}
use Rattle.std.proofs.lemmas.Bool.{cases_Bool, cases_lt, eqb-true}
use Rattle.mb_lex.specs.Bytes.{begins_number, is_blank, starts_name}
use Rattle.mb_lex.specs.Lexemes.{Bad, Colon, Comma, Lexeme, Literal, Placed, Text, Word, ends, lex, munch, quoted, run}
use Rattle.mb_lex.specs.Literals.{ends_text, escapes, is_in_text, text_end}
use Rattle.mb_lex.specs.Slices.{After, AreBlank, Covers, TokensCover}

-- ---- a lexeme doesn't pass the end

take_fits : (n : ℕ) (text : List ℕ) → length (take n text) ≤ length text
take_fits zero text = omega arith
take_fits (suc n) [] = omega arith
take_fits (suc n) (b ∷ text) = omega (arith, take_fits n text)

run_fits : (text : List ℕ) → length (run text) ≤ length text
run_fits text = take_fits _ text

-- an end is at most so far
abbrev AtMost : ℕ → Option ℕ → Type 0
AtMost n None = Unit {0}
AtMost n (Some k) = k ≤ n

one_more : (n : ℕ) (o : Option ℕ) → AtMost n o → AtMost (suc n) (option_map (λ k. 1 + k) o)
one_more n None fits = tt
one_more n (Some k) fits = omega arith

text_fits : (escaped : Bool) (text : List ℕ) → AtMost (length text) (text_end escaped text)
unfolding text_end
text_fits escaped [] = tt
text_fits escaped (b ∷ text) = elim (cases_Bool (ends_text escaped b)) [
  | inl ends ↦ rw ends (omega arith)
  | inr goes ↦ elim (cases_Bool (is_in_text escaped b)) [
    | inl good ↦ rw (goes, good) (one_more (length text) (text_end (escapes escaped b) text) (text_fits (escapes escaped b) text))
    | inr bad ↦ rw (goes, bad) tt
  ]
]

quoted_fits : (text : List ℕ) (end : Option ℕ) → AtMost (length text) end → (quoted end text).more ≤ length text
quoted_fits text None fits = omega arith
quoted_fits text (Some n) fits = fits

munch_fits : (b : ℕ) (text : List ℕ) → (munch b text).more ≤ length text
unfolding munch
munch_fits b text = elim (cases_Bool (starts_name b)) [
  | inl name ↦ rw name (run_fits text)
  | inr no_name ↦ elim (cases_Bool (begins_number b)) [
    | inl number ↦ rw (no_name, number) (run_fits text)
    | inr no_number ↦ elim (cases_Bool (b == 34)) [
      | inl quote ↦ rw (no_name, no_number, quote) (quoted_fits text (text_end false text) (text_fits false text))
      | inr no_quote ↦ elim (cases_Bool (b == 44)) [
        | inl comma ↦ rw (no_name, no_number, no_quote, comma) (omega arith)
        | inr no_comma ↦ elim (cases_Bool (b == 58)) [
          | inl colon ↦ rw (no_name, no_number, no_quote, no_comma, colon) (omega arith)
          | inr other ↦ rw (no_name, no_number, no_quote, no_comma, other) (omega arith)
        ]
      ]
    ]
  ]
]

-- ---- the whole line, from a place on

byte_at : (front : List ℕ) (b : ℕ) (text : List ℕ) → get_or (front ++ b ∷ text) (length front) 0 ≡ b
byte_at [] b text = refl
byte_at (x ∷ front) b text = byte_at front b text

byte_here : (line front : List ℕ) (b : ℕ) (text : List ℕ) (at : ℕ) → line ≡ front ++ b ∷ text → at ≡ length front → get_or line at 0 ≡ b
byte_here line front b text at split here = rw (split, here) (byte_at front b text)

no_blanks : (line : List ℕ) (at : ℕ) → AreBlank line at at
no_blanks line at k from to = absurd (omega arith)

one_blank_more : (line : List ℕ) (at end : ℕ) → is_blank (get_or line at 0) ≡ true → AreBlank line (at + 1) end → AreBlank line at end
one_blank_more line at end blank blanks k from to = elim (cases_lt at k) [
  | inl later ↦ blanks k (omega arith) to
  | inr here ↦ let same : k ≡ at = omega arith in rw same blank
]

widen : (line : List ℕ) (at : ℕ) (ps : List Placed) → is_blank (get_or line at 0) ≡ true → Covers line (at + 1) ps → Covers line at ps
unfolding Covers
widen line at [] blank covers = record { end = covers.end; blanks = one_blank_more line at covers.end blank covers.blanks; stops = covers.stops }
widen line at (p ∷ ps) blank covers =
    (record { blanks = one_blank_more line at p.place blank covers.0.blanks; order = omega (arith, covers.0.order); some = covers.0.some; within = covers.0.within }, covers.1)

-- behind a bad lexeme nothing is asked
after_ends : (P : List Placed → Type 0) (x : Lexeme) (others : List Placed) → P others → After x (P (ends x others))
after_ends P (Bad rule) others covers = tt
after_ends P (Word bytes) others covers = covers
after_ends P (Literal value) others covers = covers
after_ends P (Text bytes) others covers = covers
after_ends P Comma others covers = covers
after_ends P Colon others covers = covers

covers_from : (line front text : List ℕ) (at skip : ℕ) → line ≡ front ++ text → at ≡ length front → skip ≤ length text → Covers line (at + skip) (lex at skip text)
unfolding Covers lex
covers_from line front [] at skip split here within =
    let whole : length line ≡ length front + 0 = ap length split ∙ length-append front [] in
    record { end = at + skip; blanks = no_blanks line (at + skip); stops = inl (omega arith) }
covers_from line front (b ∷ text) at (suc skip) split here within =
    let longer : length (front ++ b ∷ []) ≡ length front + 1 = length-append front (b ∷ []) in
    let covers : Covers line (at + 1 + skip) (lex (at + 1) skip text) =
    covers_from line (front ++ b ∷ []) text (at + 1) skip (split ∙ sym (append_assoc front (b ∷ []) text)) (omega arith) (omega arith) in
    let place : at + 1 + skip ≡ at + suc skip = omega arith in
    subst (λ n. Covers line n (lex (at + 1) skip text)) place covers
covers_from line front (b ∷ text) at zero split here within =
    let longer : length (front ++ b ∷ []) ≡ length front + 1 = length-append front (b ∷ []) in
    let next : line ≡ (front ++ b ∷ []) ++ text = split ∙ sym (append_assoc front (b ∷ []) text) in
    let whole : length line ≡ length front + suc (length text) = ap length split ∙ length-append front (b ∷ text) in
    let byte : get_or line at 0 ≡ b = byte_here line front b text at split here in
    let none : at + 0 ≡ at = omega arith in
    elim (cases_Bool (is_blank b)) [
      | inl blank ↦
          let covers : Covers line (at + 1 + 0) (lex (at + 1) 0 text) = covers_from line (front ++ b ∷ []) text (at + 1) 0 next (omega arith) (omega arith) in
          let same : at + 1 + 0 ≡ at + 1 = omega arith in
          rw (blank, none) (widen line at (lex (at + 1) 0 text) (ap is_blank byte ∙ blank) (subst (λ n. Covers line n (lex (at + 1) 0 text)) same covers))
      | inr seen ↦ elim (cases_Bool (b == 35)) [
        | inl comment ↦ rw (seen, comment, none) (record { end = at; blanks = no_blanks line at; stops = inr (byte ∙ eqb-true b 35 comment) })
        | inr counted ↦
            let more = (munch b text).more in
            let fits = munch_fits b text in
            let covers : Covers line (at + 1 + more) (lex (at + 1) more text) = covers_from line (front ++ b ∷ []) text (at + 1) more next (omega arith) fits in
            let same : at + 1 + more ≡ at + (1 + more) = omega arith in
            rw (seen, counted, none) (
              record { blanks = no_blanks line at; order = omega arith; some = omega arith; within = omega arith },
              after_ends (Covers line (at + (1 + more))) (munch b text).lexeme (lex (at + 1) more text) (subst (λ n. Covers line n (lex (at + 1) more text)) same covers),
            )
      ]
    ]

pub tokens_cover : TokensCover
tokens_cover line = covers_from line [] line 0 0 refl refl (omega arith)
