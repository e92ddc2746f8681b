-- Operands between commas, from a token on.
use Rattle.std.proofs.Common.{◌≡◌, ℕ, ◌+◌, ◌<◌, ◌≤◌, Bool, true, false, not, ◌||◌, List, [], ◌∷◌, ◌++◌, length, map, drop, get_or, Option, None, Some, refl, sym, ap, ◌∙◌, arith, append_assoc, length-append}
use Rattle.std.specs.Prelude.{if◌then◌else◌}
use Rattle.std.proofs.lemmas.List.{append-nil, drop_all, map-append}
use Rattle.mb_lex.specs.declared.token.Token.{Token}
use Rattle.mb_lex.specs.Lexemes.{Placed}
use Rattle.mb_lex.specs.Lines.{placed_of}
use Rattle.asm_statement.specs.Operands.{before, is_comma, lexeme_at, operands_from, operands_of}
use Rattle.asm_statement.proofs.Loops.{cut}

-- operands behind others that are read already
abbrev pub prepend : List Placed → Option (List Placed) → Option (List Placed)
prepend xs None = None
prepend xs (Some ys) = Some (xs ++ ys)

pub prepend_none : (o : Option (List Placed)) → o ≡ prepend [] o
prepend_none None = refl
prepend_none (Some ys) = refl

one_more : (xs : List Placed) (x : Placed) (o : Option (List Placed)) → prepend xs (before x o) ≡ prepend (xs ++ x ∷ []) o
one_more xs x None = refl
one_more xs x (Some ys) = ap Some (sym (append_assoc xs (x ∷ []) ys))

pub due_read : (comma_due : Bool) (line : List ℕ) (read new ts : List Token) (k : ℕ) (t : Token) → k < length ts
    → (not comma_due || is_comma (lexeme_at line (get_or ts k t))) ≡ true → new ≡ (if comma_due then read else read ++ get_or ts k t ∷ [])
    → prepend (map (placed_of line) read) (operands_from comma_due (map (placed_of line) (drop k ts)))
    ≡ prepend (map (placed_of line) new) (operands_from (not comma_due) (map (placed_of line) (drop (k + 1) ts)))
unfolding operands_from
due_read true line read new ts k t within due added = rw (cut ts k t within, due, added) refl
due_read false line read new ts k t within due added =
    let left = operands_from true (map (placed_of line) (drop (k + 1) ts)) in
    rw (cut ts k t within, added) (one_more (map (placed_of line) read) (placed_of line (get_or ts k t)) left
    ∙ ap (λ xs. prepend xs left) (sym (map-append (placed_of line) read (get_or ts k t ∷ []))))

pub not_due : (comma_due : Bool) (line : List ℕ) (read ts : List Token) (k : ℕ) (t : Token) → k < length ts → (not comma_due || is_comma (lexeme_at line (get_or ts k t))) ≡ false
    → prepend (map (placed_of line) read) (operands_from comma_due (map (placed_of line) (drop k ts))) ≡ None
unfolding operands_from
not_due true line read ts k t within other = rw (cut ts k t within, other) refl
not_due false line read ts k t within other = cc

-- ---- the answers

some_of : (line : List ℕ) (ts : List Token) (ys : List Placed) → operands_from false (map (placed_of line) ts) ≡ Some ys → operands_of (map (placed_of line) ts) ≡ Some ys
unfolding operands_of operands_from
some_of line [] ys is = cc
some_of line (t ∷ ts) ys is = is

pub none_of : (line : List ℕ) (ts : List Token) → 0 < length ts → operands_from false (map (placed_of line) ts) ≡ None → None ≡ operands_of (map (placed_of line) ts)
unfolding operands_of
none_of line [] some is = absurd (omega arith)
none_of line (t ∷ ts) some is = sym is

pub whole : (line : List ℕ) (read ts : List Token) (k : ℕ) (comma_due : Bool) → comma_due ≡ true → length ts ≤ k
    → operands_from false (map (placed_of line) ts) ≡ prepend (map (placed_of line) read) (operands_from comma_due (map (placed_of line) (drop k ts)))
    → Some (map (placed_of line) read) ≡ operands_of (map (placed_of line) ts)
unfolding operands_from
whole line read ts k comma_due due past told =
    let last : operands_from false (map (placed_of line) ts) ≡ Some (map (placed_of line) read) = rw (drop_all k ts past, due) at told ∙ ap Some (append-nil (map (placed_of line) read)) in
    sym (some_of line ts (map (placed_of line) read) last)

pub nothing : (line : List ℕ) (read ts : List Token) → length ts ≡ 0 → length read ≤ 0 → Some (map (placed_of line) read) ≡ operands_of (map (placed_of line) ts)
unfolding operands_of
nothing line [] [] none few = refl
nothing line (r ∷ read) ts none few = absurd (omega arith)
nothing line read (t ∷ ts) none few = absurd (omega arith)

pub cut_short : (line : List ℕ) (read ts : List Token) (k : ℕ) (comma_due : Bool) → comma_due ≡ false → length ts ≤ k
    → operands_from false (map (placed_of line) ts) ≡ prepend (map (placed_of line) read) (operands_from comma_due (map (placed_of line) (drop k ts)))
    → operands_from false (map (placed_of line) ts) ≡ None
unfolding operands_from
cut_short line read ts k comma_due due past told = told ∙ rw (drop_all k ts past, due) refl

-- at most as many are read as tokens are gone through
pub read_fits : (comma_due : Bool) (k : ℕ) (read new : List Token) (t : Token) → length read ≤ k → new ≡ (if comma_due then read else read ++ t ∷ []) → length new ≤ k + 1
read_fits true k read new t few added = let same : length new ≡ length read = ap length added in omega arith
read_fits false k read new t few added = let longer : length new ≡ length read + 1 = ap length added ∙ length-append read (t ∷ []) in omega arith
