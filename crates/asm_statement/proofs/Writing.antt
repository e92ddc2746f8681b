-- Items that are written one by one.
use Rattle.std.proofs.Common.{◌≡◌, ℕ, ◌+◌, ◌<◌, ◌≤◌, Bool, true, false, ◌&&◌, List, [], ◌∷◌, ◌++◌, length, map, drop, get_or, Option, refl, sym, ap, ◌∙◌, append_assoc}
use Rattle.std.specs.Prelude.{fold}
use Rattle.std.specs.List.{list_all}
use Rattle.std.proofs.lemmas.List.{append-nil, drop_all, length-map, map-append}
use Rattle.mb_lex.specs.declared.token.Token.{Token}
use Rattle.mb_lex.specs.Lexemes.{Placed}
use Rattle.mb_lex.specs.Lines.{placed_of}
use Rattle.asm_source.specs.declared.fault.Rule.{Rule}
use Rattle.asm_source.specs.declared.item.Item.TheVariants.{Byte}
use Rattle.asm_source.specs.declared.item.Written.{Written}
use Rattle.asm_statement.specs.declared.directive.Directive.{Directive}
use Rattle.asm_statement.specs.declared.operands.Note.{Note}
use Rattle.asm_statement.specs.declared.values.Head.{Head}
use Rattle.asm_statement.specs.declared.values.Step.TheVariants as step
use Rattle.asm_statement.specs.Directives.{rule_for, takes_count, takes_operand}
use Rattle.asm_statement.specs.Statements.{takes_all}
use Rattle.asm_statement.specs.Labels.{Labels}
use Rattle.asm_statement.specs.Operands.{lexeme_at, noted}
use Rattle.asm_statement.specs.Values.{at_head, items_for, operand_items, text_bytes, text_step}
use Rattle.asm_statement.proofs.Loops.{cut}

-- what is behind is one piece more, which is written now
written_more : (old new piece behind left total : List Written) → old ++ behind ≡ total → behind ≡ piece ++ left → new ≡ old ++ piece → new ++ left ≡ total
written_more old new piece behind left total before split written =
    ap (λ xs. xs ++ left) written ∙ append_assoc old piece left ∙ ap (λ xs. old ++ xs) (sym split) ∙ before

-- nothing is behind
all_written : (old behind total : List Written) → old ++ behind ≡ total → behind ≡ [] → old ≡ total
all_written old behind total before none = sym (append-nil old) ∙ ap (λ xs. old ++ xs) (sym none) ∙ before

-- ---- the bytes of a text

abbrev pub byte_items : Head → List ℕ → List Written
byte_items head bytes = map (at_head head) (map Byte bytes)

pub text_ends : (head : Head) (escaped : Bool) (text : List ℕ) (k : ℕ) (old total : List Written) → k < length text → text_step escaped (get_or text k 0) ≡ step.Ends
    → old ++ byte_items head (text_bytes escaped (drop k text)) ≡ total → old ≡ total
unfolding text_bytes
text_ends head escaped text k old total within is before =
    let none : byte_items head (text_bytes escaped (drop k text)) ≡ [] = rw (cut text k 0 within, is) refl in
    all_written old _ total before none

pub text_escapes : (head : Head) (escaped : Bool) (text : List ℕ) (k : ℕ) (old total : List Written) → k < length text → text_step escaped (get_or text k 0) ≡ step.Escapes
    → old ++ byte_items head (text_bytes escaped (drop k text)) ≡ total → old ++ byte_items head (text_bytes true (drop (k + 1) text)) ≡ total
unfolding text_bytes
text_escapes head escaped text k old total within is before =
    let same : byte_items head (text_bytes escaped (drop k text)) ≡ byte_items head (text_bytes true (drop (k + 1) text)) = rw (cut text k 0 within, is) refl in
    ap (λ xs. old ++ xs) (sym same) ∙ before

pub text_is : (head : Head) (escaped : Bool) (text : List ℕ) (k b : ℕ) (old new total : List Written) → k < length text → text_step escaped (get_or text k 0) ≡ step.Is b
    → old ++ byte_items head (text_bytes escaped (drop k text)) ≡ total → new ≡ old ++ at_head head (Byte b) ∷ [] → new ++ byte_items head (text_bytes false (drop (k + 1) text)) ≡ total
unfolding text_bytes
text_is head escaped text k b old new total within is before written =
    let split : byte_items head (text_bytes escaped (drop k text)) ≡ (at_head head (Byte b) ∷ []) ++ byte_items head (text_bytes false (drop (k + 1) text)) = rw (cut text k 0 within, is) refl in
    written_more old new (at_head head (Byte b) ∷ []) _ _ total before split written

pub text_past : (head : Head) (escaped : Bool) (text : List ℕ) (k : ℕ) (old total : List Written) → length text ≤ k → old ++ byte_items head (text_bytes escaped (drop k text)) ≡ total → old ≡ total
unfolding text_bytes
text_past head escaped text k old total past before =
    let none : byte_items head (text_bytes escaped (drop k text)) ≡ [] = rw (drop_all k text past) refl in
    all_written old _ total before none

-- ---- the operands of a directive

pub operand_more : (head : Head) (labels : Labels) (d : Directive) (line : List ℕ) (ts : List Token) (k : ℕ) (t : Token) (old new total : List Written) → k < length ts
    → old ++ map (at_head head) (items_for labels d (map (placed_of line) (drop k ts))) ≡ total
    → new ≡ old ++ map (at_head head) (operand_items labels d (lexeme_at line (get_or ts k t)))
    → new ++ map (at_head head) (items_for labels d (map (placed_of line) (drop (k + 1) ts))) ≡ total
operand_more head labels d line ts k t old new total within before written =
    let here = operand_items labels d (lexeme_at line (get_or ts k t)) in
    let left = items_for labels d (map (placed_of line) (drop (k + 1) ts)) in
    let split : map (at_head head) (items_for labels d (map (placed_of line) (drop k ts))) ≡ map (at_head head) here ++ map (at_head head) left = rw (cut ts k t within) (map-append (at_head head) here left) in
    written_more old new (map (at_head head) here) _ _ total before split written

pub operands_past : (head : Head) (labels : Labels) (d : Directive) (line : List ℕ) (ts : List Token) (k : ℕ) (old total : List Written) → length ts ≤ k
    → old ++ map (at_head head) (items_for labels d (map (placed_of line) (drop k ts))) ≡ total → old ≡ total
operands_past head labels d line ts k old total past before =
    let none : map (at_head head) (items_for labels d (map (placed_of line) (drop k ts))) ≡ [] = rw (drop_all k ts past) refl in
    all_written old _ total before none

-- ---- their first fault

abbrev pub noted_from : Labels → Directive → Option Note → List Placed → Option Note
noted_from labels d o xs = fold (λ note (p : Placed). noted note (rule_for labels d p.lexeme) p.place) o xs

fault_more : (labels : Labels) (d : Directive) (line : List ℕ) (ts : List Token) (k : ℕ) (t : Token) (o : Option Note) → k < length ts
    → noted_from labels d o (map (placed_of line) (drop k ts))
    ≡ noted_from labels d (noted o (rule_for labels d (lexeme_at line (get_or ts k t))) (placed_of line (get_or ts k t)).place) (map (placed_of line) (drop (k + 1) ts))
fault_more labels d line ts k t o within = rw (cut ts k t within) refl

pub fault_past : (labels : Labels) (d : Directive) (line : List ℕ) (ts : List Token) (k : ℕ) (o : Option Note) → length ts ≤ k → noted_from labels d o (map (placed_of line) (drop k ts)) ≡ o
fault_past labels d line ts k o past = rw (drop_all k ts past) refl

pub fault_step : (labels : Labels) (d : Directive) (line : List ℕ) (ts : List Token) (k : ℕ) (t : Token) (o new : Option Note) (rule : Option Rule) → k < length ts → new ≡ noted o rule (get_or ts k t).from
    → rule ≡ rule_for labels d (lexeme_at line (get_or ts k t)) → noted_from labels d new (map (placed_of line) (drop (k + 1) ts)) ≡ noted_from labels d o (map (placed_of line) (drop k ts))
fault_step labels d line ts k t o new rule within kept is =
    ap (λ n. noted_from labels d n (map (placed_of line) (drop (k + 1) ts))) (kept ∙ ap (λ r. noted o r (get_or ts k t).from) is)
    ∙ sym (fault_more labels d line ts k t o within)

-- a directive takes all tokens where it takes all that they are
pub taken_by_all : (d : Directive) (line : List ℕ) (ts : List Token) → list_all (λ t. takes_operand d (lexeme_at line t)) ts ≡ list_all (λ (p : Placed). takes_operand d p.lexeme) (map (placed_of line) ts)
taken_by_all d line [] = refl
taken_by_all d line (t ∷ ts) = ap (λ b. takes_operand d (lexeme_at line t) && b) (taken_by_all d line ts)

pub taken_with_count : (d : Directive) (line : List ℕ) (ts : List Token) (all : Bool) → takes_count d (length ts) ≡ true → all ≡ list_all (λ t. takes_operand d (lexeme_at line t)) ts → all ≡ takes_all d (map (placed_of line) ts)
taken_with_count d line ts all count is =
    let same : length (map (placed_of line) ts) ≡ length ts = length-map ts (placed_of line) in
    rw (same, count) (is ∙ taken_by_all d line ts)
