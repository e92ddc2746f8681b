-- The instructions of a source without a fault have words.
use Rattle.std.proofs.Common.{◌≡◌, ℕ, ◌+◌, List, [], ◌∷◌, ◌++◌, length, map, Option, None, Some, refl, sym, ap, subst, ◌∙◌}
use Rattle.std.specs.Prelude.{is_some, not}
use Rattle.std.specs.List.{All}
use Rattle.mb_lex.specs.Lexemes.{lex}
use Rattle.mb_lex.specs.Lines.{first_fault, first_good}
use Rattle.asm_source.specs.declared.fault.Fault.{Fault}
use Rattle.asm_source.specs.declared.item.Written.{Written}
use Rattle.asm_source.specs.Faults.{comes_first, least_after, lesser}
use Rattle.asm_source.specs.Source.{HasWord}
use Rattle.asm_source.proofs.Faultless.{none_right}
use Rattle.asm_source.proofs.Lists.{Every, all_every, either, every_append, every_map}
use Rattle.asm_statement.specs.declared.operands.Note.{Note}
use Rattle.asm_statement.specs.Labels.{Labels}
use Rattle.asm_statement.specs.Statements.{statement}
use Rattle.asm_statement.specs.Values.{at_head}
use Rattle.asm_statement.proofs.Telling.{statement_words}
use Rattle.asm_reading.specs.Lines.{lines_of}
use Rattle.asm_reading.specs.Marks.{all_name_faults, behind_names, names_before}
use Rattle.asm_reading.specs.Reading.{Read, head_of, lex_faults, line_read, lines_read, note_faults, nothing_read}

-- ---- what is noted is kept

noted_stays : (o : Option Fault) (f : Fault) → lesser o f ≡ None → ⊥
noted_stays None f none = cc
noted_stays (Some g) f none = either (λ (o : Option Fault). o ≡ None → ⊥) (comes_first f g) (Some f) (Some g) (λ e. cc) (λ e. cc) none

none_noted : (o : Option Fault) (fs : List Fault) → least_after o fs ≡ None → (o ≡ None) × (fs ≡ [])
none_noted o [] none = (none, refl)
none_noted o (f ∷ fs) none = absurd (noted_stays o f (none_noted (lesser o f) fs none).0)

no_note : (number : ℕ) (note : Option Note) → note_faults number note ≡ [] → note ≡ None
no_note number None none = refl
no_note number (Some note) none = cc

-- ---- lines

abbrev HaveWords : Read → Type 0
HaveWords r = r.first ≡ None → Every (λ (w : Written). HasWord w.item) r.items

line_words : (labels : Labels) (number : ℕ) (line : List ℕ) (r : Read) → HaveWords r → HaveWords (line_read labels number line r)
unfolding line_read
line_words labels number line r words = λ none.
    let xs = first_good 40 (lex 0 0 line) in
    let fault = first_fault 40 (lex 0 0 line) in
    let told = statement labels r.after_imm (not (is_some fault)) (behind_names xs) in
    let head = head_of number (behind_names xs) in
    let before = none_noted r.first (lex_faults number fault ++ all_name_faults r.labels number (length r.items) (names_before xs) ++ note_faults number told.rest.fault) none in
    let clean = no_note number told.rest.fault (none_right _ (note_faults number told.rest.fault) before.1) in
    every_append (λ (w : Written). HasWord w.item) r.items (map (at_head head) told.items) (words before.0)
    (every_map (λ (w : Written). HasWord w.item) (at_head head) told.items (statement_words labels r.after_imm (not (is_some fault)) (behind_names xs) clean))

lines_words : (labels : Labels) (number : ℕ) (lines : List (List ℕ)) (r : Read) → HaveWords r → HaveWords (lines_read labels number lines r)
unfolding lines_read
lines_words labels number [] r words = words
lines_words labels number (line ∷ lines) r words = lines_words labels (number + 1) lines (line_read labels number line r) (line_words labels number line r words)

pub source_words : (labels : Labels) (source : List ℕ) (start r : Read) → start ≡ nothing_read → r ≡ lines_read labels 1 (lines_of source) start → r.first ≡ None → All (λ (w : Written). HasWord w.item) r.items
source_words labels source start r none read sound =
    let whole : r ≡ lines_read labels 1 (lines_of source) nothing_read = read ∙ ap (lines_read labels 1 (lines_of source)) none in
    let words = lines_words labels 1 (lines_of source) nothing_read (λ e. tt) (sym (ap (λ (s : Read). s.first) whole) ∙ sound) in
    all_every (λ (w : Written). HasWord w.item) r.items (subst (λ (s : Read). Every (λ (w : Written). HasWord w.item) s.items) (sym whole) words)
