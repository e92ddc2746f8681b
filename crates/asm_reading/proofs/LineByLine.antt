-- A source is read line by line.
use Rattle.std.proofs.Common.{◌≡◌, ℕ, zero, suc, ◌+◌, ◌<◌, ◌≤◌, List, [], ◌∷◌, length, drop, refl, sym, ap, ◌∙◌, arith, add-one, length-drop}
use Rattle.std.proofs.lemmas.List.{drop-drop, drop_all}
use Rattle.asm_statement.specs.Labels.{Labels}
use Rattle.asm_reading.specs.Lines.{first_line, line_len, lines_from, lines_of}
use Rattle.asm_reading.specs.Reading.{Read, line_read, lines_read}

skipped : (skip : ℕ) (text : List ℕ) → lines_from skip text ≡ lines_from 0 (drop skip text)
unfolding lines_from
skipped zero text = refl
skipped (suc skip) [] = refl
skipped (suc skip) (b ∷ text) = skipped skip text

at_front : (text : List ℕ) → 0 < length text → lines_of text ≡ first_line text ∷ lines_of (drop (suc (line_len text)) text)
unfolding lines_from
at_front [] some = absurd (omega arith)
at_front (b ∷ text) some = ap (λ ls. first_line (b ∷ text) ∷ ls) (skipped (line_len (b ∷ text)) text)

next_line : (source : List ℕ) (at len : ℕ) → at < length source → len ≡ line_len (drop at source) → lines_of (drop at source) ≡ first_line (drop at source) ∷ lines_of (drop (at + (len + 1)) source)
next_line source at len within is =
    at_front (drop at source) (omega (arith, length-drop at source))
    ∙ ap (λ n. first_line (drop at source) ∷ lines_of (drop (suc n) (drop at source))) (sym is)
    ∙ ap (λ text. first_line (drop at source) ∷ lines_of text) (drop-drop (suc len) at source ∙ ap (λ n. drop (at + n) source) (sym (add-one len)))

pub next_read : (labels : Labels) (number : ℕ) (source line : List ℕ) (at len : ℕ) (r new : Read) → at < length source → len ≡ line_len (drop at source) → line ≡ first_line (drop at source)
    → new ≡ line_read labels number line r
    → lines_read labels (number + 1) (lines_of (drop (at + (len + 1)) source)) new ≡ lines_read labels number (lines_of (drop at source)) r
unfolding lines_read
next_read labels number source line at len r new within is here read =
    let left = lines_of (drop (at + (len + 1)) source) in
    ap (λ s. lines_read labels (number + 1) left s) (read ∙ ap (λ l. line_read labels number l r) here)
    ∙ ap (λ ls. lines_read labels number ls r) (sym (next_line source at len within is))

pub all_read : (labels : Labels) (number : ℕ) (source : List ℕ) (at : ℕ) (r : Read) → length source ≤ at → lines_read labels number (lines_of (drop at source)) r ≡ r
unfolding lines_read lines_from
all_read labels number source at r past = rw (drop_all at source past) refl
