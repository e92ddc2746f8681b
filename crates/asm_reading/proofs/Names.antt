-- The labels of a line, one by one.
use Rattle.std.proofs.Common.{◌≡◌, ℕ, ◌+◌, ◌<◌, ◌≤◌, true, false, List, [], ◌∷◌, length, map, drop, get_or, Option, refl, sym, ap, ◌∙◌, arith, length-drop}
use Rattle.std.proofs.lemmas.List.Sums.{fold-append}
use Rattle.mb_lex.specs.declared.token.Token.{Token}
use Rattle.mb_lex.specs.Lines.{placed_of}
use Rattle.asm_source.specs.declared.fault.Fault.{Fault}
use Rattle.asm_source.specs.Faults.{least_after, lesser}
use Rattle.asm_statement.specs.Labels.{Labels}
use Rattle.asm_statement.specs.Operands.{lexeme_at}
use Rattle.asm_statement.proofs.Loops.{cut}
use Rattle.asm_reading.specs.Marks.{all_defined, all_name_faults, behind_names, defined, is_label, name_faults, name_in, names_before}

-- the two tokens of a label
two : (ts : List Token) (k : ℕ) (t : Token) → k + 1 < length ts → drop k ts ≡ get_or ts k t ∷ get_or ts (k + 1) t ∷ drop (k + 2) ts
two ts k t within =
    let next : k + 1 + 1 ≡ k + 2 = omega arith in
    cut ts k t (omega arith) ∙ ap (λ xs. get_or ts k t ∷ xs) (cut ts (k + 1) t within ∙ ap (λ n. get_or ts (k + 1) t ∷ drop n ts) next)

module _ (line : List ℕ) (ts : List Token) (k : ℕ) (t : Token) (within : k + 1 < length ts) where
  name_more : is_label (lexeme_at line (get_or ts k t)) (lexeme_at line (get_or ts (k + 1) t)) ≡ true
      → names_before (map (placed_of line) (drop k ts)) ≡ placed_of line (get_or ts k t) ∷ names_before (map (placed_of line) (drop (k + 2) ts))
  unfolding names_before
  name_more is = rw (two ts k t within, is) refl

  pub behind_more : is_label (lexeme_at line (get_or ts k t)) (lexeme_at line (get_or ts (k + 1) t)) ≡ true
      → behind_names (map (placed_of line) (drop (k + 2) ts)) ≡ behind_names (map (placed_of line) (drop k ts))
  unfolding behind_names
  behind_more is = rw (two ts k t within, is) refl

  pub no_name : is_label (lexeme_at line (get_or ts k t)) (lexeme_at line (get_or ts (k + 1) t)) ≡ false → names_before (map (placed_of line) (drop k ts)) ≡ []
  unfolding names_before
  no_name is = rw (two ts k t within, is) refl

  pub behind_none : is_label (lexeme_at line (get_or ts k t)) (lexeme_at line (get_or ts (k + 1) t)) ≡ false → map (placed_of line) (drop k ts) ≡ behind_names (map (placed_of line) (drop k ts))
  unfolding behind_names
  behind_none is = rw (two ts k t within, is) refl

  pub label_more : (labels new : Labels) (item : ℕ) → is_label (lexeme_at line (get_or ts k t)) (lexeme_at line (get_or ts (k + 1) t)) ≡ true
      → new ≡ defined labels (name_in (lexeme_at line (get_or ts k t))) item
      → all_defined new item (names_before (map (placed_of line) (drop (k + 2) ts))) ≡ all_defined labels item (names_before (map (placed_of line) (drop k ts)))
  unfolding all_defined
  label_more labels new item is added =
      ap (λ f. all_defined f item (names_before (map (placed_of line) (drop (k + 2) ts)))) added ∙ ap (λ xs. all_defined labels item xs) (sym (name_more is))

  pub fault_more : (labels new : Labels) (number item : ℕ) (first next : Option Fault) → is_label (lexeme_at line (get_or ts k t)) (lexeme_at line (get_or ts (k + 1) t)) ≡ true
      → new ≡ defined labels (name_in (lexeme_at line (get_or ts k t))) item → next ≡ least_after first (name_faults labels number (placed_of line (get_or ts k t)))
      → least_after next (all_name_faults new number item (names_before (map (placed_of line) (drop (k + 2) ts))))
      ≡ least_after first (all_name_faults labels number item (names_before (map (placed_of line) (drop k ts))))
  unfolding all_name_faults
  fault_more labels new number item first next is added noted =
      let left = names_before (map (placed_of line) (drop (k + 2) ts)) in
      let here = name_faults labels number (placed_of line (get_or ts k t)) in
      ap (λ f. least_after next (all_name_faults f number item left)) added
      ∙ ap (λ o. least_after o (all_name_faults (defined labels (name_in (lexeme_at line (get_or ts k t))) item) number item left)) noted
      ∙ sym (fold-append lesser first here (all_name_faults (defined labels (name_in (lexeme_at line (get_or ts k t))) item) number item left))
      ∙ ap (λ xs. least_after first (all_name_faults labels number item xs)) (sym (name_more is))

pub short : (ts : List Token) (k : ℕ) → length ts ≤ k + 1 → length (drop k ts) ≤ 1
short ts k few = omega (arith, length-drop k ts)

pub few_names : (line : List ℕ) (ts : List Token) → length ts ≤ 1 → names_before (map (placed_of line) ts) ≡ []
unfolding names_before
few_names line [] few = refl
few_names line (t ∷ []) few = refl
few_names line (t ∷ u ∷ ts) few = absurd (omega arith)

pub few_behind : (line : List ℕ) (ts : List Token) → length ts ≤ 1 → map (placed_of line) ts ≡ behind_names (map (placed_of line) ts)
unfolding behind_names
few_behind line [] few = refl
few_behind line (t ∷ []) few = refl
few_behind line (t ∷ u ∷ ts) few = absurd (omega arith)

-- no label is left
pub none_defined : (labels : Labels) (item : ℕ) (line : List ℕ) (ts : List Token) → names_before (map (placed_of line) ts) ≡ [] → all_defined labels item (names_before (map (placed_of line) ts)) ≡ labels
unfolding all_defined
none_defined labels item line ts none = rw none refl

pub none_noted : (labels : Labels) (number item : ℕ) (first : Option Fault) (line : List ℕ) (ts : List Token) → names_before (map (placed_of line) ts) ≡ []
    → least_after first (all_name_faults labels number item (names_before (map (placed_of line) ts))) ≡ first
unfolding all_name_faults
none_noted labels number item first line ts none = rw none refl
