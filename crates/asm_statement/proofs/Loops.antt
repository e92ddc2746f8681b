-- Operands that are gone through one by one.
use Rattle.std.proofs.Common.{◌≡◌, ◌≢◌, ℕ, suc, ◌+◌, ◌<◌, ◌≤◌, Bool, true, false, ◌&&◌, List, [], ◌∷◌, length, map, drop, get_or, refl, sym, ap, ◌∙◌, drop-cons, add-one}
use Rattle.std.proofs.lemmas.List.{drop_all}
use Rattle.op_table.specs.declared.op.Op.{Op}
use Rattle.mb_lex.specs.declared.token.Token.{Token}
use Rattle.mb_lex.specs.Lines.{placed_of}
use Rattle.asm_syntax.specs.declared.slot.Slot.{Slot}
use Rattle.asm_statement.specs.declared.operands.Operation.{Operation}
use Rattle.asm_statement.specs.Labels.{Labels}
use Rattle.asm_statement.specs.Operands.{lexeme_at, take_all, takes, with_all, with_token}

pub cut : {X : Type 0} (xs : List X) (k : ℕ) (d : X) → k < length xs → drop k xs ≡ get_or xs k d ∷ drop (k + 1) xs
cut xs k d within = drop-cons xs k d within ∙ ap (λ n. get_or xs k d ∷ drop n xs) (sym (add-one k))

-- ---- each operand takes its token

pub not_as_many : (name : Op) (after_imm : Bool) (line : List ℕ) (ss : List Slot) (ts : List Token) → length ts ≢ length ss → false ≡ take_all name after_imm ss (map (placed_of line) ts)
unfolding take_all
not_as_many name after_imm line [] [] differ = absurd (differ refl)
not_as_many name after_imm line [] (t ∷ ts) differ = refl
not_as_many name after_imm line (s ∷ ss) [] differ = refl
not_as_many name after_imm line (s ∷ ss) (t ∷ ts) differ = elim (takes s name after_imm (lexeme_at line t)) as (λ b. false ≡ (b && take_all name after_imm ss (map (placed_of line) ts))) [
  | true ↦ not_as_many name after_imm line ss ts (λ same. differ (ap suc same))
  | false ↦ refl
]

pub takes_next : (name : Op) (after_imm : Bool) (line : List ℕ) (ss : List Slot) (ts : List Token) (k : ℕ) (s : Slot) (t : Token) → k < length ss → k < length ts → takes (get_or ss k s) name after_imm (lexeme_at line (get_or ts k t)) ≡ true
    → take_all name after_imm (drop k ss) (map (placed_of line) (drop k ts)) ≡ take_all name after_imm (drop (k + 1) ss) (map (placed_of line) (drop (k + 1) ts))
unfolding take_all
takes_next name after_imm line ss ts k s t slot token good = rw (cut ss k s slot, cut ts k t token, good) refl

pub takes_not : (name : Op) (after_imm : Bool) (line : List ℕ) (ss : List Slot) (ts : List Token) (k : ℕ) (s : Slot) (t : Token) → k < length ss → k < length ts → takes (get_or ss k s) name after_imm (lexeme_at line (get_or ts k t)) ≡ false
    → take_all name after_imm (drop k ss) (map (placed_of line) (drop k ts)) ≡ false
unfolding take_all
takes_not name after_imm line ss ts k s t slot token bad = rw (cut ss k s slot, cut ts k t token, bad) refl

pub all_taken : (name : Op) (after_imm : Bool) (line : List ℕ) (ss : List Slot) (ts : List Token) (k : ℕ) → length ss ≤ k → length ts ≤ k → take_all name after_imm (drop k ss) (map (placed_of line) (drop k ts)) ≡ true
unfolding take_all
all_taken name after_imm line ss ts k slots tokens = rw (drop_all k ss slots, drop_all k ts tokens) refl

-- ---- what they make of an instruction

pub with_next : (labels : Labels) (after_imm : Bool) (line : List ℕ) (ss : List Slot) (ts : List Token) (k : ℕ) (s : Slot) (t : Token) (o : Operation) → k < length ss → k < length ts
    → with_all labels after_imm (drop k ss) (map (placed_of line) (drop k ts)) o
    ≡ with_all labels after_imm (drop (k + 1) ss) (map (placed_of line) (drop (k + 1) ts)) (with_token labels after_imm (get_or ss k s) (placed_of line (get_or ts k t)) o)
unfolding with_all
with_next labels after_imm line ss ts k s t o slot token = rw (cut ss k s slot, cut ts k t token) refl

pub with_none : (labels : Labels) (after_imm : Bool) (line : List ℕ) (ss : List Slot) (ts : List Token) (k : ℕ) (o : Operation) → length ss ≤ k → with_all labels after_imm (drop k ss) (map (placed_of line) (drop k ts)) o ≡ o
unfolding with_all
with_none labels after_imm line ss ts k o past = rw (drop_all k ss past) refl
