-- What is written up to one operand more.
use Rattle.std.proofs.Common.{◌≡◌, ℕ, ◌+◌, ◌*◌, ◌<◌, ◌≤◌, List, [], ◌∷◌, ◌++◌, length, drop, get_or, sym, ap, ◌∙◌, append_assoc, arith, drop-cons, add-one, length-append}
use Rattle.std.proofs.lemmas.List.{append-nil, drop_all}
use Rattle.mb_decode.specs.declared.instruction.Instr.{Instr}
use Rattle.asm_syntax.specs.declared.slot.Slot.{Slot}
use Rattle.asm_syntax.specs.Operands.{slot_text}
use Rattle.mb_dis.specs.Statement.{tail_text}

pub tail_more : (i : Instr) (slots : List Slot) (k : ℕ) (d : Slot) (old new total : List ℕ) → k < length slots → old ++ tail_text (drop k slots) i ≡ total
    → new ≡ old ++ (44 ∷ 32 ∷ []) ++ slot_text (get_or slots k d) i → new ++ tail_text (drop (k + 1) slots) i ≡ total
unfolding tail_text
tail_more i slots k d old new total within before written =
    let cut : drop k slots ≡ get_or slots k d ∷ drop (k + 1) slots = drop-cons slots k d within ∙ ap (λ n. get_or slots k d ∷ drop n slots) (sym (add-one k)) in
    let left = tail_text (drop (k + 1) slots) i in
    let text = slot_text (get_or slots k d) i in
    ap (λ xs. xs ++ left) written
    ∙ append_assoc (old ++ (44 ∷ 32 ∷ [])) text left
    ∙ append_assoc old (44 ∷ 32 ∷ []) (text ++ left)
    ∙ sym (ap (λ (ss : List Slot). old ++ tail_text ss i) cut)
    ∙ before

pub tail_ends : (i : Instr) (slots : List Slot) (k : ℕ) (old total : List ℕ) → length slots ≤ k → old ++ tail_text (drop k slots) i ≡ total → old ≡ total
unfolding tail_text
tail_ends i slots k old total past before = sym (append-nil old) ∙ sym (ap (λ (ss : List Slot). old ++ tail_text ss i) (drop_all k slots past)) ∙ before

-- two bytes and an operand of at most twelve
pub room_more : (base k : ℕ) (old mid text new : List ℕ) → mid ≡ old ++ 44 ∷ 32 ∷ [] → new ≡ mid ++ text → length text ≤ 12 → length old ≤ base + 14 * k → length new ≤ base + 14 * (k + 1)
room_more base k old mid text new comma operand short room =
    let first : length mid ≡ length old + 2 = ap length comma ∙ length-append old (44 ∷ 32 ∷ []) in
    let second : length new ≡ length mid + length text = ap length operand ∙ length-append mid text in
    omega arith
