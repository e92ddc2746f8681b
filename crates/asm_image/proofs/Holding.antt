-- Bytes that are contents.
use Rattle.std.proofs.Common.{◌≡◌, ℕ, suc, ◌+◌, ◌-◌, ◌<◌, ◌≤◌, ◌^◌, ◌/◌, ◌%◌, true, subst, List, [], ◌∷◌, ◌++◌, length, replicate, refl, sym, ap, ◌∙◌, arith, append_assoc, length-append}
use Rattle.std.proofs.lemmas.List.{append-nil}
use Rattle.core_regs.specs.declared.causes.Order.{Order}
use Rattle.mb_decode.specs.declared.instruction.Instr.{Instr}
use Rattle.mb_decode.specs.Meaning.{Means}
use Rattle.asm_source.proofs.Sized.{four_bytes}
use Rattle.asm_source.specs.Source.{Code, Content, Datum, Holds, bytes_of, imm, plain, with_value}
use Rattle.asm_image.specs.Built.{Puts}

-- what is equal holds the same
pub holds_same : (order : Order) (xs ys : List ℕ) (cs : List Content) → ys ≡ xs → Holds order xs cs → Holds order ys cs
unfolding Holds
holds_same order xs ys [] e h = e ∙ h
holds_same order xs ys (Datum b ∷ cs) e h = (h.0, e ∙ h.1, h.2)
holds_same order xs ys (Code i ∷ cs) e h = (h.0, h.1, h.2, h.3, e ∙ h.4, h.5)

pub holds_append : (order : Order) (xs ys : List ℕ) (cs ds : List Content) → Holds order xs cs → Holds order ys ds → Holds order (xs ++ ys) (cs ++ ds)
unfolding Holds
holds_append order xs ys [] ds h g = holds_same order ys (xs ++ ys) ds (ap (λ zs. zs ++ ys) h) g
holds_append order xs ys (Datum b ∷ cs) ds h g = (h.0 ++ ys, ap (λ zs. zs ++ ys) h.1, holds_append order h.0 ys cs ds h.2 g)
holds_append order xs ys (Code i ∷ cs) ds h g =
    (h.0, h.1 ++ ys, h.2, h.3, ap (λ zs. zs ++ ys) h.4 ∙ append_assoc (bytes_of order 4 h.0) h.1 ys, holds_append order h.1 ys cs ds h.5 g)

pub holds_plain : (order : Order) (bytes : List ℕ) → Holds order bytes (plain bytes)
unfolding Holds
holds_plain order [] = refl
holds_plain order (b ∷ bytes) = (bytes, refl, holds_plain order bytes)

pub holds_word : (order : Order) (w : ℕ) (i : Instr) (bytes : List ℕ) → w < 2 ^ 32 → Means w i → bytes ≡ bytes_of order 4 w → Holds order bytes (Code i ∷ [])
unfolding Holds
holds_word order w i bytes fits means is = (w, [], fits, means, is ∙ sym (append-nil (bytes_of order 4 w)), refl)

-- there are bytes exactly where there are contents
pub none_held : (order : Order) (xs : List ℕ) (cs : List Content) → length xs ≡ 0 → Holds order xs cs → cs ≡ []
unfolding Holds
none_held order xs [] none h = refl
none_held order xs (Datum b ∷ cs) none h = let one : length xs ≡ suc (length h.0) = ap length h.1 in absurd (omega arith)
none_held order xs (Code i ∷ cs) none h =
    let one : length xs ≡ length (bytes_of order 4 h.0) + length h.1 = ap length h.4 ∙ length-append (bytes_of order 4 h.0) h.1 in
    let four = four_bytes order h.0 in
    absurd (omega arith)

pub some_held : (order : Order) (xs : List ℕ) (cs : List Content) → 0 < length xs → Holds order xs cs → 0 < length cs
unfolding Holds
some_held order xs [] some h = let none : length xs ≡ 0 = ap length h in absurd (omega arith)
some_held order xs (c ∷ cs) some h = omega arith

-- ---- what is put

pub puts_plain : (order : Order) (old new bytes : List ℕ) → new ≡ old ++ bytes → Puts order old new (plain bytes)
puts_plain order old new bytes added = record { bytes = bytes; added = added; holds = holds_plain order bytes }

pub puts_word : (order : Order) (old new bytes : List ℕ) (w : ℕ) (i : Instr) → w < 2 ^ 32 → Means w i → bytes ≡ bytes_of order 4 w → new ≡ old ++ bytes → Puts order old new (Code i ∷ [])
puts_word order old new bytes w i fits means is added = record { bytes = bytes; added = added; holds = holds_word order w i bytes fits means is }

pub puts_both : (order : Order) (old mid new : List ℕ) (cs ds : List Content) → Puts order old mid cs → Puts order mid new ds → Puts order old new (cs ++ ds)
puts_both order old mid new cs ds a b = record {
  bytes = a.bytes ++ b.bytes;
  added = b.added ∙ ap (λ xs. xs ++ b.bytes) a.added ∙ append_assoc old a.bytes b.bytes;
  holds = holds_append order a.bytes b.bytes cs ds a.holds b.holds;
}

pub puts_long : (order : Order) (old mid new : List ℕ) (i p q : Instr) (value : ℕ) → p ≡ imm (value / 2 ^ 16) → q ≡ record i { imm = value % 2 ^ 16 } → Puts order old mid (Code p ∷ []) → Puts order mid new (Code q ∷ [])
    → Puts order old new (with_value i true value)
puts_long order old mid new i p q value prefix low a b =
    subst (λ (c : Instr). Puts order old new (Code c ∷ Code (record i { imm = value % 2 ^ 16 }) ∷ [])) prefix
    (subst (λ (c : Instr). Puts order old new (Code p ∷ Code c ∷ [])) low (puts_both order old mid new (Code p ∷ []) (Code q ∷ []) a b))

-- zeros, one by one
left_more : (count k : ℕ) → k < count → count - k ≡ suc (count - (k + 1))
left_more count k within = omega arith

pub zero_more : (count k : ℕ) (old new total : List ℕ) → k < count → old ++ replicate (count - k) 0 ≡ total → new ≡ old ++ 0 ∷ [] → new ++ replicate (count - (k + 1)) 0 ≡ total
zero_more count k old new total within before added =
    let left : List ℕ = replicate (count - (k + 1)) 0 in
    let split : old ++ replicate (count - k) 0 ≡ old ++ 0 ∷ left = ap (λ n. old ++ replicate n 0) (left_more count k within) in
    ap (λ xs. xs ++ left) added ∙ append_assoc old (0 ∷ []) left ∙ sym split ∙ before

pub all_zeros : (order : Order) (count k : ℕ) (first old : List ℕ) → count ≤ k → old ++ replicate (count - k) 0 ≡ first ++ replicate count 0 → Puts order first old (plain (replicate count 0))
all_zeros order count k first old past before =
    let none : count - k ≡ 0 = omega arith in
    puts_plain order first old (replicate count 0) (sym (append-nil old) ∙ ap (λ n. old ++ replicate n 0) (sym none) ∙ before)
