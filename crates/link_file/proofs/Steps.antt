-- One item off the front of what is left of a file.
use Rattle.std.proofs.Common.{ℕ, ◌≡◌, ◌+◌, ◌-◌, ◌<◌, ◌≤◌, ◌∷◌, [], ◌∙◌, List, None, Some, if◌then◌else◌, ap, arith, drop, length, refl, slice_index, sym, take}
use Rattle.std.proofs.lemmas.Bool.{lt-ltb, le-ltb}
use Rattle.std.proofs.lemmas.List.{take_all}
use Rattle.link_file.specs.File.{fault_from, item_of, items_of}

abbrev rest : List ℕ → List ℕ
rest xs = take (length xs - 5) (drop 5 xs)

pub fault_more : (xs : List ℕ) (at : ℕ) → 5 ≤ length xs → slice_index xs 0 < 2 → fault_from (at + 5) (rest xs) ≡ fault_from at xs
fault_more (c ∷ b3 ∷ b2 ∷ b1 ∷ b0 ∷ xs) at long small =
    ap (fault_from (at + 5)) (take_all (length (c ∷ b3 ∷ b2 ∷ b1 ∷ b0 ∷ xs) - 5) xs (omega arith))
    ∙ sym (ap (λ b. if b then fault_from (at + 5) xs else Some at) (lt-ltb c 2 small))
fault_more (c ∷ b3 ∷ b2 ∷ b1 ∷ []) at long small = absurd (omega arith)
fault_more (c ∷ b3 ∷ b2 ∷ []) at long small = absurd (omega arith)
fault_more (c ∷ b3 ∷ []) at long small = absurd (omega arith)
fault_more (c ∷ []) at long small = absurd (omega arith)
fault_more [] at long small = absurd (omega arith)

pub fault_here : (xs : List ℕ) (at : ℕ) → 5 ≤ length xs → 2 ≤ slice_index xs 0 → fault_from at xs ≡ Some at
fault_here (c ∷ b3 ∷ b2 ∷ b1 ∷ b0 ∷ xs) at long big = ap (λ b. if b then fault_from (at + 5) xs else Some at) (le-ltb c 2 big)
fault_here (c ∷ b3 ∷ b2 ∷ b1 ∷ []) at long big = absurd (omega arith)
fault_here (c ∷ b3 ∷ b2 ∷ []) at long big = absurd (omega arith)
fault_here (c ∷ b3 ∷ []) at long big = absurd (omega arith)
fault_here (c ∷ []) at long big = absurd (omega arith)
fault_here [] at long big = absurd (omega arith)

pub fault_at_end : (xs : List ℕ) (at : ℕ) → length xs < 5 → 0 < length xs → fault_from at xs ≡ Some at
fault_at_end (c ∷ b3 ∷ b2 ∷ b1 ∷ b0 ∷ xs) at short some = absurd (omega arith)
fault_at_end (c ∷ b3 ∷ b2 ∷ b1 ∷ []) at short some = refl
fault_at_end (c ∷ b3 ∷ b2 ∷ []) at short some = refl
fault_at_end (c ∷ b3 ∷ []) at short some = refl
fault_at_end (c ∷ []) at short some = refl
fault_at_end [] at short some = absurd (omega arith)

pub no_fault_at_end : (xs : List ℕ) (at : ℕ) → length xs ≡ 0 → fault_from at xs ≡ None
no_fault_at_end [] at none = refl
no_fault_at_end (c ∷ xs) at none = absurd (omega arith)

pub items_more : (xs : List ℕ) → 5 ≤ length xs →
    items_of xs ≡ item_of (slice_index xs 0) (slice_index xs 1 ∷ slice_index xs 2 ∷ slice_index xs 3 ∷ slice_index xs 4 ∷ []) ∷ items_of (rest xs)
items_more (c ∷ b3 ∷ b2 ∷ b1 ∷ b0 ∷ xs) long =
    ap (λ more. item_of c (b3 ∷ b2 ∷ b1 ∷ b0 ∷ []) ∷ items_of more) (sym (take_all (length (c ∷ b3 ∷ b2 ∷ b1 ∷ b0 ∷ xs) - 5) xs (omega arith)))
items_more (c ∷ b3 ∷ b2 ∷ b1 ∷ []) long = absurd (omega arith)
items_more (c ∷ b3 ∷ b2 ∷ []) long = absurd (omega arith)
items_more (c ∷ b3 ∷ []) long = absurd (omega arith)
items_more (c ∷ []) long = absurd (omega arith)
items_more [] long = absurd (omega arith)

pub no_items_at_end : (xs : List ℕ) → length xs < 5 → items_of xs ≡ []
no_items_at_end (c ∷ b3 ∷ b2 ∷ b1 ∷ b0 ∷ xs) short = absurd (omega arith)
no_items_at_end (c ∷ b3 ∷ b2 ∷ b1 ∷ []) short = refl
no_items_at_end (c ∷ b3 ∷ b2 ∷ []) short = refl
no_items_at_end (c ∷ b3 ∷ []) short = refl
no_items_at_end (c ∷ []) short = refl
no_items_at_end [] short = refl
