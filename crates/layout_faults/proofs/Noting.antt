-- The faults of items, one by one.
use Rattle.std.proofs.Common.{◌≡◌, ℕ, suc, ◌+◌, ◌-◌, ◌<◌, ◌≤◌, ◌^◌, List, ◌++◌, Option, refl, sym, ap, ◌∙◌, arith, add-one}
use Rattle.std.specs.Prelude.{◌%◌, ◌==◌, ◌&&◌, not, flat_map, min, nat_lt}
use Rattle.std.specs.List.{range_with_len}
use Rattle.std.proofs.lemmas.Bool.Decides.{nat_tests}
use Rattle.std.proofs.lemmas.List.Sums.{fold-append}
use Rattle.asm_layout.specs.Layout.{Numbers}
use Rattle.asm_source.specs.declared.fault.Fault.{Fault}
use Rattle.asm_source.specs.declared.item.Written.{Written}
use Rattle.asm_source.specs.Faults.{least_after, lesser}
use Rattle.asm_source.specs.declared.fault.Rule.TheVariants.{OutOfRange, TooMuch}
use Rattle.asm_source.specs.Second.{fault_if, is_instruction, item_faults, place_of, size_before, size_of, slot_faults, written}

left_more : (n k : ℕ) → k < n → n - k ≡ suc (n - (k + 1))
left_more n k within = omega arith

-- faults of the next number
pub next_noted : (faults : ℕ → List Fault) (n k : ℕ) (first new : Option Fault) → k < n → new ≡ least_after first (faults k)
    → least_after new (flat_map faults (range_with_len (k + 1) (n - (k + 1)))) ≡ least_after first (flat_map faults (range_with_len k (n - k)))
next_noted faults n k first new within noted =
    let left = flat_map faults (range_with_len (k + 1) (n - (k + 1))) in
    let split : flat_map faults (range_with_len k (n - k)) ≡ faults k ++ left = rw (left_more n k within) refl in
    ap (λ o. least_after o left) noted ∙ sym (fold-append lesser first (faults k) left) ∙ ap (least_after first) (sym split)

pub all_noted : (faults : ℕ → List Fault) (n k : ℕ) (first : Option Fault) → n ≤ k → least_after first (flat_map faults (range_with_len k (n - k))) ≡ first
all_noted faults n k first past = let none : n - k ≡ 0 = omega arith in rw none refl

-- a sum that is cut
cut_sum : (a b : ℕ) → min (min a (2 ^ 64 - 1) + b) (2 ^ 64 - 1) ≡ min (a + b) (2 ^ 64 - 1)
cut_sum a b = omega arith

size_more : (all : List Written) (F : Numbers) (k : ℕ) → size_before all F (k + 1) ≡ size_before all F k + size_of all F k
unfolding size_before
size_more all F k = ap (size_before all F) (add-one k)

pub size_next : (all : List Written) (F : Numbers) (k before size new : ℕ) → before ≡ min (size_before all F k) (2 ^ 64 - 1) → size ≡ size_of all F k → new ≡ min (before + size) (2 ^ 64 - 1)
    → new ≡ min (size_before all F (k + 1)) (2 ^ 64 - 1)
size_next all F k before size new was here is =
    is ∙ ap (λ a. min (a + size) (2 ^ 64 - 1)) was ∙ ap (λ b. min (min (size_before all F k) (2 ^ 64 - 1) + b) (2 ^ 64 - 1)) here
    ∙ cut_sum (size_before all F k) (size_of all F k) ∙ ap (λ a. min a (2 ^ 64 - 1)) (sym (size_more all F k))

pub size_first : (all : List Written) (F : Numbers) → 0 ≡ min (size_before all F 0) (2 ^ 64 - 1)
unfolding size_before
size_first all F = refl

pub limit_seen : (size a : ℕ) → size ≡ min a (2 ^ 64 - 1) → nat_lt 1_048_576 size ≡ nat_lt 1_048_576 a
limit_seen size a is = grind (arith, nat_tests)

-- four lists of faults, noted one after the other
pub four_noted : (o a b c d : Option Fault) (one two three four : List Fault) → a ≡ least_after o one → b ≡ least_after a two → c ≡ least_after b three → d ≡ least_after c four
    → d ≡ least_after o (one ++ two ++ three ++ four)
four_noted o a b c d one two three four p q r s =
    let both : b ≡ least_after o (one ++ two) = q ∙ ap (λ x. least_after x two) p ∙ sym (fold-append lesser o one two) in
    let most : c ≡ least_after o (one ++ two ++ three) = r ∙ ap (λ x. least_after x three) both ∙ sym (fold-append lesser o (one ++ two) three) in
    s ∙ ap (λ x. least_after x four) most ∙ sym (fold-append lesser o (one ++ two ++ three) four)

-- the faults of an item
pub item_noted : (all : List Written) (F : Numbers) (k size here next : ℕ) (w : Written) (o a b c d : Option Fault) → w ≡ written all k → here ≡ place_of all F k → next ≡ place_of all F (k + 1)
    → size ≡ min (size_before all F (k + 1)) (2 ^ 64 - 1)
    → a ≡ least_after o (fault_if (is_instruction w.item && not (here % 4 == 0)) OutOfRange w) → b ≡ least_after a (fault_if (nat_lt 1_048_576 size) TooMuch w)
    → c ≡ least_after b (fault_if (nat_lt 67_108_864 next) TooMuch w) → d ≡ least_after c (slot_faults all F k (written all k).item) → d ≡ least_after o (item_faults all F k)
unfolding item_faults
item_noted all F k size here next w o a b c d is at ends sum p q r s =
    let v = written all k in
    let first : a ≡ least_after o (fault_if (is_instruction v.item && not (place_of all F k % 4 == 0)) OutOfRange v) =
    p ∙ ap (λ x. least_after o (fault_if (is_instruction x.item && not (here % 4 == 0)) OutOfRange x)) is ∙ ap (λ n. least_after o (fault_if (is_instruction v.item && not (n % 4 == 0)) OutOfRange v)) at in
    let second : b ≡ least_after a (fault_if (nat_lt 1_048_576 (size_before all F (k + 1))) TooMuch v) =
    q ∙ ap (λ x. least_after a (fault_if (nat_lt 1_048_576 size) TooMuch x)) is ∙ ap (λ t. least_after a (fault_if t TooMuch v)) (limit_seen size (size_before all F (k + 1)) sum) in
    let third : c ≡ least_after b (fault_if (nat_lt 67_108_864 (place_of all F (k + 1))) TooMuch v) =
    r ∙ ap (λ x. least_after b (fault_if (nat_lt 67_108_864 next) TooMuch x)) is ∙ ap (λ n. least_after b (fault_if (nat_lt 67_108_864 n) TooMuch v)) ends in
    four_noted o a b c d (fault_if (is_instruction v.item && not (place_of all F k % 4 == 0)) OutOfRange v) (fault_if (nat_lt 1_048_576 (size_before all F (k + 1))) TooMuch v)
    (fault_if (nat_lt 67_108_864 (place_of all F (k + 1))) TooMuch v) (slot_faults all F k v.item) first second third s
