-- One shift after another is a shift by the sum, and the stages of a shift are those of the bits of its count.
use Rattle.std.proofs.Common.{◌≡◌, ℕ, ◌+◌, ◌*◌, ◌/◌, ◌%◌, ◌^◌, ◌<◌, ◌≤◌, refl, sym, ap, ◌∙◌, inl, inr, arith, true, false, add_comm, if◌then◌else◌, pos, negsuc}
use Rattle.std.specs.Int.Bits.{bit_and}
use Rattle.std.proofs.lemmas.Nat.{mul-mod_first, pow-add, shr-shr, shr_le, mod-pow-add, pow_below, and_mask}
use Rattle.std.proofs.lemmas.Bool.{cases_Bool, leb-true, leb-false, le-leb, lt-leb}
use Rattle.alu_units.specs.Units.{shifted, complement}
use Rattle.alu_units.specs.Integers.{word_of, floor_shift}
use Rattle.alu_units.proofs.IntegersLemmas.{negative_is, positive_is}
use Rattle.mb_word.specs.Word.{is_negative}
use Rattle.op_table.specs.declared.kinds.ShiftKind.{ShiftKind}
use Rattle.op_table.specs.declared.kinds.ShiftKind.TheVariants.{Left, Right, Arith}

-- the shifts on words alone: of a negative word the bits that are turned round move
abbrev pub moved : ShiftKind → ℕ → ℕ → ℕ
moved Left a n = a * 2 ^ n % 2 ^ 32
moved Right a n = a / 2 ^ n
moved Arith a n = if is_negative a then complement (complement a / 2 ^ n) else a / 2 ^ n

pub moved_is : (k : ShiftKind) (a n : ℕ) → a < 2 ^ 32 → moved k a n ≡ shifted k a n
unfolding shifted
moved_is Left a n word = refl
moved_is Right a n word = refl
moved_is Arith a n word =
    elim (cases_Bool (is_negative a)) [
      | inl negative ↦
          let less : complement a / 2 ^ n ≤ complement a = shr_le (complement a) n in
          let same : complement (complement a / 2 ^ n) ≡ word_of (floor_shift (negsuc (complement a)) n) = omega (arith, less) in
          ap (λ b. if b then complement (complement a / 2 ^ n) else a / 2 ^ n) negative ∙ same ∙ sym (ap (λ z. word_of (floor_shift z n)) (negative_is a word negative))
      | inr positive ↦
          let less : a / 2 ^ n ≤ a = shr_le a n in
          let same : a / 2 ^ n ≡ word_of (floor_shift (pos a) n) = omega (arith, less) in
          ap (λ b. if b then complement (complement a / 2 ^ n) else a / 2 ^ n) positive ∙ same ∙ sym (ap (λ z. word_of (floor_shift z n)) (positive_is a positive))
    ]

moved_word : (k : ShiftKind) (a n : ℕ) → a < 2 ^ 32 → moved k a n < 2 ^ 32
moved_word Left a n word = omega arith
moved_word Right a n word =
    let less : a / 2 ^ n ≤ a = shr_le a n in
    omega (arith, less)
moved_word Arith a n word =
    elim (cases_Bool (is_negative a)) [
      | inl negative ↦ rw negative (omega arith)
      | inr positive ↦
          let less : a / 2 ^ n ≤ a = shr_le a n in
          rw positive (omega (arith, less))
    ]

move_twice : (k : ShiftKind) (a m j : ℕ) → a < 2 ^ 32 → moved k (moved k a m) j ≡ moved k a (m + j)
move_twice Left a m j word =
    mul-mod_first (a * 2 ^ m) (2 ^ j) (2 ^ 32) ∙ ap (λ n. n % 2 ^ 32) (rw (pow-add 2 m j) (omega arith))
move_twice Right a m j word = shr-shr a m j
move_twice Arith a m j word =
    elim (cases_Bool (is_negative a)) [
      | inl negative ↦
          let c = complement a in
          let once : c / 2 ^ m ≤ c = shr_le c m in
          let again : is_negative (complement (c / 2 ^ m)) ≡ true = le-leb _ _ (omega (arith, leb-true _ _ negative)) in
          let back : complement (complement (c / 2 ^ m)) ≡ c / 2 ^ m = omega arith in
          rw (negative, again, back, shr-shr c m j) refl
      | inr positive ↦
          let once : a / 2 ^ m ≤ a = shr_le a m in
          let again : is_negative (a / 2 ^ m) ≡ false = lt-leb _ _ (omega (arith, leb-false _ _ positive)) in
          rw (positive, again) (shr-shr a m j)
    ]

-- the count of one bit more
next_count : (n bit : ℕ) → n % 2 ^ (bit + 1) ≡ (n / 2 ^ bit % 2) * 2 ^ bit + n % 2 ^ bit
next_count n bit = ap (λ e. n % 2 ^ e) (add_comm bit 1) ∙ mod-pow-add n 1 bit

-- a stage that is done, and one that is not
pub stage_done : (k : ShiftKind) (a n bit value : ℕ) → a < 2 ^ 32 → bit < 5 → value ≡ moved k a (n % 2 ^ bit) → bit_and (n / 2 ^ bit) 1 ≡ 1 → shifted k value (1 * 2 ^ bit % 256) ≡ moved k a (n % 2 ^ (bit + 1))
stage_done k a n bit value word lt is set =
    let value_word : value < 2 ^ 32 = omega (arith, is, moved_word k a (n % 2 ^ bit) word) in
    let small : 2 ^ bit < 2 ^ 5 = pow_below bit 5 lt in
    let step : 1 * 2 ^ bit % 256 ≡ 2 ^ bit = omega arith in
    let low : bit_and (n / 2 ^ bit) 1 ≡ n / 2 ^ bit % 2 = and_mask (n / 2 ^ bit) 1 in
    let odd : n / 2 ^ bit % 2 ≡ 1 = sym low ∙ set in
    let sum : n % 2 ^ bit + 2 ^ bit ≡ n % 2 ^ (bit + 1) = sym (next_count n bit ∙ rw odd (omega arith)) in
    sym (moved_is k value _ value_word)
    ∙ rw (step, is) (move_twice k a (n % 2 ^ bit) (2 ^ bit) word ∙ ap (moved k a) sum)

pub stage_left_out : (k : ShiftKind) (a n bit value : ℕ) → value ≡ moved k a (n % 2 ^ bit) → (bit_and (n / 2 ^ bit) 1 ≡ 1 → ⊥) → value ≡ moved k a (n % 2 ^ (bit + 1))
stage_left_out k a n bit value is clear =
    let low : bit_and (n / 2 ^ bit) 1 ≡ n / 2 ^ bit % 2 = and_mask (n / 2 ^ bit) 1 in
    let even : n / 2 ^ bit % 2 ≡ 0 = omega (arith, low, clear) in
    let same : n % 2 ^ bit ≡ n % 2 ^ (bit + 1) = sym (next_count n bit ∙ rw even (omega arith)) in
    is ∙ ap (moved k a) same
