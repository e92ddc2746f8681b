-- How many zeros stand above the highest bit that is set.
use Rattle.std.proofs.Common.{◌≡◌, ℕ, zero, suc, ◌+◌, ◌-◌, ◌*◌, ◌^◌, ◌<◌, ◌≤◌, true, false, refl, sym, ap, ◌∙◌, inl, inr, arith}
use Rattle.std.specs.Prelude.{nat_le, unwrap_or}
use Rattle.std.specs.List.{find, range_with_len}
use Rattle.std.specs.Int.Count.{count_leading_zeros, leading_unique}
use Rattle.std.proofs.lemmas.Bool.{cases_Bool, leb-true, leb-false}
use Rattle.alu_units.specs.Units.{leading_zeros}

-- r zeros stand above a number of m bits that has its highest bit set, or is 0
record Stand (a r : ℕ) : Type 0 where
  bits : ℕ
  all : r + bits ≡ 32
  below : a < 2 ^ bits
  high : 2 ^ bits ≤ 2 * a + 1

-- the search from the place n on
found : (a n k : ℕ) → n + k ≡ 32 → a < 2 ^ k → Stand a (unwrap_or (find (λ i. nat_le (2 ^ (31 - i)) a) (range_with_len n k)) 32)
found a n zero all below = record { bits = 0; all = refl; below = below; high = omega arith }
found a n (suc k) all below =
    let place : 31 - n ≡ k = omega (arith, all) in
    elim (cases_Bool (nat_le (2 ^ (31 - n)) a)) [
      | inl set ↦ rw set (record { bits = suc k; all = all; below = below; high = omega (arith, ap (λ i. 2 ^ i) place, leb-true _ _ set) })
      | inr clear ↦ rw clear (found a (n + 1) k (omega (arith, all)) (omega (arith, ap (λ i. 2 ^ i) place, leb-false _ _ clear)))
    ]

pub leading_is : (a : ℕ) → a < 2 ^ 32 → count_leading_zeros 32 a ≡ leading_zeros a
unfolding leading_zeros
leading_is a word =
    let s = found a 0 32 refl word in
    sym (leading_unique 32 a (leading_zeros a) s.bits s.all s.below s.high)
