-- Two ranges that overlap share the greater of their starts.
use Rattle.std.proofs.Common.{◌≡◌, ◌↔◌, ℕ, ◌+◌, ◌<◌, ◌≤◌, ◌&&◌, Bool, true, false, max, nat_lt, refl, arith}
use Rattle.std.proofs.lemmas.Bool.{lt-ltb, ltb-true}
use Rattle.elf_image.specs.Tests.{SharesByte, shares_byte}
use Rattle.elf_image.specs.declared.segment.ProgramHeader.{ProgramHeader}

both : (a b : Bool) → (a && b) ≡ true → (a ≡ true) × (b ≡ true)
both true true e = (refl, refl)
both true false e = grind arith
both false b e = grind arith

pub ranges_meet : (a m b n : ℕ) → (nat_lt 0 m && nat_lt 0 n && nat_lt a (b + n) && nat_lt b (a + m)) ≡ true
    → (x : ℕ) × ((a ≤ x) × (x < a + m)) × ((b ≤ x) × (x < b + n))
ranges_meet a m b n e =
    let p = both (nat_lt 0 m && nat_lt 0 n && nat_lt a (b + n)) (nat_lt b (a + m)) e in
    let q = both (nat_lt 0 m && nat_lt 0 n) (nat_lt a (b + n)) p.0 in
    let r = both (nat_lt 0 m) (nat_lt 0 n) q.0 in
    let m_some : 0 < m = ltb-true 0 m r.0 in
    let n_some : 0 < n = ltb-true 0 n r.1 in
    let a_in : a < b + n = ltb-true a (b + n) q.1 in
    let b_in : b < a + m = ltb-true b (a + m) p.1 in
    (max a b, (omega arith, omega arith), (omega arith, omega arith))

pub meet_tests : (a m b n x : ℕ) → a ≤ x → x < a + m → b ≤ x → x < b + n → (nat_lt 0 m && nat_lt 0 n && nat_lt a (b + n) && nat_lt b (a + m)) ≡ true
meet_tests a m b n x p q r s = rw (lt-ltb 0 m (omega arith), lt-ltb 0 n (omega arith), lt-ltb a (b + n) (omega arith), lt-ltb b (a + m) (omega arith)) refl

pub shares_exactly : (h g : ProgramHeader) → (shares_byte h g ≡ true) ↔ SharesByte h g
shares_exactly h g = (
  ranges_meet h.p_vaddr h.p_memsz g.p_vaddr g.p_memsz,
  λ s. meet_tests h.p_vaddr h.p_memsz g.p_vaddr g.p_memsz s.0 s.1.0 s.1.1 s.2.0 s.2.1,
)
