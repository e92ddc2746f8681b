-- One step of a division, and what is there after the last.
use Rattle.std.proofs.Common.{◌≡◌, ℕ, ◌+◌, ◌-◌, ◌*◌, ◌/◌, ◌%◌, ◌^◌, ◌<◌, ◌≤◌, sym, ap, ◌∙◌, inl, inr, arith}
use Rattle.std.proofs.lemmas.Nat.{shr-shr, shr_le, pow-add, div-mul-add}
use Rattle.std.proofs.lemmas.Bool.{cases_order}
use Rattle.alu_units.specs.Division.{IsPartial}

next_bit : (over steps : ℕ) → steps < 32 → over / 2 ^ (32 - (steps + 1)) ≡ 2 * (over / 2 ^ (32 - steps)) + over / 2 ^ (31 - steps) % 2
next_bit over steps lt =
    let k = 31 - steps in
    let this : 32 - (steps + 1) ≡ 31 - steps = omega arith in
    let before : 31 - steps + 1 ≡ 32 - steps = omega arith in
    let half : over / 2 ^ (31 - steps) / 2 ≡ over / 2 ^ (32 - steps) = shr-shr over (31 - steps) 1 ∙ ap (λ e. over / 2 ^ e) before in
    rw this (omega (arith, half))

-- the bits that are divided so far
pub more_divided : (over by rest quotient steps bit : ℕ) → steps < 32 → IsPartial over by rest quotient steps → bit ≡ over / 2 ^ (31 - steps) % 2 → over / 2 ^ (32 - (steps + 1)) ≡ 2 * (quotient * by) + (2 * rest + bit)
more_divided over by rest quotient steps bit lt part bit_is =
    omega (arith, next_bit over steps lt, part.divided, bit_is)

-- what is taken off fits a word
pub rest_fits : (over by rest quotient steps bit : ℕ) → over < 2 ^ 32 → by < 2 ^ 32 → steps < 32 → IsPartial over by rest quotient steps → bit ≡ over / 2 ^ (31 - steps) % 2 → 2 * rest + bit - by < 2 ^ 32
rest_fits over by rest quotient steps bit word by_word lt part bit_is =
    let divided = more_divided over by rest quotient steps bit lt part bit_is in
    let below : over / 2 ^ (32 - (steps + 1)) ≤ over = shr_le over (32 - (steps + 1)) in
    elim (cases_order by 0) [
      | inl none ↦ omega (arith, divided, below)
      | inr some ↦ omega (arith, part.rest_below, bit_is)
    ]

pub taken : (over by rest quotient steps bit : ℕ) → over < 2 ^ 32 → by < 2 ^ 32 → steps < 32 → IsPartial over by rest quotient steps → bit ≡ over / 2 ^ (31 - steps) % 2 → by ≤ 2 * rest + bit → IsPartial over by (2 * rest + bit - by) (2 * quotient + 1) (steps + 1)
taken over by rest quotient steps bit word by_word lt part bit_is enough =
    let divided = more_divided over by rest quotient steps bit lt part bit_is in
    let power : 2 ^ (steps + 1) ≡ 2 ^ steps * 2 = pow-add 2 steps 1 in
    record {
      few = omega arith;
      divided = omega (arith, divided);
      rest_below = λ some. omega (arith, part.rest_below some, bit_is);
      rest_word = rest_fits over by rest quotient steps bit word by_word lt part bit_is;
      quotient_word = omega (arith, power, part.quotient_word);
    }

pub left : (over by rest quotient steps bit : ℕ) → by < 2 ^ 32 → steps < 32 → IsPartial over by rest quotient steps → bit ≡ over / 2 ^ (31 - steps) % 2 → 2 * rest + bit < by → IsPartial over by (2 * rest + bit) (2 * quotient) (steps + 1)
left over by rest quotient steps bit by_word lt part bit_is short =
    let divided = more_divided over by rest quotient steps bit lt part bit_is in
    let power : 2 ^ (steps + 1) ≡ 2 ^ steps * 2 = pow-add 2 steps 1 in
    record {
      few = omega arith;
      divided = omega (arith, divided);
      rest_below = λ some. short;
      rest_word = omega arith;
      quotient_word = omega (arith, power, part.quotient_word);
    }

-- after the last step the quotient is there
pub whole_quotient : (over by rest quotient : ℕ) → 0 < by → IsPartial over by rest quotient 32 → quotient ≡ over / by
whole_quotient over by rest quotient some part =
    let whole : over ≡ quotient * by + rest = omega (arith, part.divided) in
    sym (ap (λ n. n / by) whole ∙ div-mul-add quotient by rest (part.rest_below some))
