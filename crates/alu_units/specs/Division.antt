-- Division towards 0 (UG984, idiv and idivu), and how far a division in steps has come.
use Rattle.std.specs.Prelude.{◌≡◌, ℕ, ◌+◌, ◌-◌, ◌*◌, ◌/◌, ◌%◌, ◌^◌, ◌<◌, ◌≤◌, Bool, ◌&&◌, not, ◌==◌, if◌then◌else◌, Option, Some, None, ℤ, pos, ◌+ℤ◌, ◌*ℤ◌, ◌≤ℤ◌, unsigned_abs, int_div}
use Rattle.mb_word.specs.Word.{is_negative}
use Rattle.alu_units.specs.Integers.{value_of, word_of}
use Rattle.alu_units.specs.declared.faults.DivFault.{DivFault}
use Rattle.alu_units.specs.declared.faults.DivFault.TheVariants.{Zero, Overflow}

-- q is n / d rounded towards 0: what is left is smaller than d, and on n's side of 0
pub record IsTowardsZero (n d q : ℤ) : Type 0 where
  pub rest : ℤ
  pub whole : q *ℤ d +ℤ rest ≡ n
  pub small : unsigned_abs rest < unsigned_abs d
  pub not_below : pos 0 ≤ℤ n → pos 0 ≤ℤ rest
  pub not_above : n ≤ℤ pos 0 → rest ≤ℤ pos 0

-- the quotient towards 0 modulo 2 ^ 32; 0 where the divisor is 0
unfoldable pub quotient_of : ℕ → ℕ → Bool → ℕ
quotient_of dividend divisor signed =
    if divisor == 0 then 0 else word_of (int_div (value_of signed dividend) (value_of signed divisor))

-- no divisor, or a quotient that is no signed word
unfoldable pub fault_of : ℕ → ℕ → Bool → Option DivFault
fault_of dividend divisor signed =
    if divisor == 0 then Some Zero
    else (if signed && (dividend == 0x8000_0000) && (divisor == 0xFFFF_FFFF) then Some Overflow else None)

-- a division: its operands, and how many of its 32 steps are done
pub record Division : Type 0 where
  pub dividend : ℕ
  pub divisor : ℕ
  pub signed : Bool
  pub steps : ℕ

-- a word without its sign
abbrev pub magnitude : Bool → ℕ → ℕ
magnitude signed a = if signed && is_negative a then 2 ^ 32 - a else a

-- whether the signs of two words differ, where words have signs
abbrev pub signs_differ : Bool → ℕ → ℕ → Bool
signs_differ signed a b = signed && (if is_negative a then not (is_negative b) else is_negative b)

-- a magnitude with its sign
abbrev pub with_sign : Bool → ℕ → ℕ
with_sign negative q = if negative then (2 ^ 32 - q) % 2 ^ 32 else q

-- after so many steps the quotient and the rest are those of the dividend's highest bits
pub record IsPartial (over by rest quotient steps : ℕ) : Type 0 where
  pub few : steps ≤ 32
  pub divided : over / 2 ^ (32 - steps) ≡ quotient * by + rest
  pub rest_below : 0 < by → rest < by
  pub rest_word : rest < 2 ^ 32
  pub quotient_word : quotient < 2 ^ steps
