-- UG984's arithmetic, logical, shift and compare instructions: a is rA, b is rB or the immediate.
use Rattle.std.specs.Prelude.{ℕ, ◌+◌, ◌%◌, ◌^◌, ◌==◌, Bool, true, false, not, nat_le, if◌then◌else◌, Option, Some, None}
use Rattle.mb_word.specs.Word.{bit_of, is_negative}
use Rattle.core_regs.specs.declared.registers.Arch.{Arch}
use Rattle.core_regs.specs.State.{carry, exceptions_on, msr_c, msr_dzo, with_flag, write_of}
use Rattle.alu_units.specs.Units.{complement, low_bit, shifted_in}
use Rattle.alu_units.specs.Division.{fault_of, quotient_of}
use Rattle.alu_units.specs.declared.faults.DivFault.{DivFault}
use Rattle.alu_units.specs.declared.faults.DivFault.TheVariants.{Zero, Overflow}
use Rattle.delay_imm.specs.Slots.{advanced}
use Rattle.trap_entry.specs.declared.cause.Cause.{Cause}
use Rattle.trap_entry.specs.declared.cause.Cause.TheVariants.{DivideZero, DivideOverflow}
use Rattle.isa_step.specs.declared.operands.Given.{Given}
use Rattle.op_table.specs.declared.kinds.TopBit.{TopBit}
use Rattle.op_table.specs.declared.kinds.TopBit.TheVariants as top
use Rattle.isa_step.specs.Effects.{Effect, retires, yields, raises}

-- C becomes the carry out, but where it is kept
abbrev pub carried : Arch → Bool → ℕ → Arch
carried a keep total = if keep then a else with_flag a msr_c (nat_le (2 ^ 32) total)

-- rD = a sum, modulo 2^32
abbrev pub sums : Given → Arch → Bool → ℕ → Effect
sums g a keep total = retires g (carried (advanced a false) keep total) None (write_of g.rd (total % 2 ^ 32))

-- add, addc, addk, addkc: rD = a + b, with c plus C
abbrev pub adds : Given → Arch → Bool → Bool → Effect
adds g a with_carry keep = sums g a keep (g.a + g.b + (if with_carry then bit_of (carry a) else 0))

-- rsub, rsubc, rsubk, rsubkc: rD = b + not a + 1, with c plus C in place of 1
abbrev pub subtracts : Given → Arch → Bool → Bool → Effect
subtracts g a with_carry keep = sums g a keep (g.b + complement g.a + (if with_carry then bit_of (carry a) else 1))

abbrev pub cause_of : DivFault → Cause
cause_of Zero = DivideZero
cause_of Overflow = DivideOverflow

-- a fault of a division sets DZO, and where it is raised rD stays
abbrev pub divided : Given → Arch → ℕ → Option DivFault → Effect
divided g a value None = yields g a value
divided g a value (Some fault) =
    if exceptions_on a then raises (with_flag a msr_dzo true) (cause_of fault) None
    else retires g (with_flag (advanced a false) msr_dzo true) None (write_of g.rd value)

-- idiv, idivu: rD = b / a towards 0
abbrev pub divides : Given → Arch → Bool → Effect
divides g a signed = divided g a (quotient_of g.b g.a signed) (fault_of g.b g.a signed)

-- pcmpeq, pcmpne
abbrev pub equality : Given → Bool → ℕ
equality g wanted = bit_of (if wanted then g.a == g.b else not (g.a == g.b))

-- what comes in at the top of sra, src and srl
abbrev pub top_bit : TopBit → Arch → ℕ → Bool
top_bit top.Sign a x = is_negative x
top_bit top.Carry a x = carry a
top_bit top.Zero a x = false

-- sra, src, srl: rD = a shifted right by one; C = the bit that goes out
abbrev pub shifts_by_one : Given → Arch → TopBit → Effect
shifts_by_one g a top =
    retires g (with_flag (advanced a false) msr_c (low_bit g.a)) None (write_of g.rd (shifted_in (top_bit top a g.a) g.a))
