-- UG984's branches, breaks and returns. All but the conditional branches with no slot and the others with no `d` in their
-- name run the next instruction before the target.
use Rattle.std.specs.Prelude.{ℕ, ◌+◌, ◌%◌, ◌^◌, ◌==◌, ◌||◌, not, Bool, true, false, None, if◌then◌else◌}
use Rattle.mb_word.specs.Word.{is_negative}
use Rattle.op_table.specs.declared.op.Op.{Op}
use Rattle.op_table.specs.declared.op.Op.TheVariants as op
use Rattle.core_regs.specs.declared.registers.Arch.{Arch}
use Rattle.core_regs.specs.State.{msr_bip, with_flag, write_of}
use Rattle.delay_imm.specs.Slots.{advanced, branched}
use Rattle.trap_entry.specs.Entries.{left_by}
use Rattle.isa_step.specs.declared.operands.Given.{Given}
use Rattle.op_table.specs.declared.kinds.Condition.{Condition}
use Rattle.op_table.specs.declared.kinds.Condition.TheVariants.{Equal, Unequal, Less, LessOrEqual, Greater, GreaterOrEqual}
use Rattle.op_table.specs.declared.kinds.Return.{Return}
use Rattle.op_table.specs.declared.kinds.Return.TheVariants as ret
use Rattle.isa_step.specs.Effects.{Effect, jumps, retires}

-- so far from pc on
abbrev pub ahead : Arch → ℕ → ℕ
ahead a offset = (a.pc + offset) % 2 ^ 32

-- br and its forms: to b, or by b from pc on; the forms with l put the own address into rD
abbrev pub branches : Given → Arch → Bool → Bool → Bool → Effect
branches g a absolute delayed linked =
    jumps g (branched a (if absolute then g.b else ahead a g.b) delayed) (if linked then write_of g.rd a.pc else None)

-- brk, brki: to b; rD = the own address, and a break is in progress
abbrev pub breaks_off : Given → Arch → Effect
breaks_off g a = jumps g (with_flag (branched a g.b false) msr_bip true) (write_of g.rd a.pc)

-- how a register compares with 0, as a signed number
abbrev pub holds : Condition → ℕ → Bool
holds Equal x = x == 0
holds Unequal x = not (x == 0)
holds Less x = is_negative x
holds LessOrEqual x = is_negative x || (x == 0)
holds Greater x = not (is_negative x || (x == 0))
holds GreaterOrEqual x = not (is_negative x)

-- the conditional branches; one that is not taken holds its slot too, with the instruction behind it as its target
abbrev pub branches_if : Given → Arch → Bool → Bool → Effect
branches_if g a delayed true = jumps g (branched a (ahead a g.b) delayed) None
branches_if g a delayed false = retires g (if delayed then branched a (ahead a 8) true else advanced a false) None None

abbrev pub op_of : Return → Op
op_of ret.Subroutine = op.Rtsd
op_of ret.Interrupt = op.Rtid
op_of ret.Break = op.Rtbd
op_of ret.Exception = op.Rted

-- rtsd, rtid, rtbd, rted: to a + b behind the slot, with MSR and ESR changed at once
abbrev pub returns : Given → Arch → Return → Effect
returns g a from = jumps g (left_by (branched a ((g.a + g.b) % 2 ^ 32) true) (op_of from)) None
