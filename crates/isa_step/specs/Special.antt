-- UG984's instructions on special registers, the prefix and the memory barrier.
use Rattle.std.specs.Prelude.{ℕ, ◌==◌, ◌||◌, Bool, true, false, None, bit_or, if◌then◌else◌}
use Rattle.core_regs.specs.declared.registers.Arch.{Arch}
use Rattle.core_regs.specs.State.{status_word, with_status, without, write_of}
use Rattle.delay_imm.specs.Slots.{advanced, prefixed}
use Rattle.isa_step.specs.declared.acts.Act.TheVariants as acts
use Rattle.isa_step.specs.declared.operands.Given.{Given}
use Rattle.op_table.specs.declared.kinds.Special.{Special}
use Rattle.op_table.specs.declared.kinds.Special.TheVariants.{Pc, Msr, Ear, Esr, Btr, Edr}
use Rattle.isa_step.specs.Effects.{Effect, retires}

-- mfs: the value of a special register; rpc is the instruction's own address
abbrev pub special_value : Arch → Special → ℕ
special_value a Pc = a.pc
special_value a Msr = status_word a
special_value a Ear = a.ear
special_value a Esr = a.esr
special_value a Btr = a.btr
special_value a Edr = a.edr

-- mts: the writable bits of MSR take a
abbrev pub moves_to_msr : Given → Arch → Effect
moves_to_msr g a = retires g (with_status (advanced a false) g.a) None None

-- msrset: rD = the old MSR; then the writable bits of the immediate are set
abbrev pub sets_msr : Given → Arch → Effect
sets_msr g a = retires g (with_status (advanced a false) (bit_or a.msr.0 g.imm)) None (write_of g.rd (status_word a))

-- msrclr: rD = the old MSR; then they are cleared
abbrev pub clears_msr : Given → Arch → Effect
clears_msr g a = retires g (with_status (advanced a false) (without g.imm a.msr.0)) None (write_of g.rd (status_word a))

-- imm: holds the prefix
abbrev pub holds_prefix : Given → Arch → Effect
holds_prefix g a = retires g (prefixed a g.imm) None None

-- the numbers of mbar that put the core to sleep
abbrev pub is_sleep : ℕ → Bool
is_sleep number = (number == 8) || (number == 16) || (number == 24)

-- mbar: sleeps at these numbers after it moved on, and does nothing at all others
abbrev pub barrier : Given → Arch → Effect
barrier g a =
    if is_sleep g.imm
    then record {
      arch = record (advanced a false) { asleep = true };
      action = None;
      done = record { act = acts.Slept; write = None; store = None; late = g.late; jumped = false };
    }
    else retires g (advanced a false) None None
