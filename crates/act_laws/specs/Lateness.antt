-- What an instruction makes late, and what it writes, as its word says.
use Rattle.std.specs.Prelude.{◌≡◌, ℕ, false, List, Some}
use Rattle.core_regs.specs.declared.registers.Arch.{Arch}
use Rattle.core_regs.specs.declared.registers.Write.{Write}
use Rattle.mb_decode.specs.declared.instruction.Instr.{Instr}
use Rattle.mb_decode.specs.Registers.{written}
use Rattle.isa_step.specs.declared.acts.Act.TheVariants.{Retired}
use Rattle.isa_step.specs.declared.acts.Here.{Here}
use Rattle.op_table.specs.declared.kinds.Latency.{Latency}
use Rattle.isa_step.specs.declared.acts.Operands.{Operands}
use Rattle.isa_step.specs.Effects.{Effect, Does}
use Rattle.isa_step.specs.Due.{due_with}
use Rattle.op_table.specs.Table.{kind_of}
use Rattle.isa_step.specs.Shown.{Shown}
use Rattle.isa_step.specs.Requests.{is_end, late_at}
use Rattle.op_table.specs.Kinds.{latency_of}

abbrev pub here_is : ℕ → Instr → Here
here_is word i = record { word = word; instr = Some i }

-- the instruction retires by this effect
pub record Retires (i : Instr) (word : ℕ) (o : Operands) (a : Arch) (m : List ℕ) (s : Shown) (effect : Effect) : Type 0 where
  pub is_due : due_with (Some (here_is word i)) o a m s ≡ Does effect
  pub retired : effect.done.act ≡ Retired

-- the register that is written is the one that the word names, and it is late by the instruction's class
pub record IsLateWrite (i : Instr) (effect : Effect) (w : Write) : Type 0 where
  pub latency : Latency
  pub has_latency : latency_of (kind_of i.op) ≡ Some latency
  pub late : effect.done.late ≡ Some (record { reg = w.reg; latency = latency })
  pub named : written i ≡ Some w.reg

pub record WritesAreLate : Type 0 where
  -- what is made late is told by the word, also where nothing is written
  pub late : (i : Instr) (word : ℕ) (o : Operands) (a : Arch) (m : List ℕ) (s : Shown) (effect : Effect) → Retires i word o a m s effect → is_end word a ≡ false → effect.done.late ≡ late_at i.rd (latency_of (kind_of i.op))
  pub writes : (i : Instr) (word : ℕ) (o : Operands) (a : Arch) (m : List ℕ) (s : Shown) (effect : Effect) (w : Write) → Retires i word o a m s effect → effect.done.write ≡ Some w → IsLateWrite i effect w
