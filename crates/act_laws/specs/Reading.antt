-- What an instruction reads, as its word says.
use Rattle.std.specs.Prelude.{◌≡◌, ℕ, true, List, Some}
use Rattle.core_regs.specs.declared.registers.Arch.{Arch}
use Rattle.core_regs.specs.State.{reg}
use Rattle.mb_decode.specs.declared.instruction.Instr.{Instr}
use Rattle.mb_decode.specs.Registers.{reads}
use Rattle.isa_step.specs.Due.{due_with}
use Rattle.isa_step.specs.Shown.{Shown}
use Rattle.isa_step.specs.Requests.{operands_of}
use Rattle.act_laws.specs.Lateness.{here_is}

-- two files of registers agree on those that an instruction reads
pub record AgreesOn (i : Instr) (regs other : List ℕ) : Type 0 where
  pub each : (r : ℕ) → reads i r ≡ true → reg other r ≡ reg regs r

pub record ReadsAreNamed : Type 0 where
  pub same : (i : Instr) (word : ℕ) (regs other : List ℕ) (a : Arch) (m : List ℕ) (s : Shown) → AgreesOn i regs other
      → due_with (Some (here_is word i)) (operands_of (Some (here_is word i)) other) a m s ≡ due_with (Some (here_is word i)) (operands_of (Some (here_is word i)) regs) a m s
