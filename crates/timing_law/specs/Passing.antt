-- How an act moves a core's past.
use Rattle.std.specs.Prelude.{ℕ, ◌+◌, ◌-◌, ◌%◌, ◌^◌, nat_lt, Bool, false, if◌then◌else◌, Option, Some, None}
use Rattle.mb_decode.specs.declared.instruction.Instr.{Instr}
use Rattle.isa_step.specs.declared.acts.Act.{Act}
use Rattle.isa_step.specs.declared.acts.Act.TheVariants as acts
use Rattle.isa_step.specs.declared.acts.Done.{Done}
use Rattle.isa_step.specs.declared.acts.Here.{Here}
use Rattle.isa_step.specs.declared.acts.Store.{Store}
use Rattle.timing_law.specs.declared.pipe.Jump.{Jump}
use Rattle.timing_law.specs.declared.pipe.Jump.TheVariants.{On, Taken, Struck}
use Rattle.timing_law.specs.declared.past.Past.{Past}
use Rattle.timing_law.specs.Past.{retired, turned}

-- one of the eight words from pc on
abbrev pub is_ahead : ℕ → ℕ → Bool
is_ahead addr pc = nat_lt ((addr + 2 ^ 32 - pc) % 2 ^ 32) 32

-- a store into one of them, told by its address alone
abbrev pub strikes : Option Store → ℕ → Bool
strikes None pc = false
strikes (Some s) pc = is_ahead s.addr pc

-- where an instruction leads, by the pc after it
abbrev pub jump_of : Done → ℕ → Jump
jump_of done pc = if done.jumped then Taken else if strikes done.store pc then Struck else On

-- the instruction that the word at pc is
abbrev pub instr_of : Option Here → Option Instr
instr_of None = None
instr_of (Some here) = here.instr

abbrev pub retired_here : Option Instr → ℕ → Jump → Past → Past
retired_here None at jump p = p
retired_here (Some i) at jump p = retired i at jump p

abbrev pub passed_by : Act → Option Instr → ℕ → Jump → Past → Past
passed_by acts.Retired i at jump p = retired_here i at jump p
passed_by acts.Slept i at jump p = retired_here i at jump p
passed_by (acts.Took take) i at jump p = turned at p
passed_by (acts.Raised esr) i at jump p = turned at p
passed_by (acts.Stopped cause) i at jump p = p

-- the past after an act in a tick, by the word at which it was done and the pc after it
abbrev pub past_after : Option Here → Done → ℕ → ℕ → Past → Past
past_after here done pc at p = passed_by done.act (instr_of here) at (jump_of done pc) p
