-- The acts of a core in an exact run, each with its tick.
use Rattle.std.specs.Prelude.{ℕ, ◌==◌, Bool, false, if◌then◌else◌, List, [], ◌∷◌, ◌++◌, map, Option, Some, None, slice_get}
use Rattle.mb_decode.specs.declared.instruction.Instr.{Instr}
use Rattle.isa_step.specs.declared.acts.Act.{Act}
use Rattle.isa_step.specs.declared.acts.Act.TheVariants as acts
use Rattle.isa_step.specs.Effects.{Due, Does}
use Rattle.isa_step.specs.Due.{due, here_of}
use Rattle.timing_law.specs.declared.pipe.Jump.{Jump}
use Rattle.timing_law.specs.DueTick.{Passed, Retired, Timed, Turned}
use Rattle.timing_law.specs.Passing.{instr_of, jump_of}
use Rattle.board_machine.specs.declared.events.Event.{Event}
use Rattle.board_machine.specs.declared.events.Event.TheVariants.{Devices, Host, Tick, Next}
use Rattle.board_machine.specs.Fabric.{shown}
use Rattle.exact_machine.specs.Machine.{ExactCore, ExactWorld, exact_step, is_held_at}

-- what an act is to those after it: an instruction that retired, or a turn; nothing comes after a stop
abbrev pub passed_as : Act → Option Instr → Jump → List Passed
passed_as acts.Retired (Some i) jump = Retired i jump ∷ []
passed_as acts.Retired None jump = []
passed_as acts.Slept (Some i) jump = Retired i jump ∷ []
passed_as acts.Slept None jump = []
passed_as (acts.Took take) i jump = Turned ∷ []
passed_as (acts.Raised esr) i jump = Turned ∷ []
passed_as (acts.Stopped cause) i jump = []

abbrev pub at_tick : ℕ → Passed → Timed
at_tick tick passed = record { tick = tick; passed = passed }

-- the act of a tick, if there is one
abbrev pub act_by : Due → Bool → ExactCore → List Timed
act_by (Does effect) false s = map (at_tick s.ticks) (passed_as effect.done.act (instr_of (here_of s.view)) (jump_of effect.done effect.arch.pc))
act_by _ _ s = []

abbrev pub act_at : ExactWorld → ℕ → Option ExactCore → List Timed
act_at x core None = []
act_at x core (Some s) = act_by (due s.view (shown x.fabric core)) (is_held_at s (shown x.fabric core)) s

abbrev pub act_in : ExactWorld → ℕ → Event → List Timed
act_in x core Devices = []
act_in x core Host = []
act_in x core (Tick other) = if other == core then act_at x core (slice_get x.cores core) else []
act_in x core Next = []

-- the acts of a core through a list of events
abbrev pub acts_in : ExactWorld → ℕ → List Event → List Timed
acts_in x core [] = []
acts_in x core (e ∷ es) = act_in x core e ++ acts_in (exact_step x e) core es
