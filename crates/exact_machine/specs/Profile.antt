-- The profile of a core: what each of its ticks was spent on.
use Rattle.std.specs.Prelude.{ℕ, ◌+◌, ◌==◌, nat_lt, is_some, Bool, true, false, if◌then◌else◌, List, [], ◌∷◌, Option, Some, None, slice_get}
use Rattle.core_regs.specs.State.{bare}
use Rattle.mb_decode.specs.declared.instruction.Instr.{Instr}
use Rattle.isa_step.specs.Effects.{Due, Does, Waits, Sleeps, Ends, Stops}
use Rattle.isa_step.specs.Due.{due, here_of}
use Rattle.isa_step.specs.Resting.{is_quiet}
use Rattle.isa_step.specs.Shown.{Shown}
use Rattle.timing_law.specs.declared.past.Past.{Past}
use Rattle.timing_law.specs.Past.{operands_at}
use Rattle.timing_law.specs.Passing.{instr_of}
use Rattle.board_machine.specs.declared.events.Event.{Event}
use Rattle.board_machine.specs.declared.events.Event.TheVariants.{Devices, Host, Tick, Next}
use Rattle.board_machine.specs.Fabric.{shown}
use Rattle.exact_machine.specs.Machine.{ExactCore, ExactWorld, exact_step, is_held_at}

-- an act; a tick before the first, within the hold of the last act, before an operand is ready, before the word at pc is
-- decoded, and within a divide; a wait at a link, a sleep from which a take may wake the core, and a rest for good
pub data Spent : Type 0 where
  Acting : Spent
  Starting : Spent
  Holding : Spent
  Reading : Spent
  Turning : Spent
  Dividing : Spent
  Waiting : Spent
  Sleeping : Spent
  Resting : Spent

pub record Profile : Type 0 where
  pub acted : ℕ
  pub start : ℕ
  pub hold : ℕ
  pub operand : ℕ
  pub redirect : ℕ
  pub divide : ℕ
  pub waiting : ℕ
  pub sleeping : ℕ
  pub done : ℕ

abbrev pub nothing : Profile
nothing = record { acted = 0; start = 0; hold = 0; operand = 0; redirect = 0; divide = 0; waiting = 0; sleeping = 0; done = 0 }

abbrev pub total : Profile → ℕ
total p = p.acted + p.start + p.hold + p.operand + p.redirect + p.divide + p.waiting + p.sleeping + p.done

-- a tick more
abbrev pub counted : Spent → Profile → Profile
counted Acting p = record p { acted = p.acted + 1 }
counted Starting p = record p { start = p.start + 1 }
counted Holding p = record p { hold = p.hold + 1 }
counted Reading p = record p { operand = p.operand + 1 }
counted Turning p = record p { redirect = p.redirect + 1 }
counted Dividing p = record p { divide = p.divide + 1 }
counted Waiting p = record p { waiting = p.waiting + 1 }
counted Sleeping p = record p { sleeping = p.sleeping + 1 }
counted Resting p = record p { done = p.done + 1 }

-- why an act is held back: the first of these that is so, or else a divide
abbrev pub first_reason : Bool → Bool → Bool → Bool → Spent
first_reason true next operand redirect = Starting
first_reason false true operand redirect = Holding
first_reason false false true redirect = Reading
first_reason false false false true = Turning
first_reason false false false false = Dividing

abbrev pub reason_by : Past → Option Instr → Bool → ℕ → Spent
reason_by p i in_slot tick =
    first_reason (nat_lt tick p.first) (nat_lt tick p.next) (nat_lt tick (operands_at i p.ready)) (nat_lt tick (if in_slot then 0 else p.redirect))

abbrev pub reason : ExactCore → Spent
reason s = reason_by s.past (instr_of (here_of s.view)) (is_some s.view.arch.slot) s.ticks

-- by what is due, whether it is held back, and whether no take can come
abbrev pub spent_by : Due → Bool → Bool → Spent → Spent
spent_by (Does effect) false quiet why = Acting
spent_by (Does effect) true quiet why = why
spent_by (Waits port full) false quiet why = Waiting
spent_by (Waits port full) true quiet why = why
spent_by Sleeps held false why = Sleeping
spent_by Sleeps held true why = Resting
spent_by Ends held quiet why = Resting
spent_by (Stops cause) held quiet why = Resting

abbrev pub spent : ExactCore → Shown → Spent
spent s shown = spent_by (due s.view shown) (is_held_at s shown) (is_quiet (bare s.view.arch) (here_of s.view) shown) (reason s)

-- the profile of a core after an event, and after a list of events
abbrev pub counted_at : ExactWorld → ℕ → Option ExactCore → Profile → Profile
counted_at x core None p = p
counted_at x core (Some s) p = counted (spent s (shown x.fabric core)) p

abbrev pub profile_step : ExactWorld → ℕ → Event → Profile → Profile
profile_step x core Devices p = p
profile_step x core Host p = p
profile_step x core (Tick other) p = if other == core then counted_at x core (slice_get x.cores core) p else p
profile_step x core Next p = p

abbrev pub profile_steps : ExactWorld → ℕ → List Event → Profile → Profile
profile_steps x core [] p = p
profile_steps x core (e ∷ es) p = profile_steps (exact_step x e) core es (profile_step x core e p)
