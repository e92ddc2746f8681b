-- A board with its profiles: the exact machine, and the counts of each core.
use Rattle.std.specs.Prelude.{◌≡◌, ◌≤◌, ℕ, List, [], ◌∷◌, length, Option, Some, None, slice_get, slice_set}
use Rattle.board_machine.specs.Cycles.{turns}
use Rattle.board_machine.specs.declared.events.Event.{Event}
use Rattle.board_machine.specs.declared.events.Event.TheVariants.{Devices, Host, Tick as TickOf, Next}
use Rattle.board_machine.specs.declared.events.RunEnd.{RunEnd}
use Rattle.core_iface.specs.declared.Tick.{Tick}
use Rattle.core_iface.specs.declared.Tick.TheVariants as tick
use Rattle.exact_machine.specs.Machine.{ExactCore, ExactWorld, exact_step}
use Rattle.exact_machine.specs.Profile.{Profile, Spent, Acting, Starting, Holding, Reading, Turning, Dividing, Waiting, Sleeping, Resting, counted_at, profile_steps, total}
use Rattle.exact_machine.specs.Runs.{ExactRun, exact_events}
use Rattle.board_profile.specs.declared.profile.Profile.{Profile as Nine}
use Rattle.board_profile.specs.declared.profile.Spent.{Spent as SpentOn}
use Rattle.board_profile.specs.declared.profile.Spent.TheVariants as spent

-- what the code's words mean in the exact machine
abbrev pub spent_as : SpentOn → Spent
spent_as spent.Acting = Acting
spent_as spent.Starting = Starting
spent_as spent.Holding = Holding
spent_as spent.Reading = Reading
spent_as spent.Redirecting = Turning
spent_as spent.Dividing = Dividing
spent_as spent.Waiting = Waiting
spent_as spent.Sleeping = Sleeping
spent_as spent.Resting = Resting

abbrev pub counts_of : Nine → Profile
counts_of p = record {
  acted = p.acted;
  start = p.start;
  hold = p.hold;
  operand = p.operand;
  redirect = p.redirect;
  divide = p.divide;
  waiting = p.waiting;
  sleeping = p.sleeping;
  done = p.done;
}

-- what a tick was spent on, by its answer and the reason for which an act was held back before it
abbrev pub spent_on : Tick → Spent → Spent
spent_on (tick.Acted act) reason = Acting
spent_on tick.Filling reason = reason
spent_on (tick.Waiting on) reason = Waiting
spent_on tick.Sleeping reason = Sleeping
spent_on tick.Ended reason = Resting
spent_on (tick.Stopped cause) reason = Resting

-- a board and the profiles of its cores
pub record Profiled : Type 0 where
  pub world : ExactWorld
  pub profiles : List Profile

-- one profile a core, none of which has counted more than the ticks of its core
pub record Counts (cores : List ExactCore) (profiles : List Profile) : Type 0 where
  pub count : length profiles ≡ length cores
  pub few : (k : ℕ) (s : ExactCore) (p : Profile) → slice_get cores k ≡ Some s → slice_get profiles k ≡ Some p → total p ≤ s.ticks

-- the profiles after a tick of a core
abbrev pub profiles_at : ExactWorld → ℕ → Option Profile → List Profile → List Profile
profiles_at x core None profiles = profiles
profiles_at x core (Some p) profiles = slice_set profiles core (counted_at x core (slice_get x.cores core) p)

abbrev pub profiles_step : ExactWorld → Event → List Profile → List Profile
profiles_step x Devices profiles = profiles
profiles_step x Host profiles = profiles
profiles_step x (TickOf core) profiles = profiles_at x core (slice_get profiles core) profiles
profiles_step x Next profiles = profiles

-- a board and its profiles after an event, and after a list of events
abbrev pub profiled_step : Profiled → Event → Profiled
profiled_step x e = record { world = exact_step x.world e; profiles = profiles_step x.world e x.profiles }

abbrev pub profiled_steps : Profiled → List Event → Profiled
profiled_steps x [] = x
profiled_steps x (e ∷ es) = profiled_steps (profiled_step x e) es

-- the turns of a cycle, all of them
abbrev pub TurnsDone : Profiled → Profiled → Type 0
TurnsDone old new = new ≡ profiled_steps old (turns old.world.schedule old.world.fabric.cycle (length old.world.schedule.clocks))

-- the profile of each core after these events, in the words of the exact machine
abbrev pub AreCounted : Profiled → List Event → Profiled → Type 0
AreCounted old events new =
    (core : ℕ) (p : Profile) → slice_get old.profiles core ≡ Some p → slice_get new.profiles core ≡ Some (profile_steps old.world core events p)

-- a run of the exact machine up to its first end, and what its ticks were spent on
pub record ProfiledRun (limit : ℕ) (old new : Profiled) (end : RunEnd) : Type 0 where
  pub ran : ExactRun limit old.world new.world end
  pub counted : AreCounted old (exact_events old.world ran.count) new
