-- Steps, runs and what may be asked of a board, in the words of the board machine.
use Rattle.std.specs.Prelude.{◌≡◌, ℕ, zero, suc, ◌+◌, ◌-◌, ◌*◌, ◌^◌, ◌<◌, ◌≤◌, List, length, None, Some, slice_get}
use Rattle.std.specs.List.{AllByRecursion}
use Rattle.board_machine.specs.declared.events.Event.{Event}
use Rattle.board_machine.specs.Cycles.{events_of}
use Rattle.board_machine.specs.World.{IsThere, need}
use Rattle.exact_machine.specs.Machine.{ExactCore, ExactWorld, exact_step, exact_steps, opened}
use Rattle.exact_machine.specs.Runs.{exact_end}

abbrev pub Step : ExactWorld → Event → ExactWorld → Type 0
Step old e new = new ≡ exact_step old e

abbrev pub Steps : ExactWorld → List Event → ExactWorld → Type 0
Steps old es new = new ≡ exact_steps old es

-- cycles, each begun where no end was reached
abbrev pub Runs : ℕ → ExactWorld → ℕ → ExactWorld → Type 0
Runs limit old zero new = new ≡ old
Runs limit old (suc n) new = (mid : ExactWorld) × Runs limit old n mid × (exact_end limit mid ≡ None) × Steps mid (events_of mid.schedule mid.fabric.cycle) new

-- an event enters no more than this, nor does a whole cycle
abbrev pub need_of : ExactWorld → ℕ
need_of x = 5 * length x.cores + length x.fabric.rows + length x.fabric.bus.uarts

-- these events name cores that exist, all numbers stay small, and the journal has room
pub record CanPlay (x : ExactWorld) (events : List Event) : Type 0 where
  pub there : AllByRecursion (IsThere (length x.cores)) events
  pub young : (k : ℕ) (s : ExactCore) → slice_get x.cores k ≡ Some s → s.ticks + length events ≤ 2 ^ 62
  pub early : x.fabric.cycle + length events ≤ 2 ^ 62
  pub spare : length events * need_of x ≤ x.fabric.spare

-- what a cycle may be asked of
pub record CanCycle (x : ExactWorld) : Type 0 where
  pub young : (k : ℕ) (s : ExactCore) → slice_get x.cores k ≡ Some s → s.ticks < 2 ^ 62
  pub early : x.fabric.cycle < 2 ^ 62
  pub spare : need_of x ≤ x.fabric.spare

-- what a run up to a limit may be asked of
pub record CanRun (limit : ℕ) (x : ExactWorld) : Type 0 where
  pub before : x.fabric.cycle ≤ limit
  pub young : (k : ℕ) (s : ExactCore) → slice_get x.cores k ≡ Some s → s.ticks + (limit - x.fabric.cycle) ≤ 2 ^ 62
  pub early : limit ≤ 2 ^ 62
