-- What is proved of the exact machine.
use Rattle.std.specs.Prelude.{◌≡◌, ℕ, ◌+◌, ◌<◌, ◌&&◌, nat_lt, true, List, ◌++◌, is_none, is_some, length, None, Some, slice_get}
use Rattle.std.specs.List.{AllByRecursion}
use Rattle.isa_step.specs.Effects.{View}
use Rattle.core_regs.specs.State.{bare}
use Rattle.isa_step.specs.Due.{here_of, take_due}
use Rattle.isa_step.specs.Shown.{Shown}
use Rattle.timing_law.specs.DueTick.{due_tick}
use Rattle.timing_law.specs.Passing.{instr_of}
use Rattle.timing_law.specs.Table.{extra_for}
use Rattle.board_file.specs.declared.board.BoardFile.{BoardFile}
use Rattle.board_file.specs.declared.board.CoreRow.{CoreRow}
use Rattle.board_machine.specs.declared.events.Event.{Event}
use Rattle.board_machine.specs.declared.events.RunEnd.{RunEnd}
use Rattle.board_machine.specs.Cycles.{RunsTo}
use Rattle.board_machine.specs.World.{Inputs, IsThere, Reached, Steps, World}
use Rattle.journal_laws.specs.Laws.{RanCycles, order_of}
use Rattle.journal_laws.specs.LinkLaw.{LinkLaw}
use Rattle.journal_laws.specs.Progress.{ProgressBound}
use Rattle.journal_laws.specs.TakeLaw.{TakeLaw}
use Rattle.exact_machine.specs.Machine.{ExactCore, ExactWorld, exact_steps, is_held_at}
use Rattle.exact_machine.specs.Opening.{AreSame, IsOpen, StandsFor, due_of}
use Rattle.exact_machine.specs.Profile.{Dividing, nothing, profile_steps, reason, total}
use Rattle.exact_machine.specs.Runs.{ExactRun, exact_cycles, exact_end, exact_events, exact_start, pipe_of}
use Rattle.exact_machine.specs.Times.{acts_in}

-- each step is one of the open machine

-- the events name cores that are there
abbrev pub AreThere : ExactWorld → List Event → Type 0
AreThere x events = AllByRecursion (IsThere (length x.cores)) events

-- where these steps of the open machine lead
pub record OpenSteps (w : World) (events : List Event) (x : ExactWorld) : Type 0 where
  pub end : World
  pub steps : Steps w events end
  pub is_open : IsOpen x end

-- a run of the open machine from the beginning of a board, by steps or by so many cycles
pub record OpenReached (b : BoardFile) (views : List View) (inputs : Inputs) (x : ExactWorld) : Type 0 where
  pub end : World
  pub reached : Reached b views inputs end
  pub is_open : IsOpen x end

pub record OpenCycles (b : BoardFile) (views : List View) (inputs : Inputs) (count : ℕ) (x : ExactWorld) : Type 0 where
  pub end : World
  pub ran : RanCycles b views inputs count end
  pub is_open : IsOpen x end

-- cycles of the open machine up to the first end
pub record OpenRun (limit : ℕ) (w : World) (x : ExactWorld) (end : RunEnd) : Type 0 where
  pub last : World
  pub ran : RunsTo limit w last end
  pub is_open : IsOpen x last

pub record ExactRunsAreOpen : Type 0 where
  pub steps : (x : ExactWorld) (w : World) (events : List Event) → IsOpen x w → AreThere x events → OpenSteps w events (exact_steps x events)
  pub reached : (b : BoardFile) (views : List View) (inputs : Inputs) (room : ℕ) (events : List Event) → length views ≡ length b.cores
      → AreThere (exact_start b views inputs room) events → OpenReached b views inputs (exact_steps (exact_start b views inputs room) events)
  pub cycles : (b : BoardFile) (views : List View) (inputs : Inputs) (room count : ℕ) → length views ≡ length b.cores
      → OpenCycles b views inputs count (exact_cycles (exact_start b views inputs room) count)
  pub runs : (limit : ℕ) (x new : ExactWorld) (w : World) (end : RunEnd) → IsOpen x w → length x.schedule.clocks ≡ length x.cores
      → ExactRun limit x new end → OpenRun limit w new end

-- a run is determined

-- the board ran from its beginning to the first end, as the exact machine does, and stands here
pub record RanExactly (b : BoardFile) (views : List View) (inputs : Inputs) (room limit : ℕ) (w : World) (end : RunEnd) : Type 0 where
  pub last : ExactWorld
  pub ran : ExactRun limit (exact_start b views inputs room) last end
  pub stands : StandsFor last w

pub record RunsAreDetermined : Type 0 where
  -- worlds that stand for one exact world differ by slacks alone, and the slacks of an open run are enough
  pub same : (x : ExactWorld) (w v : World) → StandsFor x w → StandsFor x v → AreSame w v
  pub stands : (x : ExactWorld) (w : World) → IsOpen x w → StandsFor x w
  -- there is one first end
  pub one_end : (limit : ℕ) (old new other : ExactWorld) (end last : RunEnd) → ExactRun limit old new end → ExactRun limit old other last
      → (new ≡ other) × (end ≡ last)
  -- given board, views, inputs, room and limit there is one run but for its slacks
  pub one_run : (b : BoardFile) (views : List View) (inputs : Inputs) (room limit : ℕ) (w v : World) (end last : RunEnd)
      → RanExactly b views inputs room limit w end → RanExactly b views inputs room limit v last → AreSame w v × (end ≡ last)

-- runs join

pub record ExactRunsJoin : Type 0 where
  pub steps : (x : ExactWorld) (first more : List Event) → exact_steps x (first ++ more) ≡ exact_steps (exact_steps x first) more
  pub cycles : (x : ExactWorld) (count more : ℕ) → exact_cycles x (count + more) ≡ exact_cycles (exact_cycles x count) more
  -- cycles are steps
  pub events : (x : ExactWorld) (count : ℕ) → exact_cycles x count ≡ exact_steps x (exact_events x count)
  -- cycles, each begun where no end was reached, and a run after them are one run
  pub runs : (limit : ℕ) (x new : ExactWorld) (end : RunEnd) (count : ℕ) → ((n : ℕ) → n < count → exact_end limit (exact_cycles x n) ≡ None)
      → ExactRun limit (exact_cycles x count) new end → ExactRun limit x new end

-- the journal

-- what is proved of the open machine holds of exact runs: their journals have the link law and the take law, and those of
-- whole cycles the progress bound
pub record ExactJournalsHaveLaws : Type 0 where
  pub links : (b : BoardFile) (views : List View) (inputs : Inputs) (room : ℕ) (events : List Event) → length views ≡ length b.cores
      → AreThere (exact_start b views inputs room) events → LinkLaw b.links (exact_steps (exact_start b views inputs room) events).fabric.journal
  pub takes : (b : BoardFile) (views : List View) (inputs : Inputs) (room : ℕ) (events : List Event) → length views ≡ length b.cores
      → AreThere (exact_start b views inputs room) events → (core : ℕ) (s : ExactCore) (first : View)
      → slice_get (exact_steps (exact_start b views inputs room) events).cores core ≡ Some s → slice_get views core ≡ Some first
      → TakeLaw b.events first core s.acts (exact_steps (exact_start b views inputs room) events).fabric.journal
  pub progress : (b : BoardFile) (views : List View) (inputs : Inputs) (room count : ℕ) → length views ≡ length b.cores
      → ProgressBound (order_of b) b.links views (exact_cycles (exact_start b views inputs room) count).fabric.journal

-- the time of each act

pub record ActsAreTimed : Type 0 where
  -- in an exact run the tick in which a core's next act is due is `due_tick` of its acts before
  pub timed : (b : BoardFile) (views : List View) (inputs : Inputs) (room : ℕ) (events : List Event) (core : ℕ) (row : CoreRow) (s : ExactCore)
      → slice_get b.cores core ≡ Some row → slice_get (exact_steps (exact_start b views inputs room) events).cores core ≡ Some s
      → due_of s ≡ due_tick (pipe_of row.pipeline) (acts_in (exact_start b views inputs room) core events) (instr_of (here_of s.view)) (is_some s.view.arch.slot)
  -- and a tick is held back exactly where no take is due and it comes before that one
  pub held : (b : BoardFile) (views : List View) (inputs : Inputs) (room : ℕ) (events : List Event) (core : ℕ) (row : CoreRow) (s : ExactCore) (shown : Shown)
      → slice_get b.cores core ≡ Some row → slice_get (exact_steps (exact_start b views inputs room) events).cores core ≡ Some s
      → is_held_at s shown ≡ is_none (take_due (here_of s.view) (bare s.view.arch) shown)
      && nat_lt s.ticks (due_tick (pipe_of row.pipeline) (acts_in (exact_start b views inputs room) core events) (instr_of (here_of s.view)) (is_some s.view.arch.slot))

-- the profile

pub record ProfilesAddUp : Type 0 where
  -- in an exact run the counts of a core add up to its ticks, and those of acts are its acts
  pub ticks : (b : BoardFile) (views : List View) (inputs : Inputs) (room : ℕ) (events : List Event) (core : ℕ) (s : ExactCore)
      → slice_get (exact_steps (exact_start b views inputs room) events).cores core ≡ Some s
      → (total (profile_steps (exact_start b views inputs room) core events nothing) ≡ s.ticks)
      × ((profile_steps (exact_start b views inputs room) core events nothing).acted ≡ s.acts)
  -- an act that is held back for no other reason is a divide
  pub divides : (s : ExactCore) (shown : Shown) → is_held_at s shown ≡ true → reason s ≡ Dividing → 0 < extra_for s.past.pipe (instr_of (here_of s.view))
