-- Cycles in which devices and host have nothing to do.
use Rattle.std.specs.Prelude.{◌≡◌, ℕ, ◌+◌, ◌<◌, ◌≤◌, ◌||◌, Option, Some, None, Bool, true, false, List, [], ◌∷◌, length, position, slice_get}
use Rattle.axi_link.specs.Channel.{Channel}
use Rattle.isa_step.specs.declared.acts.Breaks.{Breaks}
use Rattle.board_file.specs.declared.board.EventRow.{EventRow}
use Rattle.board_file.specs.declared.board.LinkRow.{LinkRow}
use Rattle.board_file.specs.declared.board.Turn.TheVariants.{Ascending}
use Rattle.board_machine.specs.declared.events.Event.TheVariants.{Devices, Host}
use Rattle.board_machine.specs.Cycles.{events_of, turn_of, turns}
use Rattle.axi_intc.specs.declared.intc.Intc.{Intc}
use Rattle.axi_intc.specs.Machine as intc
use Rattle.axi_timer.specs.declared.timer.Timer.{Timer}
use Rattle.axi_timer.specs.Machine as timer
use Rattle.board_file.specs.declared.board.IntcRow.{IntcRow}
use Rattle.board_machine.specs.Bus.{DeviceRows, Devices as DeviceSet, Serial, is_done}
use Rattle.board_machine.specs.DeviceMoves.{controller, inputs_of, output_of}
use Rattle.board_machine.specs.Fabric.{Fabric, Feed, is_on, or_low, or_none}
use Rattle.board_machine.specs.Resting.{is_quiet_to, rest_of}
use Rattle.board_machine.specs.World.{Schedule}
use Rattle.exact_machine.specs.Machine.{ExactCore, ExactWorld, opened}
use Rattle.exact_machine.specs.Stepping.{CanCycle, CanRun, Runs, Step, Steps, need_of}

-- no break that is left comes before a cycle
abbrev pub NoneBefore : ℕ → List EventRow → Type 0
NoneBefore next [] = Unit {0}
NoneBefore next (r ∷ rs) = (next ≤ r.cycle) × NoneBefore next rs

-- a pending break
abbrev pub has_break : Breaks → Bool
has_break b = b.maskable || b.nonmaskable

-- no line is high and no break is pending
pub record IsCalm (lines : List Bool) (pending : List Breaks) : Type 0 where
  pub low : (core : ℕ) → or_low (slice_get lines core) ≡ false
  pub none : (core : ℕ) → has_break (or_none (slice_get pending core)) ≡ false

-- a cycle leaves each timer and each controller as it is, each UART is done and holds no edge, and no controller asks for
-- its line
pub record AreAtRest (bus : DeviceRows) (d : DeviceSet) : Type 0 where
  pub timers : (k : ℕ) (t : Timer) → slice_get d.timers k ≡ Some t → timer.cycled t ≡ t
  pub uarts : (k : ℕ) (u : Serial) → slice_get d.uarts k ≡ Some u → (is_done u ≡ true) × (u.port.edge ≡ false)
  pub intcs : (k : ℕ) (r : IntcRow) (c : Intc) → slice_get bus.intcs k ≡ Some r → slice_get d.intcs k ≡ Some c → intc.cycled (inputs_of bus d r.core) c ≡ c
  pub low : (core : ℕ) → output_of (controller d.intcs (position (is_on core) bus.intcs)) ≡ false

-- the links alone, which are all that the host's moves ask
abbrev pub links_alone : List LinkRow → List Channel → List Feed → Fabric
links_alone rows links feeds = record {
  rows = rows;
  bus = record { timers = []; intcs = []; uarts = [] };
  cycle = 0;
  links = links;
  feeds = feeds;
  devices = record { timers = []; intcs = []; uarts = [] };
  lines = [];
  pending = [];
  left = [];
  journal = [];
  spare = 0;
}

-- the host can move no item
pub record IsMoveless (rows : List LinkRow) (links : List Channel) (feeds : List Feed) : Type 0 where
  pub quiet : is_quiet_to (links_alone rows links feeds) (length rows) ≡ true

-- before a cycle devices and host do nothing, and nothing is offered to any core
pub record IsQuiet (until : ℕ) (f : Fabric) : Type 0 where
  pub breaks : NoneBefore until f.left
  pub calm : IsCalm f.lines f.pending
  pub links : IsMoveless f.rows f.links f.feeds
  pub devices : AreAtRest f.bus f.devices

-- before the next break devices that are at rest do nothing, and where the host can move no item it does nothing
pub record QuietCycles : Type 0 where
  pub devices : (w : ExactWorld) (next : ℕ) → NoneBefore next w.fabric.left → w.fabric.cycle < next → IsCalm w.fabric.lines w.fabric.pending → AreAtRest w.fabric.bus w.fabric.devices → Step w Devices w
  pub host : (w : ExactWorld) → is_quiet_to w.fabric (length w.fabric.rows) ≡ true → Step w Host w

-- clocks that are all 1
pub record AreOnes (clocks : List ℕ) : Type 0 where
  pub some : 0 < length clocks
  pub ones : (core : ℕ) → core < length clocks → slice_get clocks core ≡ Some 1

-- each core ticks in each cycle, in ascending order
pub record IsInStep (s : Schedule) : Type 0 where
  pub ascends : s.turn ≡ Ascending
  pub clocks : AreOnes s.clocks

-- a part of a run: so many cycles, each begun where no end was reached
pub record RunsOn (limit : ℕ) (old new : ExactWorld) : Type 0 where
  pub count : ℕ
  pub ran : Runs limit old count new
  pub cycle : new.fabric.cycle ≡ old.fabric.cycle + count
  pub schedule : new.schedule ≡ old.schedule
  pub can : CanRun limit new

-- devices and host do nothing in this cycle, and nothing is offered to any core
pub record IsQuietNow (f : Fabric) : Type 0 where
  pub until : ℕ
  pub quiet : IsQuiet until f
  pub before : f.cycle < until

-- amid a cycle, after its first k turns
pub record IsAmid (w : ExactWorld) (k : ℕ) : Type 0 where
  pub old : ExactWorld
  pub can : CanCycle old
  pub few : k ≤ length old.schedule.clocks
  pub steps : Steps old (Devices ∷ Host ∷ turns old.schedule old.fabric.cycle k) w

-- from the first k turns of a cycle to its first n, wherever it began
pub record TurnsFrom (w : ExactWorld) (k : ℕ) (v : ExactWorld) (n : ℕ) : Type 0 where
  pub each : (old : ExactWorld) → CanCycle old → k ≤ length old.schedule.clocks → Steps old (Devices ∷ Host ∷ turns old.schedule old.fabric.cycle k) w → Steps old (Devices ∷ Host ∷ turns old.schedule old.fabric.cycle n) v

-- and to its last
pub record TurnsWhole (w : ExactWorld) (k : ℕ) (v : ExactWorld) : Type 0 where
  pub each : (old : ExactWorld) → CanCycle old → k ≤ length old.schedule.clocks → Steps old (Devices ∷ Host ∷ turns old.schedule old.fabric.cycle k) w → Steps old (Devices ∷ Host ∷ turns old.schedule old.fabric.cycle (length old.schedule.clocks)) v

-- a cycle of which k turns were done, finished wherever it began; nothing where none was
pub record Finished (w : ExactWorld) (k : ℕ) (v : ExactWorld) : Type 0 where
  pub none : k ≡ 0 → v ≡ w
  pub each : 0 < k → (old : ExactWorld) → CanCycle old → k ≤ length old.schedule.clocks → Steps old (Devices ∷ Host ∷ turns old.schedule old.fabric.cycle k) w → Steps old (events_of old.schedule old.fabric.cycle) v

-- a cycle up to its first k turns, in which each core acted at once and nothing else happened
pub record TurnsAtOnce (old : ExactWorld) (k : ℕ) (new : ExactWorld) : Type 0 where
  pub steps : Steps old (Devices ∷ Host ∷ turns old.schedule old.fabric.cycle k) new
  pub fabric : new.fabric ≡ old.fabric
  pub none : k ≡ 0 → new ≡ old
  pub busy : 0 < k → rest_of (opened old) ≡ None

-- a board in step, before a quiet cycle
pub record IsReadyInStep (w : ExactWorld) : Type 0 where
  pub can : CanCycle w
  pub quiet : IsQuietNow w.fabric
  pub in_step : IsInStep w.schedule
  pub clocks : length w.schedule.clocks ≡ length w.cores

-- the cores of such a board
pub record AreReadyInStep (cores : List ExactCore) : Type 0 where
  pub board : ExactWorld
  pub here : board.cores ≡ cores
  pub ready : IsReadyInStep board

-- the first k cores acted at once: on each such board, its first k turns
pub record TicksAtOnce (old : List ExactCore) (k : ℕ) (new : List ExactCore) : Type 0 where
  pub each : (w : ExactWorld) → w.cores ≡ old → IsReadyInStep w → TurnsAtOnce w k (record w { cores = new })

-- a turn of a cycle in which its core acted at once, or passed it
pub record TurnAtOnce (old : ExactWorld) (k : ℕ) (acted : Bool) (new : ExactWorld) : Type 0 where
  pub steps : Steps old (turn_of old.schedule old.fabric.cycle k) new
  pub fabric : new.fabric ≡ old.fabric
  pub none : acted ≡ false → new ≡ old
  pub busy : acted ≡ true → rest_of (opened old) ≡ None

-- such a turn, and whether the core acted; None where it would do something else, and nothing changed
abbrev pub TurnSays : ExactWorld → ℕ → Option Bool → ExactWorld → Type 0
TurnSays old k None new = new ≡ old
TurnSays old k (Some acted) new = TurnAtOnce old k acted new

-- a cycle up to its first k turns, all such, and whether a core acted
pub record TurnsQuiet (old : ExactWorld) (k : ℕ) (acted : Bool) (new : ExactWorld) : Type 0 where
  pub steps : Steps old (Devices ∷ Host ∷ turns old.schedule old.fabric.cycle k) new
  pub fabric : new.fabric ≡ old.fabric
  pub none : acted ≡ false → new ≡ old
  pub some : acted ≡ true → 0 < k
  pub busy : acted ≡ true → rest_of (opened old) ≡ None

-- a part of a run, up to a cycle that may be quiet; steady is whether the board is in step
pub record QuietRun (limit quiet : ℕ) (steady : Bool) (old new : ExactWorld) (number : ℕ) : Type 0 where
  pub ran : RunsOn limit old new
  pub cycle : new.fabric.cycle ≡ number
  pub calm : number < quiet → IsQuiet quiet new.fabric
  pub spare : need_of new ≤ new.fabric.spare
  pub in_step : steady ≡ true → IsInStep new.schedule
