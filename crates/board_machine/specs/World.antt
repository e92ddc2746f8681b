-- The board machine: its states, its steps and its lists of steps.
use Rattle.std.specs.Prelude.{◌≡◌, ℕ, ◌+◌, ◌*◌, ◌^◌, ◌≤◌, ◌<◌, ◌⊎◌, false, List, [], ◌∷◌, length, Option, Some, None, slice_get, slice_set, map}
use Rattle.std.specs.List.{AllByRecursion}
use Rattle.axi_link.specs.Channel.{empty}
use Rattle.isa_step.specs.Effects.{View, Effect, Due, Does, Waits, Sleeps, Ends, Stops, after}
use Rattle.isa_step.specs.Due.{due}
use Rattle.link_file.specs.File.{items_of}
use Rattle.board_file.specs.declared.board.BoardFile.{BoardFile}
use Rattle.board_file.specs.declared.board.CoreRow.{CoreRow}
use Rattle.board_file.specs.declared.board.End.{End}
use Rattle.board_file.specs.declared.board.End.TheVariants.{Port, File}
use Rattle.board_file.specs.declared.board.LinkRow.{LinkRow}
use Rattle.board_file.specs.declared.board.Turn.{Turn}
use Rattle.board_file.specs.declared.board.TimerRow.{TimerRow}
use Rattle.board_file.specs.declared.board.IntcRow.{IntcRow}
use Rattle.board_file.specs.declared.board.UartRow.{UartRow}
use Rattle.host_io.specs.declared.names.FileName.{FileName}
use Rattle.axi_timer.specs.Machine as timer
use Rattle.axi_intc.specs.Machine as intc
use Rattle.uart_lite.specs.Machine.{fresh}
use Rattle.board_machine.specs.declared.events.Event.{Event}
use Rattle.board_machine.specs.declared.events.Event.TheVariants.{Devices, Host, Tick, Next}
use Rattle.board_machine.specs.Bus.{Devices as DeviceSet, Serial}
use Rattle.board_machine.specs.DeviceMoves.{devices_moved, in_order, latched}
use Rattle.board_machine.specs.Fabric.{Fabric, Feed, shown, act_leaves, waited, host_moves, breaks_come, next_cycle, no_breaks}

-- the order of the cores' ticks, and the clock of each core
pub record Schedule : Type 0 where
  pub turn : Turn
  pub clocks : List ℕ

-- where a core stands: its view, its acts and ticks so far, and how many more ticks may pass before its next act
pub record CoreAt : Type 0 where
  pub view : View
  pub acts : ℕ
  pub ticks : ℕ
  pub slack : ℕ

pub record World : Type 0 where
  pub schedule : Schedule
  pub cores : List CoreAt
  pub fabric : Fabric

-- the act is done
pub record IsAct (core : ℕ) (effect : Effect) (old : CoreAt) (before : Fabric) (new : CoreAt) (later : Fabric) : Type 0 where
  pub slack : new.slack < 64
  pub state : new ≡ record { view = after old.view effect; acts = old.acts + 1; ticks = old.ticks + 1; slack = new.slack }
  pub fabric : later ≡ act_leaves core old.acts effect before

-- nothing changes but that the slack falls
pub record IsFilling (old : CoreAt) (before : Fabric) (new : CoreAt) (later : Fabric) : Type 0 where
  pub slack : new.slack < old.slack
  pub state : new ≡ record old { ticks = old.ticks + 1; slack = new.slack }
  pub fabric : later ≡ before

-- the core does nothing, and this is left of the fabric
pub record IsIdle (old : CoreAt) (left : Fabric) (new : CoreAt) (later : Fabric) : Type 0 where
  pub state : new ≡ record old { ticks = old.ticks + 1 }
  pub fabric : later ≡ left

-- what a tick of a core may do, by the outcome that is due
abbrev pub TickMay : ℕ → Due → CoreAt → Fabric → CoreAt → Fabric → Type 0
TickMay core (Does effect) old before new later = IsAct core effect old before new later ⊎ IsFilling old before new later
TickMay core (Waits port full) old before new later = IsIdle old (waited core old.acts (record { port = port; full = full }) before) new later ⊎ IsFilling old before new later
TickMay core Sleeps old before new later = IsIdle old before new later
TickMay core Ends old before new later = IsIdle old before new later
TickMay core (Stops cause) old before new later = IsIdle old before new later

pub record TickStep (core : ℕ) (old new : World) : Type 0 where
  pub was : CoreAt
  pub is : CoreAt
  pub there : slice_get old.cores core ≡ Some was
  pub schedule : new.schedule ≡ old.schedule
  pub cores : new.cores ≡ slice_set old.cores core is
  pub may : TickMay core (due was.view (shown old.fabric core)) was old.fabric is new.fabric

-- the acts of a core so far, which an entry of its line bears
abbrev pub acts_of : Option CoreAt → ℕ
acts_of None = 0
acts_of (Some s) = s.acts

abbrev pub line_latched : List CoreAt → ℕ → Fabric → Fabric
line_latched cores core f = latched core (acts_of (slice_get cores core)) f

-- the step of the devices: breaks come, the devices move, and the line of each core is latched, in board order
unfoldable pub devices_done : List CoreAt → Fabric → Fabric
devices_done cores f = in_order (line_latched cores) (length cores) (devices_moved (breaks_come f))

-- one event
abbrev pub Step : World → Event → World → Type 0
Step old Devices new = new ≡ record old { fabric = devices_done old.cores old.fabric }
Step old Host new = new ≡ record old { fabric = host_moves old.fabric (length old.fabric.rows) }
Step old (Tick core) new = TickStep core old new
Step old Next new = new ≡ record old { fabric = next_cycle old.fabric }

-- a list of events
abbrev pub Steps : World → List Event → World → Type 0
Steps old [] new = new ≡ old
Steps old (e ∷ es) new = (mid : World) × Step old e mid × Steps mid es new

-- how a board begins

-- the schedule of a board
abbrev pub schedule_of : BoardFile → Schedule
schedule_of b = record { turn = b.turn; clocks = map (λ (r : CoreRow). r.clock) b.cores }

-- the input files of the links, one for each link that begins at a file, in board order
abbrev pub first_blob : List (List ℕ) → List ℕ
first_blob [] = []
first_blob (blob ∷ blobs) = blob

abbrev pub more_blobs : List (List ℕ) → List (List ℕ)
more_blobs [] = []
more_blobs (blob ∷ blobs) = blobs

abbrev pub feed_of : End → List (List ℕ) → Feed
feed_of (Port core port) blobs = record { items = []; place = 0 }
feed_of (File name) blobs = record { items = items_of (first_blob blobs); place = 0 }

abbrev pub blobs_after : End → List (List ℕ) → List (List ℕ)
blobs_after (Port core port) blobs = blobs
blobs_after (File name) blobs = more_blobs blobs

abbrev pub feeds_of : List LinkRow → List (List ℕ) → List Feed
feeds_of [] blobs = []
feeds_of (r ∷ rs) blobs = feed_of r.from blobs ∷ feeds_of rs (blobs_after r.from blobs)

-- a UART for each row; the input files are in board order, one for each UART that has one
abbrev pub serial_of : Option FileName → List (List ℕ) → Serial
serial_of None blobs = record { port = fresh; input = []; place = 0 }
serial_of (Some name) blobs = record { port = fresh; input = first_blob blobs; place = 0 }

abbrev pub blobs_left : Option FileName → List (List ℕ) → List (List ℕ)
blobs_left None blobs = blobs
blobs_left (Some name) blobs = more_blobs blobs

abbrev pub serials_of : List UartRow → List (List ℕ) → List Serial
serials_of [] blobs = []
serials_of (r ∷ rs) blobs = serial_of r.input blobs ∷ serials_of rs (blobs_left r.input blobs)

abbrev pub fresh_devices : BoardFile → List (List ℕ) → DeviceSet
fresh_devices b blobs = record {
  timers = map (λ (r : TimerRow). timer.fresh) b.timers;
  intcs = map (λ (r : IntcRow). intc.fresh) b.intcs;
  uarts = serials_of b.uarts blobs;
}

-- the content of the input files of links and of UARTs, in board order
pub record Inputs : Type 0 where
  pub links : List (List ℕ)
  pub uarts : List (List ℕ)

-- a board with these views and the content of its input files, before its first event
pub record Start (b : BoardFile) (views : List View) (inputs : Inputs) (w : World) : Type 0 where
  pub has_schedule : w.schedule ≡ schedule_of b
  pub has_views : map (λ s. s.view) w.cores ≡ views
  pub fresh : (k : ℕ) (s : CoreAt) → slice_get w.cores k ≡ Some s → (s.acts ≡ 0) × (s.ticks ≡ 0) × (s.slack < 64)
  pub has_rows : w.fabric.rows ≡ b.links
  pub cycle : w.fabric.cycle ≡ 0
  pub links : w.fabric.links ≡ map (λ (r : LinkRow). empty r.depth) b.links
  pub feeds : w.fabric.feeds ≡ feeds_of b.links inputs.links
  pub has_bus : w.fabric.bus ≡ record { timers = b.timers; intcs = b.intcs; uarts = b.uarts }
  pub devices : w.fabric.devices ≡ fresh_devices b inputs.uarts
  pub lines : w.fabric.lines ≡ map (λ s. false) w.cores
  pub pending : w.fabric.pending ≡ map (λ s. no_breaks) w.cores
  pub left : w.fabric.left ≡ b.events
  pub journal : w.fabric.journal ≡ []

-- the world is the end of a list of steps from such a beginning
pub record Reached (b : BoardFile) (views : List View) (inputs : Inputs) (w : World) : Type 0 where
  pub first : World
  pub events : List Event
  pub began : Start b views inputs first
  pub ran : Steps first events w

-- what may be asked of a board

-- an event enters no more than this, nor does a whole cycle
abbrev pub need : World → ℕ
need w = 5 * length w.cores + length w.fabric.rows + length w.fabric.bus.uarts

abbrev pub IsThere : ℕ → Event → Type 0
IsThere cores Devices = Unit {0}
IsThere cores Host = Unit {0}
IsThere cores (Tick core) = core < cores
IsThere cores Next = Unit {0}

-- these events name cores that exist, all numbers stay small, and the journal has room
pub record CanPlay (w : World) (events : List Event) : Type 0 where
  pub there : AllByRecursion (IsThere (length w.cores)) events
  pub young : (k : ℕ) (s : CoreAt) → slice_get w.cores k ≡ Some s → s.ticks + length events ≤ 2 ^ 62
  pub early : w.fabric.cycle + length events ≤ 2 ^ 62
  pub spare : length events * need w ≤ w.fabric.spare
