-- How an exact run begins, its cycles, and its first end.
use Rattle.std.specs.Prelude.{◌≡◌, ℕ, zero, suc, ◌<◌, false, List, [], ◌∷◌, ◌++◌, map, Option, Some, None}
use Rattle.axi_link.specs.Channel.{empty}
use Rattle.isa_step.specs.Effects.{View}
use Rattle.board_file.specs.declared.board.BoardFile.{BoardFile}
use Rattle.board_file.specs.declared.board.CoreRow.{CoreRow}
use Rattle.board_file.specs.declared.board.LinkRow.{LinkRow}
use Rattle.board_file.specs.declared.board.Pipeline.{Pipeline}
use Rattle.board_file.specs.declared.board.Pipeline.TheVariants.{Plain, Three, Five, Eight}
use Rattle.timing_law.specs.declared.pipe.Pipe.{Pipe}
use Rattle.timing_law.specs.declared.pipe.Pipe.TheVariants as pipe
use Rattle.timing_law.specs.Past.{fresh}
use Rattle.board_machine.specs.declared.events.Event.{Event}
use Rattle.board_machine.specs.declared.events.RunEnd.{RunEnd}
use Rattle.board_machine.specs.Cycles.{end_at, events_of}
use Rattle.board_machine.specs.Fabric.{Fabric, no_breaks}
use Rattle.board_machine.specs.World.{Inputs, feeds_of, fresh_devices, schedule_of}
use Rattle.exact_machine.specs.Machine.{ExactCore, ExactWorld, exact_steps, opened}

-- the pipeline that a row names
abbrev pub pipe_of : Pipeline → Pipe
pipe_of Plain = pipe.Plain
pipe_of Three = pipe.Three
pipe_of Five = pipe.Five
pipe_of Eight = pipe.Eight

-- a core of this row that has done nothing yet
abbrev pub fresh_core : CoreRow → View → ExactCore
fresh_core row view = record { view = view; acts = 0; ticks = 0; past = fresh (pipe_of row.pipeline) }

-- a core for each row and view
abbrev pub fresh_cores : List CoreRow → List View → List ExactCore
fresh_cores [] views = []
fresh_cores (row ∷ rows) [] = []
fresh_cores (row ∷ rows) (view ∷ views) = fresh_core row view ∷ fresh_cores rows views

abbrev pub fresh_fabric : BoardFile → List ExactCore → Inputs → ℕ → Fabric
fresh_fabric b cores inputs room = record {
  rows = b.links;
  bus = record { timers = b.timers; intcs = b.intcs; uarts = b.uarts };
  cycle = 0;
  links = map (λ (r : LinkRow). empty r.depth) b.links;
  feeds = feeds_of b.links inputs.links;
  devices = fresh_devices b inputs.uarts;
  lines = map (λ s. false) cores;
  pending = map (λ s. no_breaks) cores;
  left = b.events;
  journal = [];
  spare = room;
}

-- a board with these views, the content of its input files, and a journal with this much room, before its first event
abbrev pub exact_start : BoardFile → List View → Inputs → ℕ → ExactWorld
exact_start b views inputs room = record {
  schedule = schedule_of b;
  cores = fresh_cores b.cores views;
  fabric = fresh_fabric b (fresh_cores b.cores views) inputs room;
}

-- one cycle, and so many
abbrev pub exact_cycle : ExactWorld → ExactWorld
exact_cycle x = exact_steps x (events_of x.schedule x.fabric.cycle)

abbrev pub exact_cycles : ExactWorld → ℕ → ExactWorld
exact_cycles x zero = x
exact_cycles x (suc n) = exact_cycle (exact_cycles x n)

-- their events
abbrev pub exact_events : ExactWorld → ℕ → List Event
exact_events x zero = []
exact_events x (suc n) = exact_events x n ++ events_of (exact_cycles x n).schedule (exact_cycles x n).fabric.cycle

-- the end that is reached at the start of a cycle
abbrev pub exact_end : ℕ → ExactWorld → Option RunEnd
exact_end limit x = end_at limit (opened x)

-- cycles up to the first end
pub record ExactRun (limit : ℕ) (old new : ExactWorld) (end : RunEnd) : Type 0 where
  pub count : ℕ
  pub ran : new ≡ exact_cycles old count
  pub goes_on : (n : ℕ) → n < count → exact_end limit (exact_cycles old n) ≡ None
  pub ends : exact_end limit new ≡ Some end
