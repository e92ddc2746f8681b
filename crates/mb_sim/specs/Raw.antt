-- The board of `raw`, and what is printed of its run.
use Rattle.std.specs.Prelude.{ℕ, ◌-◌, false, List, [], ◌∷◌, ◌++◌, flat_map, length, replicate, Option, Some, None, codes}
use Rattle.core_regs.specs.State.{fresh}
use Rattle.core_regs.specs.declared.causes.Order.TheVariants.{Big}
use Rattle.isa_step.specs.Effects.{View}
use Rattle.run_journal.specs.declared.entry.Entry.{Entry}
use Rattle.run_journal.specs.declared.entry.What.{What}
use Rattle.run_journal.specs.declared.entry.What.TheVariants.{HostGot}
use Rattle.board_file.specs.declared.board.BoardFile.{BoardFile}
use Rattle.board_file.specs.declared.board.CoreRow.{CoreRow}
use Rattle.board_file.specs.declared.board.End.TheVariants.{Port, File}
use Rattle.board_file.specs.declared.board.LinkRow.{LinkRow}
use Rattle.board_file.specs.declared.board.Pipeline.TheVariants.{Plain}
use Rattle.board_file.specs.declared.board.Turn.TheVariants.{Ascending}
use Rattle.board_machine.specs.World.{Inputs}
use Rattle.exact_machine.specs.Machine.{ExactWorld}
use Rattle.exact_machine.specs.Runs.{exact_start}
use Rattle.mb_sim.specs.Lines.{item_line}

-- one plain core with 65,536 bytes
abbrev pub raw_core : List ℕ → CoreRow
raw_core file = record { name = codes "raw"; image = file; pipeline = Plain; clock = 1; memory = 65_536 }

-- its port 0 leads to the output
abbrev pub raw_link : LinkRow
raw_link = record { name = codes "out"; depth = 16; from = Port 0 0; to = File (codes "output") }

-- all its other ports lead nowhere
abbrev pub raw_board : List ℕ → BoardFile
raw_board file = record {
  version = 1;
  turn = Ascending;
  network = false;
  cores = raw_core file ∷ [];
  links = raw_link ∷ [];
  timers = [];
  intcs = [];
  uarts = [];
  events = [];
}

-- the bytes of an image at 0, and zeros behind them
abbrev pub memory_of : List ℕ → List ℕ
memory_of image = image ++ replicate (65_536 - length image) 0

abbrev pub raw_view : List ℕ → View
raw_view image = record { arch = fresh 0 Big false; memory = memory_of image }

-- the line of an item that left, for an entry that tells of one
abbrev pub printed_by : What → List ℕ
printed_by (HostGot link item) = item_line item
printed_by _ = []

-- the same for an entry that may not be there
abbrev pub printed_at : Option Entry → List ℕ
printed_at None = []
printed_at (Some e) = printed_by e.what

abbrev pub printed_of : Entry → List ℕ
printed_of e = printed_by e.what

abbrev pub printed : List Entry → List ℕ
printed = flat_map printed_of

-- it has no input
abbrev pub no_inputs : Inputs
no_inputs = record { links = []; uarts = [] }

-- the board of an image before its first event
abbrev pub raw_start : List ℕ → List ℕ → ExactWorld
raw_start file image = exact_start (raw_board file) (raw_view image ∷ []) no_inputs 1_048_576
