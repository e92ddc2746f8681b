-- The ring of a number, as a board.
use Rattle.std.specs.Prelude.{ℕ, ◌+◌, ◌/◌, ◌%◌, ◌==◌, if◌then◌else◌, true, List, [], ◌∷◌, ◌++◌, codes, map}
use Rattle.std.specs.List.{range_with_len}
use Rattle.board_file.specs.declared.board.BoardFile.{BoardFile}
use Rattle.board_file.specs.declared.board.CoreRow.{CoreRow}
use Rattle.board_file.specs.declared.board.End.TheVariants.{Port, File}
use Rattle.board_file.specs.declared.board.LinkRow.{LinkRow}
use Rattle.board_file.specs.declared.board.Pipeline.{Pipeline}
use Rattle.board_file.specs.declared.board.Pipeline.TheVariants.{Plain, Three, Five, Eight}
use Rattle.board_file.specs.declared.board.Turn.{Turn}

-- 2 to 16 cores
abbrev pub cores_of : ℕ → ℕ
cores_of number = number % 15 + 2

-- a digit as its code
abbrev pub digit : ℕ → ℕ
digit d = 48 + d

-- `c` and the two digits of the core's number
abbrev pub core_name : ℕ → List ℕ
core_name core = codes "c" ++ digit (core / 10) ∷ digit (core % 10) ∷ []

-- the pipelines in turn
abbrev pub pipeline_at : ℕ → Pipeline
pipeline_at core =
    if core % 4 == 0 then Plain else if core % 4 == 1 then Three else if core % 4 == 2 then Five else Eight

-- a core's program isn't loaded from a file: the name of its image names none
abbrev pub ring_core : ℕ → CoreRow
ring_core core = record { name = core_name core; image = codes "image"; pipeline = pipeline_at core; clock = 1; memory = 4_096 }

-- the link from a core to the next, which has the name of the core that it comes from
abbrev pub ring_link : ℕ → ℕ → LinkRow
ring_link cores core = record { name = core_name core; depth = 4; from = Port core 0; to = Port ((core + 1) % cores) 0 }

-- the link from core 0 to the output
abbrev pub output_link : LinkRow
output_link = record { name = codes "output"; depth = 4; from = Port 0 1; to = File (codes "output") }

abbrev pub ring_cores : ℕ → List CoreRow
ring_cores cores = map ring_core (range_with_len 0 cores)

abbrev pub ring_links : ℕ → List LinkRow
ring_links cores = map (ring_link cores) (range_with_len 0 cores) ++ output_link ∷ []

-- the ring of a number in an order: a network board
abbrev pub ring_board : Turn → ℕ → BoardFile
ring_board turn number = record {
  version = 1;
  turn = turn;
  network = true;
  cores = ring_cores (cores_of number);
  links = ring_links (cores_of number);
  timers = [];
  intcs = [];
  uarts = [];
  events = [];
}
