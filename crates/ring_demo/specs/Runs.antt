-- The runs of a ring.
use Rattle.std.specs.Prelude.{ℕ}
use Rattle.board_file.specs.declared.board.Turn.{Turn}
use Rattle.board_file.specs.declared.board.Turn.TheVariants.{Ascending, Descending, Rotating}
use Rattle.board_machine.specs.declared.events.Rest.TheVariants as rest
use Rattle.board_machine.specs.declared.events.RunEnd.{RunEnd}
use Rattle.board_machine.specs.declared.events.RunEnd.TheVariants.{Rest as AtRest}
use Rattle.exact_machine.specs.Machine.{ExactWorld}
use Rattle.exact_machine.specs.Runs.{exact_start}
use Rattle.board_run.specs.Runs.{IsRunOf}
use Rattle.net_law.specs.Boards.{IsNetwork}
use Rattle.net_law.specs.Law.{FollowsNetwork}
use Rattle.ring_demo.specs.Programs.{no_inputs, ring_views}
use Rattle.ring_demo.specs.Ring.{ring_board}
use Rattle.ring_demo.specs.Summary.{IsTally}
use Rattle.ring_demo.specs.declared.run.Ran.{Ran}
use Rattle.ring_demo.specs.declared.run.Runs.{Runs}

-- the ring of a number in an order before its first event, with the room for entries
abbrev pub ring_start : Turn → ℕ → ExactWorld
ring_start turn number = exact_start (ring_board turn number) (ring_views number) no_inputs 1_048_576

-- the run of the ring by the exact machine, by cycles up to the first of rest, the limit and a full journal, and what left it
pub record HasRun (turn : Turn) (number : ℕ) (ran : Ran) : Type 0 where
  pub last : ExactWorld
  pub runs : IsRunOf (ring_board turn number) (ring_views number) no_inputs 1_048_576 10_000_000 last ran.end
  pub left : IsTally ran.tally last.fabric.journal
  -- each link carried a prefix of the reference network's history, and at rest all of it
  pub network : FollowsNetwork (ring_board turn number) (ring_views number) no_inputs runs.open_last

-- a run in each order
pub record HasRuns (number : ℕ) (runs : Runs) : Type 0 where
  pub ascends : HasRun Ascending number runs.ascending
  pub descends : HasRun Descending number runs.descending
  pub rotates : HasRun Rotating number runs.rotating

-- the end of a run, or that of later runs where each core came to its end or sleeps
abbrev pub end_then : RunEnd → RunEnd → RunEnd
end_then (AtRest rest.Ended) later = later
end_then end later = end

-- the end of the first run that didn't come to such a rest, or that all did
abbrev pub end_of : Runs → RunEnd
end_of runs = end_then runs.ascending.end (end_then runs.descending.end runs.rotating.end)

-- in each order a ring is a network board
pub record RingsAreNetworks : Type 0 where
  pub are : (turn : Turn) (number : ℕ) → IsNetwork (ring_board turn number) (ring_views number)
