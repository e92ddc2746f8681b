-- A run of a board from its beginning to its first end, and what is told of it.
use Rattle.std.specs.Prelude.{◌≡◌, ℕ, List}
use Rattle.isa_step.specs.Effects.{View}
use Rattle.board_file.specs.declared.board.BoardFile.{BoardFile}
use Rattle.board_machine.specs.declared.events.RunEnd.{RunEnd}
use Rattle.board_machine.specs.Cycles.{RunsTo}
use Rattle.board_machine.specs.History.{Tells}
use Rattle.board_machine.specs.World.{Inputs, Start, World}
use Rattle.exact_machine.specs.Machine.{ExactWorld}
use Rattle.exact_machine.specs.Opening.{IsOpen}
use Rattle.exact_machine.specs.Runs.{ExactRun, exact_start}
use Rattle.net_law.specs.Boards.{IsNetwork}
use Rattle.net_law.specs.Law.{FollowsNetwork}
use Rattle.board_run.specs.Laws.{HasLaws, HasProgress}

-- a run of the board machine from the beginning of a board with these views and inputs, with room for so many entries, by
-- cycles up to the first of rest, the limit and a full journal
pub record IsOpenRun (b : BoardFile) (views : List View) (inputs : Inputs) (entries limit : ℕ) (last : World) (end : RunEnd) : Type 0 where
  pub first : World
  pub began : Start b views inputs first
  pub room : first.fabric.spare ≡ entries
  pub ran : RunsTo limit first last end
  -- each core's view is what the instruction table leaves after its acts, and each take stands where one may come
  pub told : Tells views last.cores last.fabric.journal
  -- the journal has the link law and the take law, and its cycles the progress bound
  pub laws : HasLaws b views last
  pub progress : (cycles : ℕ) × HasProgress b views inputs cycles last
  -- on a network board each link carried a prefix of the reference network's history, and at rest all of it
  pub network : IsNetwork b views → FollowsNetwork b views inputs last

-- the run of the exact machine, which board, views, inputs, room and limit determine: each core acts in the ticks in which
-- the timing of the pipeline that its row names lets it. It is a run of the board machine, but for the slacks there
pub record IsRunOf (b : BoardFile) (views : List View) (inputs : Inputs) (entries limit : ℕ) (last : ExactWorld) (end : RunEnd) : Type 0 where
  pub ran : ExactRun limit (exact_start b views inputs entries) last end
  pub open_last : World
  pub is_open : IsOpen last open_last
  pub is_run : IsOpenRun b views inputs entries limit open_last end
