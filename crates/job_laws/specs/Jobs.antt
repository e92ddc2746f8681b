-- Runs of boards that were loaded from files.
use Rattle.std.specs.Prelude.{◌≡◌, ℕ, true, List, map, Option, Some, slice_get}
use Rattle.isa_step.specs.Effects.{View}
use Rattle.host_io.specs.Outside.{Files}
use Rattle.board_file.specs.declared.board.BoardFile.{BoardFile}
use Rattle.board_file.specs.declared.board.CoreRow.{CoreRow}
use Rattle.board_file.specs.declared.board.End.TheVariants.{File}
use Rattle.board_file.specs.declared.board.LinkRow.{LinkRow}
use Rattle.board_load.specs.Jobs.{IsJobOf}
use Rattle.board_machine.specs.Cycles.{Cycles}
use Rattle.board_machine.specs.World.{Inputs, Start, World}
use Rattle.board_machine.specs.declared.events.RunEnd.{RunEnd}
use Rattle.exact_machine.specs.Machine.{ExactWorld}
use Rattle.exact_machine.specs.Runs.{ExactRun, exact_start}
use Rattle.net_law.specs.Boards.{IsOutput}
use Rattle.net_law.specs.Law.{Agree, FollowsNetwork}

-- some cycles of a file's network board, with the images and inputs that it names
pub record IsNetworkRun (files : Option Files) (b : BoardFile) (views : List View) (inputs : Inputs) (last : World) : Type 0 where
  pub file : List ℕ
  pub journal : Option (List ℕ)
  pub job : IsJobOf files file journal b views inputs
  pub network : b.network ≡ true
  pub first : World
  pub began : Start b views inputs first
  pub count : ℕ
  pub ran : Cycles first count last

-- such a run follows the reference network, and each link to a file has an output
pub record JobsFollow : Type 0 where
  pub follows : (files : Option Files) (b : BoardFile) (views : List View) (inputs : Inputs) (last : World) → IsNetworkRun files b views inputs last → FollowsNetwork b views inputs last
  pub outputs : (files : Option Files) (b : BoardFile) (views : List View) (inputs : Inputs) (last : World) → IsNetworkRun files b views inputs last → (link : ℕ) (row : LinkRow) (name : List ℕ) → slice_get b.links link ≡ Some row → row.to ≡ File name → IsOutput b link

-- what a core's first view depends on
abbrev pub loaded_by : CoreRow → List ℕ × ℕ
loaded_by row = (row.image, row.memory)

-- two runs over the same files, of boards with the same links, images and memories: order, clocks and pipelines may differ
pub record JobsAgree : Type 0 where
  pub agree : (files : Files) (b c : BoardFile) (views others : List View) (inputs given : Inputs) (v w : World) → c.links ≡ b.links → map loaded_by c.cores ≡ map loaded_by b.cores → IsNetworkRun (Some files) b views inputs v → IsNetworkRun (Some files) c others given w → Agree b v w

-- the run of a file's board, with the images and inputs that it names, this room for entries and this limit of cycles
pub record IsJobRun (files : Option Files) (b : BoardFile) (room limit : ℕ) (last : ExactWorld) (end : RunEnd) : Type 0 where
  pub file : List ℕ
  pub journal : Option (List ℕ)
  pub views : List View
  pub inputs : Inputs
  pub job : IsJobOf files file journal b views inputs
  pub ran : ExactRun limit (exact_start b views inputs room) last end

-- over the same files a board has one such run: it ends in the same state, the journal and the cycle number among it, and for
-- the same reason
pub record JobsRunAlike : Type 0 where
  pub alike : (files : Files) (b : BoardFile) (room limit : ℕ) (v w : ExactWorld) (end last : RunEnd)
      → IsJobRun (Some files) b room limit v end → IsJobRun (Some files) b room limit w last → (w ≡ v) × (last ≡ end)
