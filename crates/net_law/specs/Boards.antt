-- Which boards are networks.
use Rattle.std.specs.Prelude.{◌≡◌, ℕ, true, List, [], Some, slice_get}
use Rattle.isa_step.specs.Effects.{View}
use Rattle.board_file.specs.Board.{IsRead}
use Rattle.board_file.specs.declared.board.BoardFile.{BoardFile}
use Rattle.board_machine.specs.declared.events.HostPart.TheVariants.{Takes}
use Rattle.board_machine.specs.Fabric.{part_at}

-- each core knows that it is on a network board
abbrev pub AreMarked : List View → Type 0
AreMarked views = (core : ℕ) (v : View) → slice_get views core ≡ Some v → v.arch.network ≡ true

-- a network board: its cores are joined by links alone
pub record IsNetwork (b : BoardFile) (views : List View) : Type 0 where
  pub network : b.network ≡ true
  pub marked : AreMarked views
  pub timers : b.timers ≡ []
  pub intcs : b.intcs ≡ []
  pub uarts : b.uarts ≡ []
  pub events : b.events ≡ []

-- a link from a core to a file
abbrev pub IsOutput : BoardFile → ℕ → Type 0
IsOutput b link = part_at (slice_get b.links link) ≡ Takes

-- a board file that says `network = true` gives one
pub record ReadBoardsAreNetworks : Type 0 where
  pub read : (file : List ℕ) (b : BoardFile) (views : List View) → IsRead file b → b.network ≡ true → AreMarked views → IsNetwork b views
