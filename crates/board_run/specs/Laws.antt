-- The laws of journals, as a board has them and as a call keeps them.
use Rattle.std.specs.Prelude.{◌≡◌, ℕ, ◌+◌, List, Some, slice_get}
use Rattle.isa_step.specs.Effects.{View}
use Rattle.board_file.specs.declared.board.BoardFile.{BoardFile}
use Rattle.board_machine.specs.World.{CoreAt, Inputs, Reached, World}
use Rattle.board_machine.specs.Runs.{KeepsRest, KeepsRuns}
use Rattle.exact_machine.specs.Machine.{ExactWorld}
use Rattle.exact_machine.specs.Opening.{IsOpen}
use Rattle.net_law.specs.Law.{KeepsNetwork}
use Rattle.journal_laws.specs.LinkLaw.{LinkLaw}
use Rattle.journal_laws.specs.TakeLaw.{TakeLaw}
use Rattle.journal_laws.specs.Laws.{HasLaws as HasRunLaws, KeepsPace, RanCycles}

-- the journal of a board that began with these views has the link law, and each core has the take law
pub record HasLaws (b : BoardFile) (views : List View) (w : World) : Type 0 where
  pub links : LinkLaw b.links w.fabric.journal
  pub takes : (core : ℕ) (s : CoreAt) (first : View) → slice_get w.cores core ≡ Some s → slice_get views core ≡ Some first
      → TakeLaw b.events first core s.acts w.fabric.journal

-- a board that ran so many cycles: its journal has all laws, the progress bound among them, and each core that goes on keeps
-- its pace
pub record HasProgress (b : BoardFile) (views : List View) (inputs : Inputs) (cycles : ℕ) (w : World) : Type 0 where
  pub ran : RanCycles b views inputs cycles w
  pub laws : HasRunLaws b views w
  pub pace : KeepsPace b views cycles w

-- whatever the board, the views and the inputs were: where the board stood for the end of a list of steps from its
-- beginning, its journal has the laws now
abbrev pub KeepsLaws : World → World → Type 0
KeepsLaws old new = (b : BoardFile) (views : List View) (inputs : Inputs) → Reached b views inputs old → HasLaws b views new

-- where it had run by cycles it has now run by more of them, and its journal has the progress bound
abbrev pub KeepsProgress : World → World → Type 0
KeepsProgress old new =
    (b : BoardFile) (views : List View) (inputs : Inputs) (cycles : ℕ) → RanCycles b views inputs cycles old
    → (more : ℕ) × HasProgress b views inputs (cycles + more) new

-- whatever state of the open machine the old one stands for, the new one stands for one to which the call led
abbrev pub InOpen : (World → World → Type 0) → ExactWorld → ExactWorld → Type 0
InOpen P old new = (w : World) → IsOpen old w → (v : World) × IsOpen new v × P w v

-- there the call keeps what is told of runs, the laws of journals, the network law, and rest
abbrev pub KeepsAll : World → World → Type 0
KeepsAll w v = KeepsRuns w v × KeepsLaws w v × KeepsNetwork w v × KeepsRest w v
