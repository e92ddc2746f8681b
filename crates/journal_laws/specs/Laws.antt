-- What is proved of every journal of the board machine.
use Rattle.std.specs.Prelude.{◌≡◌, ℕ, ◌+◌, ◌*◌, ◌≤◌, List, Some, map, slice_get}
use Rattle.std.specs.Option.{is_some}
use Rattle.isa_step.specs.Effects.{View, Ends}
use Rattle.isa_step.specs.Due.{due}
use Rattle.board_file.specs.declared.board.BoardFile.{BoardFile}
use Rattle.board_file.specs.declared.board.CoreRow.{CoreRow}
use Rattle.run_journal.specs.declared.entry.Entry.{Entry}
use Rattle.board_machine.specs.Cycles.{Cycles}
use Rattle.board_machine.specs.Fabric.{is_logged, shown}
use Rattle.board_machine.specs.World.{CoreAt, Inputs, Reached, Start, World}
use Rattle.journal_laws.specs.BreakLaw.{BreakLaw}
use Rattle.journal_laws.specs.LinkLaw.{LinkLaw}
use Rattle.journal_laws.specs.TakeLaw.{TakeLaw}
use Rattle.journal_laws.specs.Progress.{ProgressBound, asleep_recorded, rests_below, stopped_recorded, ticking, ticks_below, wait_recorded}

pub record LinkLawHolds : Type 0 where
  pub law : (b : BoardFile) (views : List View) (inputs : Inputs) (w : World) → Reached b views inputs w → LinkLaw b.links w.fabric.journal

pub record TakeLawHolds : Type 0 where
  pub law : (b : BoardFile) (views : List View) (inputs : Inputs) (w : World) → Reached b views inputs w
      → (core : ℕ) (s : CoreAt) (first : View) → slice_get w.cores core ≡ Some s → slice_get views core ≡ Some first → TakeLaw b.events first core s.acts w.fabric.journal

-- the cores that tick in a cycle of a board
abbrev pub order_of : BoardFile → ℕ → List ℕ
order_of b = ticking b.turn (map (λ (r : CoreRow). r.clock) b.cores)

-- a board that ran so many cycles from its beginning
pub record RanCycles (b : BoardFile) (views : List View) (inputs : Inputs) (count : ℕ) (w : World) : Type 0 where
  pub first : World
  pub began : Start b views inputs first
  pub ran : Cycles first count w

-- a core that is not at its end had at most 64 ticks for each act and one more, and those in which it could not act
pub record KeepsPace (b : BoardFile) (views : List View) (cycles : ℕ) (w : World) : Type 0 where
  pub ticks : (core : ℕ) (s : CoreAt) (first : View) → slice_get w.cores core ≡ Some s → slice_get views core ≡ Some first → s.ticks ≡ ticks_below (order_of b) core cycles
  pub bound : (core : ℕ) (s : CoreAt) (first : View) → slice_get w.cores core ≡ Some s → slice_get views core ≡ Some first → (due s.view (shown w.fabric core) ≡ Ends → ⊥)
      → ticks_below (order_of b) core cycles + 1 ≤ 64 * (s.acts + 1) + rests_below (order_of b) b.links first core w.fabric.journal cycles

pub record ProgressBoundHolds : Type 0 where
  pub law : (b : BoardFile) (views : List View) (inputs : Inputs) (count : ℕ) (w : World) → RanCycles b views inputs count w → ProgressBound (order_of b) b.links views w.fabric.journal
  pub at_end : (b : BoardFile) (views : List View) (inputs : Inputs) (count : ℕ) (w : World) → RanCycles b views inputs count w → KeepsPace b views count w

-- more cycles after a run by cycles are one such run, and each such run is one of those that the other laws speak of
pub record RunsJoin : Type 0 where
  pub join : (b : BoardFile) (views : List View) (inputs : Inputs) (count more : ℕ) (old new : World) → RanCycles b views inputs count old → Cycles old more new → RanCycles b views inputs (count + more) new
  pub reached : (b : BoardFile) (views : List View) (inputs : Inputs) (count : ℕ) (w : World) → RanCycles b views inputs count w → Reached b views inputs w

-- sleep, stop and a kept wait of a core are what its entries record
pub record IsRecorded (first : View) (core : ℕ) (s : CoreAt) (journal : List Entry) : Type 0 where
  pub asleep : asleep_recorded first core journal ≡ s.view.arch.asleep
  pub stopped : stopped_recorded first core journal ≡ is_some s.view.arch.stopped
  pub waits : is_some (wait_recorded core journal) ≡ is_logged core s.acts journal

pub record RestIsRecorded : Type 0 where
  pub law : (b : BoardFile) (views : List View) (inputs : Inputs) (w : World) → Reached b views inputs w
      → (core : ℕ) (s : CoreAt) (first : View) → slice_get w.cores core ≡ Some s → slice_get views core ≡ Some first → IsRecorded first core s w.fabric.journal

pub record BreakLawHolds : Type 0 where
  pub law : (b : BoardFile) (views : List View) (inputs : Inputs) (count : ℕ) (w : World) → RanCycles b views inputs count w → BreakLaw b.events views w.fabric.journal

-- what the journal of a run by cycles can be relied on for
pub record HasLaws (b : BoardFile) (views : List View) (w : World) : Type 0 where
  pub links : LinkLaw b.links w.fabric.journal
  pub takes : (core : ℕ) (s : CoreAt) (first : View) → slice_get w.cores core ≡ Some s → slice_get views core ≡ Some first → TakeLaw b.events first core s.acts w.fabric.journal
  pub breaks : BreakLaw b.events views w.fabric.journal
  pub progress : ProgressBound (order_of b) b.links views w.fabric.journal

pub record RunsHaveLaws : Type 0 where
  pub laws : (b : BoardFile) (views : List View) (inputs : Inputs) (count : ℕ) (w : World) → RanCycles b views inputs count w → HasLaws b views w
