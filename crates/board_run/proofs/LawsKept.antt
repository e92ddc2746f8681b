-- Each call keeps the laws of journals.
use Rattle.std.proofs.Common.{◌≡◌, ℕ, ◌+◌, List, [], ◌++◌, sym, subst, arith}
use Rattle.isa_step.specs.Effects.{View}
use Rattle.board_file.specs.declared.board.BoardFile.{BoardFile}
use Rattle.board_machine.specs.declared.events.Event.{Event}
use Rattle.board_machine.specs.Cycles.{Cycles, events_of}
use Rattle.board_machine.specs.World.{Inputs, Reached, Steps, World}
use Rattle.board_machine.proofs.Keeping.{keeps_runs}
use Rattle.journal_laws.specs.Laws.{RanCycles}
use Rattle.journal_laws.proofs.AllLaws.{runs_have_laws}
use Rattle.journal_laws.proofs.Joins.{runs_join}
use Rattle.journal_laws.proofs.LinkRuns.{link_law_holds}
use Rattle.journal_laws.proofs.PaceCycles.{progress_bound_holds}
use Rattle.journal_laws.proofs.TakeRuns.{take_law_holds}
use Rattle.board_run.specs.Laws.{HasLaws, HasProgress, KeepsLaws, KeepsProgress}

pub has_laws : (b : BoardFile) (views : List View) (inputs : Inputs) (w : World) → Reached b views inputs w → HasLaws b views w
has_laws b views inputs w r = record { links = link_law_holds.law b views inputs w r; takes = take_law_holds.law b views inputs w r }

pub has_progress : (b : BoardFile) (views : List View) (inputs : Inputs) (cycles : ℕ) (w : World) → RanCycles b views inputs cycles w → HasProgress b views inputs cycles w
has_progress b views inputs cycles w r = record { ran = r; laws = runs_have_laws.laws b views inputs cycles w r; pace = progress_bound_holds.at_end b views inputs cycles w r }

pub keeps_laws : (old new : World) (es : List Event) → Steps old es new → KeepsLaws old new
keeps_laws old new es h b views inputs r = has_laws b views inputs new (keeps_runs old new es h b views inputs r).reached

pub keeps_progress : (old new : World) (more : ℕ) → Cycles old more new → KeepsProgress old new
keeps_progress old new more h b views inputs cycles r = (more, has_progress b views inputs (cycles + more) new (runs_join.join b views inputs cycles more old new r h))

-- a cycle is a run of one
pub one_cycle : (old new : World) → Steps old (events_of old.schedule old.fabric.cycle) new → Cycles old 1 new
one_cycle old new h =
    let e : old.fabric.cycle + 0 ≡ old.fabric.cycle = omega arith in
    subst (λ n. Steps old ([] ++ events_of old.schedule n) new) (sym e) h
