-- From what the run of `raw` and the printing say to what the status says.
use Rattle.std.proofs.Common.{◌≡◌, List, Ok, sym, subst}
use Rattle.std.specs.Io.KnownBytes.{append_known}
use Rattle.exact_machine.specs.Machine.{ExactWorld}
use Rattle.board_machine.specs.declared.events.Rest.TheVariants as rest
use Rattle.board_machine.specs.declared.events.RunEnd.{RunEnd}
use Rattle.board_machine.specs.declared.events.RunEnd.TheVariants as end
use Rattle.host_io.specs.Outside.{Adds, ShelfState, SinkState}
use Rattle.run_journal.specs.declared.entry.Entry.{Entry}
use Rattle.probe_set.specs.Sets.{Named}
use Rattle.mb_sim.specs.Raw.{printed}
use Rattle.mb_sim.specs.Runs.{status_of}
use Rattle.mb_sim.specs.Top.{HasRunTo, RawJob, Says}
use Rattle.mb_sim.specs.declared.status.Status.{Status}

-- a run whose items were printed
pub says_printed : (job : RawJob) (shelf shelf' : ShelfState) (out out' : SinkState) (probes probes' : List Named) (how : RunEnd) (last : ExactWorld) (entries : List Entry) (status : Status) → HasRunTo job shelf probes probes' how last
    → entries ≡ last.fabric.journal → Adds out out' (printed entries) (Ok tt) → status ≡ status_of how → Says job shelf shelf' out out' probes probes' status
says_printed job shelf shelf' out out' probes probes' how last entries status ran same adds is =
    let P : Status → Type 0 = λ s. Says job shelf shelf' out out' probes probes' s in
    let Q : List Entry → Type 0 = λ es. out'.written ≡ append_known out.written (printed es) in
    subst P (sym is) (by_end how ran (subst Q same adds.0)) where
      by_end : (how : RunEnd) → HasRunTo job shelf probes probes' how last → (out'.written ≡ append_known out.written (printed last.fabric.journal)) → Says job shelf shelf' out out' probes probes' (status_of how)
      by_end (end.Rest rest.Ended) h written = (last, h, written)
      by_end (end.Rest rest.Waiting) h written = (last, h, written)
      by_end (end.Rest rest.Stopped) h written = (last, h, written)
      by_end end.CyclesSpent h written = (last, h, written)
      by_end end.JournalFull h written = (last, h, written)
