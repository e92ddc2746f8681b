-- What follows for the status of `demo`.
use Rattle.std.proofs.Common.{◌≡◌, ℕ, List, Option, Some, inl, inr, refl, sym, ap, subst}
use Rattle.std.specs.Prelude.{Result, Ok, Err}
use Rattle.host_io.specs.Outside.{Rose, ShelfState, SinkState}
use Rattle.host_io.specs.declared.faults.StoreFault.{StoreFault}
use Rattle.host_io.specs.declared.faults.StoreFault.TheVariants as store
use Rattle.board_machine.specs.declared.events.Rest.TheVariants as rest
use Rattle.board_machine.specs.declared.events.RunEnd.{RunEnd}
use Rattle.board_machine.specs.declared.events.RunEnd.TheVariants as end
use Rattle.command_line.specs.declared.command.Command.{Command}
use Rattle.command_line.specs.declared.command.Command.TheVariants.{Demo}
use Rattle.ring_demo.specs.Demo.{Shows}
use Rattle.mb_sim.specs.declared.status.Status.{Status}
use Rattle.mb_sim.specs.declared.status.Status.TheVariants.{Ended, Waiting, Stopped, CyclesSpent, JournalFull, Usage, ReadFault, BadBoard, BadImage, WriteFault, NoMemory, BadScript, BadSource, BadInput, TooLong}
use Rattle.probe_set.specs.Sets.{Named}
use Rattle.mb_sim.specs.Demo.{IsShown, status_of_demo}
use Rattle.mb_sim.specs.Runs.{status_of}
use Rattle.mb_sim.specs.Top.{Answers, CountsLoads, CountsWrites, HasRun}
use Rattle.mb_sim.proofs.FairRuns.{ended}

-- where no fault was counted, the runs ended, or memory was wanting
shown_runs : (number : ℕ) (out out' : SinkState) (result : Result RunEnd StoreFault) → Shows number out out' result → ¬ Rose out.faults out'.faults → HasRun (status_of_demo result)
shown_runs number out out' (Ok how) shows quiet = ended how
shown_runs number out out' (Err store.Failed) (runs, has, prints) quiet = absurd (quiet prints.1.0)
shown_runs number out out' (Err store.NoMemory) shows quiet = tt

pub demo_runs : (o : Option Command) (number : ℕ) (shelf shelf' : ShelfState) (out out' : SinkState) (probes probes' : List Named) (s : Status) → Answers o shelf shelf' out out' probes probes' s → o ≡ Some (Demo number)
    → ¬ Rose out.faults out'.faults → HasRun s
demo_runs o number shelf shelf' out out' probes probes' s says is quiet =
    let P : Option Command → Type 0 = λ o. Answers o shelf shelf' out out' probes probes' s in
    let shown : IsShown number out out' s = (subst P is says).0.shown in
    subst HasRun (sym shown.is) (shown_runs number out out' shown.result shown.shows quiet)

-- a write that failed is answered by its fault

ended_counts : (before now : ℕ) (how : RunEnd) → now ≡ before → CountsWrites before now (status_of how)
ended_counts before now (end.Rest rest.Ended) e = e
ended_counts before now (end.Rest rest.Waiting) e = e
ended_counts before now (end.Rest rest.Stopped) e = e
ended_counts before now end.CyclesSpent e = e
ended_counts before now end.JournalFull e = e

shown_counts : (number : ℕ) (out out' : SinkState) (result : Result RunEnd StoreFault) → Shows number out out' result → CountsWrites out.faults out'.faults (status_of_demo result)
shown_counts number out out' (Ok how) (runs, has, prints) = ended_counts out.faults out'.faults how prints.1.1
shown_counts number out out' (Err store.Failed) shows = tt
shown_counts number out out' (Err store.NoMemory) (inl same) = ap (λ (s : SinkState). s.faults) same
shown_counts number out out' (Err store.NoMemory) (inr (runs, has, prints)) = prints.1

pub demo_counts : (number : ℕ) (out out' : SinkState) (s : Status) (result : Result RunEnd StoreFault) → Shows number out out' result → s ≡ status_of_demo result
    → CountsWrites out.faults out'.faults s
demo_counts number out out' s result shows is = subst (CountsWrites out.faults out'.faults) (sym is) (shown_counts number out out' result shows)

-- a shelf that stays counts nothing

pub same_loads : (count : ℕ) (s : Status) → CountsLoads count count s
same_loads count Ended = refl
same_loads count Waiting = refl
same_loads count Stopped = refl
same_loads count CyclesSpent = refl
same_loads count JournalFull = refl
same_loads count Usage = refl
same_loads count (ReadFault file) = tt
same_loads count (BadBoard code place) = refl
same_loads count (BadImage core code at) = refl
same_loads count (WriteFault file) = refl
same_loads count NoMemory = refl
same_loads count (BadSource code line column) = refl
same_loads count (BadScript code line) = refl
same_loads count (BadInput file offset) = refl
same_loads count (TooLong file) = refl

pub same_writes : (count : ℕ) (s : Status) → CountsWrites count count s
same_writes count Ended = refl
same_writes count Waiting = refl
same_writes count Stopped = refl
same_writes count CyclesSpent = refl
same_writes count JournalFull = refl
same_writes count Usage = refl
same_writes count (ReadFault file) = refl
same_writes count (BadBoard code place) = refl
same_writes count (BadImage core code at) = refl
same_writes count (WriteFault file) = tt
same_writes count NoMemory = refl
same_writes count (BadSource code line column) = refl
same_writes count (BadScript code line) = refl
same_writes count (BadInput file offset) = refl
same_writes count (TooLong file) = refl
