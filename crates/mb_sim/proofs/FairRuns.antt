-- What follows for the status of `run` where the files pass their tests and limits and no fault was counted.
use Rattle.std.proofs.Common.{◌≡◌, ℕ, List, Option, Some, Err, subst}
use Rattle.host_io.specs.Outside.{Adds, ShelfState, SinkState}
use Rattle.host_io.specs.declared.faults.StoreFault.{StoreFault}
use Rattle.host_io.specs.declared.faults.StoreFault.TheVariants as store
use Rattle.board_file.specs.declared.board.BoardFile.{BoardFile}
use Rattle.board_load.proofs.NotRefused.{not_refused}
use Rattle.board_load.specs.Refusals.{IsEnvironmentFailure}
use Rattle.board_load.specs.declared.refusal.Refusal.{Refusal}
use Rattle.board_load.specs.declared.refusal.Refusal.TheVariants as refusal
use Rattle.board_machine.specs.declared.events.Rest.TheVariants as rest
use Rattle.board_machine.specs.declared.events.RunEnd.{RunEnd}
use Rattle.board_machine.specs.declared.events.RunEnd.TheVariants as end
use Rattle.exact_machine.specs.Machine.{ExactWorld}
use Rattle.command_line.specs.declared.command.Command.{Command}
use Rattle.command_line.specs.declared.command.Command.TheVariants.{Run}
use Rattle.run_output.specs.declared.outputs.OutputFault.{OutputFault}
use Rattle.run_output.specs.declared.outputs.OutputFault.TheVariants as output
use Rattle.probe_set.specs.Sets.{Named}
use Rattle.mb_sim.specs.Board.{Puts, Says, all_written, file_refused, no_memory, refused, report_of, report_refused, status_of_output, status_of_refusal, status_of_sink, store_of}
use Rattle.mb_sim.specs.Runs.{status_of}
use Rattle.mb_sim.specs.Top.{Answers, HasRun, IsFairRun}
use Rattle.mb_sim.specs.declared.run.RunWords.{RunWords}
use Rattle.mb_sim.specs.declared.status.Status.{Status}

pub ended : (how : RunEnd) → HasRun (status_of how)
ended (end.Rest rest.Ended) = tt
ended (end.Rest rest.Waiting) = tt
ended (end.Rest rest.Stopped) = tt
ended end.CyclesSpent = tt
ended end.JournalFull = tt

-- a failure of the environment at loading is a fault that rose, or want of memory
pub environment_failure : (words : RunWords) (shelf shelf' : ShelfState) (out out' : SinkState) (cause : Refusal) → IsFairRun words.file words.journal shelf shelf' out out'
    → IsEnvironmentFailure shelf shelf' cause → HasRun (status_of_refusal cause)
environment_failure words shelf shelf' out out' refusal.NoMemory fair h = tt
environment_failure words shelf shelf' out out' (refusal.CannotRead name) fair h = absurd (fair.loads h)
environment_failure words shelf shelf' out out' (refusal.TooLong name) fair h = elim h [ ]
environment_failure words shelf shelf' out out' refusal.Usage fair h = elim h [ ]
environment_failure words shelf shelf' out out' (refusal.BadBoard code place) fair h = elim h [ ]
environment_failure words shelf shelf' out out' (refusal.BadImage core code at) fair h = elim h [ ]
environment_failure words shelf shelf' out out' (refusal.BadInput name offset) fair h = elim h [ ]

-- a write that is refused is a fault that rose, or want of memory
stored : (words : RunWords) (shelf shelf' : ShelfState) (out out' : SinkState) (board : BoardFile) (last : ExactWorld) (fault : OutputFault)
    → IsFairRun words.file words.journal shelf shelf' out out' → Puts words board last shelf shelf' (Err (store_of fault)) → HasRun (status_of_output fault)
stored words shelf shelf' out out' board last output.NoMemory fair puts = tt
stored words shelf shelf' out out' board last (output.Failed file) fair puts = absurd (fair.stores puts.places.4.writes.0)

pub printed : (words : RunWords) (shelf shelf' : ShelfState) (out out' : SinkState) (text : List ℕ) (fault : StoreFault)
    → IsFairRun words.file words.journal shelf shelf' out out' → Adds out out' text (Err fault) → HasRun (status_of_sink fault)
printed words shelf shelf' out out' text store.NoMemory fair adds = tt
printed words shelf shelf' out out' text store.Failed fair adds = absurd (fair.writes adds.1.0)

runs : (words : RunWords) (shelf shelf' : ShelfState) (out out' : SinkState) (probes probes' : List Named) (status : Status) → IsFairRun words.file words.journal shelf shelf' out out'
    → Says words shelf shelf' out out' probes probes' status → HasRun status
runs words shelf shelf' out out' probes probes' status fair (refused cause refuses same quiet kept) =
    environment_failure words shelf shelf' out out' cause fair
    (not_refused shelf shelf' fair.files words.file words.journal fair.board fair.views fair.inputs cause fair.told fair.job refuses)
runs words shelf shelf' out out' probes probes' status fair (no_memory same quiet kept) = tt
runs words shelf shelf' out out' probes probes' status fair (all_written board last how has puts prints) = ended how
runs words shelf shelf' out out' probes probes' status fair (file_refused board last how fault has puts names quiet) = stored words shelf shelf' out out' board last fault fair puts
runs words shelf shelf' out out' probes probes' status fair (report_refused board last how fault has puts adds) =
    printed words shelf shelf' out out' (report_of board last how) fault fair adds

pub runs_whole : (o : Option Command) (file : List ℕ) (cycles entries : ℕ) (journal : Option (List ℕ)) (shelf shelf' : ShelfState) (out out' : SinkState) (probes probes' : List Named) (s : Status)
    → Answers o shelf shelf' out out' probes probes' s → o ≡ Some (Run file cycles entries journal) → IsFairRun file journal shelf shelf' out out' → HasRun s
runs_whole o file cycles entries journal shelf shelf' out out' probes probes' s says is fair =
    let P : Option Command → Type 0 = λ o. Answers o shelf shelf' out out' probes probes' s in
    let words : RunWords = record { file = file; cycles = cycles; entries = entries; journal = journal } in
    runs words shelf shelf' out out' probes probes' s fair (subst P is says)
