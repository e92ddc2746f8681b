-- What `run` does, and the ways in which it can end.
use Rattle.std.specs.Prelude.{◌≡◌, ℕ, ⊤, true, List, codes, drop, length, Option, Some, None, Result, Ok, Err, slice_get}
use Rattle.net_law.specs.Law.{FollowsNetwork}
use Rattle.isa_step.specs.Effects.{View}
use Rattle.host_io.specs.Outside.{Adds, Files, ShelfState, SinkState}
use Rattle.host_io.specs.declared.faults.StoreFault.{StoreFault}
use Rattle.host_io.specs.declared.faults.StoreFault.TheVariants as store
use Rattle.board_file.specs.declared.board.BoardFile.{BoardFile}
use Rattle.board_load.specs.Jobs.{IsJobOf}
use Rattle.board_load.specs.Loading.{Refuses}
use Rattle.board_load.specs.declared.refusal.Refusal.{Refusal}
use Rattle.board_load.specs.declared.refusal.Refusal.TheVariants as refusal
use Rattle.board_machine.specs.declared.events.RunEnd.{RunEnd}
use Rattle.board_machine.specs.World.{Inputs}
use Rattle.exact_machine.specs.Machine.{ExactCore, ExactWorld}
use Rattle.exact_machine.specs.Runs.{ExactRun}
use Rattle.board_run.specs.Boards.{exact_idle}
use Rattle.board_run.specs.Runs.{IsRunOf}
use Rattle.probe_set.specs.Sets.{Named, all_told_each}
use Rattle.run_output.specs.Outputs.{Tells, WroteAll, WroteOutputs, outputs_of}
use Rattle.run_output.specs.Report.{report_text}
use Rattle.run_output.specs.declared.outputs.OutputFault.{OutputFault}
use Rattle.run_output.specs.declared.outputs.OutputFault.TheVariants as output
use Rattle.run_output.specs.declared.report.CoreEnd.{CoreEnd}
use Rattle.mb_sim.specs.declared.run.RunWords.{RunWords}
use Rattle.mb_sim.specs.declared.status.Status.{Status}
use Rattle.mb_sim.specs.declared.status.Status.TheVariants.{Usage, ReadFault, BadBoard, BadImage, WriteFault, NoMemory, BadInput, TooLong}
use Rattle.mb_sim.specs.Probes.{TellsProbes}
use Rattle.mb_sim.specs.Runs.{code_of, status_of}

-- the board of the file, with its images and inputs, ran with this limit and so much room, and ended so
pub record HasRun (words : RunWords) (files : Option Files) (probes probes' : List Named) (board : BoardFile) (last : ExactWorld) (how : RunEnd) : Type 0 where
  pub views : List View
  pub inputs : Inputs
  pub job : IsJobOf files words.file words.journal board views inputs
  pub ran : IsRunOf board views inputs words.entries words.cycles last how
  -- on a network board each link's file is a prefix of what the reference network sends to it, and at rest all of that
  pub network : board.network ≡ true → FollowsNetwork board views inputs ran.open_last
  pub tells : TellsProbes last probes probes'

-- how a core stands at the end
abbrev pub core_end : ExactWorld → ℕ → Option ExactCore → CoreEnd
core_end w k None = record { idle = None; pc = 0; acts = 0 }
core_end w k (Some s) = record { idle = exact_idle w k; pc = s.view.arch.pc; acts = s.acts }

abbrev pub ends_of : ExactWorld → ℕ → CoreEnd
ends_of w k = core_end w k (slice_get w.cores k)

-- the report of a run that ended so
abbrev pub report_of : BoardFile → ExactWorld → RunEnd → List ℕ
report_of board last how = report_text board (ends_of last) last.fabric.journal (code_of (status_of how)) last.fabric.cycle

-- the outputs of the run were written in order, up to the first that is refused: those before it are whole, that one is as
-- before or a prefix, later ones and all other files are as before
pub record Puts (words : RunWords) (board : BoardFile) (last : ExactWorld) (shelf shelf' : ShelfState) (result : Result ⊤ StoreFault) : Type 0 where
  pub in_order : WroteAll shelf shelf' (outputs_of board last.fabric.journal words.journal) result
  pub places : Tells shelf shelf' (outputs_of board last.fabric.journal words.journal) result

-- the status of each refusal and of each failed write
abbrev pub status_of_refusal : Refusal → Status
status_of_refusal refusal.Usage = Usage
status_of_refusal (refusal.CannotRead file) = ReadFault file
status_of_refusal (refusal.BadBoard code place) = BadBoard code place
status_of_refusal (refusal.BadImage core code at) = BadImage core code at
status_of_refusal (refusal.BadInput file offset) = BadInput file offset
status_of_refusal (refusal.TooLong file) = TooLong file
status_of_refusal refusal.NoMemory = NoMemory

abbrev pub status_of_output : OutputFault → Status
status_of_output (output.Failed file) = WriteFault file
status_of_output output.NoMemory = NoMemory

abbrev pub status_of_sink : StoreFault → Status
status_of_sink store.Failed = WriteFault (codes "output")
status_of_sink store.NoMemory = NoMemory

-- the call of the shelf that failed was one at this file
abbrev pub store_of : OutputFault → StoreFault
store_of (output.Failed file) = store.Failed
store_of output.NoMemory = store.NoMemory

abbrev pub Names : ShelfState → OutputFault → Type 0
Names shelf' (output.Failed file) = shelf'.faults.bad ≡ Some file
Names shelf' output.NoMemory = ⊤

-- the report is printed, or refused
pub data Prints (board : BoardFile) (last : ExactWorld) (how : RunEnd) (out out' : SinkState) : Status → Type 0 where
  printed : Adds out out' (report_of board last how) (Ok tt) → Prints board last how out out' (status_of how)
  stopped : (fault : StoreFault) → Adds out out' (report_of board last how) (Err fault) → Prints board last how out out' (status_of_sink fault)

-- the ways in which what a run gives is put out: all is written, a file is refused, or the report is
pub data PutsOut (journal : Option (List ℕ)) (board : BoardFile) (last : ExactWorld) (how : RunEnd) (shelf shelf' : ShelfState) (out out' : SinkState) : Status → Type 0 where
  all_out : WroteOutputs shelf shelf' (outputs_of board last.fabric.journal journal) (Ok tt) → Adds out out' (report_of board last how) (Ok tt)
      → PutsOut journal board last how shelf shelf' out out' (status_of how)
  file_stops : (fault : OutputFault) → WroteOutputs shelf shelf' (outputs_of board last.fabric.journal journal) (Err fault) → out' ≡ out
      → PutsOut journal board last how shelf shelf' out out' (status_of_output fault)
  report_stops : (fault : StoreFault) → WroteOutputs shelf shelf' (outputs_of board last.fabric.journal journal) (Ok tt) → Adds out out' (report_of board last how) (Err fault)
      → PutsOut journal board last how shelf shelf' out out' (status_of_sink fault)

-- a board runs up to its end, the probes are told the entries that come, and what the run gives is put out
pub record Plays (words : RunWords) (board : BoardFile) (first : ExactWorld) (shelf shelf' : ShelfState) (out out' : SinkState) (probes probes' : List Named) (status : Status) : Type 0 where
  pub last : ExactWorld
  pub how : RunEnd
  pub ran : ExactRun words.cycles first last how
  pub tells : probes' ≡ all_told_each (drop (length first.fabric.journal) last.fabric.journal) probes
  pub puts : PutsOut words.journal board last how shelf shelf' out out' status

-- the ways in which the run of a board ends, by its status: the board is refused by its first cause; there is no memory for
-- the run; all is written; a file is refused; or the report is. Where there was a run, `HasRun` says what the probes were told
pub data Says (words : RunWords) (shelf shelf' : ShelfState) (out out' : SinkState) (probes probes' : List Named) : Status → Type 0 where
  refused : (cause : Refusal) → Refuses shelf shelf' words.file words.journal cause → shelf'.files ≡ shelf.files → out' ≡ out → probes' ≡ probes
      → Says words shelf shelf' out out' probes probes' (status_of_refusal cause)
  no_memory : shelf' ≡ shelf → out' ≡ out → probes' ≡ probes → Says words shelf shelf' out out' probes probes' NoMemory
  all_written : (board : BoardFile) (last : ExactWorld) (how : RunEnd) → HasRun words shelf.files probes probes' board last how
      → Puts words board last shelf shelf' (Ok tt) → Adds out out' (report_of board last how) (Ok tt)
      → Says words shelf shelf' out out' probes probes' (status_of how)
  file_refused : (board : BoardFile) (last : ExactWorld) (how : RunEnd) (fault : OutputFault) → HasRun words shelf.files probes probes' board last how
      → Puts words board last shelf shelf' (Err (store_of fault)) → Names shelf' fault → out' ≡ out
      → Says words shelf shelf' out out' probes probes' (status_of_output fault)
  report_refused : (board : BoardFile) (last : ExactWorld) (how : RunEnd) (fault : StoreFault) → HasRun words shelf.files probes probes' board last how
      → Puts words board last shelf shelf' (Ok tt) → Adds out out' (report_of board last how) (Err fault)
      → Says words shelf shelf' out out' probes probes' (status_of_sink fault)
