-- What a status says of the call that answered it.
use Rattle.std.specs.Prelude.{◌≡◌, ◌⊎◌, ⊤, codes, IfSome, ℕ, ◌≤◌, List, [], ◌∷◌, length, Option, Some, None, Result}
use Rattle.std.specs.Io.KnownBytes.{append_known}
use Rattle.host_io.specs.declared.faults.StoreFault.{StoreFault}
use Rattle.host_io.specs.Outside.{Adds, AddsPrefix, Files, IsLonger, Rose, ShelfState, SinkState, SourceState}
use Rattle.isa_step.specs.Effects.{View}
use Rattle.board_file.specs.declared.board.BoardFile.{BoardFile}
use Rattle.board_load.specs.Jobs.{IsJobOf}
use Rattle.board_machine.specs.declared.events.Rest.TheVariants as rest
use Rattle.board_machine.specs.declared.events.RunEnd.{RunEnd}
use Rattle.board_machine.specs.declared.events.RunEnd.TheVariants as end
use Rattle.board_machine.specs.World.{Inputs}
use Rattle.exact_machine.specs.Machine.{ExactWorld}
use Rattle.board_run.specs.Runs.{IsRunOf}
use Rattle.command_line.specs.declared.command.Command.{Command}
use Rattle.command_line.specs.declared.command.Command.TheVariants.{Asm, Debug, Demo, Dis, Profile, Raw, Run}
use Rattle.mb_sim.specs.declared.status.Status.{Status}
use Rattle.mb_sim.specs.declared.status.Status.TheVariants.{Ended, Waiting, Stopped, CyclesSpent, JournalFull, Usage, ReadFault, WriteFault, NoMemory, TooLong}
use Rattle.probe_set.specs.Sets.{Named}
use Rattle.mb_sim.specs.Board.{Says as SaysRun}
use Rattle.mb_sim.specs.Debugged.{AreNames, SaysDebug}
use Rattle.std.specs.Result.{IsOk}
use Rattle.debug_job.specs.Loading.{script_limit}
use Rattle.debug_script.specs.Scripts.{script_of}
use Rattle.debug_script.specs.declared.names.ScriptNames.{ScriptNames}
use Rattle.mb_sim.specs.declared.run.RunWords.{RunWords}
use Rattle.mb_sim.specs.Demo.{SaysDemo}
use Rattle.mb_sim.specs.Probes.{LeavesProbes, TellsProbes}
use Rattle.mb_sim.specs.Profiled.{SaysProfile}
use Rattle.mb_sim.specs.Raw.{no_inputs, printed, raw_board, raw_view}
use Rattle.mb_sim.specs.Tools.{SaysAssembled, SaysListed}

-- `raw`: a file, and a limit of cycles
pub record RawJob : Type 0 where
  pub file : List ℕ
  pub cycles : ℕ

-- the room for entries of a run that names none
abbrev pub default_entries : ℕ
default_entries = 1_048_576

-- the command's run ended so, and this is the board then
pub record HasRunTo (job : RawJob) (shelf : ShelfState) (probes probes' : List Named) (how : RunEnd) (last : ExactWorld) : Type 0 where
  pub image : List ℕ
  -- the image is the content of the file, where the shelf tells
  pub told : IfSome shelf.files (λ files. files job.file ≡ Some image)
  pub within : length image ≤ 65_536
  pub ran : IsRunOf (raw_board job.file) (raw_view image ∷ []) no_inputs default_entries job.cycles last how
  pub tells : TellsProbes last probes probes'

-- the command's run ended so, and the sink gained what it prints
abbrev pub Prints : RawJob → ShelfState → SinkState → SinkState → List Named → List Named → RunEnd → Type 0
Prints job shelf out out' probes probes' how =
    (last : ExactWorld) × HasRunTo job shelf probes probes' how last × (out'.written ≡ append_known out.written (printed last.fabric.journal))

-- the command's run ended, and the sink gained a prefix of what it prints
abbrev pub PrintsPrefix : RawJob → ShelfState → SinkState → SinkState → List Named → List Named → Type 0
PrintsPrefix job shelf out out' probes probes' =
    (how : RunEnd) × (last : ExactWorld) × HasRunTo job shelf probes probes' how last
    × AddsPrefix out.written out'.written (printed last.fabric.journal)

-- why the command's file has no run: a load that failed, a file that is too long, or want of memory, which is free
abbrev pub Refuses : RawJob → ShelfState → ShelfState → Status → Type 0
Refuses job shelf shelf' (ReadFault file) =
    (file ≡ job.file) × (shelf'.faults.bad ≡ Some file) × Rose shelf.faults.load_faults shelf'.faults.load_faults
Refuses job shelf shelf' (TooLong file) =
    (file ≡ job.file) × IfSome shelf.files (λ files. IsLonger (files file) 65_536)
Refuses job shelf shelf' NoMemory = ⊤
Refuses job shelf shelf' status = ⊥

-- what a status says of the command, and of the shelf, the sink and the probes before and after the call
abbrev pub Says : RawJob → ShelfState → ShelfState → SinkState → SinkState → List Named → List Named → Status → Type 0
Says job shelf shelf' out out' probes probes' Ended = Prints job shelf out out' probes probes' (end.Rest rest.Ended)
Says job shelf shelf' out out' probes probes' Waiting = Prints job shelf out out' probes probes' (end.Rest rest.Waiting)
Says job shelf shelf' out out' probes probes' Stopped = Prints job shelf out out' probes probes' (end.Rest rest.Stopped)
Says job shelf shelf' out out' probes probes' CyclesSpent = Prints job shelf out out' probes probes' end.CyclesSpent
Says job shelf shelf' out out' probes probes' JournalFull = Prints job shelf out out' probes probes' end.JournalFull
Says job shelf shelf' out out' probes probes' (WriteFault file) =
    (file ≡ codes "output") × Rose out.faults out'.faults × PrintsPrefix job shelf out out' probes probes'
Says job shelf shelf' out out' probes probes' NoMemory = ((out' ≡ out) × (probes' ≡ probes)) ⊎ PrintsPrefix job shelf out out' probes probes'
Says job shelf shelf' out out' probes probes' status = Refuses job shelf shelf' status × (out' ≡ out) × (probes' ≡ probes)

-- `raw` changes no file
pub record SaysRaw (job : RawJob) (shelf shelf' : ShelfState) (out out' : SinkState) (probes probes' : List Named) (status : Status) : Type 0 where
  pub says : Says job shelf shelf' out out' probes probes' status
  pub files : shelf'.files ≡ shelf.files

-- words that are no command leave all as it is
abbrev pub SaysUsage : ShelfState → ShelfState → SinkState → SinkState → Status → Type 0
SaysUsage shelf shelf' out out' Usage = (shelf' ≡ shelf) × (out' ≡ out)
SaysUsage shelf shelf' out out' NoMemory = (shelf' ≡ shelf) × (out' ≡ out)
SaysUsage shelf shelf' out out' status = ⊥

-- what a status says of the words
abbrev pub Answers : Option Command → ShelfState → ShelfState → SinkState → SinkState → List Named → List Named → Status → Type 0
Answers None = LeavesProbes SaysUsage
Answers (Some (Raw file cycles)) = SaysRaw (record { file = file; cycles = cycles })
Answers (Some (Run board cycles entries journal)) = SaysRun (record { file = board; cycles = cycles; entries = entries; journal = journal })
Answers (Some (Asm source output is_little)) = LeavesProbes (SaysAssembled source output is_little)
Answers (Some (Dis image)) = LeavesProbes (SaysListed image)
Answers (Some (Demo number)) = LeavesProbes (SaysDemo number)
Answers (Some (Profile board cycles entries)) = SaysProfile (record { file = board; cycles = cycles; entries = entries; journal = None })
-- `debug` alone reads the script: what its status says stands below
Answers (Some (Debug board cycles entries)) = λ shelf shelf' out out' probes probes' status. ⊤

-- the script is left
abbrev pub LeavesScript : ShelfState → ShelfState → SourceState → SourceState → SinkState → SinkState → List Named → List Named → Status → Type 0
LeavesScript shelf shelf' source source' out out' probes probes' status = source' ≡ source

-- what a status says of the script before and after the call: `debug` reads it, and all other words leave it
abbrev pub AnswersScript : Option Command → ShelfState → ShelfState → SourceState → SourceState → SinkState → SinkState → List Named → List Named → Status → Type 0
AnswersScript (Some (Debug board cycles entries)) = SaysDebug (record { file = board; cycles = cycles; entries = entries; journal = None })
AnswersScript command = LeavesScript

-- a load that failed is answered by its fault
abbrev pub CountsLoads : ℕ → ℕ → Status → Type 0
CountsLoads before now (ReadFault file) = ⊤
CountsLoads before now status = now ≡ before

-- a write that failed is answered by its fault
abbrev pub CountsWrites : ℕ → ℕ → Status → Type 0
CountsWrites before now (WriteFault file) = ⊤
CountsWrites before now status = now ≡ before

-- the stream gained the line, or a prefix of it where that write was refused
abbrev pub IsTold : SinkState → SinkState → List ℕ → Type 0
IsTold err err' line = (answer : Result ⊤ StoreFault) × Adds err err' line answer

-- the shelf tells the file, and no fault was counted
pub record IsFair (name : List ℕ) (image : List ℕ) (shelf shelf' : ShelfState) (out out' : SinkState) : Type 0 where
  pub files : Files
  pub told : shelf.files ≡ Some files
  pub there : files name ≡ Some image
  pub loads : ¬ Rose shelf.faults.load_faults shelf'.faults.load_faults
  pub writes : ¬ Rose out.faults out'.faults

-- the shelf tells the files of a board that has all that a run needs, and no fault was counted
pub record IsFairRun (file : List ℕ) (journal : Option (List ℕ)) (shelf shelf' : ShelfState) (out out' : SinkState) : Type 0 where
  pub files : Files
  pub told : shelf.files ≡ Some files
  pub board : BoardFile
  pub views : List View
  pub inputs : Inputs
  pub job : IsJobOf (Some files) file journal board views inputs
  pub loads : ¬ Rose shelf.faults.load_faults shelf'.faults.load_faults
  pub stores : ¬ Rose shelf.faults.write_faults shelf'.faults.write_faults
  pub writes : ¬ Rose out.faults out'.faults

-- the source tells a script within its limit and without a fault, whatever names the board's files give it, and no fault was counted
pub record IsFairScript (file : List ℕ) (files : Option Files) (source source' : SourceState) (probes : List Named) : Type 0 where
  pub text : List ℕ
  pub told : source.left ≡ Some text
  pub within : length text ≤ script_limit
  pub passes : (words : RunWords) (board : BoardFile) (names : ScriptNames) → words.file ≡ file → AreNames words files probes board names → IsOk (script_of names text)
  pub reads : ¬ Rose source.faults source'.faults

-- the run ended, or want of memory
abbrev pub HasRun : Status → Type 0
HasRun Ended = ⊤
HasRun Waiting = ⊤
HasRun Stopped = ⊤
HasRun CyclesSpent = ⊤
HasRun JournalFull = ⊤
HasRun NoMemory = ⊤
HasRun status = ⊥

-- that status, or want of memory
abbrev pub IsAnswer : Status → Status → Type 0
IsAnswer expected status = (status ≡ expected) ⊎ (status ≡ NoMemory)
