-- What `debug` does, and the ways in which it can end.
use Rattle.std.specs.Prelude.{◌≡◌, ℕ, List, [], codes, map, Option, Some, None, Result, Ok, Err}
use Rattle.isa_step.specs.Effects.{View}
use Rattle.elf_image.specs.declared.symbol.Symbol.{Symbol}
use Rattle.host_io.specs.Outside.{Files, ShelfState, SinkState, SourceState}
use Rattle.board_file.specs.declared.board.BoardFile.{BoardFile}
use Rattle.board_load.specs.Jobs.{IsJobOf}
use Rattle.board_load.specs.Loading.{Refuses}
use Rattle.board_load.specs.Symbols.{AreSymbolsOf, NoSymbols}
use Rattle.board_load.specs.declared.refusal.Refusal.{Refusal}
use Rattle.board_machine.specs.declared.events.RunEnd.{RunEnd}
use Rattle.board_machine.specs.World.{Inputs}
use Rattle.exact_machine.specs.Machine.{ExactWorld}
use Rattle.exact_machine.specs.Runs.{exact_start}
use Rattle.probe_set.specs.Sets.{Named}
use Rattle.debug_script.specs.declared.command.Command.{Command}
use Rattle.debug_script.specs.declared.names.ScriptNames.{ScriptNames}
use Rattle.debug_job.specs.Loading.{LoadsScript}
use Rattle.debug_job.specs.Names.{names_of}
use Rattle.debug_job.specs.declared.refusal.ScriptRefusal.{ScriptRefusal}
use Rattle.debug_job.specs.declared.refusal.ScriptRefusal.TheVariants as script
use Rattle.mb_debug.specs.Scripts.{ByCycles, Ran, session}
use Rattle.mb_debug.specs.declared.breaks.Place.{Place}
use Rattle.mb_debug.specs.declared.run.ScriptEnd.{ScriptEnd}
use Rattle.mb_debug.specs.declared.run.ScriptEnd.TheVariants as end
use Rattle.mb_sim.specs.Board.{status_of_refusal}
use Rattle.mb_sim.specs.declared.run.RunWords.{RunWords}
use Rattle.mb_sim.specs.declared.status.Status.{Status}
use Rattle.mb_sim.specs.declared.status.Status.TheVariants.{BadScript, Ended, NoMemory, ReadFault, TooLong, WriteFault}

-- the status of a script that isn't read, and of one that was done or cut off
abbrev pub status_of_script : ScriptRefusal → Status
status_of_script script.CannotRead = ReadFault (codes "script")
status_of_script script.TooLong = TooLong (codes "script")
status_of_script (script.Refused code line) = BadScript code line
status_of_script script.NoMemory = NoMemory

abbrev pub status_of_debug : Result RunEnd ScriptEnd → Status
status_of_debug (Ok how) = Ended
status_of_debug (Err end.WriteFault) = WriteFault (codes "output")
status_of_debug (Err end.NoMemory) = NoMemory

-- the board of the file, with its images and inputs, at its beginning
pub record Begins (words : RunWords) (files : Option Files) (board : BoardFile) (first : ExactWorld) : Type 0 where
  pub views : List View
  pub inputs : Inputs
  pub job : IsJobOf files words.file words.journal board views inputs
  pub began : first ≡ exact_start board views inputs words.entries

-- what a script may name: the parts of the board, the symbols of its images, and the probes
pub record AreNames (words : RunWords) (files : Option Files) (probes : List Named) (board : BoardFile) (names : ScriptNames) : Type 0 where
  pub views : List View
  pub inputs : Inputs
  pub job : IsJobOf files words.file words.journal board views inputs
  pub symbols : List (List Symbol)
  pub told : AreSymbolsOf files board.cores symbols
  pub are : names ≡ names_of board symbols (map (λ (n : Named). n.name) probes)

-- the commands of a script are done on a board: cycles alone move it, and their texts are printed, or cut off
pub record DoesScript (cycles : ℕ) (commands : List Command) (names : ScriptNames) (first : ExactWorld) (out out' : SinkState) (probes probes' : List Named) (status : Status) : Type 0 where
  pub last : ExactWorld
  pub places : List Place
  pub result : Result RunEnd ScriptEnd
  pub ran : Ran names cycles commands (session first probes []) (session last probes' places) out out' result
  pub moved : ByCycles first last
  pub is : status ≡ status_of_debug result

-- the ways in which `debug` ends, by its status: the board is refused by its first cause; an image can't be read for its symbols;
-- the script is refused; there is no memory for the board; or the script was done, or cut off. No file changes
pub data SaysDebug (words : RunWords) (shelf shelf' : ShelfState) (source source' : SourceState) (out out' : SinkState) (probes probes' : List Named) : Status → Type 0 where
  refused : (cause : Refusal) → Refuses shelf shelf' words.file words.journal cause → shelf'.files ≡ shelf.files → source' ≡ source → out' ≡ out → probes' ≡ probes
      → SaysDebug words shelf shelf' source source' out out' probes probes' (status_of_refusal cause)
  no_symbols : (board : BoardFile) (views : List View) (inputs : Inputs) (cause : Refusal) → IsJobOf shelf.files words.file words.journal board views inputs
      → NoSymbols shelf shelf' board.cores cause → shelf'.files ≡ shelf.files → source' ≡ source → out' ≡ out → probes' ≡ probes
      → SaysDebug words shelf shelf' source source' out out' probes probes' (status_of_refusal cause)
  bad_script : (board : BoardFile) (names : ScriptNames) (cause : ScriptRefusal) → AreNames words shelf.files probes board names → LoadsScript source source' names (Err cause)
      → shelf' ≡ shelf → out' ≡ out → probes' ≡ probes → SaysDebug words shelf shelf' source source' out out' probes probes' (status_of_script cause)
  no_memory : shelf' ≡ shelf → source'.faults ≡ source.faults → out' ≡ out → probes' ≡ probes → SaysDebug words shelf shelf' source source' out out' probes probes' NoMemory
  done : (board : BoardFile) (names : ScriptNames) (commands : List Command) (first : ExactWorld) (status : Status) → AreNames words shelf.files probes board names
      → LoadsScript source source' names (Ok commands) → Begins words shelf.files board first → shelf' ≡ shelf
      → DoesScript words.cycles commands names first out out' probes probes' status → SaysDebug words shelf shelf' source source' out out' probes probes' status
