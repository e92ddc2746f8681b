-- What the process hands on to the top call, and what it answers where it has no words to hand on.
use Rattle.std.specs.Prelude.{ℕ, List, Option, drop, map, String, string_bytes}
use Rattle.std.specs.Vec.Iter.{into_iter_items}
use Rattle.std.specs.declared.alloc.Global.{Global}
use Rattle.std.specs.declared.io.ErrorKind.{ErrorKind}
use Rattle.std.specs.declared.io.ErrorKind.TheVariants.{OutOfMemory}
use Rattle.std.specs.declared.vec.IntoIter.{IntoIter}
use Rattle.command_line.specs.declared.command.Command.{Command}
use Rattle.host_io.specs.Outside.{ShelfState, SinkState, SourceState}
use Rattle.probe_set.specs.Sets.{Named}
use Rattle.mb_sim.specs.Top.{Answers, AnswersScript}
use Rattle.mb_sim.specs.declared.status.Status.{Status}
use Rattle.mb_sim.specs.declared.status.Status.TheVariants.{NoMemory, Usage}

-- the arguments of the process, the first of which is the program's name
abbrev pub Arguments : Type 0
Arguments = IntoIter (String Global) Global

-- the words after the program's name
abbrev pub words_after_name : Arguments → List (List ℕ)
words_after_name arguments = map string_bytes (drop 1 (into_iter_items arguments))

-- the answer where the system gives no arguments
abbrev pub refusal_of : ErrorKind → Status
refusal_of OutOfMemory = NoMemory
refusal_of kind = Usage

-- the words were answered with probes that begin so, and that end with the call
abbrev pub AnswersFrom : List Named → Option Command → ShelfState → ShelfState → SinkState → SinkState → Status → Type 0
AnswersFrom probes command shelf shelf' out out' status = (probes' : List Named) × Answers command shelf shelf' out out' probes probes' status

abbrev pub AnswersScriptFrom : List Named → Option Command → ShelfState → ShelfState → SourceState → SourceState → SinkState → SinkState → Status → Type 0
AnswersScriptFrom probes command shelf shelf' source source' out out' status = (probes' : List Named) × AnswersScript command shelf shelf' source source' out out' probes probes' status
