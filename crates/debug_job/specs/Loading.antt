-- A script that is read from its source, and why there is none.
use Rattle.std.specs.Prelude.{◌≡◌, ◌≤◌, ⊤, ℕ, List, length, Some, Result, Ok, Err}
use Rattle.debug_script.specs.Scripts.{script_of}
use Rattle.debug_script.specs.declared.command.Command.{Command}
use Rattle.debug_script.specs.declared.fault.ScriptFault.TheVariants as fault
use Rattle.debug_script.specs.declared.names.ScriptNames.{ScriptNames}
use Rattle.host_io.specs.Outside.{Rose, SourceState}
use Rattle.host_io.specs.Streams.{ReadsWhole}
use Rattle.host_io.specs.declared.faults.LoadFault.TheVariants as load
use Rattle.debug_job.specs.declared.refusal.ScriptRefusal.{ScriptRefusal}
use Rattle.debug_job.specs.declared.refusal.ScriptRefusal.TheVariants.{CannotRead, TooLong, Refused, NoMemory}

-- the most bytes of a script
abbrev pub script_limit : ℕ
script_limit = 1_048_576

-- the source was read to its end, and this text, within the limit, is all that it had left
abbrev pub IsWholeText : SourceState → SourceState → List ℕ → Type 0
IsWholeText old new text = ReadsWhole old new script_limit (Ok text)

-- what reading a script answers: the commands of all that the source had left, or the first line of that which is refused;
-- that the source had more than the limit; or a fault that was counted. Want of memory is left open, but counts no fault
abbrev pub LoadsScript : SourceState → SourceState → ScriptNames → Result (List Command) ScriptRefusal → Type 0
LoadsScript old new names (Ok commands) = (text : List ℕ) × IsWholeText old new text × (script_of names text ≡ Ok commands)
LoadsScript old new names (Err (Refused code line)) =
    (text : List ℕ) × IsWholeText old new text × (script_of names text ≡ Err (fault.Refused code line))
LoadsScript old new names (Err TooLong) = ReadsWhole old new script_limit (Err load.TooLong)
LoadsScript old new names (Err CannotRead) = ReadsWhole old new script_limit (Err load.Failed)
LoadsScript old new names (Err NoMemory) = new.faults ≡ old.faults

-- want of memory, or a read that failed and was counted
abbrev pub IsEnvironmentFailure : SourceState → SourceState → ScriptRefusal → Type 0
IsEnvironmentFailure old new NoMemory = ⊤
IsEnvironmentFailure old new CannotRead = Rose old.faults new.faults
IsEnvironmentFailure old new refusal = ⊥

-- a script without a fault and within its limit isn't refused but for such a failure
abbrev pub ScriptsAreNotRefused : Type 0
ScriptsAreNotRefused =
    (old new : SourceState) (names : ScriptNames) (text : List ℕ) (commands : List Command) (refusal : ScriptRefusal)
    → old.left ≡ Some text → length text ≤ script_limit → script_of names text ≡ Ok commands → LoadsScript old new names (Err refusal)
    → IsEnvironmentFailure old new refusal
