-- What a script does to a board, to the probes that are attached to it and to the output.
use Rattle.std.specs.Prelude.{◌≡◌, ◌⊎◌, ⊤, ℕ, List, [], ◌∷◌, ◌++◌, filter, not, nat_lt, if◌then◌else◌, Option, Some, None, Result, Ok, Err}
use Rattle.std.specs.Str.{bytes_eq}
use Rattle.board_machine.specs.Resting.{rest_of}
use Rattle.board_machine.specs.declared.events.Rest.{Rest}
use Rattle.board_machine.specs.declared.events.RunEnd.{RunEnd}
use Rattle.board_machine.specs.declared.events.RunEnd.TheVariants.{Rest as AtRest, CyclesSpent, JournalFull}
use Rattle.exact_machine.specs.Machine.{ExactWorld, opened}
use Rattle.exact_machine.specs.Runs.{exact_cycles}
use Rattle.exact_machine.specs.Stepping.{need_of}
use Rattle.host_io.specs.Outside.{Adds, SinkState}
use Rattle.host_io.specs.declared.faults.StoreFault.{StoreFault}
use Rattle.host_io.specs.declared.faults.StoreFault.TheVariants as store
use Rattle.probe_set.specs.Sets.{Named}
use Rattle.debug_script.specs.declared.command.Command.{Command}
use Rattle.debug_script.specs.declared.command.Command.TheVariants.{Break, Step, Run, Regs, Mem, Links, Where, Probe, Detach, Probes}
use Rattle.debug_script.specs.declared.names.ScriptNames.{ScriptNames}
use Rattle.mb_debug.specs.Prints.{said}
use Rattle.mb_debug.specs.Scenes.{RunsOn, Scene, StepsOn, scene}
use Rattle.mb_debug.specs.declared.breaks.Place.{Place}
use Rattle.mb_debug.specs.declared.run.ScriptEnd.{ScriptEnd}
use Rattle.mb_debug.specs.declared.run.ScriptEnd.TheVariants as end

-- a write that was refused ends a script so
abbrev pub end_of_write : StoreFault → ScriptEnd
end_of_write store.Failed = end.WriteFault
end_of_write store.NoMemory = end.NoMemory

-- a scene, and the breakpoints that were set before
pub record Session : Type 0 where
  pub scene : Scene
  pub places : List Place

abbrev pub session : ExactWorld → List Named → List Place → Session
session world probes places = record { scene = scene world probes; places = places }

-- nothing changes
abbrev pub Stays : Session → Session → Type 0
Stays old new = new ≡ old

-- without the probes of that name
abbrev pub dropped : List ℕ → List Named → List Named
dropped name = filter (λ n. not (bytes_eq n.name name))

-- what a command does: `step` and `run` alone move the board, by cycles
abbrev pub Does : ℕ → Command → Session → Session → Type 0
Does limit (Break core addr) old new = new ≡ record old { places = old.places ++ record { core = core; addr = addr } ∷ [] }
Does limit (Step count) old new = StepsOn limit count old.scene new.scene × (new.places ≡ old.places)
Does limit (Run count) old new = RunsOn limit count old.places old.scene new.scene × (new.places ≡ old.places)
Does limit (Regs core) old new = Stays old new
Does limit (Mem core addr count) old new = Stays old new
Does limit Links old new = Stays old new
Does limit Where old new = Stays old new
Does limit (Probe name) old new = Stays old new
Does limit (Detach name) old new = new ≡ record old { scene = record (old.scene) { probes = dropped name old.scene.probes } }
Does limit Probes old new = Stays old new

-- commands are done in order, each after the text of the one before was written; their texts together
abbrev pub DoesAll : ScriptNames → ℕ → List Command → Session → Session → List ℕ → Type 0
DoesAll names limit [] old new text = (new ≡ old) × (text ≡ [])
DoesAll names limit (c ∷ cs) old new text =
    (mid : Session) × (rest : List ℕ) × Does limit c old mid × (text ≡ said names c mid.scene ++ rest) × DoesAll names limit cs mid new rest

-- what one command leaves: it was done and its text written; or its text was refused; or there was no memory, for the
-- breakpoint or for the text
abbrev pub DoesOne : ScriptNames → ℕ → Command → Session → Session → SinkState → SinkState → Result ⊤ ScriptEnd → Type 0
DoesOne names limit c old new out out' (Ok done) = Does limit c old new × Adds out out' (said names c new.scene) (Ok tt)
DoesOne names limit c old new out out' (Err end.WriteFault) = Does limit c old new × Adds out out' (said names c new.scene) (Err store.Failed)
DoesOne names limit c old new out out' (Err end.NoMemory) =
    (Stays old new × (out' ≡ out)) ⊎ (Does limit c old new × Adds out out' (said names c new.scene) (Err store.NoMemory))

-- the end at which a board stands: rest, a full journal, or neither
abbrev pub end_by : ExactWorld → Option Rest → RunEnd
end_by w (Some rest) = AtRest rest
end_by w None = if nat_lt w.fabric.spare (need_of w) then JournalFull else CyclesSpent

abbrev pub last_end : ExactWorld → RunEnd
last_end w = end_by w (rest_of (opened w))

-- a script is cut off at a command whose text was refused, or for which there was no memory: those before it were done and their
-- texts written, and none after it was begun
pub record CutOff (names : ScriptNames) (limit : ℕ) (cs : List Command) (old new : Session) (out out' : SinkState) (why : ScriptEnd) : Type 0 where
  pub before : List Command
  pub command : Command
  pub after : List Command
  pub place : cs ≡ before ++ command ∷ after
  pub mid : Session
  pub held : SinkState
  pub text : List ℕ
  pub does : DoesAll names limit before old mid text
  pub adds : Adds out held text (Ok tt)
  pub fails : DoesOne names limit command mid new held out' (Err why)

-- what a script leaves
abbrev pub Ran : ScriptNames → ℕ → List Command → Session → Session → SinkState → SinkState → Result RunEnd ScriptEnd → Type 0
Ran names limit cs old new out out' (Ok how) =
    (text : List ℕ) × DoesAll names limit cs old new text × Adds out out' text (Ok tt) × (how ≡ last_end new.scene.world)
Ran names limit cs old new out out' (Err why) = CutOff names limit cs old new out out' why

-- the board is one to which cycles alone lead
abbrev pub ByCycles : ExactWorld → ExactWorld → Type 0
ByCycles old new = (n : ℕ) × (new ≡ exact_cycles old n)
