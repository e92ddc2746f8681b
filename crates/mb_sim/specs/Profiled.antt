-- What `profile` does, and the ways in which it can end.
use Rattle.std.specs.Prelude.{◌≡◌, ℕ, List, ◌++◌, drop, flat_map, length, Option, Some, None, Ok, Err, slice_get}
use Rattle.std.specs.List.{enumerate_from}
use Rattle.host_io.specs.Outside.{Adds, Files, ShelfState, SinkState}
use Rattle.host_io.specs.declared.faults.StoreFault.{StoreFault}
use Rattle.board_file.specs.declared.board.BoardFile.{BoardFile}
use Rattle.board_file.specs.declared.board.CoreRow.{CoreRow}
use Rattle.board_load.specs.Loading.{Refuses}
use Rattle.board_load.specs.declared.refusal.Refusal.{Refusal}
use Rattle.board_machine.specs.declared.events.RunEnd.{RunEnd}
use Rattle.board_profile.specs.Lines.{profile_line}
use Rattle.board_profile.specs.Profiles.{Profiled, ProfiledRun}
use Rattle.exact_machine.specs.Machine.{ExactCore, ExactWorld}
use Rattle.exact_machine.specs.Profile.{Profile, nothing, profile_steps, total}
use Rattle.exact_machine.specs.Runs.{exact_events, exact_start}
use Rattle.probe_set.specs.Sets.{Named, all_told_each}
use Rattle.mb_sim.specs.Board.{HasRun, report_of, status_of_refusal, status_of_sink}
use Rattle.mb_sim.specs.Runs.{status_of}
use Rattle.mb_sim.specs.declared.run.RunWords.{RunWords}
use Rattle.mb_sim.specs.declared.status.Status.{Status}
use Rattle.mb_sim.specs.declared.status.Status.TheVariants.{NoMemory}

-- the profile of a core; there is one for each core
abbrev pub or_nothing : Option Profile → Profile
or_nothing None = nothing
or_nothing (Some p) = p

-- the line of the core of that number, and the lines of all
abbrev pub line_of_profile : List Profile → (ℕ × CoreRow) → List ℕ
line_of_profile profiles p = profile_line p.1.name (or_nothing (slice_get profiles p.0))

abbrev pub profile_lines : List Profile → List CoreRow → List ℕ
profile_lines profiles rows = flat_map (line_of_profile profiles) (enumerate_from 0 rows)

-- what is printed: the report, and the profiles
abbrev pub profile_text : BoardFile → Profiled → RunEnd → List ℕ
profile_text board last how = report_of board last.world how ++ profile_lines last.profiles board.cores

-- the profile of each core counts each of its ticks in these cycles from the beginning, and adds up to them
abbrev pub AreProfiles : ExactWorld → ℕ → Profiled → Type 0
AreProfiles start count last =
    (core : ℕ) (s : ExactCore) → slice_get last.world.cores core ≡ Some s
    → (slice_get last.profiles core ≡ Some (profile_steps start core (exact_events start count) nothing))
    × (total (profile_steps start core (exact_events start count) nothing) ≡ s.ticks)

-- the board of the file ran, as `run` runs it, and its ticks were counted
pub record HasProfiled (words : RunWords) (files : Option Files) (probes probes' : List Named) (board : BoardFile) (last : Profiled) (how : RunEnd) : Type 0 where
  pub run : HasRun words files probes probes' board last.world how
  pub profiles : AreProfiles (exact_start board run.views run.inputs words.entries) run.ran.ran.count last

-- the report and the profiles are printed, or refused
pub data PrintsProfiled (board : BoardFile) (last : Profiled) (how : RunEnd) (out out' : SinkState) : Status → Type 0 where
  printed : Adds out out' (profile_text board last how) (Ok tt) → PrintsProfiled board last how out out' (status_of how)
  stopped : (fault : StoreFault) → Adds out out' (profile_text board last how) (Err fault) → PrintsProfiled board last how out out' (status_of_sink fault)

-- a board runs up to its end, the probes are told the entries that come, and what the run gives is printed
pub record PlaysProfiled (cycles : ℕ) (board : BoardFile) (first : Profiled) (out out' : SinkState) (probes probes' : List Named) (status : Status) : Type 0 where
  pub last : Profiled
  pub how : RunEnd
  pub ran : ProfiledRun cycles first last how
  pub tells : probes' ≡ all_told_each (drop (length first.world.fabric.journal) last.world.fabric.journal) probes
  pub prints : PrintsProfiled board last how out out' status

-- the ways in which `profile` ends, by its status: the board is refused by its first cause; there is no memory for the run; or
-- it ran, and all is printed or refused. No file changes
pub data SaysProfile (words : RunWords) (shelf shelf' : ShelfState) (out out' : SinkState) (probes probes' : List Named) : Status → Type 0 where
  refused : (cause : Refusal) → Refuses shelf shelf' words.file words.journal cause → shelf'.files ≡ shelf.files → out' ≡ out → probes' ≡ probes
      → SaysProfile words shelf shelf' out out' probes probes' (status_of_refusal cause)
  no_memory : shelf' ≡ shelf → out' ≡ out → probes' ≡ probes → SaysProfile words shelf shelf' out out' probes probes' NoMemory
  ran : (board : BoardFile) (last : Profiled) (how : RunEnd) (status : Status) → HasProfiled words shelf.files probes probes' board last how → shelf' ≡ shelf
      → PrintsProfiled board last how out out' status → SaysProfile words shelf shelf' out out' probes probes' status
