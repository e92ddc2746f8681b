-- From what the parts of a profiled run say to what its status says.
use Rattle.std.proofs.Common.{◌≡◌, ℕ, zero, suc, ◌<◌, List, length, Option, Some, None, Result, Ok, Err, refl, sym, ap, subst, ◌∙◌, arith, slice_get, replicate}
use Rattle.std.proofs.lemmas.Option.{slice_get_within}
use Rattle.std.specs.Prelude.{⊤}
use Rattle.isa_step.specs.Effects.{View}
use Rattle.host_io.specs.Outside.{Adds, ShelfState, SinkState}
use Rattle.host_io.specs.declared.faults.StoreFault.{StoreFault}
use Rattle.host_io.specs.declared.faults.StoreFault.TheVariants as store
use Rattle.run_journal.specs.declared.entry.Entry.{Entry}
use Rattle.board_file.specs.declared.board.BoardFile.{BoardFile}
use Rattle.board_file.specs.declared.board.CoreRow.{CoreRow}
use Rattle.board_load.proofs.NotRefused.{not_refused}
use Rattle.board_load.specs.Jobs.{IsJobOf}
use Rattle.board_load.specs.Loading.{Refuses}
use Rattle.board_load.specs.declared.refusal.Refusal.{Refusal}
use Rattle.board_machine.specs.World.{Inputs}
use Rattle.board_machine.specs.declared.events.RunEnd.{RunEnd}
use Rattle.board_profile.specs.Profiles.{Profiled, ProfiledRun}
use Rattle.exact_machine.specs.Machine.{ExactCore, ExactWorld}
use Rattle.exact_machine.specs.Profile.{nothing, profile_steps}
use Rattle.exact_machine.specs.Runs.{ExactRun, exact_events, exact_start}
use Rattle.exact_machine.proofs.Joins.{runs_join}
use Rattle.exact_machine.proofs.Profiles.{profiles_add_up}
use Rattle.board_run.proofs.WholeRuns.{run_count, run_of}
use Rattle.job_laws.proofs.Jobs.{jobs_follow}
use Rattle.command_line.specs.declared.command.Command.{Command}
use Rattle.command_line.specs.declared.command.Command.TheVariants.{Profile as ProfileOf}
use Rattle.run_output.specs.Report.{report_text}
use Rattle.piece_output.proofs.Added.{adds_cut, adds_then}
use Rattle.probe_set.specs.Sets.{Named}
use Rattle.mb_sim.specs.Board.{ends_of, report_of, status_of_refusal}
use Rattle.mb_sim.specs.Profiled.{AreProfiles, PlaysProfiled, PrintsProfiled, SaysProfile, no_memory, printed, profile_lines, profile_text, ran, refused, stopped}
use Rattle.mb_sim.specs.Runs.{code_of, status_of}
use Rattle.mb_sim.specs.Top.{Answers, CountsLoads, CountsWrites, HasRun, IsFairRun}
use Rattle.mb_sim.specs.declared.run.RunWords.{RunWords}
use Rattle.mb_sim.specs.declared.status.Status.{Status}
use Rattle.mb_sim.proofs.Boards.{ended_loads, ended_writes, loaded_count, report_is}
use Rattle.mb_sim.proofs.Probes.{tells_all}
use Rattle.mb_sim.proofs.FairRuns.{ended, environment_failure, printed as not_printed}

-- a run from a board's beginning, each tick of which was counted

record RanCounted (limit : ℕ) (start : ExactWorld) (last : Profiled) (how : RunEnd) : Type 0 where
  pub ran : ExactRun limit start last.world how
  pub counted : (core : ℕ) (s : ExactCore) → slice_get last.world.cores core ≡ Some s
      → slice_get last.profiles core ≡ Some (profile_steps start core (exact_events start ran.count) nothing)

at_zero : (n k : ℕ) → k < n → slice_get (replicate n nothing) k ≡ Some nothing
at_zero zero k l = absurd (omega (arith, l))
at_zero (suc n) zero l = refl
at_zero (suc n) (suc k) l = at_zero n k (omega (arith, l))

ran_counted : (limit : ℕ) (start : ExactWorld) (first last : Profiled) (how : RunEnd) → first.world ≡ start → first.profiles ≡ replicate (length first.world.cores) nothing
    → ProfiledRun limit first last how → RanCounted limit start last how
ran_counted limit start first last how began none p = subst (λ (x : ExactWorld). RanCounted limit x last how) began (record {
  ran = p.ran;
  counted = λ core s at.
      let within : core < length last.world.cores = slice_get_within last.world.cores core s at in
      let same : length last.world.cores ≡ length first.world.cores = run_count limit first.world last.world how p.ran in
      p.counted core nothing (ap (λ ps. slice_get ps core) none ∙ at_zero (length first.world.cores) core (omega (arith, within, same)));
})

are_profiles : (b : BoardFile) (views : List View) (inputs : Inputs) (room limit : ℕ) (last : Profiled) (how : RunEnd) (r : RanCounted limit (exact_start b views inputs room) last how)
    → AreProfiles (exact_start b views inputs room) r.ran.count last
are_profiles b views inputs room limit last how r core s at =
    let start = exact_start b views inputs room in
    let events = exact_events start r.ran.count in
    let there = ap (λ (x : ExactWorld). slice_get x.cores core) (sym (r.ran.ran ∙ runs_join.events start r.ran.count)) ∙ at in
    (r.counted core s at, (profiles_add_up.ticks b views inputs room events core s there).0)

-- a board that was refused
pub says_not_counted : (words : RunWords) (shelf shelf' : ShelfState) (out : SinkState) (probes : List Named) (status : Status) (cause : Refusal) → status ≡ status_of_refusal cause
    → Refuses shelf shelf' words.file words.journal cause → shelf'.files ≡ shelf.files → SaysProfile words shelf shelf' out out probes probes status
says_not_counted words shelf shelf' out probes status cause is refuses same =
    subst (SaysProfile words shelf shelf' out out probes probes) (sym is) (refused cause refuses same refl refl)

pub says_counted : (words : RunWords) (shelf shelf' : ShelfState) (out out' : SinkState) (probes probes' : List Named) (status : Status) (board file : BoardFile) (views : List View) (inputs : Inputs) (first : Profiled)
    → IsJobOf shelf.files words.file words.journal board views inputs → file ≡ board → first.world ≡ exact_start board views inputs words.entries
    → first.profiles ≡ replicate (length first.world.cores) nothing → shelf' ≡ shelf
    → PlaysProfiled words.cycles file first out out' probes probes' status → SaysProfile words shelf shelf' out out' probes probes' status
says_counted words shelf shelf' out out' probes probes' status board file views inputs first job same began none quiet p =
    let P : BoardFile → Type 0 = λ b. PrintsProfiled b p.last p.how out out' status in
    let r = ran_counted words.cycles (exact_start board views inputs words.entries) first p.last p.how began none p.ran in
    let run = run_of board views inputs words.entries words.cycles p.last.world p.how (loaded_count shelf.files board.network board.cores views job.has_cores) r.ran in
    ran board p.last p.how status
    (record {
      run = record {
        views = views;
        inputs = inputs;
        job = job;
        ran = record { ran = r.ran; open_last = run.open_last; is_open = run.is_open; is_run = run.is_run };
        network = λ is. jobs_follow.follows shelf.files board views inputs run.open_last
            (record { file = words.file; journal = words.journal; job = job; network = is; first = run.is_run.first; began = run.is_run.began; count = run.is_run.ran.count; ran = run.is_run.ran.cycles });
        tells = tells_all board views inputs words.entries first.world p.last.world probes probes' began p.tells;
      };
      profiles = are_profiles board views inputs words.entries words.cycles p.last p.how r;
    })
    quiet (subst P same p.prints)

-- the report, and then the profiles

pub report_seen : (board : BoardFile) (last seen : ExactWorld) (how : RunEnd) (entries : List Entry) (code cycles : ℕ) → seen ≡ last → entries ≡ last.fabric.journal → code ≡ code_of (status_of how) → cycles ≡ last.fabric.cycle
    → report_text board (ends_of seen) entries code cycles ≡ report_of board last how
report_seen board last seen how entries code cycles is e c n = ap (λ (x : ExactWorld). report_text board (ends_of x) entries code cycles) is ∙ report_is board last how entries code cycles e c n

pub all_added : (board : BoardFile) (last : Profiled) (how : RunEnd) (old mid new : SinkState) (text : List ℕ) (rows : List CoreRow) (result : Result ⊤ StoreFault) → text ≡ report_of board last.world how → rows ≡ board.cores
    → Adds old mid text (Ok tt) → Adds mid new (profile_lines last.profiles rows) result → Adds old new (profile_text board last how) result
all_added board last how old mid new text rows result is same before behind =
    let P : List ℕ → Type 0 = λ t. Adds old mid t (Ok tt) in
    let Q : List CoreRow → Type 0 = λ rs. Adds mid new (profile_lines last.profiles rs) result in
    adds_then old mid new (report_of board last.world how) (profile_lines last.profiles board.cores) result (subst P is before) (subst Q same behind)

pub report_cut : (board : BoardFile) (last : Profiled) (how : RunEnd) (old new : SinkState) (text : List ℕ) (fault : StoreFault) → text ≡ report_of board last.world how
    → Adds old new text (Err fault) → Adds old new (profile_text board last how) (Err fault)
report_cut board last how old new text fault is cut =
    let P : List ℕ → Type 0 = λ t. Adds old new t (Err fault) in
    adds_cut old new (report_of board last.world how) (profile_lines last.profiles board.cores) fault (subst P is cut)

-- where no fault was counted

prints_whole : (words : RunWords) (shelf shelf' : ShelfState) (out out' : SinkState) (status : Status) (board : BoardFile) (last : Profiled) (how : RunEnd) → IsFairRun words.file words.journal shelf shelf' out out'
    → PrintsProfiled board last how out out' status → HasRun status
prints_whole words shelf shelf' out out' status board last how fair (printed adds) = ended how
prints_whole words shelf shelf' out out' status board last how fair (stopped fault adds) = not_printed words shelf shelf' out out' (profile_text board last how) fault fair adds

profiles : (words : RunWords) (shelf shelf' : ShelfState) (out out' : SinkState) (probes probes' : List Named) (status : Status) → IsFairRun words.file words.journal shelf shelf' out out'
    → SaysProfile words shelf shelf' out out' probes probes' status → HasRun status
profiles words shelf shelf' out out' probes probes' status fair (refused cause refuses same quiet kept) =
    environment_failure words shelf shelf' out out' cause fair
    (not_refused shelf shelf' fair.files words.file words.journal fair.board fair.views fair.inputs cause fair.told fair.job refuses)
profiles words shelf shelf' out out' probes probes' status fair (no_memory same quiet kept) = tt
profiles words shelf shelf' out out' probes probes' status fair (ran board last how status' has same prints) = prints_whole words shelf shelf' out out' status' board last how fair prints

pub profiles_whole : (o : Option Command) (file : List ℕ) (cycles entries : ℕ) (shelf shelf' : ShelfState) (out out' : SinkState) (probes probes' : List Named) (s : Status)
    → Answers o shelf shelf' out out' probes probes' s → o ≡ Some (ProfileOf file cycles entries) → IsFairRun file None shelf shelf' out out' → HasRun s
profiles_whole o file cycles entries shelf shelf' out out' probes probes' s says is fair =
    let P : Option Command → Type 0 = λ o. Answers o shelf shelf' out out' probes probes' s in
    let words : RunWords = record { file = file; cycles = cycles; entries = entries; journal = None } in
    profiles words shelf shelf' out out' probes probes' s fair (subst P is says)

pub prints_writes : (board : BoardFile) (last : Profiled) (how : RunEnd) (out out' : SinkState) (status : Status) → PrintsProfiled board last how out out' status → CountsWrites out.faults out'.faults status
prints_writes board last how out out' status (printed adds) = ended_writes how out.faults out'.faults adds.1
prints_writes board last how out out' status (stopped store.Failed adds) = tt
prints_writes board last how out out' status (stopped store.NoMemory adds) = adds.1

pub prints_loads : (board : BoardFile) (last : Profiled) (how : RunEnd) (out out' : SinkState) (status : Status) (before now : ℕ) → now ≡ before → PrintsProfiled board last how out out' status → CountsLoads before now status
prints_loads board last how out out' status before now e (printed adds) = ended_loads how before now e
prints_loads board last how out out' status before now e (stopped store.Failed adds) = e
prints_loads board last how out out' status before now e (stopped store.NoMemory adds) = e

pub prints_stores : (board : BoardFile) (last : Profiled) (how : RunEnd) (out out' : SinkState) (status : Status) (before now : ℕ) → now ≡ before → PrintsProfiled board last how out out' status → CountsWrites before now status
prints_stores board last how out out' status before now e (printed adds) = ended_writes how before now e
prints_stores board last how out out' status before now e (stopped store.Failed adds) = tt
prints_stores board last how out out' status before now e (stopped store.NoMemory adds) = e
