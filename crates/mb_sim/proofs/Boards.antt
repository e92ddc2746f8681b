-- From what the parts of a run of a board say to what its status says.
use Rattle.std.proofs.lemmas.Option.{same_Some}
use Rattle.std.proofs.Common.{◌≡◌, ◌⊎◌, inl, inr, zero, suc, ℕ, List, [], ◌∷◌, length, Option, Some, None, Result, Ok, Err, Bool, true, false, refl, sym, ap, subst, ◌∙◌, slice_get}
use Rattle.std.specs.Prelude.{⊤, ◌||◌, IfOk, unwrap_or}
use Rattle.std.specs.Result.{result_ok}
use Rattle.std.specs.List.{list_any}
use Rattle.std.specs.Str.{bytes_eq}
use Rattle.isa_step.specs.Effects.{View}
use Rattle.host_io.specs.Outside.{Files, ShelfState, SinkState}
use Rattle.host_io.specs.declared.faults.StoreFault.{StoreFault}
use Rattle.run_journal.specs.declared.entry.Entry.{Entry}
use Rattle.board_file.specs.declared.board.BoardFile.{BoardFile}
use Rattle.board_machine.specs.declared.events.RunEnd.{RunEnd}
use Rattle.board_machine.specs.World.{Inputs}
use Rattle.exact_machine.specs.Machine.{ExactWorld}
use Rattle.exact_machine.specs.Runs.{ExactRun, exact_start}
use Rattle.board_run.specs.Runs.{IsRunOf}
use Rattle.board_run.proofs.WholeRuns.{run_of}
use Rattle.job_laws.proofs.Jobs.{jobs_follow}
use Rattle.host_io.specs.declared.faults.StoreFault.TheVariants as store
use Rattle.board_file.specs.declared.board.CoreRow.{CoreRow}
use Rattle.board_machine.specs.declared.events.Rest.TheVariants as rest
use Rattle.board_machine.specs.declared.events.RunEnd.TheVariants as end
use Rattle.board_file_laws.proofs.Distinct.{no_output}
use Rattle.board_file_laws.proofs.Soundness.{read_is_sound}
use Rattle.board_load.specs.Jobs.{AreCoresOf, IsJobOf}
use Rattle.board_load.specs.Loading.{Refuses}
use Rattle.board_load.specs.declared.refusal.Refusal.{Refusal}
use Rattle.board_load.specs.Named.{core_names, end_names, input_names, link_names, names_file, names_journal, uart_names}
use Rattle.board_file_laws.specs.Sound.{output_files}
use Rattle.host_io.specs.declared.faults.ShelfFaults.{ShelfFaults}
use Rattle.command_line.proofs.Filled.{same_text}
use Rattle.run_output_laws.specs.Apart.{IsNoOutput}
use Rattle.run_output_laws.proofs.Apart.{outputs_apart}
use Rattle.run_output.proofs.InOrder.{tells}
use Rattle.run_output.specs.declared.outputs.OutputFault.TheVariants as output
use Rattle.run_output.specs.Outputs.{AreApart, Output, WroteAll, WroteOutputs, outputs_of}
use Rattle.run_output.specs.Report.{report_text}
use Rattle.run_output.specs.declared.outputs.OutputFault.{OutputFault}
use Rattle.probe_set.specs.Sets.{Named}
use Rattle.mb_sim.specs.declared.status.Status.{Status}
use Rattle.mb_sim.specs.declared.run.RunWords.{RunWords}
use Rattle.mb_sim.specs.Board.{HasRun, Plays, Prints, Puts, PutsOut, Says, all_out, all_written, ends_of, file_refused, file_stops, printed, refused, report_of, report_refused, report_stops, status_of_refusal, stopped}
use Rattle.mb_sim.specs.Top.{CountsLoads, CountsWrites}
use Rattle.mb_sim.specs.Runs.{code_of, status_of}
use Rattle.mb_sim.proofs.Probes.{tells_all}

pub report_is : (board : BoardFile) (last : ExactWorld) (how : RunEnd) (entries : List Entry) (code cycles : ℕ) → entries ≡ last.fabric.journal → code ≡ code_of (status_of how) → cycles ≡ last.fabric.cycle
    → report_text board (ends_of last) entries code cycles ≡ report_of board last how
report_is board last how entries code cycles e c n =
    ap (λ es. report_text board (ends_of last) es code cycles) e ∙ ap (λ c. report_text board (ends_of last) last.fabric.journal c cycles) c ∙ ap (report_text board (ends_of last) last.fabric.journal (code_of (status_of how))) n

pub outputs_are : (board : BoardFile) (last : ExactWorld) (entries : List Entry) (journal : Option (List ℕ)) (shelf shelf' : ShelfState) (result : Result ⊤ OutputFault) → entries ≡ last.fabric.journal
    → WroteOutputs shelf shelf' (outputs_of board entries journal) result → WroteOutputs shelf shelf' (outputs_of board last.fabric.journal journal) result
outputs_are board last entries journal shelf shelf' result e w = let P : List Entry → Type 0 = λ es. WroteOutputs shelf shelf' (outputs_of board es journal) result in subst P e w

-- what holds of a board that was built
pub built : {A E : Type 0} (P : A → Type 0) (r : Result A E) (a : A) → Some a ≡ result_ok r → IfOk r P → P a
built P (Ok b) a is h = subst P (sym (ap (λ o. unwrap_or o a) is)) h
built P (Err e) a is h = cc

-- the files, and then the report
pub prints_out : (journal : Option (List ℕ)) (board : BoardFile) (last : ExactWorld) (how : RunEnd) (shelf shelf' : ShelfState) (out out' : SinkState) (status : Status)
    → WroteOutputs shelf shelf' (outputs_of board last.fabric.journal journal) (Ok tt) → Prints board last how out out' status → PutsOut journal board last how shelf shelf' out out' status
prints_out journal board last how shelf shelf' out out' status w (printed a) = all_out w a
prints_out journal board last how shelf shelf' out out' status w (stopped fault a) = report_stops fault w a

-- there is a view for each core
pub loaded_count : (files : Option Files) (network : Bool) (rows : List CoreRow) (views : List View) → AreCoresOf files network rows views → length views ≡ length rows
loaded_count files network [] [] h = refl
loaded_count files network [] (view ∷ views) h = absurd h
loaded_count files network (row ∷ rows) [] h = absurd h
loaded_count files network (row ∷ rows) (view ∷ views) h = ap suc (loaded_count files network rows views h.1)

-- the journal's file is no output of the board

or_right : (a b : Bool) → b ≡ true → a || b ≡ true
or_right true b e = refl
or_right false b e = e

or_left : (a b : Bool) → a ≡ true → a || b ≡ true
or_left a b e = rw e refl

none_true : (a b c : Bool) → a || b || c ≡ false → (b ≡ true) ⊎ (c ≡ true) → ⊥
none_true true b c h e = cc
none_true false true c h e = cc
none_true false false true h e = cc
none_true false false false h (inl e) = cc
none_true false false false h (inr e) = cc

any_at : {X : Type 0} (p : X → Bool) (xs : List X) (k : ℕ) (x : X) → slice_get xs k ≡ Some x → p x ≡ true → list_any p xs ≡ true
any_at p [] k x e h = cc
any_at p (y ∷ ys) zero x e h = let same : y ≡ x = same_Some _ _ e in rw (same, h) refl
any_at p (y ∷ ys) (suc k) x e h = or_right (p y) (list_any p ys) (any_at p ys k x e h)

no_journal_output : (board : BoardFile) (name : List ℕ) → names_file board name ≡ false → (k : ℕ) → slice_get (output_files board) k ≡ Some name → ⊥
unfolding names_file
no_journal_output board name h k e = no_output board.links board.uarts name
    (λ j link at to. none_true (list_any (core_names name) board.cores) (list_any (link_names name) board.links) (list_any (uart_names name) board.uarts) h
    (inl (any_at (link_names name) board.links j link at (or_right (end_names name link.from) (end_names name link.to) (ap (end_names name) to ∙ same_text name)))))
    (λ j uart at to. none_true (list_any (core_names name) board.cores) (list_any (link_names name) board.links) (list_any (uart_names name) board.uarts) h
    (inr (any_at (uart_names name) board.uarts j uart at (or_left (bytes_eq uart.output name) (input_names name uart.input) (ap (λ f. bytes_eq f name) to ∙ same_text name)))))
    k e

is_no_output : (board : BoardFile) (journal : Option (List ℕ)) → names_journal board journal ≡ false → IsNoOutput board journal
is_no_output board None h name e k = cc
is_no_output board (Some file) h name e k = no_journal_output board name (ap (names_file board) (sym (same_Some _ _ e)) ∙ h) k

-- so the outputs of a run have different names
pub apart : (files : Option Files) (file : List ℕ) (journal : Option (List ℕ)) (board : BoardFile) (views : List View) (inputs : Inputs) (entries : List Entry)
    → IsJobOf files file journal board views inputs → AreApart (outputs_of board entries journal)
apart files file journal board views inputs entries job =
    outputs_apart board entries journal (read_is_sound job.passes.is_board.0 board job.passes.is_board.2) (is_no_output board journal job.passes.spares)

-- what was written

write_results_to : (words : RunWords) (board : BoardFile) (last : ExactWorld) (shelf shelf' : ShelfState) (result : Result ⊤ StoreFault) → AreApart (outputs_of board last.fabric.journal words.journal)
    → WroteAll shelf shelf' (outputs_of board last.fabric.journal words.journal) result → Puts words board last shelf shelf' result
write_results_to words board last shelf shelf' result a w = record { in_order = w; places = tells shelf shelf' (outputs_of board last.fabric.journal words.journal) result a w }

says_puts : (words : RunWords) (shelf shelf' : ShelfState) (out out' : SinkState) (probes probes' : List Named) (status : Status) (board : BoardFile) (last : ExactWorld) (how : RunEnd) → HasRun words shelf.files probes probes' board last how
    → AreApart (outputs_of board last.fabric.journal words.journal) → PutsOut words.journal board last how shelf shelf' out out' status → Says words shelf shelf' out out' probes probes' status
says_puts words shelf shelf' out out' probes probes' status board last how has a (all_out w p) = all_written board last how has (write_results_to words board last shelf shelf' (Ok tt) a w) p
says_puts words shelf shelf' out out' probes probes' status board last how has a (file_stops (output.Failed file) w e) = file_refused board last how (output.Failed file) has (write_results_to words board last shelf shelf' (Err store.Failed) a w.0) w.1 e
says_puts words shelf shelf' out out' probes probes' status board last how has a (file_stops output.NoMemory w e) = file_refused board last how output.NoMemory has (write_results_to words board last shelf shelf' (Err store.NoMemory) a w) tt e
says_puts words shelf shelf' out out' probes probes' status board last how has a (report_stops fault w p) = report_refused board last how fault has (write_results_to words board last shelf shelf' (Ok tt) a w) p

-- a board that was refused
pub says_refused : (words : RunWords) (shelf shelf' : ShelfState) (out : SinkState) (probes : List Named) (status : Status) (cause : Refusal) → status ≡ status_of_refusal cause
    → Refuses shelf shelf' words.file words.journal cause → shelf'.files ≡ shelf.files → Says words shelf shelf' out out probes probes status
says_refused words shelf shelf' out probes status cause is refuses same =
    subst (Says words shelf shelf' out out probes probes) (sym is) (refused cause refuses same refl refl)

pub says_played : (words : RunWords) (shelf mid shelf' : ShelfState) (out out' : SinkState) (probes probes' : List Named) (status : Status) (board file : BoardFile) (views : List View) (inputs : Inputs) (first : ExactWorld)
    → IsJobOf shelf.files words.file words.journal board views inputs → file ≡ board → first ≡ exact_start board views inputs words.entries → mid ≡ shelf
    → Plays words file first mid shelf' out out' probes probes' status → Says words shelf shelf' out out' probes probes' status
says_played words shelf mid shelf' out out' probes probes' status board file views inputs first job same began quiet p =
    let P : BoardFile → Type 0 = λ b. PutsOut words.journal b p.last p.how mid shelf' out out' status in
    let Q : ShelfState → Type 0 = λ s. PutsOut words.journal board p.last p.how s shelf' out out' status in
    let R : ExactWorld → Type 0 = λ x. ExactRun words.cycles x p.last p.how in
    let ran : IsRunOf board views inputs words.entries words.cycles p.last p.how =
    run_of board views inputs words.entries words.cycles p.last p.how (loaded_count shelf.files board.network board.cores views job.has_cores) (subst R began p.ran) in
    says_puts words shelf shelf' out out' probes probes' status board p.last p.how
    (record {
      views = views;
      inputs = inputs;
      job = job;
      ran = ran;
      network = λ is. jobs_follow.follows shelf.files board views inputs ran.open_last
          (record { file = words.file; journal = words.journal; job = job; network = is; first = ran.is_run.first; began = ran.is_run.began; count = ran.is_run.ran.count; ran = ran.is_run.ran.cycles });
      tells = tells_all board views inputs words.entries first p.last probes probes' began p.tells;
    })
    (apart shelf.files words.file words.journal board views inputs p.last.fabric.journal job) (subst Q quiet (subst P same p.puts))

-- counts of faults

wrote_quiet : (old new : ShelfState) (outputs : List Output) → WroteAll old new outputs (Ok tt) → new.faults ≡ old.faults
wrote_quiet old new [] h = ap (λ (s : ShelfState). s.faults) h
wrote_quiet old new (o ∷ os) h = wrote_quiet h.0 new os h.2 ∙ h.1.1

wrote_loads : (old new : ShelfState) (outputs : List Output) (fault : StoreFault) → WroteAll old new outputs (Err fault) → new.faults.load_faults ≡ old.faults.load_faults
wrote_loads old new [] fault h = absurd h
wrote_loads old new (o ∷ os) store.Failed (inl h) = h.1.loads
wrote_loads old new (o ∷ os) store.NoMemory (inl h) = ap (λ (f : ShelfFaults). f.load_faults) h.1
wrote_loads old new (o ∷ os) fault (inr h) = wrote_loads h.0 new os fault h.2 ∙ ap (λ (f : ShelfFaults). f.load_faults) h.1.1

-- where memory was refused, no failed write is counted
wrote_no_memory : (old new : ShelfState) (outputs : List Output) → WroteAll old new outputs (Err store.NoMemory) → new.faults.write_faults ≡ old.faults.write_faults
wrote_no_memory old new [] h = absurd h
wrote_no_memory old new (o ∷ os) (inl h) = ap (λ (f : ShelfFaults). f.write_faults) h.1
wrote_no_memory old new (o ∷ os) (inr h) = wrote_no_memory h.0 new os h.2 ∙ ap (λ (f : ShelfFaults). f.write_faults) h.1.1

pub ended_loads : (how : RunEnd) (before now : ℕ) → now ≡ before → CountsLoads before now (status_of how)
ended_loads (end.Rest rest.Ended) before now e = e
ended_loads (end.Rest rest.Waiting) before now e = e
ended_loads (end.Rest rest.Stopped) before now e = e
ended_loads end.CyclesSpent before now e = e
ended_loads end.JournalFull before now e = e

pub ended_writes : (how : RunEnd) (before now : ℕ) → now ≡ before → CountsWrites before now (status_of how)
ended_writes (end.Rest rest.Ended) before now e = e
ended_writes (end.Rest rest.Waiting) before now e = e
ended_writes (end.Rest rest.Stopped) before now e = e
ended_writes end.CyclesSpent before now e = e
ended_writes end.JournalFull before now e = e

pub puts_loads : (journal : Option (List ℕ)) (board : BoardFile) (last : ExactWorld) (how : RunEnd) (shelf shelf' : ShelfState) (out out' : SinkState) (status : Status) → PutsOut journal board last how shelf shelf' out out' status
    → CountsLoads shelf.faults.load_faults shelf'.faults.load_faults status
puts_loads journal board last how shelf shelf' out out' status (all_out w p) = ended_loads how shelf.faults.load_faults shelf'.faults.load_faults (ap (λ (f : ShelfFaults). f.load_faults) (wrote_quiet shelf shelf' _ w))
puts_loads journal board last how shelf shelf' out out' status (file_stops (output.Failed file) w e) = wrote_loads shelf shelf' _ store.Failed w.0
puts_loads journal board last how shelf shelf' out out' status (file_stops output.NoMemory w e) = wrote_loads shelf shelf' _ store.NoMemory w
puts_loads journal board last how shelf shelf' out out' status (report_stops store.Failed w p) = ap (λ (f : ShelfFaults). f.load_faults) (wrote_quiet shelf shelf' _ w)
puts_loads journal board last how shelf shelf' out out' status (report_stops store.NoMemory w p) = ap (λ (f : ShelfFaults). f.load_faults) (wrote_quiet shelf shelf' _ w)

pub puts_writes : (journal : Option (List ℕ)) (board : BoardFile) (last : ExactWorld) (how : RunEnd) (shelf shelf' : ShelfState) (out out' : SinkState) (status : Status) → PutsOut journal board last how shelf shelf' out out' status
    → CountsWrites out.faults out'.faults status
puts_writes journal board last how shelf shelf' out out' status (all_out w p) = ended_writes how out.faults out'.faults p.1
puts_writes journal board last how shelf shelf' out out' status (file_stops (output.Failed file) w e) = tt
puts_writes journal board last how shelf shelf' out out' status (file_stops output.NoMemory w e) = ap (λ (o : SinkState). o.faults) e
puts_writes journal board last how shelf shelf' out out' status (report_stops store.Failed w p) = tt
puts_writes journal board last how shelf shelf' out out' status (report_stops store.NoMemory w p) = p.1

pub puts_stores : (journal : Option (List ℕ)) (board : BoardFile) (last : ExactWorld) (how : RunEnd) (shelf shelf' : ShelfState) (out out' : SinkState) (status : Status) → PutsOut journal board last how shelf shelf' out out' status
    → CountsWrites shelf.faults.write_faults shelf'.faults.write_faults status
puts_stores journal board last how shelf shelf' out out' status (all_out w p) = ended_writes how shelf.faults.write_faults shelf'.faults.write_faults (ap (λ (f : ShelfFaults). f.write_faults) (wrote_quiet shelf shelf' _ w))
puts_stores journal board last how shelf shelf' out out' status (file_stops (output.Failed file) w e) = tt
puts_stores journal board last how shelf shelf' out out' status (file_stops output.NoMemory w e) = wrote_no_memory shelf shelf' _ w
puts_stores journal board last how shelf shelf' out out' status (report_stops store.Failed w p) = tt
puts_stores journal board last how shelf shelf' out out' status (report_stops store.NoMemory w p) = ap (λ (f : ShelfFaults). f.write_faults) (wrote_quiet shelf shelf' _ w)
