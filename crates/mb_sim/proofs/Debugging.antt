-- What `debug` says by its status, and what follows where no fault was counted.
use Rattle.std.proofs.Common.{◌≡◌, ℕ, ◌≤◌, ◌⊎◌, List, [], ◌∷◌, map, length, Option, Some, None, Result, Ok, Err, inl, inr, refl, sym, ap, subst, ◌∙◌, arith}
use Rattle.std.specs.Result.{IsOk}
use Rattle.host_io.specs.Outside.{Adds, Files, ShelfState, SinkState, SourceState}
use Rattle.std.proofs.KnownBytes.{Consumes-nil}
use Rattle.host_io.specs.Streams.{TakesAtMost}
use Rattle.host_io.specs.declared.faults.StoreFault.TheVariants as store
use Rattle.board_file.specs.declared.board.BoardFile.{BoardFile}
use Rattle.board_load.proofs.NotRefused.{not_refused, symbols_not_refused}
use Rattle.board_load.specs.Refusals.{IsEnvironmentFailure}
use Rattle.board_load.specs.declared.refusal.Refusal.{Refusal}
use Rattle.board_load.specs.declared.refusal.Refusal.TheVariants as refusal
use Rattle.board_machine.specs.declared.events.RunEnd.{RunEnd}
use Rattle.command_line.specs.declared.command.Command.{Command as Chosen}
use Rattle.command_line.specs.declared.command.Command.TheVariants.{Asm, Debug, Demo, Dis, Profile, Raw, Run}
use Rattle.debug_script.specs.Scripts.{script_of}
use Rattle.debug_script.specs.declared.command.Command.{Command}
use Rattle.debug_script.specs.declared.fault.ScriptFault.{ScriptFault}
use Rattle.debug_script.specs.declared.names.ScriptNames.{ScriptNames}
use Rattle.debug_job.proofs.NotRefused.{not_refused as script_not_refused}
use Rattle.debug_job.specs.Loading.{IsEnvironmentFailure as ScriptFailed, LoadsScript}
use Rattle.debug_job.specs.declared.refusal.ScriptRefusal.{ScriptRefusal}
use Rattle.debug_job.specs.declared.refusal.ScriptRefusal.TheVariants as script
use Rattle.mb_debug.specs.declared.run.ScriptEnd.{ScriptEnd}
use Rattle.mb_debug.specs.declared.run.ScriptEnd.TheVariants as end
use Rattle.probe_set.specs.Sets.{Named, named}
use Rattle.probe_set.specs.declared.probe.ProbeState.{ProbeState}
use Rattle.isa_step.specs.Effects.{View}
use Rattle.elf_image.specs.declared.symbol.Symbol.{Symbol}
use Rattle.board_file.specs.declared.board.CoreRow.{CoreRow}
use Rattle.board_load.specs.Jobs.{IsJobOf}
use Rattle.board_load.specs.Loading.{Refuses}
use Rattle.board_load.specs.Symbols.{AreSymbolsOf, NoSymbols}
use Rattle.board_machine.specs.World.{Inputs}
use Rattle.debug_job.specs.Names.{names_of}
use Rattle.mb_sim.specs.Board.{status_of_refusal}
use Rattle.mb_sim.specs.Debugged.{AreNames, DoesScript, SaysDebug, bad_script, done, no_memory, no_symbols, refused, status_of_debug, status_of_script}
use Rattle.mb_sim.specs.Top.{AnswersScript, CountsLoads, CountsWrites, IsAnswer, IsFairRun, IsFairScript}
use Rattle.mb_sim.specs.declared.run.RunWords.{RunWords}
use Rattle.mb_sim.specs.declared.status.Status.{Status}
use Rattle.mb_sim.specs.declared.status.Status.TheVariants.{Ended, NoMemory}

-- what is refused at loading is a fault that rose, or want of memory
failed : (words : RunWords) (shelf shelf' : ShelfState) (out out' : SinkState) (cause : Refusal) → IsFairRun words.file words.journal shelf shelf' out out'
    → IsEnvironmentFailure shelf shelf' cause → IsAnswer Ended (status_of_refusal cause)
failed words shelf shelf' out out' refusal.NoMemory fair h = inr refl
failed words shelf shelf' out out' (refusal.CannotRead name) fair h = absurd (fair.loads h)
failed words shelf shelf' out out' (refusal.TooLong name) fair h = elim h [ ]
failed words shelf shelf' out out' refusal.Usage fair h = elim h [ ]
failed words shelf shelf' out out' (refusal.BadBoard code place) fair h = elim h [ ]
failed words shelf shelf' out out' (refusal.BadImage core code at) fair h = elim h [ ]
failed words shelf shelf' out out' (refusal.BadInput name offset) fair h = elim h [ ]

script_failed : (source source' : SourceState) (cause : ScriptRefusal) → ¬ Rattle.host_io.specs.Outside.Rose source.faults source'.faults → ScriptFailed source source' cause
    → IsAnswer Ended (status_of_script cause)
script_failed source source' script.NoMemory fair h = inr refl
script_failed source source' script.CannotRead fair h = absurd (fair h)
script_failed source source' script.TooLong fair h = elim h [ ]
script_failed source source' (script.Refused code line) fair h = elim h [ ]

-- a script that passes has commands
passed : (names : ScriptNames) (text : List ℕ) (r : Result (List Command) ScriptFault) → r ≡ script_of names text → IsOk r → (commands : List Command) × (script_of names text ≡ Ok commands)
passed names text (Ok commands) is ok = (commands, sym is)
passed names text (Err fault) is ok = cc

module _ (words : RunWords) (shelf shelf' : ShelfState) (source source' : SourceState) (out out' : SinkState) (probes probes' : List Named)
    (fair : IsFairRun words.file words.journal shelf shelf' out out') (reads : IsFairScript words.file shelf.files source source' probes) where
  script_done : (status : Status) (cycles : ℕ) (commands : List Command) (names : ScriptNames) (first : Rattle.exact_machine.specs.Machine.ExactWorld)
      → DoesScript cycles commands names first out out' probes probes' status → IsAnswer Ended status
  script_done status cycles commands names first d = subst (IsAnswer Ended) (sym d.is) (by_result d.result d.ran) where
    by_result : (result : Result RunEnd ScriptEnd) → Rattle.mb_debug.specs.Scripts.Ran names cycles commands (Rattle.mb_debug.specs.Scripts.session first probes []) (Rattle.mb_debug.specs.Scripts.session d.last probes' d.places) out out' result
        → IsAnswer Ended (status_of_debug result)
    by_result (Ok how) r = inl refl
    by_result (Err end.NoMemory) r = inr refl
    by_result (Err end.WriteFault) r = absurd (fair.writes (subst (λ n. Rattle.host_io.specs.Outside.Rose n out'.faults) r.adds.1 r.fails.1.1.0))

  ends : (status : Status) → SaysDebug words shelf shelf' source source' out out' probes probes' status → IsAnswer Ended status
  ends status (refused cause refuses same unread quiet kept) =
      failed words shelf shelf' out out' cause fair (not_refused shelf shelf' fair.files words.file words.journal fair.board fair.views fair.inputs cause fair.told fair.job refuses)
  ends status (no_symbols board views inputs cause job fails same unread quiet kept) =
      let P : Option Files → Type 0 = λ fs. Rattle.board_load.specs.Jobs.IsJobOf fs words.file words.journal board views inputs in
      failed words shelf shelf' out out' cause fair (symbols_not_refused shelf shelf' fair.files board.network board.cores views cause fair.told (subst P fair.told job).has_cores fails)
  ends status (bad_script board names cause are loads same quiet kept) =
      let ok = passed names reads.text (script_of names reads.text) refl (reads.passes words board names refl are) in
      script_failed source source' cause reads.reads (script_not_refused source source' names reads.text ok.0 cause reads.told reads.within ok.1 loads)
  ends status (no_memory same unread quiet kept) = inr refl
  ends status (done board names commands first status' are loads begins same d) = script_done status' words.cycles commands names first d

pub debugs_whole : (o : Option Chosen) (file : List ℕ) (cycles entries : ℕ) (shelf shelf' : ShelfState) (source source' : SourceState) (out out' : SinkState) (probes probes' : List Named) (s : Status)
    → AnswersScript o shelf shelf' source source' out out' probes probes' s → o ≡ Some (Debug file cycles entries) → IsFairRun file None shelf shelf' out out'
    → IsFairScript file shelf.files source source' probes → IsAnswer Ended s
debugs_whole o file cycles entries shelf shelf' source source' out out' probes probes' s says is fair reads =
    let P : Option Chosen → Type 0 = λ o. AnswersScript o shelf shelf' source source' out out' probes probes' s in
    let words : RunWords = record { file = file; cycles = cycles; entries = entries; journal = None } in
    ends words shelf shelf' source source' out out' probes probes' fair reads s (subst P is says)

-- what is said of a command's script is said of that of the words that are it
pub script_answered : (o : Option Chosen) (command : Chosen) (shelf shelf' : ShelfState) (source source' : SourceState) (out out' : SinkState) (probes probes' : List Named) (status : Status) → o ≡ Some command
    → AnswersScript (Some command) shelf shelf' source source' out out' probes probes' status → AnswersScript o shelf shelf' source source' out out' probes probes' status
script_answered o command shelf shelf' source source' out out' probes probes' status is says =
    let P : Option Chosen → Type 0 = λ o. AnswersScript o shelf shelf' source source' out out' probes probes' status in
    subst P (sym is) says

-- want of memory before anything was done
pub nothing_read : (o : Option Chosen) (shelf : ShelfState) (source : SourceState) (out : SinkState) (probes : List Named) → AnswersScript o shelf shelf source source out out probes probes NoMemory
nothing_read None shelf source out probes = refl
nothing_read (Some (Raw file cycles)) shelf source out probes = refl
nothing_read (Some (Run board cycles entries journal)) shelf source out probes = refl
nothing_read (Some (Asm input output is_little)) shelf source out probes = refl
nothing_read (Some (Dis image)) shelf source out probes = refl
nothing_read (Some (Profile board cycles entries)) shelf source out probes = refl
nothing_read (Some (Demo number)) shelf source out probes = refl
nothing_read (Some (Debug board cycles entries)) shelf source out probes = no_memory refl refl refl refl

-- ---- from what the parts of the call say to what its status says

mapped_twice : {X Y Z : Type 0} (f : X → Y) (g : Y → Z) (xs : List X) → map (λ x. g (f x)) xs ≡ map g (map f xs)
mapped_twice f g [] = refl
mapped_twice f g (x ∷ xs) = ap (λ ys. g (f x) ∷ ys) (mapped_twice f g xs)

-- the names of probes stand beside their states
pub names_of_states : {X : Type 0} (name : X → List ℕ) (state : X → ProbeState) (xs : List X) → map name xs ≡ map (λ (n : Named). n.name) (map (λ x. named (name x) (state x)) xs)
names_of_states name state xs = mapped_twice (λ x. named (name x) (state x)) (λ (n : Named). n.name) xs

-- the board is refused
pub not_begun : (words : RunWords) (shelf shelf' : ShelfState) (source : SourceState) (out : SinkState) (probes : List Named) (status : Status) (cause : Refusal) → status ≡ status_of_refusal cause
    → Refuses shelf shelf' words.file words.journal cause → shelf'.files ≡ shelf.files → SaysDebug words shelf shelf' source source out out probes probes status
not_begun words shelf shelf' source out probes status cause is refuses same =
    subst (SaysDebug words shelf shelf' source source out out probes probes) (sym is) (refused cause refuses same refl refl refl)

module _ (words : RunWords) (shelf mid : ShelfState) (board : BoardFile) (views : List View) (inputs : Inputs) (rows : List CoreRow)
    (job : IsJobOf shelf.files words.file words.journal board views inputs) (quiet : mid ≡ shelf) (all : rows ≡ board.cores) where
  -- an image can't be read for its symbols
  pub not_named : (last : ShelfState) (source : SourceState) (out : SinkState) (probes : List Named) (status : Status) (cause : Refusal) → status ≡ status_of_refusal cause
      → NoSymbols mid last rows cause → last.files ≡ mid.files → SaysDebug words shelf last source source out out probes probes status
  not_named last source out probes status cause is fails same =
      let P : ShelfState → Type 0 = λ m. NoSymbols m last rows cause in
      let Q : List CoreRow → Type 0 = λ rs. NoSymbols shelf last rs cause in
      subst (SaysDebug words shelf last source source out out probes probes) (sym is)
      (no_symbols board views inputs cause job (subst Q all (subst P quiet fails)) (same ∙ ap (λ (m : ShelfState). m.files) quiet) refl refl refl)

  -- the names are those of the board, its images and the probes
  pub are_names : (symbols : List (List Symbol)) (own : List (List ℕ)) (probes : List Named) (names : ScriptNames) → AreSymbolsOf mid.files rows symbols → names ≡ names_of board symbols own
      → own ≡ map (λ (n : Named). n.name) probes → AreNames words shelf.files probes board names
  are_names symbols own probes names told are same =
      let P : ShelfState → Type 0 = λ m. AreSymbolsOf m.files rows symbols in
      let Q : List CoreRow → Type 0 = λ rs. AreSymbolsOf shelf.files rs symbols in
      record { views = views; inputs = inputs; job = job; symbols = symbols; told = subst Q all (subst P quiet told); are = are ∙ ap (names_of board symbols) same }

-- the script is refused
pub not_read : (words : RunWords) (shelf shelf' : ShelfState) (source source' : SourceState) (out : SinkState) (probes : List Named) (board : BoardFile) (names : ScriptNames) (status : Status) (cause : ScriptRefusal)
    → status ≡ status_of_script cause → AreNames words shelf.files probes board names → LoadsScript source source' names (Err cause) → shelf' ≡ shelf → SaysDebug words shelf shelf' source source' out out probes probes status
not_read words shelf shelf' source source' out probes board names status cause is are loads quiet =
    subst (SaysDebug words shelf shelf' source source' out out probes probes) (sym is) (bad_script board names cause are loads quiet refl refl)

-- a write that was refused is answered by its fault
pub does_writes : (cycles : ℕ) (commands : List Command) (names : ScriptNames) (first : Rattle.exact_machine.specs.Machine.ExactWorld) (out out' : SinkState) (probes probes' : List Named) (status : Status)
    → DoesScript cycles commands names first out out' probes probes' status → CountsWrites out.faults out'.faults status
does_writes cycles commands names first out out' probes probes' status d = subst (CountsWrites out.faults out'.faults) (sym d.is) (by_result d.result d.ran) where
  by_fault : (held : SinkState) (A B : Type 0) (text : List ℕ) → held.faults ≡ out.faults → (A × (out' ≡ held)) ⊎ (B × Adds held out' text (Err store.NoMemory)) → out'.faults ≡ out.faults
  by_fault held A B text same (inl one) = ap (λ (s : SinkState). s.faults) one.1 ∙ same
  by_fault held A B text same (inr one) = one.1.1 ∙ same

  by_result : (result : Result RunEnd ScriptEnd) → Rattle.mb_debug.specs.Scripts.Ran names cycles commands (Rattle.mb_debug.specs.Scripts.session first probes []) (Rattle.mb_debug.specs.Scripts.session d.last probes' d.places) out out' result
      → CountsWrites out.faults out'.faults (status_of_debug result)
  by_result (Ok how) r = r.2.1
  by_result (Err end.WriteFault) r = tt
  by_result (Err end.NoMemory) r = by_fault r.held _ _ _ r.adds.1 r.fails

-- nothing was taken of a script
pub takes_none : (limit : ℕ) (left : Option (List ℕ)) → TakesAtMost limit left left
takes_none limit left = ([], omega arith, Consumes-nil left)
