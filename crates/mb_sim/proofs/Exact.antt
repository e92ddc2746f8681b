-- What follows for the status of `raw` where the shelf tells its files and no fault was counted.
use Rattle.std.proofs.Common.{◌≡◌, ℕ, ◌<◌, ◌≤◌, List, length, Option, Some, None, Err, inl, inr, refl, sym, ap, subst, ◌∙◌, arith}
use Rattle.std.specs.Prelude.{IfSome}
use Rattle.host_io.specs.Outside.{Files, IsLonger, ShelfState, SinkState}
use Rattle.host_io.specs.declared.faults.StoreFault.TheVariants as store
use Rattle.board_machine.specs.declared.events.RunEnd.{RunEnd}
use Rattle.board_machine.specs.declared.events.RunEnd.TheVariants as end
use Rattle.board_machine.specs.declared.events.Rest.TheVariants as rest
use Rattle.exact_machine.specs.Machine.{ExactWorld}
use Rattle.command_line.specs.declared.command.Command.{Command}
use Rattle.command_line.specs.declared.command.Command.TheVariants.{Asm, Debug, Demo, Dis, Profile, Raw, Run}
use Rattle.mb_sim.specs.declared.status.Status.{Status}
use Rattle.mb_sim.specs.declared.status.Status.TheVariants.{Ended, Stopped, CyclesSpent, JournalFull, Usage, ReadFault, BadBoard, BadImage, WriteFault, NoMemory, BadInput, BadScript, BadSource, TooLong, Waiting}
use Rattle.source_tools.specs.declared.refusal.Refusal.TheVariants as refusal
use Rattle.probe_set.specs.Sets.{Named}
use Rattle.mb_sim.specs.Board.{no_memory}
use Rattle.mb_sim.specs.Profiled.{no_memory as no_memory_to_count}
use Rattle.mb_sim.specs.Top.{Answers, HasRun, HasRunTo, IsAnswer, IsFair, RawJob, Says}

-- want of memory before anything was done
pub nothing_done : (o : Option Command) (shelf : ShelfState) (out : SinkState) (probes : List Named) → Answers o shelf shelf out out probes probes NoMemory
nothing_done None shelf out probes = ((refl, refl), refl)
nothing_done (Some (Raw file cycles)) shelf out probes = record { says = inl (refl, refl); files = refl }
nothing_done (Some (Run board cycles entries journal)) shelf out probes = no_memory refl refl refl
nothing_done (Some (Asm source output is_little)) shelf out probes = (record { answer = Err refusal.NoMemory; told = refl; says = inl refl; quiet = refl }, refl)
nothing_done (Some (Dis image)) shelf out probes = (record { answer = Err refusal.NoMemory; told = refl; says = inl (refl, refl) }, refl)
nothing_done (Some (Profile board cycles entries)) shelf out probes = no_memory_to_count refl refl refl
nothing_done (Some (Debug board cycles entries)) shelf out probes = tt
nothing_done (Some (Demo number)) shelf out probes = (record { shown = record { result = Err store.NoMemory; shows = inl refl; is = refl }; quiet = refl }, refl)

-- what is said of a command is said of the words that are it
pub answered : (o : Option Command) (command : Command) (shelf shelf' : ShelfState) (out out' : SinkState) (probes probes' : List Named) (status : Status) → o ≡ Some command
    → Answers (Some command) shelf shelf' out out' probes probes' status → Answers o shelf shelf' out out' probes probes' status
answered o command shelf shelf' out out' probes probes' status is says =
    let P : Option Command → Type 0 = λ o. Answers o shelf shelf' out out' probes probes' status in
    subst P (sym is) says

-- what is said of told files is said of these
told_of : (files : Option Files) (these : Files) (P : Files → Type 0) → files ≡ Some these → IfSome files P → P these
told_of files these P told says = let Q : Option Files → Type 0 = λ f. IfSome f P in subst Q told says

not_longer : (content : Option (List ℕ)) (image : List ℕ) (limit : ℕ) → content ≡ Some image → length image ≤ limit → IsLonger content limit → ⊥
not_longer content image limit there within longer =
    let P : Option (List ℕ) → Type 0 = λ c. IsLonger c limit in
    let past : limit < length image = subst P there longer in
    omega arith

too_long_not : (job : RawJob) (image file : List ℕ) (shelf shelf' : ShelfState) (out out' : SinkState) → IsFair job.file image shelf shelf' out out' → length image ≤ 65_536
    → file ≡ job.file → IfSome shelf.files (λ files. IsLonger (files file) 65_536) → ⊥
too_long_not job image file shelf shelf' out out' fair within same longer =
    let told : IsLonger (fair.files file) 65_536 = told_of shelf.files fair.files (λ files. IsLonger (files file) 65_536) fair.told longer in
    not_longer (fair.files file) image 65_536 (ap fair.files same ∙ fair.there) within told

runs : (job : RawJob) (image : List ℕ) (shelf shelf' : ShelfState) (out out' : SinkState) (probes probes' : List Named) (s : Status) → IsFair job.file image shelf shelf' out out' → length image ≤ 65_536
    → Says job shelf shelf' out out' probes probes' s → HasRun s
runs job image shelf shelf' out out' probes probes' Ended fair within says = tt
runs job image shelf shelf' out out' probes probes' Waiting fair within says = tt
runs job image shelf shelf' out out' probes probes' Stopped fair within says = tt
runs job image shelf shelf' out out' probes probes' CyclesSpent fair within says = tt
runs job image shelf shelf' out out' probes probes' JournalFull fair within says = tt
runs job image shelf shelf' out out' probes probes' NoMemory fair within says = tt
runs job image shelf shelf' out out' probes probes' (WriteFault file) fair within says = absurd (fair.writes says.1)
runs job image shelf shelf' out out' probes probes' Usage fair within says = absurd says.0
runs job image shelf shelf' out out' probes probes' (ReadFault file) fair within says = absurd (fair.loads says.0.2)
runs job image shelf shelf' out out' probes probes' (BadBoard code place) fair within says = absurd says.0
runs job image shelf shelf' out out' probes probes' (BadImage core code at) fair within says = absurd says.0
runs job image shelf shelf' out out' probes probes' (BadScript code line) fair within says = absurd says.0
runs job image shelf shelf' out out' probes probes' (BadInput file offset) fair within says = absurd says.0
runs job image shelf shelf' out out' probes probes' (BadSource code line column) fair within says = absurd says.0
runs job image shelf shelf' out out' probes probes' (TooLong file) fair within says = absurd (too_long_not job image file shelf shelf' out out' fair within says.0.0 says.0.1)

pub completes : (o : Option Command) (file image : List ℕ) (cycles : ℕ) (shelf shelf' : ShelfState) (out out' : SinkState) (probes probes' : List Named) (s : Status) → Answers o shelf shelf' out out' probes probes' s
    → o ≡ Some (Raw file cycles) → IsFair file image shelf shelf' out out' → length image ≤ 65_536 → HasRun s
completes o file image cycles shelf shelf' out out' probes probes' s says is fair within =
    let P : Option Command → Type 0 = λ o. Answers o shelf shelf' out out' probes probes' s in
    let job : RawJob = record { file = file; cycles = cycles } in
    runs job image shelf shelf' out out' probes probes' s fair within (subst P is says).says

-- no run is told of a file that is too long
not_within : (job : RawJob) (image : List ℕ) (shelf shelf' : ShelfState) (out out' : SinkState) (probes probes' : List Named) (how : RunEnd) (last : ExactWorld) → IsFair job.file image shelf shelf' out out' → 65_536 < length image
    → HasRunTo job shelf probes probes' how last → ⊥
not_within job image shelf shelf' out out' probes probes' how last fair past ran =
    let there : fair.files job.file ≡ Some ran.image = told_of shelf.files fair.files (λ files. files job.file ≡ Some ran.image) fair.told ran.told in
    let same : Some ran.image ≡ Some image = sym there ∙ fair.there in
    let P : Option (List ℕ) → Type 0 = λ o. IfSome o (λ bytes. length bytes ≤ 65_536) in
    let within : length image ≤ 65_536 = subst P same ran.within in
    omega arith

long_status : (job : RawJob) (image : List ℕ) (shelf shelf' : ShelfState) (out out' : SinkState) (probes probes' : List Named) (s : Status) → IsFair job.file image shelf shelf' out out' → 65_536 < length image
    → Says job shelf shelf' out out' probes probes' s → IsAnswer (TooLong job.file) s
long_status job image shelf shelf' out out' probes probes' Ended fair past says = absurd (not_within job image shelf shelf' out out' probes probes' (end.Rest rest.Ended) says.0 fair past says.1)
long_status job image shelf shelf' out out' probes probes' Waiting fair past says = absurd (not_within job image shelf shelf' out out' probes probes' (end.Rest rest.Waiting) says.0 fair past says.1)
long_status job image shelf shelf' out out' probes probes' Stopped fair past says = absurd (not_within job image shelf shelf' out out' probes probes' (end.Rest rest.Stopped) says.0 fair past says.1)
long_status job image shelf shelf' out out' probes probes' CyclesSpent fair past says = absurd (not_within job image shelf shelf' out out' probes probes' end.CyclesSpent says.0 fair past says.1)
long_status job image shelf shelf' out out' probes probes' JournalFull fair past says = absurd (not_within job image shelf shelf' out out' probes probes' end.JournalFull says.0 fair past says.1)
long_status job image shelf shelf' out out' probes probes' NoMemory fair past says = inr refl
long_status job image shelf shelf' out out' probes probes' (WriteFault file) fair past says = absurd (fair.writes says.1)
long_status job image shelf shelf' out out' probes probes' Usage fair past says = absurd says.0
long_status job image shelf shelf' out out' probes probes' (ReadFault file) fair past says = absurd (fair.loads says.0.2)
long_status job image shelf shelf' out out' probes probes' (BadBoard code place) fair past says = absurd says.0
long_status job image shelf shelf' out out' probes probes' (BadImage core code at) fair past says = absurd says.0
long_status job image shelf shelf' out out' probes probes' (BadScript code line) fair past says = absurd says.0
long_status job image shelf shelf' out out' probes probes' (BadInput file offset) fair past says = absurd says.0
long_status job image shelf shelf' out out' probes probes' (BadSource code line column) fair past says = absurd says.0
long_status job image shelf shelf' out out' probes probes' (TooLong file) fair past says = inl (ap TooLong says.0.0)

pub long_answer : (o : Option Command) (file image : List ℕ) (cycles : ℕ) (shelf shelf' : ShelfState) (out out' : SinkState) (probes probes' : List Named) (s : Status) → Answers o shelf shelf' out out' probes probes' s
    → o ≡ Some (Raw file cycles) → IsFair file image shelf shelf' out out' → 65_536 < length image → IsAnswer (TooLong file) s
long_answer o file image cycles shelf shelf' out out' probes probes' s says is fair past =
    let P : Option Command → Type 0 = λ o. Answers o shelf shelf' out out' probes probes' s in
    let job : RawJob = record { file = file; cycles = cycles } in
    long_status job image shelf shelf' out out' probes probes' s fair past (subst P is says).says
