-- The answer of `dis` where no fault was counted.
use Rattle.std.proofs.Common.{◌≡◌, ◌∙◌, ◌≤◌, ◌<◌, ℕ, List, None, Some, Result, Ok, Err, inl, inr, refl, ap, subst, sym, length, option_map, unwrap_or, arith}
use Rattle.std.specs.Prelude.{⊤}
use Rattle.elf_image.specs.Elf.{ElfOf, IsRefusal}
use Rattle.elf_image.specs.Tests.{refusal}
use Rattle.elf_image.specs.declared.fault.ElfFault.{ElfFault}
use Rattle.elf_image.specs.declared.fault.ElfFault.TheVariants as elf
use Rattle.elf_image.specs.declared.image.Image.{Image}
use Rattle.host_io.specs.Outside.{ShelfState, SinkState}
use Rattle.source_tools.specs.Answers.{SaysDis, all_memory}
use Rattle.source_tools.specs.Complete.{DisIsComplete, IsDone, IsFairDis, IsRefusedBy}
use Rattle.source_tools.specs.Loaded.{image_limit}
use Rattle.source_tools.specs.declared.refusal.Refusal.{Refusal}
use Rattle.source_tools.specs.declared.refusal.Refusal.TheVariants.{BadImage, BadSource, CannotRead, CannotWrite, NoMemory, TooLong}
use Rattle.source_tools.proofs.Told.{past, same_bytes, within}

-- an image isn't refused
no_refusal : (bytes : List ℕ) (image : Image) (code at : ℕ) → ElfOf bytes all_memory image → IsRefusal bytes all_memory (elf.Refused code at) → ⊥
no_refusal bytes image code at is refused =
    let bad : None ≡ Some (elf.Refused code at) = sym (ap (option_map refusal) is.0) ∙ refused in
    absurd (grind arith)

done : (file bytes : List ℕ) (old new : ShelfState) (out out' : SinkState) (image : Image) (result : Result ⊤ Refusal)
    → SaysDis old new out out' file result → IsFairDis file bytes old new out out' → length bytes ≤ image_limit → ElfOf bytes all_memory image → IsDone result
done file bytes old new out out' image (Ok d) says fair small is = tt
done file bytes old new out out' image (Err NoMemory) says fair small is = tt
done file bytes old new out out' image (Err (CannotRead name)) ((same, counted, kept), quiet) fair small is = absurd (fair.there.loads counted.loads.0)
done file bytes old new out out' image (Err (TooLong name)) ((same, long, kept), quiet) fair small is = absurd (within file bytes image_limit old new fair.there small long)
done file bytes old new out out' image (Err (BadSource code line column)) (says, quiet) fair small is = absurd says
done file bytes old new out out' image (Err (BadImage code at)) ((found, held, refused, kept), quiet) fair small is =
    let P : List ℕ → Type 0 = λ xs. IsRefusal xs all_memory (elf.Refused code at) in
    absurd (no_refusal bytes image code at is (subst P (same_bytes file bytes found image_limit old new fair.there held) refused))
done file bytes old new out out' image (Err (CannotWrite name)) (same, (listed, is_image, (part, counted), kept)) fair small is = absurd (fair.writes counted.0)

-- a listing shows that the image isn't refused
no_listing : (file bytes : List ℕ) (old new : ShelfState) (out out' : SinkState) (code at : ℕ) (image : Image) → IsFairDis file bytes old new out out'
    → IsRefusal bytes all_memory (elf.Refused code at) → Rattle.source_tools.specs.Answers.IsImageIn old.files file image → ⊥
no_listing file bytes old new out out' code at image fair bad is =
    let P : List ℕ → Type 0 = λ xs. ElfOf xs all_memory image in
    no_refusal bytes image code at (subst P (same_bytes file bytes is.bytes image_limit old new fair.there is.held) is.elf) bad

same_cause : (code at c a : ℕ) → elf.Refused code at ≡ elf.Refused c a → BadImage code at ≡ BadImage c a
same_cause code at c a e = ap cause_of e
  where
    cause_of : ElfFault → Refusal
    cause_of (elf.Refused c a) = BadImage c a
    cause_of elf.NoMemory = NoMemory

faults : (file bytes : List ℕ) (old new : ShelfState) (out out' : SinkState) (code at : ℕ) (result : Result ⊤ Refusal)
    → SaysDis old new out out' file result → IsFairDis file bytes old new out out' → length bytes ≤ image_limit → IsRefusal bytes all_memory (elf.Refused code at)
    → IsRefusedBy (BadImage code at) result
faults file bytes old new out out' code at (Ok d) (image, is, adds, kept) fair small bad = absurd (no_listing file bytes old new out out' code at image fair bad is)
faults file bytes old new out out' code at (Err NoMemory) says fair small bad = inr refl
faults file bytes old new out out' code at (Err (CannotRead name)) ((same, counted, kept), quiet) fair small bad = absurd (fair.there.loads counted.loads.0)
faults file bytes old new out out' code at (Err (TooLong name)) ((same, long, kept), quiet) fair small bad = absurd (within file bytes image_limit old new fair.there small long)
faults file bytes old new out out' code at (Err (BadSource c l k)) (says, quiet) fair small bad = absurd says
faults file bytes old new out out' code at (Err (BadImage c a)) ((found, held, refused, kept), quiet) fair small bad =
    let P : List ℕ → Type 0 = λ xs. IsRefusal xs all_memory (elf.Refused c a) in
    let r = subst P (same_bytes file bytes found image_limit old new fair.there held) refused in
    inl (ap Err (same_cause c a code at (ap (λ o. unwrap_or o (elf.Refused c a)) (sym r ∙ bad))))
faults file bytes old new out out' code at (Err (CannotWrite name)) (same, (listed, is_image, (part, counted), kept)) fair small bad = absurd (fair.writes counted.0)

lengths : (file bytes : List ℕ) (old new : ShelfState) (out out' : SinkState) (result : Result ⊤ Refusal)
    → SaysDis old new out out' file result → IsFairDis file bytes old new out out' → image_limit < length bytes → IsRefusedBy (TooLong file) result
lengths file bytes old new out out' (Ok d) (image, is, adds, kept) fair long = absurd (past file bytes is.bytes image_limit old new fair.there long is.held)
lengths file bytes old new out out' (Err NoMemory) says fair long = inr refl
lengths file bytes old new out out' (Err (CannotRead name)) ((same, counted, kept), quiet) fair long = absurd (fair.there.loads counted.loads.0)
lengths file bytes old new out out' (Err (TooLong name)) ((same, longer, kept), quiet) fair long = inl (ap (λ n. Err (TooLong n)) same)
lengths file bytes old new out out' (Err (BadSource c l k)) (says, quiet) fair long = absurd says
lengths file bytes old new out out' (Err (BadImage c a)) ((found, held, refused, kept), quiet) fair long = absurd (past file bytes found image_limit old new fair.there long held)
lengths file bytes old new out out' (Err (CannotWrite name)) (same, (listed, is_image, (part, counted), kept)) fair long = absurd (fair.writes counted.0)

pub dis_complete : DisIsComplete
dis_complete = record { done = done; faults = faults; lengths = lengths }
