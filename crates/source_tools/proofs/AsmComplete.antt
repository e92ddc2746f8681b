-- The answer of `asm` where no fault was counted.
use Rattle.std.proofs.Common.{◌≡◌, ◌∙◌, ◌≤◌, ◌<◌, ℕ, List, Result, Ok, Err, inl, inr, refl, ap, subst, sym, length}
use Rattle.std.specs.Prelude.{⊤}
use Rattle.asm_source.specs.declared.fault.Fault.{Fault}
use Rattle.core_regs.specs.declared.causes.Order.{Order}
use Rattle.host_io.specs.Outside.{ShelfState}
use Rattle.mb_asm.specs.Assembly.{Assembles, IsAssembled, IsRefusal, refusal}
use Rattle.mb_asm.specs.declared.answer.AsmFault.{AsmFault}
use Rattle.mb_asm.specs.declared.answer.AsmFault.TheVariants as asm
use Rattle.mb_asm.specs.declared.answer.Assembled.{Assembled}
use Rattle.source_tools.specs.Answers.{SaysAsm, Writes}
use Rattle.source_tools.specs.Complete.{AsmIsComplete, IsDone, IsFairAsm, IsRefusedBy}
use Rattle.source_tools.specs.Loaded.{source_limit}
use Rattle.source_tools.specs.declared.refusal.Refusal.{Refusal}
use Rattle.source_tools.specs.declared.refusal.Refusal.TheVariants.{BadImage, BadSource, CannotRead, CannotWrite, NoMemory, TooLong}
use Rattle.source_tools.proofs.OneFault.{no_fault, one_fault}
use Rattle.source_tools.proofs.Told.{past, same_bytes, within}

done : (order : Order) (source output bytes : List ℕ) (old new : ShelfState) (a : Assembled) (result : Result ⊤ Refusal)
    → SaysAsm old new source output order result → IsFairAsm source bytes old new → length bytes ≤ source_limit → Assembles order bytes (Ok a) → IsDone result
done order source output bytes old new a (Ok d) says fair small is = tt
done order source output bytes old new a (Err NoMemory) says fair small is = tt
done order source output bytes old new a (Err (CannotRead file)) (same, counted, quiet) fair small is = absurd (fair.there.loads counted.loads.0)
done order source output bytes old new a (Err (TooLong file)) (same, long, quiet) fair small is = absurd (within source bytes source_limit old new fair.there small long)
done order source output bytes old new a (Err (BadSource code line column)) (found, held, refused, quiet) fair small is =
    let P : List ℕ → Type 0 = λ xs. IsRefusal xs (asm.Refused code line column) in
    let r = subst P (same_bytes source bytes found source_limit old new fair.there held) refused in
    absurd (no_fault order bytes a r.fault is r.first)
done order source output bytes old new a (Err (BadImage code at)) says fair small is = absurd says
done order source output bytes old new a (Err (CannotWrite file)) (same, (made, is_file, (wrote, counted))) fair small is = absurd (fair.stores counted.writes.0)

-- a file of the source has no fault
no_writes : (order : Order) (source bytes file : List ℕ) (old new : ShelfState) (fault : Fault) → IsFairAsm source bytes old new
    → Rattle.mb_asm.specs.Assembly.IsFirstFault bytes fault → Rattle.source_tools.specs.Answers.IsFileOf old.files source order file → ⊥
no_writes order source bytes file old new fault fair first is =
    let P : List ℕ → Type 0 = λ xs. Assembles order xs (Ok is.assembled) in
    no_fault order bytes is.assembled fault (subst P (same_bytes source bytes is.bytes source_limit old new fair.there is.held) is.assembles) first

same_cause : (code line column c l k : ℕ) → asm.Refused code line column ≡ asm.Refused c l k → BadSource code line column ≡ BadSource c l k
same_cause code line column c l k e = ap cause_of e
  where
    cause_of : AsmFault → Refusal
    cause_of (asm.Refused c l k) = BadSource c l k
    cause_of asm.NoMemory = NoMemory

faults : (order : Order) (source output bytes : List ℕ) (old new : ShelfState) (code line column : ℕ) (result : Result ⊤ Refusal)
    → SaysAsm old new source output order result → IsFairAsm source bytes old new → length bytes ≤ source_limit → IsRefusal bytes (asm.Refused code line column)
    → IsRefusedBy (BadSource code line column) result
faults order source output bytes old new code line column (Ok d) (file, is, wrote) fair small bad = absurd (no_writes order source bytes file old new bad.fault fair bad.first is)
faults order source output bytes old new code line column (Err NoMemory) says fair small bad = inr refl
faults order source output bytes old new code line column (Err (CannotRead file)) (same, counted, quiet) fair small bad = absurd (fair.there.loads counted.loads.0)
faults order source output bytes old new code line column (Err (TooLong file)) (same, long, quiet) fair small bad = absurd (within source bytes source_limit old new fair.there small long)
faults order source output bytes old new code line column (Err (BadSource c l k)) (found, held, refused, quiet) fair small bad =
    let P : List ℕ → Type 0 = λ xs. IsRefusal xs (asm.Refused c l k) in
    let r = subst P (same_bytes source bytes found source_limit old new fair.there held) refused in
    inl (ap Err (same_cause c l k code line column (r.told ∙ ap refusal (one_fault bytes r.fault bad.fault r.first bad.first) ∙ sym bad.told)))
faults order source output bytes old new code line column (Err (BadImage c at)) says fair small bad = absurd says
faults order source output bytes old new code line column (Err (CannotWrite file)) (same, (made, is_file, (wrote, counted))) fair small bad = absurd (fair.stores counted.writes.0)

lengths : (order : Order) (source output bytes : List ℕ) (old new : ShelfState) (result : Result ⊤ Refusal)
    → SaysAsm old new source output order result → IsFairAsm source bytes old new → source_limit < length bytes → IsRefusedBy (TooLong source) result
lengths order source output bytes old new (Ok d) (file, is, wrote) fair long = absurd (past source bytes is.bytes source_limit old new fair.there long is.held)
lengths order source output bytes old new (Err NoMemory) says fair long = inr refl
lengths order source output bytes old new (Err (CannotRead file)) (same, counted, quiet) fair long = absurd (fair.there.loads counted.loads.0)
lengths order source output bytes old new (Err (TooLong file)) (same, longer, quiet) fair long = inl (ap (λ n. Err (TooLong n)) same)
lengths order source output bytes old new (Err (BadSource c l k)) (found, held, refused, quiet) fair long = absurd (past source bytes found source_limit old new fair.there long held)
lengths order source output bytes old new (Err (BadImage c at)) says fair long = absurd says
lengths order source output bytes old new (Err (CannotWrite file)) (same, (made, is_file, (wrote, counted))) fair long = absurd (fair.stores counted.writes.0)

pub asm_complete : AsmIsComplete
asm_complete = record { done = done; faults = faults; lengths = lengths }
