-- Reading a source to its end, and handing all bytes on to a writer.
use Rattle.std.specs.Prelude.{◌≡◌, ℕ, ◌<◌, ◌≤◌, List, length, take, Option, Result, Ok, Err, IfSome}
use Rattle.std.specs.Io.KnownBytes.{Appends, Consumes, IsAtEnd}
use Rattle.host_io.specs.declared.faults.LoadFault.{LoadFault}
use Rattle.host_io.specs.declared.faults.LoadFault.TheVariants.{TooLong, Failed, NoMemory}
use Rattle.host_io.specs.Outside.{Counted, SourceState}

-- what reading a source to its end answers: all that it had left, where that is within the limit; `TooLong` only where it
-- had more, and `Failed` only where a fault was counted
abbrev pub ReadsWhole : SourceState → SourceState → ℕ → Result (List ℕ) LoadFault → Type 0
ReadsWhole old new limit (Ok bytes) =
    IfSome old.left (λ left. left ≡ bytes) × (length bytes ≤ limit) × IsAtEnd new.left × (new.faults ≡ old.faults)
ReadsWhole old new limit (Err TooLong) = IfSome old.left (λ left. limit < length left) × (new.faults ≡ old.faults)
ReadsWhole old new limit (Err Failed) = Counted old.faults new.faults
ReadsWhole old new limit (Err NoMemory) = new.faults ≡ old.faults

-- of the bytes that were left at most so many were taken
abbrev pub TakesAtMost : ℕ → Option (List ℕ) → Option (List ℕ) → Type 0
TakesAtMost limit old new = (taken : List ℕ) × (length taken ≤ limit) × Consumes old new taken

-- known bytes grow by a prefix of these
abbrev pub AppendsPrefix : Option (List ℕ) → Option (List ℕ) → List ℕ → Type 0
AppendsPrefix old new bytes = (k : ℕ) × (k ≤ length bytes) × Appends old new (take k bytes)
