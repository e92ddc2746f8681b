-- What the writing of files leaves on a shelf.
use Rattle.std.specs.Prelude.{◌≡◌, ℕ, ◌≤◌, ◌⊎◌, ⊤, List, ◌++◌, length, take, Result, Ok, Err}
use Rattle.host_io.specs.Outside.{Files, ShelfState, ChangesFile, SameFiles, WhereTold, CountsWriteFault}
use Rattle.host_io.specs.declared.faults.StoreFault.{StoreFault}
use Rattle.host_io.specs.declared.faults.StoreFault.TheVariants.{Failed, NoMemory}

-- the file is these bytes now
abbrev pub Holds : List ℕ → List ℕ → Files → Files → Type 0
Holds name bytes old new = ChangesFile old new name bytes

-- the file is a prefix of these bytes now, or no file changed
abbrev pub MayHoldPart : List ℕ → List ℕ → Files → Files → Type 0
MayHoldPart name bytes old new = SameFiles old new ⊎ (k : ℕ) × (k ≤ length bytes) × ChangesFile old new name (take k bytes)

-- what the writing of a file leaves: exactly these bytes; after a refusal a prefix of them, or the file as it was;
-- no other file changes, and a fault is counted exactly where the answer is that a call failed
abbrev pub Wrote : ShelfState → ShelfState → List ℕ → List ℕ → Result ⊤ StoreFault → Type 0
Wrote old new name bytes (Ok done) = WhereTold old.files new.files (Holds name bytes) × (new.faults ≡ old.faults)
Wrote old new name bytes (Err Failed) =
    WhereTold old.files new.files (MayHoldPart name bytes) × CountsWriteFault old.faults new.faults name
Wrote old new name bytes (Err NoMemory) = WhereTold old.files new.files (MayHoldPart name bytes) × (new.faults ≡ old.faults)

-- the first bytes of a file are written, and those in the buffer come next
pub record IsWriting (old now : ShelfState) (name buffer bytes : List ℕ) : Type 0 where
  pub sent : List ℕ
  pub all : bytes ≡ sent ++ buffer
  pub wrote : Wrote old now name sent (Ok tt)

-- more bytes of a file came, and stand in the buffer or are written; after a refusal the file is as `Wrote` says
abbrev pub Continues : ShelfState → ShelfState → List ℕ → List ℕ → List ℕ → Result ⊤ StoreFault → Type 0
Continues old new name buffer bytes (Ok done) = IsWriting old new name buffer bytes
Continues old new name buffer bytes (Err fault) = Wrote old new name bytes (Err fault)
