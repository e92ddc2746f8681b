-- What the outside means: files by their names, what a source has left, what a sink holds, and counts of faults.
use Rattle.std.specs.Prelude.{◌≡◌, ℕ, ◌+◌, ◌-◌, ◌^◌, ◌<◌, ◌≤◌, ◌≢◌, ◌⊎◌, ⊤, min, List, [], ◌++◌, length, take, Option, Some, None, Result, Ok, Err, IfSome}
use Rattle.std.specs.Io.KnownBytes.{append_known, Consumes, Keeps, IsAtEnd}
use Rattle.host_io.specs.declared.faults.LoadFault.{LoadFault}
use Rattle.host_io.specs.declared.faults.LoadFault.TheVariants.{TooLong, Failed as LoadFailed, NoMemory as NoMemoryToLoad}
use Rattle.host_io.specs.declared.faults.ReadFailed.{ReadFailed}
use Rattle.host_io.specs.declared.faults.ShelfFaults.{ShelfFaults}
use Rattle.host_io.specs.declared.faults.StoreFault.{StoreFault}
use Rattle.host_io.specs.declared.faults.StoreFault.TheVariants.{Failed, NoMemory}

-- the content of each file that is there, by its name
abbrev pub Files : Type 0
Files = List ℕ → Option (List ℕ)

-- the files, where the shelf tells them, and its faults
pub record ShelfState : Type 0 where
  pub files : Option Files
  pub faults : ShelfFaults

-- a count of faults is greater than before, or stands at the end of 64 bits
abbrev pub Rose : ℕ → ℕ → Type 0
Rose before now = min (before + 1) (2 ^ 64 - 1) ≤ now

-- a fault was counted; the count doesn't fall
abbrev pub Counted : ℕ → ℕ → Type 0
Counted before now = Rose before now × (before ≤ now)

-- a load of that name failed, and nothing else was counted
pub record CountsLoadFault (old new : ShelfFaults) (name : List ℕ) : Type 0 where
  pub loads : Counted old.load_faults new.load_faults
  pub writes : new.write_faults ≡ old.write_faults
  pub bad : new.bad ≡ Some name

-- a write of that name failed, and nothing else was counted
pub record CountsWriteFault (old new : ShelfFaults) (name : List ℕ) : Type 0 where
  pub loads : new.load_faults ≡ old.load_faults
  pub writes : Counted old.write_faults new.write_faults
  pub bad : new.bad ≡ Some name

-- the file is there, and longer than that
abbrev pub IsLonger : Option (List ℕ) → ℕ → Type 0
IsLonger None limit = ⊥
IsLonger (Some bytes) limit = limit < length bytes

-- the shelf tells that the file isn't there
abbrev pub IsMissing : ShelfState → List ℕ → Type 0
IsMissing shelf name = IfSome shelf.files (λ files. files name ≡ None)

-- what `load` answers: the bytes of a file within the limit, that the file is longer, or a fault;
-- so the load of a file that isn't there fails, and `TooLong` comes exactly where the file is longer and no fault was counted
abbrev pub Loads : ShelfState → ShelfState → List ℕ → ℕ → Result (List ℕ) LoadFault → Type 0
Loads old new name limit (Ok blob) =
    IfSome old.files (λ files. files name ≡ Some blob) × (length blob ≤ limit) × (new.faults ≡ old.faults)
Loads old new name limit (Err TooLong) = IfSome old.files (λ files. IsLonger (files name) limit) × (new.faults ≡ old.faults)
Loads old new name limit (Err LoadFailed) = CountsLoadFault old.faults new.faults name
Loads old new name limit (Err NoMemoryToLoad) = new.faults ≡ old.faults

-- that file has this content now, and the others are as before
pub record ChangesFile (old new : Files) (name content : List ℕ) : Type 0 where
  pub changed : new name ≡ Some content
  pub others : (other : List ℕ) → other ≢ name → new other ≡ old other

-- no file changed
abbrev pub SameFiles : Files → Files → Type 0
SameFiles old new = (name : List ℕ) → new name ≡ old name

-- what holds of the files before and after, where the shelf tells them
abbrev pub WhereTold : Option Files → Option Files → (Files → Files → Type 0) → Type 0
WhereTold None None P = ⊤
WhereTold (Some old) (Some new) P = P old new
WhereTold old new P = ⊥

-- the file is empty now
abbrev pub Empties : List ℕ → Files → Files → Type 0
Empties name old new = ChangesFile old new name []

-- the file was emptied, or nothing changed
abbrev pub MayEmpty : List ℕ → Files → Files → Type 0
MayEmpty name old new = SameFiles old new ⊎ Empties name old new

-- the file is there, and has the bytes at its end now
abbrev pub Grows : List ℕ → List ℕ → Files → Files → Type 0
Grows name bytes old new = (content : List ℕ) × (old name ≡ Some content) × ChangesFile old new name (content ++ bytes)

-- the file has a prefix of the bytes at its end now, or nothing changed
abbrev pub MayGrow : List ℕ → List ℕ → Files → Files → Type 0
MayGrow name bytes old new = SameFiles old new ⊎ (k : ℕ) × (k ≤ length bytes) × Grows name (take k bytes) old new

-- what `start` leaves: an empty file; after a refusal the file is as before or empty
abbrev pub Starts : ShelfState → ShelfState → List ℕ → Result ⊤ StoreFault → Type 0
Starts old new name (Ok done) = WhereTold old.files new.files (Empties name) × (new.faults ≡ old.faults)
Starts old new name (Err Failed) = WhereTold old.files new.files (MayEmpty name) × CountsWriteFault old.faults new.faults name
Starts old new name (Err NoMemory) = WhereTold old.files new.files (MayEmpty name) × (new.faults ≡ old.faults)

-- what `append` leaves: the bytes at the file's end; after a refusal a prefix of them;
-- so an append to a file that isn't there fails
abbrev pub Appends : ShelfState → ShelfState → List ℕ → List ℕ → Result ⊤ StoreFault → Type 0
Appends old new name bytes (Ok done) = WhereTold old.files new.files (Grows name bytes) × (new.faults ≡ old.faults)
Appends old new name bytes (Err Failed) =
    WhereTold old.files new.files (MayGrow name bytes) × CountsWriteFault old.faults new.faults name
Appends old new name bytes (Err NoMemory) = WhereTold old.files new.files (MayGrow name bytes) × (new.faults ≡ old.faults)

-- what a sink holds, where it tells, and its faults
pub record SinkState : Type 0 where
  pub written : Option (List ℕ)
  pub faults : ℕ

-- a prefix of the bytes was added
abbrev pub AddsPrefix : Option (List ℕ) → Option (List ℕ) → List ℕ → Type 0
AddsPrefix old new bytes = (k : ℕ) × (k ≤ length bytes) × (new ≡ append_known old (take k bytes))

-- what `write_all` adds: the bytes; after a refusal a prefix of them
abbrev pub Adds : SinkState → SinkState → List ℕ → Result ⊤ StoreFault → Type 0
Adds old new bytes (Ok done) = (new.written ≡ append_known old.written bytes) × (new.faults ≡ old.faults)
Adds old new bytes (Err Failed) = AddsPrefix old.written new.written bytes × Counted old.faults new.faults
Adds old new bytes (Err NoMemory) = AddsPrefix old.written new.written bytes × (new.faults ≡ old.faults)

-- what a source has left, where it tells, and its faults
pub record SourceState : Type 0 where
  pub left : Option (List ℕ)
  pub faults : ℕ

-- what `read` moves: the first bytes that are left into the front of the buffer, none only at the end or with no room;
-- after a fault nothing
abbrev pub Reads : SourceState → SourceState → List ℕ → Result ℕ ReadFailed → Type 0
Reads old new buffer (Ok count) =
    Consumes old.left new.left (take count buffer) × (count ≡ 0 → 0 < length buffer → IsAtEnd new.left)
    × (count ≤ length buffer) × (new.faults ≡ old.faults)
Reads old new buffer (Err failed) = Keeps old.left new.left × Counted old.faults new.faults
