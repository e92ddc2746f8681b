-- Files that are read, each within its limit, and why one isn't.
use Rattle.std.specs.Prelude.{◌≡◌, ◌≤◌, ℕ, List, length, Option, Some, IfSome}
use Rattle.host_io.specs.Outside.{CountsLoadFault, Files, IsLonger, ShelfState}
use Rattle.source_tools.specs.declared.refusal.Refusal.{Refusal}
use Rattle.source_tools.specs.declared.refusal.Refusal.TheVariants.{CannotRead, NoMemory, TooLong}

-- the most bytes of a source and of an image
abbrev pub source_limit : ℕ
source_limit = 4_194_304

abbrev pub image_limit : ℕ
image_limit = 134_217_728

-- the file has these bytes, where the shelf tells its files, and they are within the limit
abbrev pub Holds : Option Files → List ℕ → ℕ → List ℕ → Type 0
Holds files name limit bytes = IfSome files (λ files. files name ≡ Some bytes) × (length bytes ≤ limit)

-- why a file gives no bytes: it can't be read, is longer than its limit, or memory was refused; nothing changed but the
-- count of the load that failed
abbrev pub NotLoaded : ShelfState → ShelfState → List ℕ → ℕ → Refusal → Type 0
NotLoaded old new name limit (CannotRead file) =
    (file ≡ name) × CountsLoadFault old.faults new.faults name × (new.files ≡ old.files)
NotLoaded old new name limit (TooLong file) = (file ≡ name) × IfSome old.files (λ files. IsLonger (files name) limit) × (new ≡ old)
NotLoaded old new name limit NoMemory = new ≡ old
NotLoaded old new name limit refusal = ⊥
