-- What files in memory mean.
use Rattle.std.specs.Prelude.{◌≡◌, ◌≢◌, ℕ, ◌<◌, if◌then◌else◌, List, [], ◌∷◌, length, slice_index_or, Some, None}
use Rattle.std.specs.Str.{bytes_eq}
use Rattle.host_io.specs.declared.files.MemFile.{MemFile}
use Rattle.host_io.specs.Outside.{Files}

-- the content of the first file of that name
abbrev pub lookup : List MemFile → Files
lookup [] name = None
lookup (file ∷ files) name = if bytes_eq file.name name then Some file.bytes.items else lookup files name

-- the first file of that name stands there
pub record IsFirst (files : List MemFile) (name : List ℕ) (place : ℕ) : Type 0 where
  pub within : place < length files
  pub named : (d : MemFile) → (slice_index_or files place d).name ≡ name
  pub before : (k : ℕ) (d : MemFile) → k < place → (slice_index_or files k d).name ≢ name

-- no file has that name
abbrev pub IsAbsent : List MemFile → List ℕ → Type 0
IsAbsent files name = (k : ℕ) (d : MemFile) → k < length files → (slice_index_or files k d).name ≢ name
