-- What the answers of `asm` and `dis` have to be where the shelf tells its files and no fault was counted, and what each
-- answer leaves of the counts.
use Rattle.std.specs.Prelude.{◌≡◌, ◌⊎◌, ◌≤◌, ◌<◌, ⊤, ℕ, List, length, Some, Result, Ok, Err}
use Rattle.core_regs.specs.declared.causes.Order.{Order}
use Rattle.elf_image.specs.Elf.{ElfOf, IsRefusal as IsImageRefusal}
use Rattle.elf_image.specs.declared.fault.ElfFault.TheVariants.{Refused as RefusedImage}
use Rattle.elf_image.specs.declared.image.Image.{Image}
use Rattle.host_io.specs.Outside.{Files, Rose, ShelfState, SinkState}
use Rattle.mb_asm.specs.Assembly.{Assembles, IsRefusal as IsSourceRefusal}
use Rattle.mb_asm.specs.declared.answer.AsmFault.TheVariants.{Refused as RefusedSource}
use Rattle.mb_asm.specs.declared.answer.Assembled.{Assembled}
use Rattle.source_tools.specs.Answers.{SaysAsm, SaysDis, all_memory}
use Rattle.source_tools.specs.Loaded.{image_limit, source_limit}
use Rattle.source_tools.specs.declared.refusal.Refusal.{Refusal}
use Rattle.source_tools.specs.declared.refusal.Refusal.TheVariants.{BadImage, BadSource, CannotRead, CannotWrite, NoMemory, TooLong}

-- the work is done, or there was no memory for it
abbrev pub IsDone : Result ⊤ Refusal → Type 0
IsDone (Ok done) = ⊤
IsDone (Err NoMemory) = ⊤
IsDone (Err refusal) = ⊥

-- this is the answer, or there was no memory
abbrev pub IsRefusedBy : Refusal → Result ⊤ Refusal → Type 0
IsRefusedBy cause result = (result ≡ Err cause) ⊎ (result ≡ Err NoMemory)

-- the shelf tells the bytes of the file, and no load was counted as failed
pub record IsThere (name bytes : List ℕ) (old new : ShelfState) : Type 0 where
  pub files : Files
  pub told : old.files ≡ Some files
  pub there : files name ≡ Some bytes
  pub loads : ¬ Rose old.faults.load_faults new.faults.load_faults

-- `asm` had no fault of the shelf
pub record IsFairAsm (source bytes : List ℕ) (old new : ShelfState) : Type 0 where
  pub there : IsThere source bytes old new
  pub stores : ¬ Rose old.faults.write_faults new.faults.write_faults

-- `dis` had no fault of the shelf or the output
pub record IsFairDis (file bytes : List ℕ) (old new : ShelfState) (out out' : SinkState) : Type 0 where
  pub there : IsThere file bytes old new
  pub writes : ¬ Rose out.faults out'.faults

-- a source without a fault is done, one with a fault is refused for it, and one that is too long for its length
pub record AsmIsComplete : Type 0 where
  pub done : (order : Order) (source output bytes : List ℕ) (old new : ShelfState) (a : Assembled) (result : Result ⊤ Refusal)
      → SaysAsm old new source output order result → IsFairAsm source bytes old new → length bytes ≤ source_limit → Assembles order bytes (Ok a) → IsDone result
  pub faults : (order : Order) (source output bytes : List ℕ) (old new : ShelfState) (code line column : ℕ) (result : Result ⊤ Refusal)
      → SaysAsm old new source output order result → IsFairAsm source bytes old new → length bytes ≤ source_limit → IsSourceRefusal bytes (RefusedSource code line column)
      → IsRefusedBy (BadSource code line column) result
  pub lengths : (order : Order) (source output bytes : List ℕ) (old new : ShelfState) (result : Result ⊤ Refusal)
      → SaysAsm old new source output order result → IsFairAsm source bytes old new → source_limit < length bytes → IsRefusedBy (TooLong source) result

-- the same of images
pub record DisIsComplete : Type 0 where
  pub done : (file bytes : List ℕ) (old new : ShelfState) (out out' : SinkState) (image : Image) (result : Result ⊤ Refusal)
      → SaysDis old new out out' file result → IsFairDis file bytes old new out out' → length bytes ≤ image_limit → ElfOf bytes all_memory image → IsDone result
  pub faults : (file bytes : List ℕ) (old new : ShelfState) (out out' : SinkState) (code at : ℕ) (result : Result ⊤ Refusal)
      → SaysDis old new out out' file result → IsFairDis file bytes old new out out' → length bytes ≤ image_limit → IsImageRefusal bytes all_memory (RefusedImage code at)
      → IsRefusedBy (BadImage code at) result
  pub lengths : (file bytes : List ℕ) (old new : ShelfState) (out out' : SinkState) (result : Result ⊤ Refusal)
      → SaysDis old new out out' file result → IsFairDis file bytes old new out out' → image_limit < length bytes → IsRefusedBy (TooLong file) result

-- ---- counts

-- a load that failed is answered by its fault
abbrev pub CountsLoads : ShelfState → ShelfState → Result ⊤ Refusal → Type 0
CountsLoads old new (Err (CannotRead file)) = ⊤
CountsLoads old new result = new.faults.load_faults ≡ old.faults.load_faults

-- a write that failed is answered by its fault
abbrev pub CountsWrites : ℕ → ℕ → Result ⊤ Refusal → Type 0
CountsWrites before now (Err (CannotWrite file)) = ⊤
CountsWrites before now result = now ≡ before

pub record AsmCounts : Type 0 where
  pub loads : (order : Order) (source output : List ℕ) (old new : ShelfState) (result : Result ⊤ Refusal) → SaysAsm old new source output order result → CountsLoads old new result
  pub stores : (order : Order) (source output : List ℕ) (old new : ShelfState) (result : Result ⊤ Refusal) → SaysAsm old new source output order result
      → CountsWrites old.faults.write_faults new.faults.write_faults result

-- `dis` changes no file, and counts no write to one
pub record DisCounts : Type 0 where
  pub loads : (file : List ℕ) (old new : ShelfState) (out out' : SinkState) (result : Result ⊤ Refusal) → SaysDis old new out out' file result → CountsLoads old new result
  pub writes : (file : List ℕ) (old new : ShelfState) (out out' : SinkState) (result : Result ⊤ Refusal) → SaysDis old new out out' file result → CountsWrites out.faults out'.faults result
  pub stores : (file : List ℕ) (old new : ShelfState) (out out' : SinkState) (result : Result ⊤ Refusal) → SaysDis old new out out' file result
      → new.faults.write_faults ≡ old.faults.write_faults
  pub files : (file : List ℕ) (old new : ShelfState) (out out' : SinkState) (result : Result ⊤ Refusal) → SaysDis old new out out' file result → new.files ≡ old.files
