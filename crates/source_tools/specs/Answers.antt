-- What the answers of `asm` and `dis` say.
use Rattle.std.specs.Prelude.{◌≡◌, ◌⊎◌, ⊤, ℕ, List, codes, Option, Result, Ok, Err}
use Rattle.core_regs.specs.declared.causes.Order.{Order}
use Rattle.elf_image.specs.Elf.{ElfOf, IsRefusal as IsImageRefusal}
use Rattle.elf_image.specs.Written.{file_of}
use Rattle.elf_image.specs.declared.fault.ElfFault.TheVariants.{Refused as RefusedImage}
use Rattle.elf_image.specs.declared.image.Image.{Image}
use Rattle.host_io.specs.Outside.{Adds, Files, ShelfState, SinkState}
use Rattle.host_io.specs.declared.faults.StoreFault.{StoreFault}
use Rattle.host_io.specs.declared.faults.StoreFault.TheVariants as store
use Rattle.mb_asm.specs.Assembly.{Assembles, IsRefusal as IsSourceRefusal}
use Rattle.mb_asm.specs.declared.answer.AsmFault.TheVariants.{Refused as RefusedSource}
use Rattle.mb_asm.specs.declared.answer.Assembled.{Assembled}
use Rattle.piece_output.specs.Stored.{Wrote}
use Rattle.source_tools.specs.Listing.{listing}
use Rattle.source_tools.specs.Loaded.{Holds, NotLoaded, image_limit, source_limit}
use Rattle.source_tools.specs.declared.refusal.Refusal.{Refusal}
use Rattle.source_tools.specs.declared.refusal.Refusal.TheVariants.{BadImage, BadSource, CannotWrite, NoMemory}

-- ---- `asm`

-- the ELF file of what the source is assembled to
pub record IsFileOf (files : Option Files) (source : List ℕ) (order : Order) (file : List ℕ) : Type 0 where
  pub bytes : List ℕ
  pub held : Holds files source source_limit bytes
  pub assembled : Assembled
  pub assembles : Assembles order bytes (Ok assembled)
  pub is : file ≡ file_of assembled.image

-- why a source gives no file, before anything is written
abbrev pub NotAssembled : ShelfState → ShelfState → List ℕ → Refusal → Type 0
NotAssembled old new source (BadSource code line column) =
    (bytes : List ℕ) × Holds old.files source source_limit bytes × IsSourceRefusal bytes (RefusedSource code line column) × (new ≡ old)
NotAssembled old new source refusal = NotLoaded old new source source_limit refusal

-- the file of the source was written to the output, with this answer
abbrev pub Writes : ShelfState → ShelfState → List ℕ → List ℕ → Order → Result ⊤ StoreFault → Type 0
Writes old new source output order answer = (file : List ℕ) × IsFileOf old.files source order file × Wrote old new output file answer

-- what the answer of `asm` says of the shelf before and after it
abbrev pub SaysAsm : ShelfState → ShelfState → List ℕ → List ℕ → Order → Result ⊤ Refusal → Type 0
SaysAsm old new source output order (Ok done) = Writes old new source output order (Ok tt)
SaysAsm old new source output order (Err (CannotWrite file)) = (file ≡ output) × Writes old new source output order (Err store.Failed)
SaysAsm old new source output order (Err NoMemory) = (new ≡ old) ⊎ Writes old new source output order (Err store.NoMemory)
SaysAsm old new source output order (Err refusal) = NotAssembled old new source refusal

-- ---- `dis`

-- the bytes of a memory that has all addresses
abbrev pub all_memory : ℕ
all_memory = 4_294_967_296

-- the image of a file
pub record IsImageIn (files : Option Files) (file : List ℕ) (image : Image) : Type 0 where
  pub bytes : List ℕ
  pub held : Holds files file image_limit bytes
  pub elf : ElfOf bytes all_memory image

-- why a file gives no image
abbrev pub NotImage : ShelfState → ShelfState → List ℕ → Refusal → Type 0
NotImage old new file (BadImage code at) =
    (bytes : List ℕ) × Holds old.files file image_limit bytes × IsImageRefusal bytes all_memory (RefusedImage code at) × (new ≡ old)
NotImage old new file refusal = NotLoaded old new file image_limit refusal

-- the name by which the output stream is told
abbrev pub output_name : List ℕ
output_name = codes "output"

-- the lines of the image were added to the output, with this answer, and the shelf is as before
abbrev pub Lists : ShelfState → ShelfState → SinkState → SinkState → List ℕ → Result ⊤ StoreFault → Type 0
Lists old new out out' file answer = (image : Image) × IsImageIn old.files file image × Adds out out' (listing image) answer × (new ≡ old)

-- what the answer of `dis` says of the shelf and the output before and after it
abbrev pub SaysDis : ShelfState → ShelfState → SinkState → SinkState → List ℕ → Result ⊤ Refusal → Type 0
SaysDis old new out out' file (Ok done) = Lists old new out out' file (Ok tt)
SaysDis old new out out' file (Err (CannotWrite name)) = (name ≡ output_name) × Lists old new out out' file (Err store.Failed)
SaysDis old new out out' file (Err NoMemory) = ((new ≡ old) × (out' ≡ out)) ⊎ Lists old new out out' file (Err store.NoMemory)
SaysDis old new out out' file (Err refusal) = NotImage old new file refusal × (out' ≡ out)
