-- The status of `asm` and `dis` where the shelf tells the file and no fault was counted.
use Rattle.std.specs.Prelude.{◌≤◌, ◌<◌, Bool, List, ℕ, codes, length, Ok}
use Rattle.elf_image.specs.Elf.{ElfOf, IsRefusal as IsImageRefusal}
use Rattle.elf_image.specs.declared.fault.ElfFault.TheVariants.{Refused as RefusedImage}
use Rattle.elf_image.specs.declared.image.Image.{Image}
use Rattle.host_io.specs.Outside.{ShelfState, SinkState}
use Rattle.mb_asm.specs.Assembly.{Assembles, IsRefusal as IsSourceRefusal}
use Rattle.mb_asm.specs.declared.answer.AsmFault.TheVariants.{Refused as RefusedSource}
use Rattle.mb_asm.specs.declared.answer.Assembled.{Assembled}
use Rattle.mb_sim.specs.declared.status.Status.{Status}
use Rattle.mb_sim.specs.declared.status.Status.TheVariants.{BadImage, BadSource, Ended, TooLong}
use Rattle.mb_sim.specs.Tools.{order_of}
use Rattle.mb_sim.specs.Top.{IsAnswer}
use Rattle.source_tools.specs.Answers.{all_memory}
use Rattle.source_tools.specs.Complete.{IsFairAsm, IsFairDis}
use Rattle.source_tools.specs.Loaded.{image_limit, source_limit}

-- a source without a fault is done, one with a fault is told, and one that is too long too
pub record AsmIsExact (source : List ℕ) (is_little : Bool) (shelf shelf' : ShelfState) (status : Status) : Type 0 where
  pub done : (bytes : List ℕ) (a : Assembled) → IsFairAsm source bytes shelf shelf' → length bytes ≤ source_limit → Assembles (order_of is_little) bytes (Ok a) → IsAnswer Ended status
  pub faults : (bytes : List ℕ) (code line column : ℕ) → IsFairAsm source bytes shelf shelf' → length bytes ≤ source_limit → IsSourceRefusal bytes (RefusedSource code line column)
      → IsAnswer (BadSource code line column) status
  pub lengths : (bytes : List ℕ) → IsFairAsm source bytes shelf shelf' → source_limit < length bytes → IsAnswer (TooLong source) status

-- the same of images
pub record DisIsExact (file : List ℕ) (shelf shelf' : ShelfState) (out out' : SinkState) (status : Status) : Type 0 where
  pub done : (bytes : List ℕ) (image : Image) → IsFairDis file bytes shelf shelf' out out' → length bytes ≤ image_limit → ElfOf bytes all_memory image → IsAnswer Ended status
  pub faults : (bytes : List ℕ) (code at : ℕ) → IsFairDis file bytes shelf shelf' out out' → length bytes ≤ image_limit → IsImageRefusal bytes all_memory (RefusedImage code at)
      → IsAnswer (BadImage (codes "image") code at) status
  pub lengths : (bytes : List ℕ) → IsFairDis file bytes shelf shelf' out out' → image_limit < length bytes → IsAnswer (TooLong file) status
