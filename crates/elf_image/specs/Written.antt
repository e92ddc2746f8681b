-- The file of an image: fields in order, each a number with its size, and then the bytes of the parts.
use Rattle.std.specs.Prelude.{◌≡◌, ℕ, ◌+◌, ◌*◌, ◌^◌, ◌<◌, List, [], ◌∷◌, ◌++◌, length, flat_map, if◌then◌else◌}
use Rattle.byteorder.specs.Endian.{big_bytes, little_bytes}
use Rattle.core_regs.specs.declared.causes.Order.{Order}
use Rattle.core_regs.specs.declared.causes.Order.TheVariants.{Big, Little}
use Rattle.elf_image.specs.Elf.{ElfOf, IsLoadable, image_of}
use Rattle.elf_image.specs.Fields.{e_entry, e_machine, e_phentsize, e_phnum, e_phoff, e_type, e_version, order_of}
use Rattle.elf_image.specs.declared.writing.Field.{Field}
use Rattle.elf_image.specs.declared.writing.Field.TheVariants.{Byte, Half, Word}
use Rattle.elf_image.specs.declared.image.Image.{Image}
use Rattle.elf_image.specs.declared.image.Part.{Part}

-- the bytes of a field
abbrev pub bytes_of : Order → Field → List ℕ
bytes_of order (Byte x) = x ∷ []
bytes_of Big (Half x) = big_bytes 2 x
bytes_of Little (Half x) = little_bytes 2 x
bytes_of Big (Word x) = big_bytes 4 x
bytes_of Little (Word x) = little_bytes 4 x

-- the bytes of fields, one after the other
unfoldable pub spelled : Order → List Field → List ℕ
spelled order [] = []
spelled order (f ∷ fs) = bytes_of order f ++ spelled order fs

-- EI_DATA
abbrev pub data_of : Order → ℕ
data_of Big = 2
data_of Little = 1

-- an Elf32_Ehdr with so many program headers right behind it
unfoldable pub header : Order → ℕ → ℕ → List Field
header order entry count =
    Byte 0x7F ∷ Byte 69 ∷ Byte 76 ∷ Byte 70 ∷ Byte 1 ∷ Byte (data_of order) ∷ Byte 1
    ∷ Byte 0 ∷ Byte 0 ∷ Byte 0 ∷ Byte 0 ∷ Byte 0 ∷ Byte 0 ∷ Byte 0 ∷ Byte 0 ∷ Byte 0
    ∷ Half 2 ∷ Half 189 ∷ Word 1 ∷ Word entry ∷ Word 52 ∷ Word 0 ∷ Word 0
    ∷ Half 52 ∷ Half 32 ∷ Half count ∷ Half 0 ∷ Half 0 ∷ Half 0
    ∷ []

-- the Elf32_Phdr of a part whose bytes stand at a place of the file
unfoldable pub load : ℕ → Part → List Field
load place part =
    Word 1 ∷ Word place ∷ Word part.addr ∷ Word part.addr
    ∷ Word (length part.bytes) ∷ Word (length part.bytes + part.zeros) ∷ Word (if part.code then 5 else 6) ∷ Word 1
    ∷ []

unfoldable pub loads_of : ℕ → List Part → List Field
loads_of place [] = []
loads_of place (p ∷ ps) = load place p ++ loads_of (place + length p.bytes) ps

abbrev pub fields_of : Image → List Field
fields_of image = header image.order image.entry (length image.parts) ++ loads_of (52 + 32 * length image.parts) image.parts

-- the file of an image
unfoldable pub file_of : Image → List ℕ
file_of image = spelled image.order (fields_of image) ++ flat_map (λ (p : Part). p.bytes) image.parts

-- what the fields of a file's header are, read by their offsets
pub record HasHeader (byte_order : Order) (start parts : ℕ) (file : List ℕ) : Type 0 where
  pub order : order_of file ≡ byte_order
  pub type : e_type file ≡ 2
  pub machine : e_machine file ≡ 189
  pub version : e_version file ≡ 1
  pub entry : e_entry file ≡ start
  pub table : e_phoff file ≡ 52
  pub size : e_phentsize file ≡ 32
  pub count : e_phnum file ≡ parts

abbrev pub HeaderReadsBack : Type 0
HeaderReadsBack = (image : Image) → image.entry < 2 ^ 32 → length image.parts < 2 ^ 16 → HasHeader image.order image.entry (length image.parts) (file_of image)

-- the parts of an image have numbers of 32 bits, the first of them with its bytes at a place of the file; none is without
-- bytes and zeros
abbrev pub AreWritable : ℕ → List Part → Type 0
AreWritable place [] = Unit {0}
AreWritable place (p ∷ ps) =
    (place < 2 ^ 32) × (p.addr < 2 ^ 32) × (length p.bytes + p.zeros < 2 ^ 32) × (0 < length p.bytes + p.zeros) × AreWritable (place + length p.bytes) ps

-- an image that can be written
pub record IsWritable (image : Image) : Type 0 where
  pub entry : image.entry < 2 ^ 32
  pub count : length image.parts < 2 ^ 16
  pub parts : AreWritable (52 + 32 * length image.parts) image.parts

-- what the file loads is the image
abbrev pub ImageReadsBack : Type 0
ImageReadsBack = (image : Image) → IsWritable image → image_of (file_of image) ≡ image

-- the whole: an image that can be loaded is read back
abbrev pub ReadsBack : Type 0
ReadsBack = (image : Image) (memory : ℕ) → IsWritable image → IsLoadable memory image → ElfOf (file_of image) memory image
