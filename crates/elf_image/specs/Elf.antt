-- The image that an ELF32 executable has, or why it has none.
use Rattle.std.specs.Prelude.{◌≡◌, ℕ, ◌<◌, ◌≤◌, ◌+◌, ◌-◌, ◌%◌, ◌==◌, List, length, take, drop, map, filter, option_map, Some, None}
use Rattle.std.specs.List.{All, AllPairs, Any}
use Rattle.elf_image.specs.Fields.{e_entry, loads, order_of}
use Rattle.elf_image.specs.Tests.{first_failing, has_bytes, refusal, tests}
use Rattle.elf_image.specs.declared.fault.ElfFault.{ElfFault}
use Rattle.elf_image.specs.declared.fault.ElfFault.TheVariants.{NoMemory, Refused}
use Rattle.elf_image.specs.declared.image.Image.{Image}
use Rattle.elf_image.specs.declared.image.Part.{Part}
use Rattle.elf_image.specs.declared.segment.ProgramHeader.{ProgramHeader}

-- what a segment loads at p_vaddr: its bytes in the file, and zeros up to p_memsz; PF_X is the flag of value 1
abbrev pub part_of : List ℕ → ProgramHeader → Part
part_of file h = record {
  addr = h.p_vaddr;
  bytes = take h.p_filesz (drop h.p_offset file);
  zeros = h.p_memsz - h.p_filesz;
  code = h.p_flags % 2 == 1;
}

-- the parts of the segments with bytes in memory, in file order
unfoldable pub parts_of : List ℕ → List ProgramHeader → List Part
parts_of file all = map (part_of file) (filter has_bytes all)

abbrev pub image_of : List ℕ → Image
image_of file = record { order = order_of file; entry = e_entry file; parts = parts_of file (loads file) }

-- the file is an executable for a core with this much memory, and this is its image
abbrev pub ElfOf : List ℕ → ℕ → Image → Type 0
ElfOf file memory image = (first_failing (tests file memory) ≡ None) × (image ≡ image_of file)

-- why there is no image: the first test that fails, or want of memory, which is left open
abbrev pub IsRefusal : List ℕ → ℕ → ElfFault → Type 0
IsRefusal file memory (Refused code at) = option_map refusal (first_failing (tests file memory)) ≡ Some (Refused code at)
IsRefusal file memory NoMemory = Unit {0}

-- a part lies in a memory of this size
abbrev pub FitsIn : ℕ → Part → Type 0
FitsIn memory part = part.addr + length part.bytes + part.zeros ≤ memory

-- an address is one of a part's
abbrev pub HasAddress : Part → ℕ → Type 0
HasAddress part x = (part.addr ≤ x) × (x < part.addr + length part.bytes + part.zeros)

-- no address is in both parts
abbrev pub AreApart : Part → Part → Type 0
AreApart part other = (x : ℕ) → HasAddress part x → HasAddress other x → ⊥

-- an image that can be loaded into a memory of this size and started
pub record IsLoadable (memory : ℕ) (image : Image) : Type 0 where
  pub fits : All (FitsIn memory) image.parts
  pub apart : AllPairs AreApart image.parts
  pub aligned : image.entry % 4 ≡ 0
  pub entered : Any (λ part. HasAddress part image.entry) image.parts
