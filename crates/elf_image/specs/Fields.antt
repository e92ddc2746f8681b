-- The fields of an ELF32 file, each by its offset in the whole file. The names are those of the ELF32 specification.
use Rattle.std.specs.Prelude.{ℕ, ◌+◌, ◌*◌, ◌==◌, Bool, List, drop, get_or, if◌then◌else◌, map, filter}
use Rattle.std.specs.List.{range_with_len}
use Rattle.byteorder.specs.Endian.{big_number, little_number}
use Rattle.core_regs.specs.declared.causes.Order.{Order}
use Rattle.core_regs.specs.declared.causes.Order.TheVariants.{Big, Little}
use Rattle.elf_image.specs.declared.segment.ProgramHeader.{ProgramHeader}

-- the number in the n bytes from offset `at` on, in this byte order
abbrev pub number_at : Order → ℕ → ℕ → List ℕ → ℕ
number_at Big n at file = big_number n (drop at file)
number_at Little n at file = little_number n (drop at file)

-- byte `at` of e_ident
abbrev pub e_ident : List ℕ → ℕ → ℕ
e_ident file at = get_or file at 0

-- EI_CLASS: 1 is ELFCLASS32
abbrev pub ei_class : List ℕ → ℕ
ei_class file = e_ident file 4

-- EI_DATA: 1 is ELFDATA2LSB, 2 is ELFDATA2MSB
abbrev pub ei_data : List ℕ → ℕ
ei_data file = e_ident file 5

-- EI_VERSION: 1 is EV_CURRENT
abbrev pub ei_version : List ℕ → ℕ
ei_version file = e_ident file 6

-- the byte order that the file names
abbrev pub order_of : List ℕ → Order
order_of file = if ei_data file == 2 then Big else Little

-- an Elf32_Half, in the file's byte order
unfoldable pub half : List ℕ → ℕ → ℕ
half file at = number_at (order_of file) 2 at file

-- an Elf32_Word, Elf32_Addr or Elf32_Off, in the file's byte order
unfoldable pub word : List ℕ → ℕ → ℕ
word file at = number_at (order_of file) 4 at file

-- 2 is ET_EXEC
abbrev pub e_type : List ℕ → ℕ
e_type file = half file 16

-- 189 is EM_MICROBLAZE, BAAB hex its number before that was given
abbrev pub e_machine : List ℕ → ℕ
e_machine file = half file 18

abbrev pub e_version : List ℕ → ℕ
e_version file = word file 20

abbrev pub e_entry : List ℕ → ℕ
e_entry file = word file 24

abbrev pub e_phoff : List ℕ → ℕ
e_phoff file = word file 28

abbrev pub e_phentsize : List ℕ → ℕ
e_phentsize file = half file 42

abbrev pub e_phnum : List ℕ → ℕ
e_phnum file = half file 44

-- the program header at an offset, as number k
abbrev pub header_at : List ℕ → ℕ → ℕ → ProgramHeader
header_at file k at = record {
  index = k;
  p_type = word file at;
  p_offset = word file (at + 4);
  p_vaddr = word file (at + 8);
  p_filesz = word file (at + 16);
  p_memsz = word file (at + 20);
  p_flags = word file (at + 24);
}

-- program header k; each has 32 bytes
unfoldable pub program_header : List ℕ → ℕ → ProgramHeader
program_header file k = header_at file k (e_phoff file + 32 * k)

-- PT_LOAD is 1
abbrev pub is_load : ProgramHeader → Bool
is_load h = h.p_type == 1

-- the PT_LOADs among the first n program headers, in file order
abbrev pub first_loads : List ℕ → ℕ → List ProgramHeader
first_loads file n = filter is_load (map (program_header file) (range_with_len 0 n))

-- the PT_LOADs, in file order
abbrev pub loads : List ℕ → List ProgramHeader
loads file = first_loads file (e_phnum file)
