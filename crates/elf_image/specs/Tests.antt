-- The tests of an ELF32 executable, one definition a test, in their order; and the first that fails.
use Rattle.std.specs.Prelude.{ℕ, ◌≤◌, ◌<◌, ◌+◌, ◌*◌, ◌%◌, ◌==◌, Bool, ◌&&◌, ◌||◌, not, nat_lt, List, [], ◌∷◌, ◌++◌, take, length, flat_map, if◌then◌else◌, Option, Some, None}
use Rattle.std.specs.List.{list_any}
use Rattle.std.specs.Str.{bytes_eq}
use Rattle.elf_image.specs.Fields.{e_entry, e_machine, e_phentsize, e_phnum, e_phoff, e_type, e_version, ei_class, ei_data, ei_version, loads}
use Rattle.elf_image.specs.declared.fault.ElfFault.{ElfFault}
use Rattle.elf_image.specs.declared.fault.ElfFault.TheVariants.{Refused}
use Rattle.elf_image.specs.declared.fault.ElfRule.{ElfRule}
use Rattle.elf_image.specs.declared.fault.ElfRule.TheVariants as broken
use Rattle.elf_image.specs.declared.fault.Fault.{Fault}
use Rattle.elf_image.specs.declared.segment.ProgramHeader.{ProgramHeader}

-- the code of each fault
abbrev pub code_of : ElfRule → ℕ
code_of broken.NoMagic = 701
code_of broken.UnknownFormat = 702
code_of broken.UnknownVersion = 703
code_of broken.NotExecutable = 704
code_of broken.OtherMachine = 705
code_of broken.PastFileEnd = 706
code_of broken.OtherHeaderSize = 707
code_of broken.NothingToLoad = 708
code_of broken.PastMemoryEnd = 709
code_of broken.MoreThanItsMemory = 710
code_of broken.Overlap = 711
code_of broken.BadEntry = 712

abbrev pub fault_at : ElfRule → ℕ → Fault
fault_at rule at = record { rule = rule; at = at }

-- the answer to a file with this fault
abbrev pub refusal : Fault → ElfFault
refusal f = Refused (code_of f.rule) f.at

-- a test: whether it fails, and the fault that it then is
pub record Test : Type 0 where
  pub fails : Bool
  pub fault : Fault

abbrev pub test : Bool → ElfRule → ℕ → Test
test fails rule at = record { fails = fails; fault = fault_at rule at }

-- the first of the tests that fails
abbrev pub first_failing : List Test → Option Fault
first_failing [] = None
first_failing (t ∷ ts) = if t.fails then Some t.fault else first_failing ts

-- whether n bytes from a place on pass an end; no bytes pass none, wherever they begin
abbrev pub passes : ℕ → ℕ → ℕ → Bool
passes end from n = nat_lt 0 n && nat_lt end (from + n)

-- The tests of the header.

-- e_ident begins with 7F hex and the letters ELF
abbrev pub has_magic : List ℕ → Bool
has_magic file = bytes_eq (take 4 file) (127 ∷ 69 ∷ 76 ∷ 70 ∷ [])

abbrev pub magic_test : List ℕ → Test
magic_test file = test (not (has_magic file)) broken.NoMagic 0

-- an Elf32_Ehdr has 52 bytes
abbrev pub length_test : List ℕ → Test
length_test file = test (nat_lt (length file) 52) broken.PastFileEnd 0

abbrev pub ident_test : List ℕ → Test
ident_test file = test (not (ei_class file == 1) || not (ei_data file == 1 || ei_data file == 2)) broken.UnknownFormat 4

abbrev pub version_test : List ℕ → Test
version_test file = test (not (ei_version file == 1) || not (e_version file == 1)) broken.UnknownVersion 6

abbrev pub type_test : List ℕ → Test
type_test file = test (not (e_type file == 2)) broken.NotExecutable 16

abbrev pub machine_test : List ℕ → Test
machine_test file = test (not (e_machine file == 189 || e_machine file == 0xBAAB)) broken.OtherMachine 18

abbrev pub entry_size_test : List ℕ → Test
entry_size_test file = test (not (e_phnum file == 0) && not (e_phentsize file == 32)) broken.OtherHeaderSize 42

abbrev pub table_test : List ℕ → Test
table_test file = test (passes (length file) (e_phoff file) (32 * e_phnum file)) broken.PastFileEnd (e_phoff file)

unfoldable pub header_tests : List ℕ → List Test
header_tests file =
    magic_test file ∷
    length_test file ∷
    ident_test file ∷
    version_test file ∷
    type_test file ∷
    machine_test file ∷
    entry_size_test file ∷
    table_test file ∷
    []

-- The tests of one PT_LOAD, in a file of this size and for a memory of this size.

abbrev pub sizes_test : ProgramHeader → Test
sizes_test h = test (nat_lt h.p_memsz h.p_filesz) broken.MoreThanItsMemory h.index

abbrev pub bytes_test : ℕ → ProgramHeader → Test
bytes_test size h = test (passes size h.p_offset h.p_filesz) broken.PastFileEnd h.p_offset

abbrev pub memory_test : ℕ → ProgramHeader → Test
memory_test memory h = test (passes memory h.p_vaddr h.p_memsz) broken.PastMemoryEnd h.index

unfoldable pub segment_tests : ℕ → ℕ → ProgramHeader → List Test
segment_tests size memory h = sizes_test h ∷ bytes_test size h ∷ memory_test memory h ∷ []

-- The tests of all PT_LOADs together.

-- whether a segment has bytes in memory
abbrev pub has_bytes : ProgramHeader → Bool
has_bytes h = nat_lt 0 h.p_memsz

abbrev pub presence_test : List ProgramHeader → Test
presence_test all = test (not (list_any has_bytes all)) broken.NothingToLoad 0

-- the address after a segment's last byte in memory, without a wrap at 2^32
abbrev pub end_of : ProgramHeader → ℕ
end_of h = h.p_vaddr + h.p_memsz

-- whether there is an address that two segments both have
abbrev pub shares_byte : ProgramHeader → ProgramHeader → Bool
shares_byte h g = has_bytes h && has_bytes g && nat_lt h.p_vaddr (end_of g) && nat_lt g.p_vaddr (end_of h)

abbrev pub overlap_test : List ProgramHeader → ProgramHeader → Test
overlap_test earlier h = test (list_any (shares_byte h) earlier) broken.Overlap h.index

-- each segment against all that stand before it
abbrev pub overlap_tests : List ProgramHeader → List ProgramHeader → List Test
overlap_tests earlier [] = []
overlap_tests earlier (h ∷ hs) = overlap_test earlier h ∷ overlap_tests (earlier ++ h ∷ []) hs

-- whether a segment has this address in memory
abbrev pub holds : ℕ → ProgramHeader → Bool
holds address h = not (nat_lt address h.p_vaddr) && nat_lt address (end_of h)

abbrev pub entry_test : List ProgramHeader → ℕ → Test
entry_test all entry = test (not (entry % 4 == 0 && list_any (holds entry) all)) broken.BadEntry entry

unfoldable pub load_tests : ℕ → ℕ → ℕ → List ProgramHeader → List Test
load_tests size memory entry all =
    flat_map (segment_tests size memory) all
    ++ presence_test all ∷ overlap_tests [] all
    ++ entry_test all entry ∷ []

-- all tests in their order
abbrev pub tests : List ℕ → ℕ → List Test
tests file memory = header_tests file ++ load_tests (length file) memory (e_entry file) (loads file)

-- an address is one of a segment's in memory
abbrev pub IsIn : ℕ → ProgramHeader → Type 0
IsIn x h = (h.p_vaddr ≤ x) × (x < end_of h)

abbrev pub SharesByte : ProgramHeader → ProgramHeader → Type 0
SharesByte h g = (x : ℕ) × IsIn x h × IsIn x g
