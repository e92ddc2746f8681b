-- The symbols of an ELF32 file: the entries of its symbol table, each with its name.
use Rattle.std.specs.Prelude.{ℕ, ◌+◌, ◌*◌, ◌/◌, ◌%◌, ◌==◌, ◌&&◌, ◌||◌, not, nat_lt, nat_le, Bool, List, [], ◌∷◌, map, take, drop, length, position, if◌then◌else◌, Option, Some, None, option_map}
use Rattle.std.specs.List.{find, range_with_len}
use Rattle.core_regs.specs.declared.causes.Order.{Order}
use Rattle.elf_image.specs.Fields.{ei_class, ei_data, half, number_at, order_of, word}
use Rattle.elf_image.specs.Tests.{has_magic, passes}
use Rattle.elf_image.specs.declared.section.SectionHeader.{SectionHeader}
use Rattle.elf_image.specs.declared.symbol.Symbol.{Symbol}

abbrev pub e_shoff : List ℕ → ℕ
e_shoff file = word file 32

abbrev pub e_shentsize : List ℕ → ℕ
e_shentsize file = half file 46

abbrev pub e_shnum : List ℕ → ℕ
e_shnum file = half file 48

-- the section header at an offset
abbrev pub section_at : List ℕ → ℕ → SectionHeader
section_at file at = record {
  sh_type = word file (at + 4);
  sh_offset = word file (at + 16);
  sh_size = word file (at + 20);
  sh_link = word file (at + 24);
  sh_entsize = word file (at + 36);
}

-- section header k; each has 40 bytes
unfoldable pub section_header : List ℕ → ℕ → SectionHeader
section_header file k = section_at file (e_shoff file + 40 * k)

-- the section headers from number k on, so many
abbrev pub sections_from : List ℕ → ℕ → ℕ → List SectionHeader
sections_from file k count = map (section_header file) (range_with_len k count)

-- all section headers, in file order
abbrev pub sections : List ℕ → List SectionHeader
sections file = sections_from file 0 (e_shnum file)

-- whether it is a file of class 32 in a known byte order, with section headers of 40 bytes that lie in it
unfoldable pub has_sections : List ℕ → Bool
has_sections file =
    nat_le 52 (length file)
    && has_magic file
    && ei_class file == 1
    && (ei_data file == 1 || ei_data file == 2)
    && e_shentsize file == 40
    && not (passes (length file) (e_shoff file) (40 * e_shnum file))

-- SHT_SYMTAB is 2, and an Elf32_Sym has 16 bytes
abbrev pub is_symbol_table : SectionHeader → Bool
is_symbol_table s = s.sh_type == 2 && s.sh_entsize == 16

-- SHT_STRTAB is 3
abbrev pub is_string_table : SectionHeader → Bool
is_string_table s = s.sh_type == 3

abbrev pub lies_in : List ℕ → SectionHeader → Bool
lies_in file s = not (passes (length file) s.sh_offset s.sh_size)

abbrev pub bytes_of_section : List ℕ → SectionHeader → List ℕ
bytes_of_section file s = take s.sh_size (drop s.sh_offset file)

-- the bytes of the entries, where the table lies in the file and has whole entries
abbrev pub entries_of : List ℕ → SectionHeader → Option (List ℕ)
entries_of file s = if lies_in file s && s.sh_size % 16 == 0 then Some (bytes_of_section file s) else None

abbrev pub strings_in : List ℕ → SectionHeader → Option (List ℕ)
strings_in file s = if is_string_table s && lies_in file s then Some (bytes_of_section file s) else None

-- the bytes of the section of names that a link names
abbrev pub strings_of : List ℕ → ℕ → Option (List ℕ)
strings_of file link = if nat_lt link (e_shnum file) then strings_in file (section_header file link) else None

-- the bytes before the first that is 0
abbrev pub before_zero : List ℕ → Option (List ℕ)
before_zero bytes = option_map (λ n. take n bytes) (position (λ b. b == 0) bytes)

abbrev pub symbol_of : ℕ → List ℕ → Symbol
symbol_of value name = record { name = name; value = value }

-- the Elf32_Sym at a place of the entries, where its name is one
unfoldable pub symbol_at : Order → List ℕ → List ℕ → ℕ → Option Symbol
symbol_at order entries strings at =
    option_map (symbol_of (number_at order 4 (at + 4) entries)) (before_zero (drop (number_at order 4 at entries) strings))

-- the entries from number k on, so many; each has 16 bytes
abbrev pub symbols_from : Order → List ℕ → List ℕ → ℕ → ℕ → List (Option Symbol)
symbols_from order entries strings k count = map (λ n. symbol_at order entries strings (16 * n)) (range_with_len k count)

-- all of them, where each is one
abbrev pub all_of : List (Option Symbol) → Option (List Symbol)
all_of [] = Some []
all_of (None ∷ rest) = None
all_of (Some s ∷ rest) = option_map (λ ss. s ∷ ss) (all_of rest)

abbrev pub symbols_by : Order → Option (List ℕ) → Option (List ℕ) → Option (List Symbol)
symbols_by order (Some entries) (Some strings) = all_of (symbols_from order entries strings 0 (length entries / 16))
symbols_by order (Some entries) None = None
symbols_by order None strings = None

abbrev pub symbols_in : List ℕ → Option SectionHeader → Option (List Symbol)
symbols_in file (Some table) = symbols_by (order_of file) (entries_of file table) (strings_of file table.sh_link)
symbols_in file None = None

-- the symbols of the whole symbol table, where the file has one: the first that there is counts
unfoldable pub symbols_there : List ℕ → Option (List Symbol)
symbols_there file = if has_sections file then symbols_in file (find is_symbol_table (sections file)) else None

abbrev pub or_none : Option (List Symbol) → List Symbol
or_none (Some symbols) = symbols
or_none None = []

-- the symbols of a file: none where it has no whole symbol table
abbrev pub symbols_of : List ℕ → List Symbol
symbols_of file = or_none (symbols_there file)
