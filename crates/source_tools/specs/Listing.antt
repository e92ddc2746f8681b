-- The lines of an image: one for each whole word of the bytes of each part that is code.
use Rattle.std.specs.Prelude.{ℕ, ◌+◌, ◌*◌, ◌/◌, List, [], ◌++◌, codes, flat_map, length, if◌then◌else◌}
use Rattle.std.specs.List.{range_with_len}
use Rattle.core_regs.specs.declared.causes.Order.{Order}
use Rattle.elf_image.specs.Fields.{number_at}
use Rattle.elf_image.specs.declared.image.Image.{Image}
use Rattle.elf_image.specs.declared.image.Part.{Part}
use Rattle.host_io.specs.Digits.{hex_of}
use Rattle.mb_dis.specs.Statement.{text_of}

-- the line of a word: its address, its eight digits and its text
abbrev pub word_line : ℕ → ℕ → List ℕ
word_line address word = hex_of address ++ codes " " ++ hex_of word ++ codes " " ++ text_of word ++ codes "\n"

-- the line of word k of bytes that begin at an address, in this byte order
unfoldable pub line_at : Order → ℕ → List ℕ → ℕ → List ℕ
line_at order address bytes k = word_line (address + 4 * k) (number_at order 4 (4 * k) bytes)

-- the lines of all whole words of these bytes
abbrev pub lines_of : Order → ℕ → List ℕ → List ℕ
lines_of order address bytes = flat_map (line_at order address bytes) (range_with_len 0 (length bytes / 4))

-- the lines of a part
unfoldable pub part_lines : Order → Part → List ℕ
part_lines order part = if part.code then lines_of order part.addr part.bytes else []

-- the lines of an image
abbrev pub listing : Image → List ℕ
listing image = flat_map (part_lines image.order) image.parts
