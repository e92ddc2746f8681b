-- A memory is the list of its bytes: the byte at an address stands at that place.
use Rattle.std.specs.Prelude.{ℕ, ◌+◌, ◌-◌, Bool, nat_le, if◌then◌else◌, Option, Some, None, List, ◌++◌, length, take, drop, slice_range}
use Rattle.std.specs.Int.{Width, w8, w16, w32, from_be_bytes, from_le_bytes, to_be_bytes, to_le_bytes}
use Rattle.core_regs.specs.declared.causes.Order.{Order}
use Rattle.core_regs.specs.declared.causes.Order.TheVariants.{Big, Little}
use Rattle.core_regs.specs.declared.causes.Size.{Size}
use Rattle.core_regs.specs.declared.causes.Size.TheVariants.{Byte, Half, Word}

-- how many bytes an access has
abbrev pub bytes_of : Size → ℕ
bytes_of Byte = 1
bytes_of Half = 2
bytes_of Word = 4

-- the unsigned type of that many bytes
abbrev pub width : Size → Width
width Byte = w8
width Half = w16
width Word = w32

-- the number that bytes stand for: with the highest byte at the lowest address, or with the lowest byte there
abbrev pub number : Order → Size → List ℕ → ℕ
number Big size bytes = from_be_bytes (width size) bytes
number Little size bytes = from_le_bytes (width size) bytes

-- the low bytes of a number, in the order of their addresses
abbrev pub encoded : Order → Size → ℕ → List ℕ
encoded Big size value = to_be_bytes (width size) value
encoded Little size value = to_le_bytes (width size) value

-- whether that many bytes from an address on lie within the memory; no bytes lie within it at every address
abbrev pub fits : List ℕ → ℕ → ℕ → Bool
fits m addr count = nat_le count (length m - addr)

-- the memory with bytes written over those from an address on, or as it was where one of them lies past the end
abbrev pub overwritten : List ℕ → ℕ → List ℕ → List ℕ
overwritten m addr bytes = if fits m addr (length bytes) then take addr m ++ bytes ++ drop (addr + length bytes) m else m

-- the number that a load reads, and none where a byte lies past the end
unfoldable pub loaded : List ℕ → Size → Order → ℕ → Option ℕ
loaded m size order addr =
    if fits m addr (bytes_of size) then Some (number order size (slice_range m addr (addr + bytes_of size))) else None

-- the memory after a store: as it was where a byte lies past the end
unfoldable pub stored : List ℕ → Size → Order → ℕ → ℕ → List ℕ
stored m size order addr value = overwritten m addr (encoded order size value)
