-- Which sizes a memory has, and the two ways in which none is made.
use Rattle.std.specs.Prelude.{ℕ, ◌≡◌, ◌≤◌, ◌%◌}
use Rattle.byte_mem.specs.declared.bytes.MemoryFault.{MemoryFault}
use Rattle.byte_mem.specs.declared.bytes.MemoryFault.TheVariants.{BadSize, NoMemory}

-- whole pages of 4,096 bytes, up to 67,108,864 bytes
abbrev pub IsSize : ℕ → Type 0
IsSize size = (4096 ≤ size) × (size ≤ 67108864) × (size % 4096 ≡ 0)

-- which fault comes for a size
abbrev pub IsFaultOf : ℕ → MemoryFault → Type 0
IsFaultOf size (BadSize refused) = (refused ≡ size) × (IsSize size → ⊥)
IsFaultOf size NoMemory = IsSize size
