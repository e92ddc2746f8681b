-- Bits of the registers of devices, which are words of 32 bits.
use Rattle.std.specs.Prelude.{ℕ, ◌-◌, ◌^◌, ◌==◌, not, Bool, bit_and}

-- whether a word has a bit; of several bits, whether it has one of them
abbrev pub has : ℕ → ℕ → Bool
has bits word = not (bit_and word bits == 0)

-- a word without these bits
abbrev pub without : ℕ → ℕ → ℕ
without bits word = bit_and word (2 ^ 32 - 1 - bits)
