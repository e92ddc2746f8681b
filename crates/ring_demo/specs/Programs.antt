-- The programs of a ring's cores, and how its cores begin.
use Rattle.std.specs.Prelude.{ℕ, ◌+◌, ◌-◌, ◌*◌, ◌/◌, ◌%◌, ◌^◌, ◌==◌, if◌then◌else◌, true, List, [], ◌∷◌, ◌++◌, flat_map, length, map, replicate}
use Rattle.std.specs.List.{range_with_len}
use Rattle.std.specs.Int.{to_be_bytes}
use mir.Syntax.{w32}
use Rattle.core_regs.specs.State.{fresh}
use Rattle.core_regs.specs.declared.causes.Order.TheVariants.{Big}
use Rattle.isa_step.specs.Effects.{View}
use Rattle.board_machine.specs.World.{Inputs}
use Rattle.ring_demo.specs.Ring.{cores_of}

-- the first word that core 0 sends
abbrev pub value_of : ℕ → ℕ
value_of number = (number * 1_103_515_245 + 12_345) % 2 ^ 32

-- core 0 sends 1,000 words, from a value on, and hands on to the output what comes back
abbrev pub first_words : ℕ → List ℕ
first_words value =
    (0xB000_0000 + value / 0x1_0000) ∷ (0x3060_0000 + value % 0x1_0000) ∷ 0x30A0_03E8 ∷ 0x6C03_8000 ∷ 0x6C80_0000
    ∷ 0x6C04_8001 ∷ 0x3063_0001 ∷ 0x30A5_FFFF ∷ 0xBC25_FFEC ∷ 0xB800_0000 ∷ []

-- each later core adds its number to 1,000 words that it gets, and sends them on
abbrev pub next_words : ℕ → List ℕ
next_words core =
    0x30A0_03E8 ∷ 0x6C80_0000 ∷ (0x3084_0000 + core) ∷ 0x6C04_8000 ∷ 0x30A5_FFFF ∷ 0xBC25_FFF0 ∷ 0xB800_0000 ∷ []

abbrev pub words_at : ℕ → ℕ → List ℕ
words_at number core = if core == 0 then first_words (value_of number) else next_words core

-- the bytes of words, the most significant first
abbrev pub image_of : List ℕ → List ℕ
image_of words = flat_map (to_be_bytes w32) words

-- these bytes at 0, and zeros behind them
abbrev pub memory_of : List ℕ → List ℕ
memory_of words = image_of words ++ replicate (4_096 - length (image_of words)) 0

-- each core begins at its program's first word, with all registers 0, and knows that it is on a network board
abbrev pub ring_view : ℕ → ℕ → View
ring_view number core = record { arch = fresh 0 Big true; memory = memory_of (words_at number core) }

abbrev pub ring_views : ℕ → List View
ring_views number = map (ring_view number) (range_with_len 0 (cores_of number))

-- no link begins at a file
abbrev pub no_inputs : Inputs
no_inputs = record { links = []; uarts = [] }
