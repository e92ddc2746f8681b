-- The source lines of instruction words.
use Rattle.std.specs.Prelude.{ℕ, ◌+◌, ◌<◌, ◌≤◌, Bool, List, [], ◌∷◌, flat_map, get_or, length, if◌then◌else◌}
use Rattle.std.specs.List.{range_with_len}
use Rattle.asm_layout.specs.Layout.{Numbers}
use Rattle.asm_source.specs.declared.item.Item.{Item}
use Rattle.asm_source.specs.declared.item.Item.TheVariants.{Instruction}
use Rattle.asm_source.specs.declared.item.Written.{Written}
use Rattle.asm_source.specs.Items.{prefixed}
use Rattle.asm_source.specs.Second.{place_of, written}
use Rattle.mb_asm.specs.declared.word_lines.Line.{Line}

-- the words of an item of a line that stands at a place: its instruction, behind its prefix where it has one
abbrev pub words_at : ℕ → Bool → ℕ → Item → List Line
words_at place long line (Instruction i value after_imm) =
    if long then record { addr = place; line = line } ∷ record { addr = place + 4; line = line } ∷ [] else record { addr = place; line = line } ∷ []
words_at place long line item = []

abbrev pub words_of : List Written → Numbers → ℕ → List Line
words_of all F k = words_at (place_of all F k) (prefixed (written all k).item (F k)) (written all k).line (written all k).item

-- all words of a source in the layout of F
unfoldable pub all_words : List Written → Numbers → List Line
all_words all F = flat_map (words_of all F) (range_with_len 0 (length all))

-- no place is past the limit of addresses
abbrev pub AreNear : List ℕ → Type 0
AreNear places = (k : ℕ) → k < length places → get_or places k 0 ≤ 67_108_864
