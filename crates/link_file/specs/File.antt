-- The file of a link: items in order, each one its control byte and the four bytes of its word, the most significant first.
use Rattle.std.specs.Prelude.{ℕ, ◌+◌, ◌*◌, ◌≡◌, ◌++◌, ◌∷◌, ◌==◌, [], Bool, List, Option, None, Some, if◌then◌else◌, length, nat_lt}
use Rattle.std.specs.List.{flat_map}
use Rattle.std.specs.Int.{from_be_bytes}
use mir.Syntax.{w32}
use Rattle.axi_link.specs.declared.item.Item.{Item}
use Rattle.run_journal.specs.Files.{item_bytes}

-- whether a byte is a control byte: 0 or 1
abbrev pub is_control : ℕ → Bool
is_control c = nat_lt c 2

-- the item of a control byte and the bytes of a word
abbrev pub item_of : ℕ → List ℕ → Item
item_of c word = record { word = from_be_bytes w32 word; control = c == 1 }

-- the items of a file, five bytes an item; fewer at the end are no item
abbrev pub items_of : List ℕ → List Item
items_of (c ∷ b3 ∷ b2 ∷ b1 ∷ b0 ∷ rest) = item_of c (b3 ∷ b2 ∷ b1 ∷ b0 ∷ []) ∷ items_of rest
items_of _ = []

-- the first fault of the bytes from this offset on
abbrev pub fault_from : ℕ → List ℕ → Option ℕ
fault_from at [] = None
fault_from at (c ∷ b3 ∷ b2 ∷ b1 ∷ b0 ∷ rest) = if is_control c then fault_from (at + 5) rest else Some at
fault_from at _ = Some at

-- the offset of the first item that isn't whole, or whose control byte is neither 0 nor 1
abbrev pub fault_in : List ℕ → Option ℕ
fault_in bytes = fault_from 0 bytes

-- the file of these items
abbrev pub file_of : List Item → List ℕ
file_of items = flat_map item_bytes items

-- bytes that begin with an item
abbrev pub BeginsWithItem : List ℕ → Type 0
BeginsWithItem bytes = (item : Item) × (more : List ℕ) × (bytes ≡ item_bytes item ++ more)

-- at this offset, after some items, the file goes on with what is no item
abbrev pub BreaksAt : List ℕ → ℕ → Type 0
BreaksAt bytes at = (items : List Item) × (rest : List ℕ) × (bytes ≡ file_of items ++ rest) × (5 * length items ≡ at)
    × (rest ≡ [] → ⊥) × (BeginsWithItem rest → ⊥)
