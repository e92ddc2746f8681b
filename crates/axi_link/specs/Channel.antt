-- What a contract sees of a link: the items that it holds, and the most that it may hold.
use Rattle.std.specs.Prelude.{ℕ, ◌∷◌, [], ◌++◌, Bool, List, Option, drop, length, nat_lt, slice_get}
use Rattle.axi_link.specs.declared.item.Item.{Item}

-- a depth, and the items, the oldest first
pub record Channel : Type 0 where
  pub depth : ℕ
  pub items : List Item

-- a link that holds nothing
abbrev pub empty : ℕ → Channel
empty depth = record { depth = depth; items = [] }

-- the oldest item
abbrev pub oldest : Channel → Option Item
oldest c = slice_get c.items 0

-- whether one more item fits
abbrev pub has_room : Channel → Bool
has_room c = nat_lt (length c.items) c.depth

-- without the oldest item
abbrev pub without_oldest : Channel → Channel
without_oldest c = record c { items = drop 1 c.items }

-- with an item behind the others
abbrev pub with_newest : Item → Channel → Channel
with_newest item c = record c { items = c.items ++ item ∷ [] }
