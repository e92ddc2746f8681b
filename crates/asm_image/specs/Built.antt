-- Parts that are built item by item.
use Rattle.std.specs.Prelude.{◌≡◌, ℕ, nat_lt, true, List, [], ◌∷◌, ◌++◌, drop, filter, length, map, Option, None, Some, if◌then◌else◌}
use Rattle.std.specs.List.{All}
use Rattle.core_regs.specs.declared.causes.Order.{Order}
use Rattle.elf_image.specs.declared.image.Part.{Part}
use Rattle.asm_layout.specs.Layout.{Numbers, place}
use Rattle.asm_source.specs.declared.item.Item.{Item}
use Rattle.asm_source.specs.declared.item.Item.TheVariants as item
use Rattle.asm_source.specs.Items.{pieces}
use Rattle.asm_source.specs.Source.{AreParts, Content, Holds, Piled, has_contents, onto, parts_from, parts_of}
use Rattle.asm_image.specs.declared.building.Building.{Building}

-- the address of a part that an item begins
abbrev pub address_of : Item → Option ℕ
address_of (item.Part address) = Some address
address_of i = None

-- bytes are added that are these contents
pub record Puts (order : Order) (old new : List ℕ) (cs : List Content) : Type 0 where
  pub bytes : List ℕ
  pub added : new ≡ old ++ bytes
  pub holds : Holds order bytes cs

-- a part is its address with its bytes
abbrev pub pair_of : Part → ℕ × List ℕ
pair_of p = (p.addr, p.bytes)

-- each part is code, with no zeros behind its bytes
abbrev pub IsPlain : Part → Type 0
IsPlain p = (p.zeros ≡ 0) × (p.code ≡ true)

-- a part of these bytes
abbrev pub part_at : ℕ → List ℕ → Part
part_at start bytes = record { addr = start; bytes = bytes; zeros = 0; code = true }

-- the parts with the open one, where that has bytes
abbrev pub closed : Building → List Part
closed b = if nat_lt 0 (length b.bytes.items) then b.parts.items ++ part_at b.start b.bytes.items ∷ [] else b.parts.items

-- the parts before item k are built but for the open one, whose bytes are its contents so far
pub record IsBuilt (order : Order) (items : List Item) (F : Numbers) (k : ℕ) (b : Building) : Type 0 where
  pub piled : List Piled
  pub held : List Content
  pub done : AreParts order (map pair_of b.parts.items) piled
  pub plain : All IsPlain b.parts.items
  pub open_holds : Holds order b.bytes.items held
  pub left : piled ++ filter has_contents (onto held (parts_from order F (place (pieces items) F) k b.start (drop k items))) ≡ parts_of order items F
