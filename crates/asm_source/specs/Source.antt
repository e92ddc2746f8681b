-- What stands where in the image of a source: instructions with their prefixes, and bytes.
use Rattle.std.specs.Prelude.{◌≡◌, ⊤, ℕ, ◌+◌, ◌-◌, ◌/◌, ◌%◌, ◌^◌, ◌<◌, Bool, true, false, List, [], ◌∷◌, ◌++◌, length, map, filter, replicate, nat_lt, if◌then◌else◌, Option, None, Some, ℤ, pos, negsuc, ◌-ℤ◌}
use Rattle.byteorder.specs.Endian.{big_bytes, little_bytes}
use Rattle.core_regs.specs.declared.causes.Order.{Order}
use Rattle.core_regs.specs.declared.causes.Order.TheVariants.{Big, Little}
use Rattle.op_table.specs.declared.op.Op.TheVariants as op
use Rattle.mb_decode.specs.declared.instruction.Instr.{Instr}
use Rattle.mb_decode.specs.Meaning.{Fits, Means}
use Rattle.op_table.specs.Table.{row_for}
use Rattle.asm_layout.specs.Growing.{IsGrown}
use Rattle.asm_layout.specs.Layout.{Numbers, place}
use Rattle.asm_source.specs.declared.item.Item.{Item}
use Rattle.asm_source.specs.declared.item.Item.TheVariants.{Instruction, Word, Half, Byte, Part}
use Rattle.asm_source.specs.declared.item.Operand.{Operand}
use Rattle.asm_source.specs.declared.item.Operand.TheVariants.{Number, Label}
use Rattle.asm_source.specs.Items.{is_relative, pieces, prefixed}

-- an instruction, or a byte of data
pub data Content : Type 0 where
  Code : Instr → Content
  Datum : ℕ → Content

-- a number of n bytes
abbrev pub bytes_of : Order → ℕ → ℕ → List ℕ
bytes_of Big n x = big_bytes n x
bytes_of Little n x = little_bytes n x

-- a number modulo 2 ^ 32
abbrev pub word_of : ℤ → ℕ
word_of (pos n) = n % 2 ^ 32
word_of (negsuc n) = 2 ^ 32 - 1 - n % 2 ^ 32

-- what an operand means at an item whose word stands at `own`: a label is its address, at a relative branch its distance
abbrev pub value_of : (ℕ → ℕ) → Bool → ℕ → Operand → ℤ
value_of at relative own (Number z) = z
value_of at true own (Label item) = pos (at item) -ℤ pos own
value_of at false own (Label item) = pos (at item)

abbrev pub imm : ℕ → Instr
imm half = record { op = op.Imm; rd = 0; ra = 0; rb = 0; imm = half; flags = 0 }

-- an instruction with its value: the high half in a prefix, the low half in itself
abbrev pub with_value : Instr → Bool → ℕ → List Content
with_value i true value = Code (imm (value / 2 ^ 16)) ∷ Code (record i { imm = value % 2 ^ 16 }) ∷ []
with_value i false value = Code (record i { imm = value % 2 ^ 16 }) ∷ []

-- where the word of an instruction stands that begins at a place
abbrev pub own_place : ℕ → Bool → ℕ
own_place here long = here + (if long then 4 else 0)

-- data, byte by byte
abbrev pub plain : List ℕ → List Content
plain bytes = map Datum bytes

abbrev pub instruction_contents : (ℕ → ℕ) → Instr → Option Operand → Bool → ℕ → List Content
instruction_contents at i None long here = Code i ∷ []
instruction_contents at i (Some value) long here = with_value i long (word_of (value_of at (is_relative i.op) (own_place here long) value))

-- what an item puts at its place; `long` tells whether it has a prefix, `here` and `next` where it begins and ends
abbrev pub contents : Order → (ℕ → ℕ) → Item → Bool → ℕ → ℕ → List Content
contents order at (Instruction i value after_imm) long here next = instruction_contents at i value long here
contents order at (Word value) long here next = plain (bytes_of order 4 (word_of (value_of at false here value)))
contents order at (Half value) long here next = plain (bytes_of order 2 value)
contents order at (Byte value) long here next = plain (value ∷ [])
contents order at (Part address) long here next = []
contents order at _ long here next = plain (replicate (next - here) 0)

-- an instruction has a word, whatever half of its value stands in it
abbrev pub IsSpelled : Instr → Option Operand → Type 0
IsSpelled i None = Fits (row_for i.op).form i
IsSpelled i (Some value) = (half : ℕ) → half < 2 ^ 16 → Fits (row_for i.op).form (record i { imm = half })

abbrev pub HasWord : Item → Type 0
HasWord (Instruction i value after_imm) = IsSpelled i value
HasWord _ = ⊤

-- a part: the address at which it begins, and what it holds
pub record Piled : Type 0 where
  pub address : ℕ
  pub holds : List Content

abbrev pub onto : List Content → List Piled → List Piled
onto cs [] = []
onto cs (p ∷ ps) = record { address = p.address; holds = cs ++ p.holds } ∷ ps

-- the parts from item k on, the first of them from address `here` on
unfoldable pub parts_from : Order → Numbers → (ℕ → ℕ) → ℕ → ℕ → List Item → List Piled
parts_from order F at k start [] = record { address = start; holds = [] } ∷ []
parts_from order F at k start (Part address ∷ items) = record { address = start; holds = [] } ∷ parts_from order F at (k + 1) address items
parts_from order F at k start (item ∷ items) =
    onto (contents order at item (prefixed item (F k)) (at k) (at (k + 1))) (parts_from order F at (k + 1) start items)

abbrev pub has_contents : Piled → Bool
has_contents p = nat_lt 0 (length p.holds)

-- the parts of a source under F, those without bytes dropped
abbrev pub parts_of : Order → List Item → Numbers → List Piled
parts_of order items F = filter has_contents (parts_from order F (place (pieces items) F) 0 0 items)

-- bytes that are these contents: each word means its instruction
unfoldable pub Holds : Order → List ℕ → List Content → Type 0
Holds order bytes [] = bytes ≡ []
Holds order bytes (Datum b ∷ cs) = (rest : List ℕ) × (bytes ≡ b ∷ rest) × Holds order rest cs
Holds order bytes (Code i ∷ cs) = (w : ℕ) × (rest : List ℕ) × (w < 2 ^ 32) × Means w i × (bytes ≡ bytes_of order 4 w ++ rest) × Holds order rest cs

-- the parts of an image, each an address with its bytes, are these
unfoldable pub AreParts : Order → List (ℕ × List ℕ) → List Piled → Type 0
AreParts order images [] = images ≡ []
AreParts order images (p ∷ ps) = (bytes : List ℕ) × (rest : List (ℕ × List ℕ)) × (images ≡ (p.address, bytes) ∷ rest) × Holds order bytes p.holds × AreParts order rest ps

-- these parts, each an address with its bytes, are the image of the items
pub record IsImageOf (order : Order) (items : List Item) (images : List (ℕ × List ℕ)) : Type 0 where
  pub F : Numbers
  pub grown : IsGrown (pieces items) F
  pub parts : AreParts order images (parts_of order items F)
