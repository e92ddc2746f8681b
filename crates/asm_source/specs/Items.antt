-- What the lines of a source ask for: its items in order, with labels already put to the items that follow them.
use Rattle.std.specs.Prelude.{ℕ, ◌^◌, nat_lt, Bool, true, false, not, ◌||◌, List, map, if◌then◌else◌, Option, None, Some, ℤ, pos, negsuc}
use Rattle.op_table.specs.declared.kinds.Kind.{Kind}
use Rattle.op_table.specs.declared.kinds.Kind.TheVariants.{Branch, BranchIf, Return}
use Rattle.op_table.specs.declared.op.Op.{Op}
use Rattle.op_table.specs.Table.{kind_of}
use Rattle.asm_layout.specs.declared.piece.Piece.{Piece}
use Rattle.asm_layout.specs.declared.piece.Piece.TheVariants.{Bytes, Align, Org, Labelled}
use Rattle.asm_source.specs.declared.item.Item.{Item}
use Rattle.asm_source.specs.declared.item.Item.TheVariants.{Instruction, Word, Half, Byte, Space, Aligned, Part}
use Rattle.asm_source.specs.declared.item.Operand.{Operand}
use Rattle.asm_source.specs.declared.item.Operand.TheVariants.{Number, Label}

-- a branch by a distance
abbrev pub goes_by_distance : Kind → Bool
goes_by_distance (Branch absolute delayed linked) = not absolute
goes_by_distance (BranchIf condition delayed) = true
goes_by_distance _ = false

unfoldable pub is_relative : Op → Bool
is_relative name = goes_by_distance (kind_of name)

-- the next instruction runs before it leads elsewhere
abbrev pub leads_later : Kind → Bool
leads_later (Branch absolute delayed linked) = delayed
leads_later (BranchIf condition delayed) = delayed
leads_later (Return from) = true
leads_later _ = false

unfoldable pub has_slot : Op → Bool
has_slot name = leads_later (kind_of name)

-- a number whose low 16 bits with their sign are the number
abbrev pub is_short : ℤ → Bool
is_short (pos n) = nat_lt n (2 ^ 15)
is_short (negsuc n) = nat_lt n (2 ^ 15)

-- the bytes of an instruction with a number
abbrev pub size_with : Bool → ℤ → ℕ
size_with after_imm z = if after_imm || is_short z then 4 else 8

-- what an instruction with this value is to the layout
abbrev pub instruction_piece : Op → Option Operand → Bool → Piece
instruction_piece name None after_imm = Bytes 4
instruction_piece name (Some (Number z)) after_imm = Bytes (size_with after_imm z)
instruction_piece name (Some (Label item)) after_imm = Labelled item (is_relative name)

-- what an item is to the layout
abbrev pub piece_of : Item → Piece
piece_of (Instruction i value after_imm) = instruction_piece i.op value after_imm
piece_of (Word value) = Bytes 4
piece_of (Half value) = Bytes 2
piece_of (Byte value) = Bytes 1
piece_of (Space count) = Bytes count
piece_of (Aligned alignment) = Align alignment
piece_of (Part address) = Org address

abbrev pub pieces : List Item → List Piece
pieces items = map piece_of items

-- whether an item has a prefix: where its number needs one, and where it has a label and is in F
abbrev pub has_prefix : Option Operand → Bool → Bool → Bool
has_prefix None after_imm grown = false
has_prefix (Some (Number z)) after_imm grown = not (after_imm || is_short z)
has_prefix (Some (Label item)) after_imm grown = grown

abbrev pub prefixed : Item → Bool → Bool
prefixed (Instruction i value after_imm) grown = has_prefix value after_imm grown
prefixed _ grown = false
