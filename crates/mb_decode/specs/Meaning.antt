-- What a word means.
use Rattle.std.specs.Prelude.{◌≡◌, ℕ, ◌+◌, ◌*◌, ◌/◌, ◌%◌, ◌^◌, ◌<◌, Option, None, Some, List, [], ◌∷◌}
use Rattle.std.specs.Option.{option_map}
use Rattle.op_table.specs.declared.entry.Row.{Row}
use Rattle.op_table.specs.declared.op.Op.{Op}
use Rattle.op_table.specs.declared.form.Form.{Form}
use Rattle.op_table.specs.declared.form.Field.{Field}
use Rattle.op_table.specs.declared.form.Part.{Part}
use Rattle.op_table.specs.declared.form.Part.TheVariants.{Rd, Ra, Rb, Imm, Letters, PutLetters}
use Rattle.op_table.specs.Forms.{fields_of, unit_of}
use Rattle.op_table.specs.Table.{row_for, rows_of}
use Rattle.mb_word.specs.Word.{field}
use Rattle.mb_decode.specs.declared.instruction.Instr.{Instr}
use Rattle.mb_decode.specs.declared.fields.Limits.{Limits}

-- an instruction with a value in one of its parts
abbrev pub with_part : Part → ℕ → Instr → Instr
with_part Rd value i = record i { rd = value }
with_part Ra value i = record i { ra = value }
with_part Rb value i = record i { rb = value }
with_part Imm value i = record i { imm = value }
with_part Letters value i = record i { flags = value }
with_part PutLetters value i = record i { flags = 2 * value }

-- an instruction all of whose parts are 0
abbrev pub bare : Op → Instr
bare name = record { op = name; rd = 0; ra = 0; rb = 0; imm = 0; flags = 0 }

-- an instruction whose parts are the fields of a word
abbrev pub filled : List Field → ℕ → Instr → Instr
filled [] w i = i
filled (f ∷ fs) w i = filled fs w (with_part f.part (field w f.first f.width) i)

-- the fields of a form, at their places in the word; those that it lacks are 0
abbrev pub read : Form → Op → ℕ → Instr
read form name w = filled (fields_of form) w (bare name)

-- the one item of a list of one
abbrev pub the_only : {X : Type 0} → List X → Option X
the_only [] = None
the_only (x ∷ []) = Some x
the_only (x ∷ y ∷ xs) = None

-- the instruction that a word means: exactly one row of the whole table matches it
abbrev pub meaning : ℕ → Option Instr
meaning w = option_map (λ (r : Row). read r.form r.op w) (the_only (rows_of w))

-- a word means an instruction
abbrev pub Means : ℕ → Instr → Type 0
Means w i = meaning w ≡ Some i

-- how many values each part of an instruction can have: that of a field, as many as the field; that of none, 0 alone; the letters
-- are a multiple of `step`
abbrev pub limited : Part → ℕ → Limits → Limits
limited Rd n l = record l { rd = n }
limited Ra n l = record l { ra = n }
limited Rb n l = record l { rb = n }
limited Imm n l = record l { imm = n }
limited Letters n l = record l { flags = n }
limited PutLetters n l = record l { flags = 2 * n; step = 2 }

-- limits with those of fields in their places
abbrev pub all_limited : List Field → Limits → Limits
all_limited [] l = l
all_limited (f ∷ fs) l = all_limited fs (limited f.part (2 ^ f.width) l)

abbrev pub limits_of : List Field → Limits
limits_of fields = all_limited fields (record { rd = 1; ra = 1; rb = 1; imm = 1; flags = 1; step = 1 })

-- the values of an instruction's parts are below their limits, and its letters those of its form
pub record IsBelow (l : Limits) (i : Instr) : Type 0 where
  pub rd : i.rd < l.rd
  pub ra : i.ra < l.ra
  pub rb : i.rb < l.rb
  pub imm : i.imm < l.imm
  pub flags : i.flags < l.flags
  pub letters : i.flags % l.step ≡ 0

-- the values that the fields of a form can have; a field that it lacks is 0
abbrev pub Fits : Form → Instr → Type 0
Fits form i = IsBelow (limits_of (fields_of form)) i

-- the value of a part
abbrev pub part_of : Part → Instr → ℕ
part_of Rd i = i.rd
part_of Ra i = i.ra
part_of Rb i = i.rb
part_of Imm i = i.imm
part_of Letters i = i.flags
part_of PutLetters i = i.flags / 2

-- fields at their places
abbrev pub spelled : List Field → Instr → ℕ
spelled [] i = 0
spelled (f ∷ fs) i = part_of f.part i * unit_of f + spelled fs i

-- where a form puts its fields
abbrev pub placed : Form → Instr → ℕ
placed form i = spelled (fields_of form) i

-- the fields that name registers, whatever the form
pub record NamesRegisters (i : Instr) : Type 0 where
  pub rd : i.rd < 32
  pub ra : i.ra < 32
  pub rb : i.rb < 32

-- what the other fields can hold
pub record InRange (i : Instr) : Type 0 where
  pub imm : i.imm < (limits_of (fields_of (row_for i.op).form)).imm
  pub flags : i.flags < 32
