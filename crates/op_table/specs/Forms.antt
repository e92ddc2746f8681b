-- The forms of an instruction word: which fields it has, and where; and the bits of a word that a form has no field for.
use Rattle.std.specs.Prelude.{ℕ, ◌-◌, ◌*◌, ◌^◌, ◌+◌, ◌≤◌, List, [], ◌∷◌}
use Rattle.std.specs.List.{AllByRecursion}
use Rattle.op_table.specs.declared.form.Field.{Field}
use Rattle.op_table.specs.declared.form.Part.{Part}
use Rattle.op_table.specs.declared.form.Part.TheVariants.{Rd, Ra, Rb, Imm, Letters, PutLetters}
use Rattle.op_table.specs.declared.form.Form.{Form}
use Rattle.op_table.specs.declared.form.Form.TheVariants.{A, U, B, S, R, Rl, I, Il, Cr, Ci, M, N, T, E, G, P, Gd, Pd}

-- a field: what it holds, the first of its bits, bit 0 being the highest, and how many they are
abbrev pub at : Part → ℕ → ℕ → Field
at part first width = record { part = part; first = first; width = width }

abbrev pub rd : Field
rd = at Rd 6 5

abbrev pub ra : Field
ra = at Ra 11 5

abbrev pub rb : Field
rb = at Rb 16 5

abbrev pub imm : Field
imm = at Imm 16 16

-- the fields of each form
abbrev pub fields_of : Form → List Field
fields_of A = rd ∷ ra ∷ rb ∷ []
fields_of U = rd ∷ ra ∷ []
fields_of B = rd ∷ ra ∷ imm ∷ []
fields_of S = rd ∷ ra ∷ at Imm 27 5 ∷ []
fields_of R = rb ∷ []
fields_of Rl = rd ∷ rb ∷ []
fields_of I = imm ∷ []
fields_of Il = rd ∷ imm ∷ []
fields_of Cr = ra ∷ rb ∷ []
fields_of Ci = ra ∷ imm ∷ []
fields_of M = rd ∷ []
fields_of N = at Imm 6 5 ∷ []
fields_of T = ra ∷ []
fields_of E = rd ∷ at Imm 17 15 ∷ []
fields_of G = rd ∷ at Letters 17 5 ∷ at Imm 28 4 ∷ []
fields_of P = ra ∷ at PutLetters 17 4 ∷ at Imm 28 4 ∷ []
fields_of Gd = rd ∷ rb ∷ at Letters 22 5 ∷ []
fields_of Pd = ra ∷ rb ∷ at PutLetters 22 4 ∷ []

-- how many bits a part can have
abbrev pub most_bits : Part → ℕ
most_bits Imm = 16
most_bits PutLetters = 4
most_bits part = 5

-- a field has some bits, lies within the word, and has no more bits than its part can have
pub record IsSoundField (f : Field) : Type 0 where
  pub some : 1 ≤ f.width
  pub within : f.first + f.width ≤ 32
  pub small : f.width ≤ most_bits f.part

abbrev pub AreSound : List Field → Type 0
AreSound fields = AllByRecursion IsSoundField fields

-- what one in the lowest bit of a field counts in the word
abbrev pub unit_of : Field → ℕ
unit_of f = 2 ^ (32 - f.first - f.width)

-- the bits of fields
abbrev pub bits_of : List Field → ℕ
bits_of [] = 0
bits_of (f ∷ fs) = (2 ^ f.width - 1) * unit_of f + bits_of fs

-- the bits of a word that a form has no field for: the opcode, what tells its rows apart, and the reserved bits
abbrev pub mask_of : Form → ℕ
mask_of form = 2 ^ 32 - 1 - bits_of (fields_of form)
