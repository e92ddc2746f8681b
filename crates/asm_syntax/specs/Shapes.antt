-- The operands of each form, in the order in which they are written.
use Rattle.std.specs.Prelude.{List, [], ◌∷◌}
use Rattle.op_table.specs.declared.form.Form.{Form}
use Rattle.op_table.specs.declared.form.Form.TheVariants.{A, U, B, S, R, Rl, I, Il, Cr, Ci, M, N, T, E, G, P, Gd, Pd}
use Rattle.op_table.specs.declared.kinds.Kind.{Kind}
use Rattle.op_table.specs.declared.kinds.Kind.TheVariants.{Prefix}
use Rattle.asm_syntax.specs.declared.slot.Slot.{Slot}
use Rattle.asm_syntax.specs.declared.slot.Slot.TheVariants.{RegisterD, RegisterA, RegisterB, Value, Number, Upper, Port, Special}

-- the operand of the form I: that of `imm` has no sign
abbrev pub upper_or_value : Kind → Slot
upper_or_value Prefix = Upper
upper_or_value _ = Value

unfoldable pub shape_of : Form → Kind → List Slot
shape_of A kind = RegisterD ∷ RegisterA ∷ RegisterB ∷ []
shape_of U kind = RegisterD ∷ RegisterA ∷ []
shape_of B kind = RegisterD ∷ RegisterA ∷ Value ∷ []
shape_of S kind = RegisterD ∷ RegisterA ∷ Number 32 ∷ []
shape_of R kind = RegisterB ∷ []
shape_of Rl kind = RegisterD ∷ RegisterB ∷ []
shape_of I kind = upper_or_value kind ∷ []
shape_of Il kind = RegisterD ∷ Value ∷ []
shape_of Cr kind = RegisterA ∷ RegisterB ∷ []
shape_of Ci kind = RegisterA ∷ Value ∷ []
shape_of M kind = RegisterD ∷ Special ∷ []
shape_of N kind = Number 32 ∷ []
shape_of T kind = Special ∷ RegisterA ∷ []
shape_of E kind = RegisterD ∷ Number 0x8000 ∷ []
shape_of G kind = RegisterD ∷ Port ∷ []
shape_of P kind = RegisterA ∷ Port ∷ []
shape_of Gd kind = RegisterD ∷ RegisterB ∷ []
shape_of Pd kind = RegisterA ∷ RegisterB ∷ []
