-- What a word means names registers.
use Rattle.std.proofs.Common.{◌≡◌, ℕ, ◌<◌, ◌==◌, Bool, true, false, List, [], ◌∷◌, Option, Some, None, IfSome, refl, sym, subst, arith, cond}
use Rattle.std.specs.List.{list_all}
use Rattle.std.specs.Option.{option_map}
use Rattle.op_table.specs.declared.entry.Row.{Row}
use Rattle.op_table.specs.declared.form.Form.{Form}
use Rattle.op_table.specs.declared.form.Form.TheVariants.{A}
use Rattle.op_table.specs.declared.form.Field.{Field}
use Rattle.op_table.specs.declared.form.Part.{Part}
use Rattle.op_table.specs.declared.form.Part.TheVariants.{Rd, Ra, Rb, Imm, Letters, PutLetters}
use Rattle.op_table.specs.Forms.{fields_of}
use Rattle.op_table.specs.Table.{rows_of}
use Rattle.mb_word.specs.Word.{field}
use Rattle.mb_decode.specs.declared.instruction.Instr.{Instr}
use Rattle.mb_decode.specs.Meaning.{NamesRegisters, bare, filled, read, the_only, with_part}
use Rattle.isa_step.specs.Effects.{View}
use Rattle.isa_step.specs.Due.{here_at, here_of, met}
use Rattle.timing_law.specs.Passing.{instr_of}
use Rattle.board_machine.proofs.Lists.{and_left, and_right}

-- a field that names a register has five bits
has_five_by : Part → ℕ → Bool
has_five_by Rd width = width == 5
has_five_by Ra width = width == 5
has_five_by Rb width = width == 5
has_five_by Imm width = true
has_five_by Letters width = true
has_five_by PutLetters width = true

has_five : Field → Bool
has_five f = has_five_by f.part f.width

all_five : (f : Form) → list_all has_five (fields_of f) ≡ true
unfolding has_five has_five_by
all_five A = refl
all_five _ = refl

five_below : (w first width : ℕ) → (width == 5) ≡ true → field w first width < 32
five_below w first width e =
    let five : width ≡ 5 = grind (arith, e) in
    subst (λ n. field w first n < 32) (sym five) (omega arith)

part_names : (part : Part) (w first width : ℕ) (i : Instr) → has_five_by part width ≡ true → NamesRegisters i → NamesRegisters (with_part part (field w first width) i)
unfolding has_five_by
part_names Rd w first width i e h = record { rd = five_below w first width e; ra = h.ra; rb = h.rb }
part_names Ra w first width i e h = record { rd = h.rd; ra = five_below w first width e; rb = h.rb }
part_names Rb w first width i e h = record { rd = h.rd; ra = h.ra; rb = five_below w first width e }
part_names Imm w first width i e h = record { rd = h.rd; ra = h.ra; rb = h.rb }
part_names Letters w first width i e h = record { rd = h.rd; ra = h.ra; rb = h.rb }
part_names PutLetters w first width i e h = record { rd = h.rd; ra = h.ra; rb = h.rb }

filled_names : (fs : List Field) (w : ℕ) (i : Instr) → list_all has_five fs ≡ true → NamesRegisters i → NamesRegisters (filled fs w i)
unfolding has_five
filled_names [] w i e h = h
filled_names (f ∷ fs) w i e h = filled_names fs w (with_part f.part (field w f.first f.width) i) (and_right (has_five f) (list_all has_five fs) e) (part_names f.part w f.first f.width i (and_left (has_five f) (list_all has_five fs) e) h)

row_names : (w : ℕ) (o : Option Row) → IfSome (option_map (λ (r : Row). read r.form r.op w) o) NamesRegisters
row_names w None = tt
row_names w (Some r) = filled_names (fields_of r.form) w (bare r.op) (all_five r.form) (record { rd = omega arith; ra = omega arith; rb = omega arith })

met_names : (word : Option ℕ) → IfSome (instr_of (met word)) NamesRegisters
met_names None = tt
met_names (Some w) = row_names w (the_only (rows_of w))

at_names : (aligned : Bool) (word : Option ℕ) → IfSome (instr_of (cond aligned (met word) None)) NamesRegisters
at_names true word = met_names word
at_names false word = tt

pub here_names : (v : View) → IfSome (instr_of (here_of v)) NamesRegisters
unfolding here_at
here_names v = at_names _ _
