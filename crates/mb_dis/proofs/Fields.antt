-- An instruction is its name, operands and flags.
use Rattle.std.proofs.Common.{◌≡◌, ℕ, [], ◌∷◌, Some, refl, ◌∙◌, arith}
use Rattle.op_table.specs.declared.op.Op.{Op}
use Rattle.op_table.specs.declared.kinds.Kind.{Kind}
use Rattle.op_table.specs.declared.kinds.Kind.TheVariants.{Prefix}
use Rattle.op_table.specs.Table.{kind_of}
use Rattle.op_table.specs.declared.form.Form.{Form}
use Rattle.op_table.specs.declared.form.Form.TheVariants.{A, U, B, S, R, Rl, I, Il, Cr, Ci, M, N, T, E, G, P, Gd, Pd}
use Rattle.mb_decode.specs.declared.instruction.Instr.{Instr}
use Rattle.mb_decode.specs.Meaning.{Fits}
use Rattle.asm_syntax.specs.Names.{special_of}
use Rattle.asm_syntax.specs.Shapes.{shape_of, upper_or_value}
use Rattle.mb_dis.proofs.Known.{told}
use Rattle.mb_dis.proofs.Reading.{puts}

abbrev pub made : Op → ℕ → ℕ → ℕ → ℕ → ℕ → Instr
made name rd ra rb imm flags = record { op = name; rd = rd; ra = ra; rb = rb; imm = imm; flags = flags }

same_fields : (i : Instr) (name : Op) (rd ra rb imm flags : ℕ) → name ≡ i.op → rd ≡ i.rd → ra ≡ i.ra → rb ≡ i.rb → imm ≡ i.imm → flags ≡ i.flags → made name rd ra rb imm flags ≡ i
same_fields i name rd ra rb imm flags o a b c d e = rw (o, a, b, c, d, e) refl

upper_puts : (name : Kind) (i acc : Instr) → puts (upper_or_value name ∷ []) i acc ≡ record acc { imm = i.imm }
upper_puts Prefix i acc = refl
upper_puts _ i acc = refl

name_is : {first name : Op} → Some first ≡ Some name → first ≡ name
name_is same = cc

pub all_put : (form : Form) (i : Instr) (first : Op) → Fits form i → told form first (special_of i.op) ≡ Some i.op → puts (shape_of form (kind_of i.op)) i (made first 0 0 0 0 i.flags) ≡ i
unfolding shape_of
all_put A i first fits tells = same_fields i first _ _ _ _ _ (name_is tells) refl refl refl (omega (arith, fits.imm)) refl
all_put U i first fits tells = same_fields i first _ _ _ _ _ (name_is tells) refl refl (omega (arith, fits.rb)) (omega (arith, fits.imm)) refl
all_put B i first fits tells = same_fields i first _ _ _ _ _ (name_is tells) refl refl (omega (arith, fits.rb)) refl refl
all_put S i first fits tells = same_fields i first _ _ _ _ _ (name_is tells) refl refl (omega (arith, fits.rb)) refl refl
all_put R i first fits tells = same_fields i first _ _ _ _ _ (name_is tells) (omega (arith, fits.rd)) (omega (arith, fits.ra)) refl (omega (arith, fits.imm)) refl
all_put Rl i first fits tells = same_fields i first _ _ _ _ _ (name_is tells) refl (omega (arith, fits.ra)) refl (omega (arith, fits.imm)) refl
all_put Il i first fits tells = same_fields i first _ _ _ _ _ (name_is tells) refl (omega (arith, fits.ra)) (omega (arith, fits.rb)) refl refl
all_put Cr i first fits tells = same_fields i first _ _ _ _ _ (name_is tells) (omega (arith, fits.rd)) refl refl (omega (arith, fits.imm)) refl
all_put Ci i first fits tells = same_fields i first _ _ _ _ _ (name_is tells) (omega (arith, fits.rd)) refl (omega (arith, fits.rb)) refl refl
all_put M i first fits tells = same_fields i i.op _ _ _ _ _ refl refl (omega (arith, fits.ra)) (omega (arith, fits.rb)) (omega (arith, fits.imm)) refl
all_put N i first fits tells = same_fields i first _ _ _ _ _ (name_is tells) (omega (arith, fits.rd)) (omega (arith, fits.ra)) (omega (arith, fits.rb)) refl refl
all_put T i first fits tells = same_fields i i.op _ _ _ _ _ refl (omega (arith, fits.rd)) refl (omega (arith, fits.rb)) (omega (arith, fits.imm)) refl
all_put E i first fits tells = same_fields i first _ _ _ _ _ (name_is tells) refl (omega (arith, fits.ra)) (omega (arith, fits.rb)) refl refl
all_put G i first fits tells = same_fields i first _ _ _ _ _ (name_is tells) refl (omega (arith, fits.ra)) (omega (arith, fits.rb)) refl refl
all_put P i first fits tells = same_fields i first _ _ _ _ _ (name_is tells) (omega (arith, fits.rd)) refl (omega (arith, fits.rb)) refl refl
all_put Gd i first fits tells = same_fields i first _ _ _ _ _ (name_is tells) refl (omega (arith, fits.ra)) refl (omega (arith, fits.imm)) refl
all_put Pd i first fits tells = same_fields i first _ _ _ _ _ (name_is tells) (omega (arith, fits.rd)) refl refl (omega (arith, fits.imm)) refl
all_put I i first fits tells = upper_puts (kind_of i.op) i (made first 0 0 0 0 i.flags) ∙ same_fields i first _ _ _ _ _ (name_is tells) (omega (arith, fits.rd)) (omega (arith, fits.ra)) (omega (arith, fits.rb)) refl refl
