-- The text of an instruction is read back.
use Rattle.std.proofs.Common.{◌≡◌, ◌+◌, ◌*◌, ◌/◌, ◌^◌, ◌<◌, List, [], ◌∷◌, ◌++◌, length, Some, refl, sym, ap, ◌∙◌, arith}
use Rattle.op_table.specs.declared.kinds.Kind.{Kind}
use Rattle.op_table.specs.declared.kinds.Kind.TheVariants.{Prefix}
use Rattle.op_table.specs.declared.form.Form.{Form}
use Rattle.op_table.specs.declared.form.Form.TheVariants.{A, U, B, S, R, Rl, I, Il, Cr, Ci, M, N, T, E, G, P, Gd, Pd}
use Rattle.op_table.specs.Table.{kind_of, row_for}
use Rattle.mb_decode.specs.declared.instruction.Instr.{Instr}
use Rattle.mb_decode.specs.Meaning.{Fits}
use Rattle.asm_syntax.specs.declared.slot.Slot.{Slot}
use Rattle.asm_syntax.specs.Names.{special_of}
use Rattle.asm_syntax.specs.Shapes.{shape_of, upper_or_value}
use Rattle.asm_syntax.specs.Spelling.{shape_of_named, spelled}
use Rattle.mb_dis.specs.Statement.{bare, instr_text, lexemes, operands_text, read_by, read_operands, statement}
use Rattle.mb_lex.specs.Lexemes.{Word, lex}
use Rattle.mb_dis.proofs.Known.{IsFound, get_found, getd_found, plain_found, put_found, putd_found, special_word, told, told_itself}
use Rattle.mb_dis.proofs.Lexing.{Breaks, lex_one, word_is_lexeme}
use Rattle.mb_dis.proofs.Fields.{all_put, made}
use Rattle.mb_dis.proofs.Streams.{only_get, only_getd, only_put, only_putd}
use Rattle.mb_dis.proofs.Reading.{AllFit, SlotFits, operands_are_read, puts}

-- ---- the operands of each form are in their ranges

upper_fits : (form : Form) (name : Kind) (i : Instr) → i.imm < 2 ^ 16 → SlotFits form (upper_or_value name) i
unfolding SlotFits
upper_fits form Prefix i small = small
upper_fits form _ i small = small

all_fit : (form : Form) (i : Instr) → (row_for i.op).form ≡ form → Fits form i → AllFit form (shape_of form (kind_of i.op)) i
unfolding AllFit SlotFits shape_of
all_fit A i is fits = (fits.rd, (fits.ra, (fits.rb, tt)))
all_fit U i is fits = (fits.rd, (fits.ra, tt))
all_fit B i is fits = (fits.rd, (fits.ra, (fits.imm, tt)))
all_fit S i is fits = (fits.rd, (fits.ra, ((fits.imm, omega (arith, fits.imm)), tt)))
all_fit R i is fits = (fits.rb, tt)
all_fit Rl i is fits = (fits.rd, (fits.rb, tt))
all_fit I i is fits = (upper_fits I (kind_of i.op) i fits.imm, tt)
all_fit Il i is fits = (fits.rd, (fits.imm, tt))
all_fit Cr i is fits = (fits.ra, (fits.rb, tt))
all_fit Ci i is fits = (fits.ra, (fits.imm, tt))
all_fit M i is fits = (fits.rd, (record { word = sym (special_word i.op) ∙ rw is refl; tells = λ first word. refl }, tt))
all_fit N i is fits = ((fits.imm, omega (arith, fits.imm)), tt)
all_fit T i is fits = (record { word = sym (special_word i.op) ∙ rw is refl; tells = λ first word. refl }, (fits.ra, tt))
all_fit E i is fits = (fits.rd, ((omega (arith, fits.imm), omega (arith, fits.imm)), tt))
all_fit G i is fits = (fits.rd, (fits.imm, tt))
all_fit P i is fits = (fits.ra, (fits.imm, tt))
all_fit Gd i is fits = (fits.rd, (fits.rb, tt))
all_fit Pd i is fits = (fits.ra, (fits.rb, tt))

-- ---- the mnemonic is found

with_no_flags : (i : Instr) → i.flags ≡ 0 → IsFound i.op i.flags
with_no_flags i none = rw none (plain_found i.op)

mnemonic_found : (form : Form) (i : Instr) → (row_for i.op).form ≡ form → Fits form i → IsFound i.op i.flags
mnemonic_found G i is fits = rw (only_get i.op is) (get_found i.flags (omega (arith, fits.flags)))
mnemonic_found Gd i is fits = rw (only_getd i.op is) (getd_found i.flags (omega (arith, fits.flags)))
mnemonic_found P i is fits =
    let twice : i.flags ≡ 2 * (i.flags / 2) = omega (arith, fits.letters) in
    rw (only_put i.op is, twice) (put_found (i.flags / 2) (omega (arith, fits.flags)))
mnemonic_found Pd i is fits =
    let twice : i.flags ≡ 2 * (i.flags / 2) = omega (arith, fits.letters) in
    rw (only_putd i.op is, twice) (putd_found (i.flags / 2) (omega (arith, fits.flags)))
mnemonic_found A i is fits = with_no_flags i (omega (arith, fits.flags))
mnemonic_found _ i is fits = with_no_flags i (omega (arith, fits.flags))

-- ---- the whole line

operands_break : (ss : List Slot) (i : Instr) → Breaks (operands_text ss i)
unfolding operands_text
operands_break [] i = refl
operands_break (s ∷ ss) i = refl

pub fits_reads_back : (form : Form) (i : Instr) → (row_for i.op).form ≡ form → Fits form i → statement (lexemes (lex 0 0 (instr_text form i))) ≡ Some i
unfolding instr_text
fits_reads_back form i is fits =
    let f : IsFound i.op i.flags = mnemonic_found form i is fits in
    let shape = shape_of form (kind_of i.op) in
    let at = 0 + length (spelled i.op i.flags) in
    let xs = lexemes (lex at 0 (operands_text shape i)) in
    let words : lexemes (lex 0 0 (spelled i.op i.flags ++ operands_text shape i)) ≡ Word (spelled i.op i.flags) ∷ xs =
    lex_one (spelled i.op i.flags) (Word (spelled i.op i.flags)) (word_is_lexeme (spelled i.op i.flags) f.word) (operands_text shape i) (operands_break shape i) 0 in
    let tells : told form f.named.op (special_of i.op) ≡ Some i.op = rw is at f.told in
    let itself : told form i.op (special_of i.op) ≡ Some i.op = rw is at (told_itself i.op) in
    let same_shape : shape_of_named f.named ≡ shape = f.shape ∙ ap (λ (f : Form). shape_of f (kind_of i.op)) is in
    ap statement words
    ∙ ap (λ o. read_by o xs) f.found
    ∙ ap (λ ss. read_operands ss xs (bare f.named)) same_shape
    ∙ operands_are_read form shape i (bare f.named) (all_fit form i is fits) itself tells at
    ∙ ap Some (ap (λ n. puts shape i (made f.named.op 0 0 0 0 n)) f.flag ∙ all_put form i f.named.op fits tells)
