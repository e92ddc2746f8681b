-- Operands that are written are read back, whatever the shape.
use Rattle.std.proofs.Common.{◌≡◌, ℕ, ◌+◌, ◌^◌, ◌<◌, true, List, [], ◌∷◌, ◌++◌, length, Some, refl, sym, ap, ◌∙◌, arith}
use Rattle.std.proofs.lemmas.Bool.{lt-ltb}
use Rattle.op_table.specs.declared.op.Op.{Op}
use Rattle.op_table.specs.declared.form.Form.{Form}
use Rattle.mb_decode.specs.declared.instruction.Instr.{Instr}
use Rattle.asm_syntax.specs.declared.slot.Slot.{Slot}
use Rattle.asm_syntax.specs.declared.slot.Slot.TheVariants.{RegisterD, RegisterA, RegisterB, Value, Number, Upper, Port, Special}
use Rattle.asm_syntax.specs.Names.{special_of}
use Rattle.asm_syntax.specs.Operands.{port_name, register_name, slot_lexeme, slot_read, slot_text, with_special}
use Rattle.mb_dis.specs.Statement.{lexemes, operands_text, read_operands, read_tail, tail_text, then_read}
use Rattle.mb_lex.specs.Lexemes.{Comma, lex, munch}
use Rattle.mb_dis.proofs.Known.{is_word, port_found, port_word, register_found, register_word, told}
use Rattle.mb_dis.proofs.Lexing.{Breaks, IsLexeme, lex_one, literal_is_lexeme, word_is_lexeme}
use Rattle.mb_dis.proofs.Literals.{decimal_is_literal, hex_is_literal, signed_is_literal, signed_is_read}

-- the special register of a form with one
pub record IsSpecial (form : Form) (i : Instr) : Type 0 where
  pub word : is_word (special_of i.op) ≡ true
  pub tells : (first : Op) (word : List ℕ) → told form first word ≡ with_special first word

-- the field of an operand is in its range
unfoldable pub SlotFits : Form → Slot → Instr → Type 0
SlotFits form RegisterD i = i.rd < 32
SlotFits form RegisterA i = i.ra < 32
SlotFits form RegisterB i = i.rb < 32
SlotFits form Value i = i.imm < 2 ^ 16
SlotFits form (Number below) i = (i.imm < below) × (i.imm < 2 ^ 16)
SlotFits form Upper i = i.imm < 2 ^ 16
SlotFits form Port i = i.imm < 16
SlotFits form Special i = IsSpecial form i

-- an instruction with one operand of another
abbrev pub put : Slot → Instr → Instr → Instr
put RegisterD i acc = record acc { rd = i.rd }
put RegisterA i acc = record acc { ra = i.ra }
put RegisterB i acc = record acc { rb = i.rb }
put Value i acc = record acc { imm = i.imm }
put (Number below) i acc = record acc { imm = i.imm }
put Upper i acc = record acc { imm = i.imm }
put Port i acc = record acc { imm = i.imm }
put Special i acc = record acc { op = i.op }

-- the name so far becomes the instruction's by its special register
abbrev pub Tells : Form → Instr → Instr → Type 0
Tells form acc i = told form acc.op (special_of i.op) ≡ Some i.op

slot_is_lexeme : (form : Form) (s : Slot) (i : Instr) → SlotFits form s i → IsLexeme (slot_text s i) (slot_lexeme s i)
unfolding SlotFits slot_text slot_lexeme
slot_is_lexeme form RegisterD i fits = word_is_lexeme (register_name i.rd) (register_word i.rd fits)
slot_is_lexeme form RegisterA i fits = word_is_lexeme (register_name i.ra) (register_word i.ra fits)
slot_is_lexeme form RegisterB i fits = word_is_lexeme (register_name i.rb) (register_word i.rb fits)
slot_is_lexeme form Value i fits = literal_is_lexeme _ _ (signed_is_literal i.imm fits)
slot_is_lexeme form (Number below) i fits = literal_is_lexeme _ _ (decimal_is_literal i.imm (omega (arith, fits.1)))
slot_is_lexeme form Upper i fits = literal_is_lexeme _ _ (hex_is_literal i.imm fits)
slot_is_lexeme form Port i fits = word_is_lexeme (port_name i.imm) (port_word i.imm fits)
slot_is_lexeme form Special i fits = word_is_lexeme (special_of i.op) fits.word

slot_is_read : (form : Form) (s : Slot) (i acc : Instr) → SlotFits form s i → Tells form acc i → slot_read s (slot_lexeme s i) acc ≡ Some (put s i acc)
unfolding SlotFits slot_read slot_lexeme
slot_is_read form RegisterD i acc fits tells = rw (register_found i.rd fits) refl
slot_is_read form RegisterA i acc fits tells = rw (register_found i.ra fits) refl
slot_is_read form RegisterB i acc fits tells = rw (register_found i.rb fits) refl
slot_is_read form Value i acc fits tells = rw (signed_is_read i.imm fits) refl
slot_is_read form (Number below) i acc fits tells = rw (lt-ltb i.imm below fits.0) refl
slot_is_read form Upper i acc fits tells = rw (lt-ltb i.imm (2 ^ 16) fits) refl
slot_is_read form Port i acc fits tells = rw (port_found i.imm fits) refl
slot_is_read form Special i acc fits tells = rw (sym (fits.tells acc.op (special_of i.op)) ∙ tells) refl

still_tells : (form : Form) (s : Slot) (i acc : Instr) → told form i.op (special_of i.op) ≡ Some i.op → Tells form acc i → Tells form (put s i acc) i
still_tells form Special i acc itself tells = itself
still_tells form _ i acc itself tells = tells

-- all operands are in their ranges
unfoldable pub AllFit : Form → List Slot → Instr → Type 0
AllFit form [] i = Unit {0}
AllFit form (s ∷ ss) i = SlotFits form s i × AllFit form ss i

-- an instruction with these operands of another
abbrev pub puts : List Slot → Instr → Instr → Instr
puts [] i acc = acc
puts (s ∷ ss) i acc = puts ss i (put s i acc)

tail_breaks : (ss : List Slot) (i : Instr) → Breaks (tail_text ss i)
unfolding tail_text
tail_breaks [] i = refl
tail_breaks (s ∷ ss) i = refl

comma_first : (at : ℕ) (text : List ℕ) → lexemes (lex at 0 (44 ∷ 32 ∷ text)) ≡ Comma ∷ lexemes (lex (at + 1 + 1) 0 text)
unfolding lex munch
comma_first at text = refl

blank_first : (at : ℕ) (text : List ℕ) → lexemes (lex at 0 (32 ∷ text)) ≡ lexemes (lex (at + 1) 0 text)
unfolding lex
blank_first at text = refl

pub tail_is_read : (form : Form) (ss : List Slot) (i acc : Instr) → AllFit form ss i → told form i.op (special_of i.op) ≡ Some i.op → Tells form acc i → (at : ℕ)
    → read_tail ss (lexemes (lex at 0 (tail_text ss i))) acc ≡ Some (puts ss i acc)
unfolding AllFit tail_text read_tail lex
tail_is_read form [] i acc fits itself tells at = refl
tail_is_read form (s ∷ ss) i acc fits itself tells at =
    let one : lexemes (lex (at + 1 + 1) 0 (slot_text s i ++ tail_text ss i)) ≡ slot_lexeme s i ∷ lexemes (lex (at + 1 + 1 + length (slot_text s i)) 0 (tail_text ss i)) =
    lex_one (slot_text s i) (slot_lexeme s i) (slot_is_lexeme form s i fits.0) (tail_text ss i) (tail_breaks ss i) (at + 1 + 1) in
    ap (λ xs. read_tail (s ∷ ss) xs acc) (comma_first at (slot_text s i ++ tail_text ss i) ∙ ap (λ xs. Comma ∷ xs) one)
    ∙ ap (λ o. then_read o (read_tail ss (lexemes (lex (at + 1 + 1 + length (slot_text s i)) 0 (tail_text ss i))))) (slot_is_read form s i acc fits.0 tells)
    ∙ tail_is_read form ss i (put s i acc) fits.1 itself (still_tells form s i acc itself tells) (at + 1 + 1 + length (slot_text s i))

pub operands_are_read : (form : Form) (ss : List Slot) (i acc : Instr) → AllFit form ss i → told form i.op (special_of i.op) ≡ Some i.op → Tells form acc i → (at : ℕ)
    → read_operands ss (lexemes (lex at 0 (operands_text ss i))) acc ≡ Some (puts ss i acc)
unfolding AllFit operands_text read_operands lex
operands_are_read form [] i acc fits itself tells at = refl
operands_are_read form (s ∷ ss) i acc fits itself tells at =
    let one : lexemes (lex (at + 1) 0 (slot_text s i ++ tail_text ss i)) ≡ slot_lexeme s i ∷ lexemes (lex (at + 1 + length (slot_text s i)) 0 (tail_text ss i)) =
    lex_one (slot_text s i) (slot_lexeme s i) (slot_is_lexeme form s i fits.0) (tail_text ss i) (tail_breaks ss i) (at + 1) in
    ap (λ xs. read_operands (s ∷ ss) xs acc) (blank_first at (slot_text s i ++ tail_text ss i) ∙ one)
    ∙ ap (λ o. then_read o (read_tail ss (lexemes (lex (at + 1 + length (slot_text s i)) 0 (tail_text ss i))))) (slot_is_read form s i acc fits.0 tells)
    ∙ tail_is_read form ss i (put s i acc) fits.1 itself (still_tells form s i acc itself tells) (at + 1 + length (slot_text s i))
