-- A line with one instruction: its text, and the instruction that its lexemes are.
use Rattle.std.specs.Prelude.{◌≡◌, ℕ, ◌^◌, ◌<◌, ◌/◌, ◌%◌, List, [], ◌∷◌, ◌++◌, map, Option, None, Some, codes}
use Rattle.op_table.specs.declared.form.Form.{Form}
use Rattle.op_table.specs.Table.{kind_of, row_for}
use Rattle.mb_decode.specs.declared.instruction.Instr.{Instr}
use Rattle.mb_decode.specs.Meaning.{Means, meaning}
use Rattle.asm_syntax.specs.declared.mnemonics.Named.{Named}
use Rattle.asm_syntax.specs.declared.slot.Slot.{Slot}
use Rattle.asm_syntax.specs.Operands.{slot_read, slot_text}
use Rattle.host_io.specs.Digits.{hex_16}
use Rattle.asm_syntax.specs.Shapes.{shape_of}
use Rattle.asm_syntax.specs.Spelling.{mnemonic, shape_of_named, spelled}
use Rattle.mb_lex.specs.Lexemes.{Comma, Lexeme, Placed, Word, lex}

-- operands behind the first, each behind a comma
unfoldable pub tail_text : List Slot → Instr → List ℕ
tail_text [] i = []
tail_text (s ∷ ss) i = 44 ∷ 32 ∷ (slot_text s i ++ tail_text ss i)

unfoldable pub operands_text : List Slot → Instr → List ℕ
operands_text [] i = []
operands_text (s ∷ ss) i = 32 ∷ (slot_text s i ++ tail_text ss i)

unfoldable pub instr_text : Form → Instr → List ℕ
instr_text form i = spelled i.op i.flags ++ operands_text (shape_of form (kind_of i.op)) i

-- a word as data
abbrev pub word_text : ℕ → List ℕ
word_text w = codes ".word 0x" ++ hex_16 (w / 2 ^ 16) ++ hex_16 (w % 2 ^ 16)

abbrev pub text_by : ℕ → Option Instr → List ℕ
text_by w None = word_text w
text_by w (Some i) = instr_text (row_for i.op).form i

-- the text of one word
abbrev pub text_of : ℕ → List ℕ
text_of w = text_by w (meaning w)

abbrev pub lexemes : List Placed → List Lexeme
lexemes placed = map (λ (p : Placed). p.lexeme) placed

abbrev pub then_read : Option Instr → (Instr → Option Instr) → Option Instr
then_read None next = None
then_read (Some i) next = next i

unfoldable pub read_tail : List Slot → List Lexeme → Instr → Option Instr
read_tail [] [] i = Some i
read_tail (s ∷ ss) (Comma ∷ x ∷ xs) i = then_read (slot_read s x i) (read_tail ss xs)
read_tail _ _ i = None

unfoldable pub read_operands : List Slot → List Lexeme → Instr → Option Instr
read_operands [] [] i = Some i
read_operands (s ∷ ss) (x ∷ xs) i = then_read (slot_read s x i) (read_tail ss xs)
read_operands _ _ i = None

abbrev pub bare : Named → Instr
bare s = record { op = s.op; rd = 0; ra = 0; rb = 0; imm = 0; flags = s.flags }

abbrev pub read_by : Option Named → List Lexeme → Option Instr
read_by None xs = None
read_by (Some s) xs = read_operands (shape_of_named s) xs (bare s)

-- the instruction that these lexemes are, where its value is a number that needs no prefix
abbrev pub statement : List Lexeme → Option Instr
statement (Word w ∷ xs) = read_by (mnemonic w) xs
statement _ = None

-- the text of each word that means an instruction is read as that instruction
abbrev pub ReadsBack : Type 0
ReadsBack = (w : ℕ) (i : Instr) → w < 2 ^ 32 → Means w i → statement (lexemes (lex 0 0 (text_of w))) ≡ Some i
