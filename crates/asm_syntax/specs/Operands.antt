-- Operands: how each is written, and what it reads as.
use Rattle.std.specs.Prelude.{ℕ, ◌-◌, ◌^◌, nat_lt, Bool, ◌&&◌, List, ◌∷◌, ◌++◌, if◌then◌else◌, Option, None, Some, ℤ, pos, negsuc, bytes_eq, codes, find, decimal}
use Rattle.std.specs.Fmt.{signed_decimal}
use Rattle.std.specs.Option.{option_map}
use Rattle.std.specs.List.{range_with_len}
use Rattle.host_io.specs.Digits.{hex_16}
use Rattle.op_table.specs.declared.op.Op.{Op}
use Rattle.op_table.specs.declared.entry.Row.{Row}
use Rattle.op_table.specs.Mnemonics.{text_of}
use Rattle.op_table.specs.Table.{rows}
use Rattle.mb_decode.specs.declared.instruction.Instr.{Instr}
use Rattle.asm_syntax.specs.declared.slot.Slot.{Slot}
use Rattle.asm_syntax.specs.declared.slot.Slot.TheVariants.{RegisterD, RegisterA, RegisterB, Value, Number, Upper, Port, Special}
use Rattle.asm_syntax.specs.Names.{name_of, special_name, special_of}
use Rattle.mb_lex.specs.Lexemes.{Lexeme, Word, Literal}

unfoldable pub register_name : ℕ → List ℕ
register_name r = 114 ∷ decimal r

unfoldable pub port_name : ℕ → List ℕ
port_name k = codes "rfsl" ++ decimal k

-- the number with that name
unfoldable pub register_of : List ℕ → Option ℕ
register_of word = find (λ r. bytes_eq (register_name r) word) (range_with_len 0 32)

unfoldable pub port_of : List ℕ → Option ℕ
port_of word = find (λ k. bytes_eq (port_name k) word) (range_with_len 0 16)

-- a row has this name, and its instruction names this special register
abbrev pub has_special : List ℕ → List ℕ → Row → Bool
has_special name word r = bytes_eq (text_of r.name) name && bytes_eq (special_name r.kind) word

-- the instruction of the same name that names this special register
unfoldable pub with_special : Op → List ℕ → Option Op
with_special name word = option_map (λ (r : Row). r.op) (find (has_special (name_of name) word) rows)

-- 16 bits as a number with a sign, and back
abbrev pub sign_16 : ℕ → ℤ
sign_16 n = if nat_lt n (2 ^ 15) then pos n else negsuc (2 ^ 16 - 1 - n)

abbrev pub low_16 : ℤ → Option ℕ
low_16 (pos n) = if nat_lt n (2 ^ 15) then Some n else None
low_16 (negsuc n) = if nat_lt n (2 ^ 15) then Some (2 ^ 16 - 1 - n) else None

-- how the operand of an instruction is written
unfoldable pub slot_text : Slot → Instr → List ℕ
slot_text RegisterD i = register_name i.rd
slot_text RegisterA i = register_name i.ra
slot_text RegisterB i = register_name i.rb
slot_text Value i = signed_decimal (sign_16 i.imm)
slot_text (Number below) i = decimal i.imm
slot_text Upper i = 48 ∷ 120 ∷ hex_16 i.imm
slot_text Port i = port_name i.imm
slot_text Special i = special_of i.op

-- the lexeme that this is
unfoldable pub slot_lexeme : Slot → Instr → Lexeme
slot_lexeme RegisterD i = Word (register_name i.rd)
slot_lexeme RegisterA i = Word (register_name i.ra)
slot_lexeme RegisterB i = Word (register_name i.rb)
slot_lexeme Value i = Literal (sign_16 i.imm)
slot_lexeme (Number below) i = Literal (pos i.imm)
slot_lexeme Upper i = Literal (pos i.imm)
slot_lexeme Port i = Word (port_name i.imm)
slot_lexeme Special i = Word (special_of i.op)

-- the instruction with the operand that a lexeme gives
unfoldable pub slot_read : Slot → Lexeme → Instr → Option Instr
slot_read RegisterD (Word w) i = option_map (λ r. record i { rd = r }) (register_of w)
slot_read RegisterA (Word w) i = option_map (λ r. record i { ra = r }) (register_of w)
slot_read RegisterB (Word w) i = option_map (λ r. record i { rb = r }) (register_of w)
slot_read Value (Literal z) i = option_map (λ n. record i { imm = n }) (low_16 z)
slot_read (Number below) (Literal (pos n)) i = if nat_lt n below then Some (record i { imm = n }) else None
slot_read Upper (Literal (pos n)) i = if nat_lt n (2 ^ 16) then Some (record i { imm = n }) else None
slot_read Port (Word w) i = option_map (λ k. record i { imm = k }) (port_of w)
slot_read Special (Word w) i = option_map (λ name. record i { op = name }) (with_special i.op w)
slot_read _ _ i = None
