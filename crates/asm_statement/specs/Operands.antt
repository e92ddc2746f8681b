-- Operands: which tokens each takes, and what it makes of them.
use Rattle.std.specs.Prelude.{ℕ, ◌-◌, ◌%◌, ◌^◌, nat_lt, Bool, true, false, not, ◌&&◌, ◌||◌, List, [], ◌∷◌, take, drop, Option, None, Some, ℤ, pos, negsuc, is_some, if◌then◌else◌}
use Rattle.op_table.specs.declared.op.Op.{Op}
use Rattle.mb_decode.specs.declared.instruction.Instr.{Instr}
use Rattle.mb_lex.specs.declared.token.Token.{Token}
use Rattle.mb_lex.specs.Lexemes.{Lexeme, Word, Literal, Comma, Placed}
use Rattle.mb_lex.specs.Lines.{lexeme_by}
use Rattle.asm_syntax.specs.declared.slot.Slot.{Slot}
use Rattle.asm_syntax.specs.declared.slot.Slot.TheVariants.{RegisterD, RegisterA, RegisterB, Value, Number as Below, Upper, Port, Special}
use Rattle.asm_syntax.specs.Operands.{port_of, register_of, with_special}
use Rattle.asm_source.specs.declared.fault.Rule.{Rule}
use Rattle.asm_source.specs.declared.fault.Rule.TheVariants.{OutOfRange, Undefined}
use Rattle.asm_source.specs.declared.item.Operand.{Operand}
use Rattle.asm_source.specs.declared.item.Operand.TheVariants.{Number, Label}
use Rattle.asm_statement.specs.declared.operands.Note.{Note}
use Rattle.asm_statement.specs.declared.operands.Operation.{Operation}
use Rattle.asm_statement.specs.Labels.{Labels, is_label_name}

-- an operand takes this word; directly after a written `imm` a value is a number
abbrev pub takes_word : Slot → Op → Bool → List ℕ → Bool
takes_word RegisterD name after_imm word = is_some (register_of word)
takes_word RegisterA name after_imm word = is_some (register_of word)
takes_word RegisterB name after_imm word = is_some (register_of word)
takes_word Value name after_imm word = not after_imm && is_label_name word
takes_word (Below bound) name after_imm word = false
takes_word Upper name after_imm word = false
takes_word Port name after_imm word = is_some (port_of word)
takes_word Special name after_imm word = is_some (with_special name word)

-- an operand takes a number
abbrev pub takes_number : Slot → Bool
takes_number Value = true
takes_number (Below bound) = true
takes_number Upper = true
takes_number _ = false

-- an operand takes this token: the kind is right, whatever the number
abbrev pub takes : Slot → Op → Bool → Lexeme → Bool
takes slot name after_imm (Word word) = takes_word slot name after_imm word
takes slot name after_imm (Literal z) = takes_number slot
takes slot name after_imm _ = false

-- a number without sign below a bound
abbrev pub is_below : ℕ → ℤ → Bool
is_below bound (pos n) = nat_lt n bound
is_below bound (negsuc n) = false

-- what a written `imm` makes whole: -32768 to 65535
abbrev pub is_half : ℤ → Bool
is_half (pos n) = nat_lt n (2 ^ 16)
is_half (negsuc n) = nat_lt n (2 ^ 15)

-- a number is within the field of an operand
abbrev pub is_within : Slot → Bool → ℤ → Bool
is_within (Below bound) after_imm z = is_below bound z
is_within Upper after_imm z = is_below (2 ^ 16) z
is_within Value after_imm z = not after_imm || is_half z
is_within _ after_imm z = true

-- a label that is nowhere defined
abbrev pub undefined_at : Labels → Slot → List ℕ → Option Rule
undefined_at labels Value word = if is_some (labels word) then None else Some Undefined
undefined_at labels slot word = None

-- what is wrong with a token that an operand takes: a number outside its field, a label that is nowhere defined
abbrev pub rule_at : Labels → Slot → Bool → Lexeme → Option Rule
rule_at labels slot after_imm (Literal z) = if is_within slot after_imm z then None else Some OutOfRange
rule_at labels slot after_imm (Word word) = undefined_at labels slot word
rule_at labels slot after_imm _ = None

abbrev pub or_zero : Option ℕ → ℕ
or_zero None = 0
or_zero (Some n) = n

-- 16 bits of a number that is within its field
abbrev pub low_half : ℤ → ℕ
low_half (pos n) = n % 2 ^ 16
low_half (negsuc n) = 2 ^ 16 - 1 - n % 2 ^ 16

abbrev pub or_same : Op → Option Op → Op
or_same name None = name
or_same name (Some other) = other

-- an instruction with the register, port or number of an operand
abbrev pub with_word : Slot → List ℕ → Instr → Instr
with_word RegisterD word i = record i { rd = or_zero (register_of word) }
with_word RegisterA word i = record i { ra = or_zero (register_of word) }
with_word RegisterB word i = record i { rb = or_zero (register_of word) }
with_word Port word i = record i { imm = or_zero (port_of word) }
with_word Special word i = record i { op = or_same i.op (with_special i.op word) }
with_word _ word i = i

abbrev pub with_number : Slot → ℤ → Instr → Instr
with_number (Below bound) z i = record i { imm = low_half z }
with_number Upper z i = record i { imm = low_half z }
with_number _ z i = i

abbrev pub with_operand : Slot → Lexeme → Instr → Instr
with_operand slot (Word word) i = with_word slot word i
with_operand slot (Literal z) i = with_number slot z i
with_operand slot _ i = i

-- the value that an operand gives, where it is one
abbrev pub value_of : Labels → Slot → Lexeme → Option Operand
value_of labels Value (Literal z) = Some (Number z)
value_of labels Value (Word word) = Some (Label (or_zero (labels word)))
value_of labels slot _ = None

-- the bytes of a token, and the lexeme that it is
abbrev pub bytes_at : List ℕ → Token → List ℕ
bytes_at line t = take (t.to - t.from) (drop t.from line)

abbrev pub lexeme_at : List ℕ → Token → Lexeme
lexeme_at line t = lexeme_by (bytes_at line t) t.kind

-- ---- the operands of a statement, between commas

abbrev pub is_comma : Lexeme → Bool
is_comma Comma = true
is_comma _ = false

abbrev pub before : Placed → Option (List Placed) → Option (List Placed)
before x None = None
before x (Some xs) = Some (x ∷ xs)

-- the operands that follow; `read` tells whether the last token was one
unfoldable pub operands_from : Bool → List Placed → Option (List Placed)
operands_from true [] = Some []
operands_from false [] = None
operands_from true (x ∷ xs) = if is_comma x.lexeme then operands_from false xs else None
operands_from false (x ∷ xs) = before x (operands_from true xs)

-- the operands behind a mnemonic or directive: none, or some with a comma between each two
unfoldable pub operands_of : List Placed → Option (List Placed)
operands_of [] = Some []
operands_of (x ∷ xs) = operands_from false (x ∷ xs)

-- ---- what the operands make of an instruction

-- the first fault of a statement: what is wrong with the token at a place
abbrev pub noted : Option Note → Option Rule → ℕ → Option Note
noted (Some note) rule place = Some note
noted None (Some rule) place = Some (record { rule = rule; place = place })
noted None None place = None

abbrev pub first_value : Option Operand → Option Operand → Option Operand
first_value (Some v) other = Some v
first_value None other = other

abbrev pub with_token : Labels → Bool → Slot → Placed → Operation → Operation
with_token labels after_imm slot p o = record {
  instr = with_operand slot p.lexeme o.instr;
  value = first_value o.value (value_of labels slot p.lexeme);
  fault = noted o.fault (rule_at labels slot after_imm p.lexeme) p.place;
}

unfoldable pub with_all : Labels → Bool → List Slot → List Placed → Operation → Operation
with_all labels after_imm [] xs o = o
with_all labels after_imm (s ∷ ss) [] o = o
with_all labels after_imm (s ∷ ss) (x ∷ xs) o = with_all labels after_imm ss xs (with_token labels after_imm s x o)

-- each operand takes its token, and there are as many
unfoldable pub take_all : Op → Bool → List Slot → List Placed → Bool
take_all name after_imm [] [] = true
take_all name after_imm (s ∷ ss) (x ∷ xs) = takes s name after_imm x.lexeme && take_all name after_imm ss xs
take_all name after_imm _ _ = false
