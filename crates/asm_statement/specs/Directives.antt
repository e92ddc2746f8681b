-- Directives: which tokens each takes, and what it makes of them.
use Rattle.std.specs.Prelude.{ℕ, ◌-◌, ◌%◌, ◌^◌, ◌==◌, nat_lt, nat_le, Bool, true, false, List, Option, None, Some, ℤ, pos, negsuc, is_some, if◌then◌else◌, bytes_eq, codes}
use Rattle.mb_lex.specs.Lexemes.{Lexeme, Word, Literal, Text}
use Rattle.asm_layout.specs.declared.piece.Alignment.{Alignment}
use Rattle.asm_layout.specs.declared.piece.Alignment.TheVariants.{One, Two, Four, Eight, Sixteen}
use Rattle.asm_source.specs.declared.fault.Rule.{Rule}
use Rattle.asm_source.specs.declared.fault.Rule.TheVariants.{OutOfRange, Undefined}
use Rattle.asm_source.specs.declared.item.Item.{Item}
use Rattle.asm_source.specs.declared.item.Item.TheVariants as item
use Rattle.asm_source.specs.declared.item.Operand.TheVariants.{Number, Label}
use Rattle.asm_statement.specs.declared.directive.Directive.{Directive}
use Rattle.asm_statement.specs.declared.directive.Directive.TheVariants as to
use Rattle.asm_statement.specs.Labels.{Labels, is_label_name}
use Rattle.asm_statement.specs.Operands.{is_half, low_half, or_zero}

-- the directive of a name
unfoldable pub directive : List ℕ → Option Directive
directive word =
    if bytes_eq word (codes ".org") then Some to.Org
    else if bytes_eq word (codes ".word") then Some to.Words
    else if bytes_eq word (codes ".half") then Some to.Halves
    else if bytes_eq word (codes ".byte") then Some to.Bytes
    else if bytes_eq word (codes ".ascii") then Some to.Ascii
    else if bytes_eq word (codes ".space") then Some to.Space
    else if bytes_eq word (codes ".align") then Some to.Align
    else if bytes_eq word (codes ".entry") then Some to.Entry
    else if bytes_eq word (codes ".global") then Some to.Global
    else if bytes_eq word (codes ".text") then Some to.Section
    else None

-- so many operands are right: one, or none of `.text`, or at least one value
abbrev pub takes_count : Directive → ℕ → Bool
takes_count to.Words count = nat_le 1 count
takes_count to.Halves count = nat_le 1 count
takes_count to.Bytes count = nat_le 1 count
takes_count to.Section count = count == 0
takes_count d count = count == 1

abbrev pub takes_a_number : Directive → Bool
takes_a_number to.Org = true
takes_a_number to.Words = true
takes_a_number to.Halves = true
takes_a_number to.Bytes = true
takes_a_number to.Space = true
takes_a_number to.Align = true
takes_a_number d = false

-- labels are values of `.word`, `.entry` names one, and `.global` any name
abbrev pub takes_a_word : Directive → List ℕ → Bool
takes_a_word to.Words word = is_label_name word
takes_a_word to.Entry word = is_label_name word
takes_a_word to.Global word = true
takes_a_word d word = false

abbrev pub takes_a_text : Directive → Bool
takes_a_text to.Ascii = true
takes_a_text d = false

-- a directive takes this token: the kind is right, whatever the number
abbrev pub takes_operand : Directive → Lexeme → Bool
takes_operand d (Literal z) = takes_a_number d
takes_operand d (Word word) = takes_a_word d word
takes_operand d (Text bytes) = takes_a_text d
takes_operand d x = false

-- a number of 8 bits, with a sign or without
abbrev pub is_byte : ℤ → Bool
is_byte (pos n) = nat_lt n (2 ^ 8)
is_byte (negsuc n) = nat_lt n (2 ^ 7)

abbrev pub is_place : ℤ → Bool
is_place (pos n) = n % 4 == 0
is_place (negsuc n) = false

abbrev pub is_count : ℤ → Bool
is_count (pos n) = true
is_count (negsuc n) = false

abbrev pub aligned_to : ℕ → Option Alignment
aligned_to n =
    if n == 1 then Some One
    else if n == 2 then Some Two
    else if n == 4 then Some Four
    else if n == 8 then Some Eight
    else if n == 16 then Some Sixteen
    else None

-- the alignment to so many bytes
abbrev pub alignment : ℤ → Option Alignment
alignment (pos n) = aligned_to n
alignment (negsuc n) = None

-- a number is within the field of a directive
abbrev pub is_right : Directive → ℤ → Bool
is_right to.Org z = is_place z
is_right to.Halves z = is_half z
is_right to.Bytes z = is_byte z
is_right to.Space z = is_count z
is_right to.Align z = is_some (alignment z)
is_right d z = true

-- the low bits of a number that is within its field
abbrev pub low_word : ℤ → ℕ
low_word (pos n) = n % 2 ^ 32
low_word (negsuc n) = 2 ^ 32 - 1 - n % 2 ^ 32

abbrev pub low_byte : ℤ → ℕ
low_byte (pos n) = n % 2 ^ 8
low_byte (negsuc n) = 2 ^ 8 - 1 - n % 2 ^ 8

-- what is wrong with a token that a directive takes: a number outside its field, a label that is nowhere defined
abbrev pub rule_of_label : Labels → Directive → List ℕ → Option Rule
rule_of_label labels to.Global word = None
rule_of_label labels d word = if is_some (labels word) then None else Some Undefined

abbrev pub rule_for : Labels → Directive → Lexeme → Option Rule
rule_for labels d (Literal z) = if is_right d z then None else Some OutOfRange
rule_for labels d (Word word) = rule_of_label labels d word
rule_for labels d x = None

abbrev pub aligned_item : Option Alignment → Option Item
aligned_item None = None
aligned_item (Some a) = Some (item.Aligned a)

-- the item that a number within its field asks for
abbrev pub number_item : Directive → ℤ → Option Item
number_item to.Org z = Some (item.Part (low_word z))
number_item to.Words z = Some (item.Word (Number z))
number_item to.Halves z = Some (item.Half (low_half z))
number_item to.Bytes z = Some (item.Byte (low_byte z))
number_item to.Space z = Some (item.Space (low_word z))
number_item to.Align z = aligned_item (alignment z)
number_item d z = None

abbrev pub word_item : Labels → Directive → List ℕ → Option Item
word_item labels to.Words word = Some (item.Word (Label (or_zero (labels word))))
word_item labels d word = None

-- the item that an operand of a directive asks for, where it asks for one
abbrev pub item_for : Labels → Directive → Lexeme → Option Item
item_for labels d (Literal z) = if is_right d z then number_item d z else None
item_for labels d (Word word) = word_item labels d word
item_for labels d x = None

-- the label at which the program begins
abbrev pub entry_of : Labels → Directive → List ℕ → Option ℕ
entry_of labels to.Entry word = Some (or_zero (labels word))
entry_of labels d word = None

abbrev pub entry_for : Labels → Directive → Lexeme → Option ℕ
entry_for labels d (Word word) = entry_of labels d word
entry_for labels d x = None
