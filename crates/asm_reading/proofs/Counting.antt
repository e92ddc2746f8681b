-- Each item stands for at least one byte of the source.
use Rattle.std.proofs.Common.{◌≡◌, ℕ, zero, suc, ◌+◌, ◌-◌, ◌≤◌, Bool, true, false, List, [], ◌∷◌, length, map, take, drop, Option, None, Some, refl, ap, arith, length-append, length-drop}
use Rattle.std.specs.Prelude.{not, nat_lt, ◌==◌, get_or, is_some}
use Rattle.std.proofs.lemmas.List.{length-map, length-take}
use Rattle.mb_lex.specs.declared.token.LexRule.TheVariants.{BadCharacter}
use Rattle.mb_lex.specs.Bytes.{begins_number, is_blank, starts_name}
use Rattle.mb_lex.specs.Lexemes.{Lexeme, Word, Literal, Text, Comma, Colon, Bad, Munch, Placed, ends, lex, literal, munch, quoted, run}
use Rattle.mb_lex.specs.Lines.{first_fault, first_good, is_good}
use Rattle.mb_lex.specs.Literals.{number_of, text_end}
use Rattle.asm_syntax.specs.declared.mnemonics.Named.{Named}
use Rattle.asm_syntax.specs.Spelling.{mnemonic}
use Rattle.asm_source.proofs.Lists.{either}
use Rattle.asm_source.specs.declared.item.Item.{Item}
use Rattle.asm_source.specs.declared.item.Item.TheVariants as item
use Rattle.asm_statement.specs.declared.directive.Directive.{Directive}
use Rattle.asm_statement.specs.declared.operands.Operation.{Operation}
use Rattle.asm_statement.specs.declared.values.Step.{Step}
use Rattle.asm_statement.specs.declared.values.Step.TheVariants as step
use Rattle.asm_statement.specs.Directives.{directive, item_for}
use Rattle.asm_statement.specs.Instructions.{instruction}
use Rattle.asm_statement.specs.Labels.{Labels}
use Rattle.asm_statement.specs.Operands.{before, is_comma, operands_from, operands_of}
use Rattle.asm_statement.specs.Statements.{Told, by_directive, by_head, by_mnemonic, directive_told, instruction_told, operation_told, statement, takes_all}
use Rattle.asm_statement.specs.Values.{at_head, by_step, items_for, listed, operand_items, text_bytes, text_step}
use Rattle.asm_reading.specs.Lines.{first_line, line_len, lines_from, lines_of, without_return}
use Rattle.asm_reading.specs.Marks.{behind_names, is_label}
use Rattle.asm_reading.specs.Reading.{Read, head_of, line_read, lines_read, nothing_read}

-- ---- lexemes: the most items that each can ask for

abbrev weight : Lexeme → ℕ
weight (Text bytes) = length bytes
weight (Word bytes) = 1
weight (Literal z) = 1
weight Comma = 1
weight Colon = 1
weight (Bad rule) = 1

abbrev weights : List Placed → ℕ
weights [] = 0
weights (p ∷ ps) = weight p.lexeme + weights ps

literal_weight : (z : Option _) → weight (literal z) ≡ 1
literal_weight None = refl
literal_weight (Some z) = refl

abbrev Few : List ℕ → Munch → Type 0
Few text m = weight m.lexeme + (length text - m.more) ≤ 1 + length text

quoted_few : (end : Option ℕ) (text : List ℕ) → Few text (quoted end text)
quoted_few None text = omega arith
quoted_few (Some n) text = omega (arith, length-take n text)

munch_few : (b : ℕ) (text : List ℕ) → Few text (munch b text)
unfolding munch
munch_few b text =
    let one : (x : Lexeme) (more : ℕ) → weight x ≡ 1 → Few text (record { lexeme = x; more = more }) = λ x more is. omega (arith, is) in
    either (Few text) (starts_name b) _ _ (one (Word (b ∷ run text)) (length (run text)) refl)
    (either (Few text) (begins_number b) _ _ (one (literal (number_of (b ∷ run text))) (length (run text)) (literal_weight (number_of (b ∷ run text))))
    (either (Few text) (b == 34) _ _ (quoted_few (text_end false text) text)
    (either (Few text) (b == 44) _ _ (one Comma 0 refl)
    (either (Few text) (b == 58) _ _ (one Colon 0 refl) (one (Bad BadCharacter) 0 refl)))))

ends_few : (x : Lexeme) (ps : List Placed) → weights (ends x ps) ≤ weights ps
ends_few (Bad rule) ps = omega arith
ends_few (Word bytes) ps = omega arith
ends_few (Literal z) ps = omega arith
ends_few (Text bytes) ps = omega arith
ends_few Comma ps = omega arith
ends_few Colon ps = omega arith

lex_few : (at skip : ℕ) (text : List ℕ) → weights (lex at skip text) ≤ length text - skip
unfolding lex
lex_few at skip [] = omega arith
lex_few at (suc skip) (b ∷ text) =
    let rest = lex_few (at + 1) skip text in
    omega arith
lex_few at zero (b ∷ text) =
    let blank = lex_few (at + 1) 0 text in
    let rest = lex_few (at + 1) (munch b text).more text in
    let kept = ends_few (munch b text).lexeme (lex (at + 1) (munch b text).more text) in
    let here = munch_few b text in
    either (λ ps. weights ps ≤ length (b ∷ text) - 0) (is_blank b) _ _ (omega arith) (either (λ ps. weights ps ≤ length (b ∷ text) - 0) (b == 35) _ _ (omega arith) (omega arith))

good_few : (room : ℕ) (ps : List Placed) → weights (first_good room ps) ≤ weights ps
unfolding first_good
good_few room [] = omega arith
good_few zero (p ∷ ps) = omega arith
good_few (suc room) (p ∷ ps) =
    let rest = good_few room ps in
    either (λ qs. weights qs ≤ weights (p ∷ ps)) (is_good p.lexeme) _ _ (omega arith) (omega arith)

behind_few : (ps : List Placed) → weights (behind_names ps) ≤ weights ps
unfolding behind_names
behind_few [] = omega arith
behind_few (x ∷ []) = omega arith
behind_few (x ∷ y ∷ ps) =
    let rest = behind_few ps in
    either (λ qs. weights qs ≤ weights (x ∷ y ∷ ps)) (is_label x.lexeme y.lexeme) _ _ (omega arith) (omega arith)

-- ---- operands: none is more than once in a statement

abbrev IsWithin : ℕ → Option (List Placed) → Type 0
IsWithin most None = Unit {0}
IsWithin most (Some ps) = weights ps ≤ most

before_within : (x : Placed) (most : ℕ) (ps : Option (List Placed)) → IsWithin most ps → IsWithin (weight x.lexeme + most) (before x ps)
before_within x most None within = within
before_within x most (Some ps) within = omega (arith, within)

IsWithin-more : (least most : ℕ) (ps : Option (List Placed)) → least ≤ most → IsWithin least ps → IsWithin most ps
IsWithin-more least most None more within = within
IsWithin-more least most (Some ps) more within = omega (arith, within, more)

from_within : (known : Bool) (ps : List Placed) → IsWithin (weights ps) (operands_from known ps)
unfolding operands_from
from_within true [] = omega arith
from_within false [] = tt
from_within true (x ∷ ps) =
    either (IsWithin (weights (x ∷ ps))) (is_comma x.lexeme) _ _ (IsWithin-more (weights ps) (weights (x ∷ ps)) (operands_from false ps) (omega arith) (from_within false ps)) tt
from_within false (x ∷ ps) = before_within x (weights ps) (operands_from true ps) (from_within true ps)

operands_within : (ps : List Placed) → IsWithin (weights ps) (operands_of ps)
unfolding operands_of
operands_within [] = omega arith
operands_within (x ∷ ps) = from_within false (x ∷ ps)

-- ---- items

step_few : (s : Step) (escaped plain : List ℕ) (most : ℕ) → length escaped ≤ most → length plain ≤ most → length (by_step s escaped plain) ≤ suc most
step_few step.Ends escaped plain most e p = omega arith
step_few step.Escapes escaped plain most e p = omega (arith, e)
step_few (step.Is b) escaped plain most e p = omega (arith, p)

text_few : (escaped : Bool) (text : List ℕ) → length (text_bytes escaped text) ≤ length text
unfolding text_bytes
text_few escaped [] = omega arith
text_few escaped (b ∷ text) = step_few (text_step escaped b) (text_bytes true text) (text_bytes false text) (length text) (text_few true text) (text_few false text)

listed_few : (i : Option Item) → length (listed i) ≤ 1
listed_few None = omega arith
listed_few (Some i) = omega arith

operand_few : (labels : Labels) (d : Directive) (x : Lexeme) → length (operand_items labels d x) ≤ weight x
operand_few labels d (Text bytes) =
    let all = text_few false (drop 1 bytes) in
    omega (arith, length-map (text_bytes false (drop 1 bytes)) item.Byte, length-drop 1 bytes, all)
operand_few labels d (Word bytes) = listed_few (item_for labels d (Word bytes))
operand_few labels d (Literal z) = listed_few (item_for labels d (Literal z))
operand_few labels d Comma = listed_few (item_for labels d Comma)
operand_few labels d Colon = listed_few (item_for labels d Colon)
operand_few labels d (Bad rule) = listed_few (item_for labels d (Bad rule))

items_few : (labels : Labels) (d : Directive) (ps : List Placed) → length (items_for labels d ps) ≤ weights ps
items_few labels d [] = omega arith
items_few labels d (p ∷ ps) =
    let here = operand_few labels d p.lexeme in
    let rest = items_few labels d ps in
    omega (arith, length-append (operand_items labels d p.lexeme) (items_for labels d ps), here, rest)

-- ---- statements

operation_few : (after_imm : Bool) (place most : ℕ) (o : Option Operation) → 1 ≤ most → length (operation_told after_imm place o).items ≤ most
operation_few after_imm place most None some = omega arith
operation_few after_imm place most (Some o) some = omega (arith, some)

instruction_few : (labels : Labels) (after_imm : Bool) (n : Named) (place most : ℕ) (ps : Option (List Placed)) → 1 ≤ most → length (instruction_told labels after_imm n place ps).items ≤ most
instruction_few labels after_imm n place most None some = omega arith
instruction_few labels after_imm n place most (Some ps) some = operation_few after_imm place most (instruction labels after_imm n ps) some

directive_few : (labels : Labels) (d : Directive) (place most : ℕ) (ps : Option (List Placed)) → IsWithin most ps → length (directive_told labels d place ps).items ≤ most
directive_few labels d place most None within = omega arith
directive_few labels d place most (Some ps) within =
    let few = items_few labels d ps in
    either (λ (t : Told). length t.items ≤ most) (takes_all d ps) _ _ (omega (arith, few, within)) (omega arith)

abbrev IsFew : ℕ → Told → Type 0
IsFew most t = length t.items ≤ most

by_directive_few : (labels : Labels) (whole : Bool) (place most : ℕ) (d : Option Directive) (ps : List Placed) → weights ps ≤ most → IsFew most (by_directive labels whole place d ps)
by_directive_few labels whole place most None ps few = omega arith
by_directive_few labels whole place most (Some d) ps few =
    either (IsFew most) whole _ _ (directive_few labels d place most (operands_of ps) (IsWithin-more (weights ps) most (operands_of ps) few (operands_within ps))) (omega arith)

by_mnemonic_few : (labels : Labels) (after_imm whole : Bool) (place most : ℕ) (n : Option Named) (ps : List Placed) → 1 ≤ most → IsFew most (by_mnemonic labels after_imm whole place n ps)
by_mnemonic_few labels after_imm whole place most None ps some = omega arith
by_mnemonic_few labels after_imm whole place most (Some n) ps some =
    either (IsFew most) whole _ _ (instruction_few labels after_imm n place most (operands_of ps) some) (omega arith)

head_few : (labels : Labels) (after_imm whole : Bool) (place : ℕ) (x : Lexeme) (ps : List Placed) → IsFew (weight x + weights ps) (by_head labels after_imm whole place x ps)
head_few labels after_imm whole place (Word word) ps =
    either (IsFew (1 + weights ps)) (get_or word 0 0 == 46) _ _ (by_directive_few labels whole place (1 + weights ps) (directive word) ps (omega arith))
    (by_mnemonic_few labels after_imm whole place (1 + weights ps) (mnemonic word) ps (omega arith))
head_few labels after_imm whole place (Literal z) ps = omega arith
head_few labels after_imm whole place (Text bytes) ps = omega arith
head_few labels after_imm whole place Comma ps = omega arith
head_few labels after_imm whole place Colon ps = omega arith
head_few labels after_imm whole place (Bad rule) ps = omega arith

statement_few : (labels : Labels) (after_imm whole : Bool) (ps : List Placed) → IsFew (weights ps) (statement labels after_imm whole ps)
unfolding statement
statement_few labels after_imm whole [] = omega arith
statement_few labels after_imm whole (x ∷ ps) = head_few labels after_imm whole x.place x.lexeme ps

-- ---- lines

line_few : (labels : Labels) (number : ℕ) (line : List ℕ) (r : Read) → length (line_read labels number line r).items ≤ length r.items + length line
unfolding line_read
line_few labels number line r =
    let ps = first_good 40 (lex 0 0 line) in
    let told = statement labels r.after_imm (not (is_some (first_fault 40 (lex 0 0 line)))) (behind_names ps) in
    let head = head_of number (behind_names ps) in
    omega (arith, length-append r.items (map (at_head head) told.items), length-map told.items (at_head head), statement_few labels r.after_imm (not (is_some (first_fault 40 (lex 0 0 line)))) (behind_names ps), behind_few ps, good_few 40 (lex 0 0 line), lex_few 0 0 line)

abbrev bytes_in : List (List ℕ) → ℕ
bytes_in [] = 0
bytes_in (line ∷ lines) = length line + bytes_in lines

lines_few : (labels : Labels) (number : ℕ) (lines : List (List ℕ)) (r : Read) → length (lines_read labels number lines r).items ≤ length r.items + bytes_in lines
unfolding lines_read
lines_few labels number [] r = omega arith
lines_few labels number (line ∷ lines) r =
    let here = line_few labels number line r in
    let rest = lines_few labels (number + 1) lines (line_read labels number line r) in
    omega arith

without_few : (line : List ℕ) → length (without_return line) ≤ length line
without_few line = either (λ l. length l ≤ length line) (get_or line (length line - 1) 0 == 13) _ _ (omega (arith, length-take (length line - 1) line)) (omega arith)

first_few : (text : List ℕ) → length (first_line text) ≤ line_len text
unfolding first_line
first_few text =
    let line = take (line_len text) text in
    let all = without_few line in
    either (λ l. length l ≤ line_len text) (nat_lt (line_len text) (length text)) (without_return line) line (omega (arith, all, length-take (line_len text) text)) (omega (arith, length-take (line_len text) text))

first_within : (text : List ℕ) → length (first_line text) ≤ length text
unfolding first_line
first_within text =
    let line = take (line_len text) text in
    let all = without_few line in
    either (λ l. length l ≤ length text) (nat_lt (line_len text) (length text)) (without_return line) line (omega (arith, all, length-take (line_len text) text)) (omega (arith, length-take (line_len text) text))

all_lines_few : (skip : ℕ) (text : List ℕ) → bytes_in (lines_from skip text) ≤ length text - skip
unfolding lines_from
all_lines_few skip [] = omega arith
all_lines_few (suc skip) (b ∷ text) =
    let rest = all_lines_few skip text in
    omega arith
all_lines_few zero (b ∷ text) =
    let here = first_few (b ∷ text) in
    let within = first_within (b ∷ text) in
    let rest = all_lines_few (line_len (b ∷ text)) text in
    omega arith

pub source_few : (labels : Labels) (source : List ℕ) (start r : Read) → start ≡ nothing_read → r ≡ lines_read labels 1 (lines_of source) start → length r.items ≤ length source
source_few labels source start r none read =
    let items = lines_few labels 1 (lines_of source) start in
    let bytes = all_lines_few 0 source in
    omega (arith, items, bytes, ap (λ (s : Read). length s.items) none, ap (λ (s : Read). length s.items) read)
