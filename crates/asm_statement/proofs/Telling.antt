-- A statement without a fault asks for instructions that have words.
use Rattle.std.proofs.Common.{◌≡◌, ℕ, Bool, false, ◌==◌, List, [], ◌∷◌, drop, Option, None, Some, ℤ}
use Rattle.std.specs.Prelude.{get_or}
use Rattle.mb_lex.specs.Lexemes.{Lexeme, Word, Literal, Text, Comma, Colon, Bad, Placed}
use Rattle.asm_layout.specs.declared.piece.Alignment.{Alignment}
use Rattle.asm_syntax.specs.declared.mnemonics.Named.{Named}
use Rattle.asm_syntax.specs.Spelling.{mnemonic}
use Rattle.asm_source.specs.declared.item.Item.{Item}
use Rattle.asm_source.specs.declared.item.Item.TheVariants as item
use Rattle.asm_source.specs.Source.{HasWord}
use Rattle.asm_source.proofs.Lists.{Every, either, every_append, every_by, every_map}
use Rattle.asm_statement.specs.declared.directive.Directive.{Directive}
use Rattle.asm_statement.specs.declared.directive.Directive.TheVariants as to
use Rattle.asm_statement.specs.declared.operands.Operation.{Operation}
use Rattle.asm_statement.specs.Directives.{aligned_item, alignment, directive, is_right, item_for, number_item, word_item}
use Rattle.asm_statement.specs.Instructions.{instruction}
use Rattle.asm_statement.specs.Labels.{Labels}
use Rattle.asm_statement.specs.Operands.{operands_of}
use Rattle.asm_statement.specs.Statements.{Told, by_directive, by_head, by_mnemonic, directive_told, instruction_told, operation_told, statement, takes_all}
use Rattle.asm_statement.specs.Values.{items_for, listed, operand_items, text_bytes}
use Rattle.asm_statement.proofs.Fitting.{NameFits, OperationFits, instruction_fits, mnemonic_fits}

abbrev pub HaveWords : Told → Type 0
HaveWords t = t.rest.fault ≡ None → Every HasWord t.items

-- ---- directives ask for data

abbrev ItemFits : Option Item → Type 0
ItemFits None = Unit {0}
ItemFits (Some i) = HasWord i

aligned_fits : (a : Option Alignment) → ItemFits (aligned_item a)
aligned_fits None = tt
aligned_fits (Some a) = tt

number_fits : (d : Directive) (z : ℤ) → ItemFits (number_item d z)
number_fits to.Align z = aligned_fits (alignment z)
number_fits d z = tt

word_fits : (labels : Labels) (d : Directive) (word : List ℕ) → ItemFits (word_item labels d word)
word_fits labels to.Words word = tt
word_fits labels d word = tt

listed_fits : (i : Option Item) → ItemFits i → Every HasWord (listed i)
listed_fits None fits = tt
listed_fits (Some i) fits = (fits, tt)

operand_fits : (labels : Labels) (d : Directive) (x : Lexeme) → Every HasWord (operand_items labels d x)
operand_fits labels d (Text bytes) = every_map HasWord item.Byte (text_bytes false (drop 1 bytes)) (every_by (λ b. HasWord (item.Byte b)) (text_bytes false (drop 1 bytes)) (λ b. tt))
operand_fits labels d (Word word) = listed_fits (word_item labels d word) (word_fits labels d word)
operand_fits labels d (Literal z) = listed_fits (item_for labels d (Literal z)) (either ItemFits (is_right d z) (number_item d z) None (number_fits d z) tt)
operand_fits labels d Comma = tt
operand_fits labels d Colon = tt
operand_fits labels d (Bad rule) = tt

items_fit : (labels : Labels) (d : Directive) (ps : List Placed) → Every HasWord (items_for labels d ps)
items_fit labels d [] = tt
items_fit labels d (p ∷ ps) = every_append HasWord (operand_items labels d p.lexeme) (items_for labels d ps) (operand_fits labels d p.lexeme) (items_fit labels d ps)

directive_words : (labels : Labels) (d : Directive) (place : ℕ) (ps : Option (List Placed)) → HaveWords (directive_told labels d place ps)
directive_words labels d place None = λ none. tt
directive_words labels d place (Some ps) = either HaveWords (takes_all d ps) _ _ (λ none. items_fit labels d ps) (λ none. tt)

by_directive_words : (labels : Labels) (whole : Bool) (place : ℕ) (d : Option Directive) (ps : List Placed) → HaveWords (by_directive labels whole place d ps)
by_directive_words labels whole place None ps = λ none. tt
by_directive_words labels whole place (Some d) ps = either HaveWords whole _ _ (directive_words labels d place (operands_of ps)) (λ none. tt)

-- ---- instructions

operation_words : (after_imm : Bool) (place : ℕ) (o : Option Operation) → OperationFits after_imm o → HaveWords (operation_told after_imm place o)
operation_words after_imm place None fits = λ none. tt
operation_words after_imm place (Some o) fits = λ none. (fits none, tt)

instruction_words : (labels : Labels) (after_imm : Bool) (n : Named) (place : ℕ) (ps : Option (List Placed)) → NameFits (Some n) → HaveWords (instruction_told labels after_imm n place ps)
instruction_words labels after_imm n place None fits = λ none. tt
instruction_words labels after_imm n place (Some ps) fits = operation_words after_imm place (instruction labels after_imm n ps) (instruction_fits labels after_imm n ps fits)

by_mnemonic_words : (labels : Labels) (after_imm whole : Bool) (place : ℕ) (n : Option Named) (ps : List Placed) → NameFits n → HaveWords (by_mnemonic labels after_imm whole place n ps)
by_mnemonic_words labels after_imm whole place None ps fits = λ none. tt
by_mnemonic_words labels after_imm whole place (Some n) ps fits = either HaveWords whole _ _ (instruction_words labels after_imm n place (operands_of ps) fits) (λ none. tt)

head_words : (labels : Labels) (after_imm whole : Bool) (place : ℕ) (x : Lexeme) (ps : List Placed) → HaveWords (by_head labels after_imm whole place x ps)
head_words labels after_imm whole place (Word word) ps =
    either HaveWords (get_or word 0 0 == 46) _ _ (by_directive_words labels whole place (directive word) ps) (by_mnemonic_words labels after_imm whole place (mnemonic word) ps (mnemonic_fits word))
head_words labels after_imm whole place (Literal z) ps = λ none. tt
head_words labels after_imm whole place (Text bytes) ps = λ none. tt
head_words labels after_imm whole place Comma ps = λ none. tt
head_words labels after_imm whole place Colon ps = λ none. tt
head_words labels after_imm whole place (Bad rule) ps = λ none. tt

pub statement_words : (labels : Labels) (after_imm whole : Bool) (ps : List Placed) → HaveWords (statement labels after_imm whole ps)
unfolding statement
statement_words labels after_imm whole [] = λ none. tt
statement_words labels after_imm whole (x ∷ ps) = head_words labels after_imm whole x.place x.lexeme ps
