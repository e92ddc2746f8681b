-- What the operands of a directive ask for: items, the first fault, and where the program begins.
use Rattle.std.specs.Prelude.{ℕ, ◌==◌, Bool, true, false, List, [], ◌∷◌, drop, flat_map, fold, map, Option, None, Some, if◌then◌else◌}
use Rattle.mb_lex.specs.Lexemes.{Lexeme, Text, Placed}
use Rattle.asm_source.specs.declared.item.Item.{Item}
use Rattle.asm_source.specs.declared.item.Item.TheVariants as item
use Rattle.asm_source.specs.declared.item.Written.{Written}
use Rattle.asm_statement.specs.declared.directive.Directive.{Directive}
use Rattle.asm_statement.specs.declared.operands.Note.{Note}
use Rattle.asm_statement.specs.declared.values.Head.{Head}
use Rattle.asm_statement.specs.declared.values.Step.{Step}
use Rattle.asm_statement.specs.declared.values.Step.TheVariants as step
use Rattle.asm_statement.specs.Directives.{item_for, rule_for}
use Rattle.asm_statement.specs.Labels.{Labels}
use Rattle.asm_statement.specs.Operands.{noted}

-- an item of the statement whose mnemonic or directive stands here
abbrev pub at_head : Head → Item → Written
at_head head i = record { item = i; line = head.line; column = head.column }

-- what a byte behind a backslash stands for
abbrev pub escaped_byte : ℕ → ℕ
escaped_byte b = if b == 110 then 10 else b

-- what a byte of a text is, by whether a backslash escapes it
abbrev pub text_step : Bool → ℕ → Step
text_step true b = step.Is (escaped_byte b)
text_step false b = if b == 34 then step.Ends else if b == 92 then step.Escapes else step.Is b

abbrev pub by_step : Step → List ℕ → List ℕ → List ℕ
by_step step.Ends escaped plain = []
by_step step.Escapes escaped plain = escaped
by_step (step.Is b) escaped plain = b ∷ plain

-- the bytes of a text behind its opening quote, up to the closing one
unfoldable pub text_bytes : Bool → List ℕ → List ℕ
text_bytes escaped [] = []
text_bytes escaped (b ∷ text) = by_step (text_step escaped b) (text_bytes true text) (text_bytes false text)

abbrev pub listed : Option Item → List Item
listed None = []
listed (Some i) = i ∷ []

-- the items of a text are its bytes, and those of another operand the one that it asks for
abbrev pub operand_items : Labels → Directive → Lexeme → List Item
operand_items labels d (Text bytes) = map item.Byte (text_bytes false (drop 1 bytes))
operand_items labels d x = listed (item_for labels d x)

abbrev pub items_for : Labels → Directive → List Placed → List Item
items_for labels d xs = flat_map (λ (p : Placed). operand_items labels d p.lexeme) xs

abbrev pub fault_for : Labels → Directive → List Placed → Option Note
fault_for labels d xs = fold (λ o (p : Placed). noted o (rule_for labels d p.lexeme) p.place) None xs
