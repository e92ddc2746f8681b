-- Statements: what the tokens of a line ask for, and what is wrong with them.
use Rattle.std.specs.Prelude.{◌≡◌, ℕ, ◌==◌, Bool, ◌&&◌, List, [], ◌∷◌, ◌++◌, get_or, length, map, Option, None, Some, if◌then◌else◌}
use Rattle.std.specs.List.{list_all}
use Rattle.mb_lex.specs.Lexemes.{Lexeme, Word, Placed}
use Rattle.asm_syntax.specs.declared.mnemonics.Named.{Named}
use Rattle.asm_syntax.specs.Spelling.{mnemonic}
use Rattle.asm_source.specs.declared.fault.Rule.{Rule}
use Rattle.asm_source.specs.declared.fault.Rule.TheVariants.{UnknownMnemonic, UnknownDirective, WrongOperands}
use Rattle.asm_source.specs.declared.item.Item.{Item}
use Rattle.asm_source.specs.declared.item.Item.TheVariants as item
use Rattle.asm_source.specs.declared.item.Written.{Written}
use Rattle.asm_statement.specs.declared.directive.Directive.{Directive}
use Rattle.asm_statement.specs.declared.operands.Operation.{Operation}
use Rattle.asm_statement.specs.declared.statement.Rest.{Rest}
use Rattle.asm_statement.specs.declared.values.Head.{Head}
use Rattle.asm_statement.specs.Directives.{directive, entry_for, takes_count, takes_operand}
use Rattle.asm_statement.specs.Instructions.{instruction}
use Rattle.asm_statement.specs.Labels.{Labels}
use Rattle.asm_statement.specs.Operands.{operands_of}
use Rattle.asm_statement.specs.Values.{at_head, fault_for, items_for}

-- what a statement asks for: its items, and beside them its first fault and the item before which the program begins
pub record Told : Type 0 where
  pub items : List Item
  pub rest : Rest

abbrev pub nothing : Told
nothing = record { items = []; rest = record { fault = None; entry = None } }

abbrev pub refused : Rule → ℕ → Told
refused rule place = record { items = []; rest = record { fault = Some (record { rule = rule; place = place }); entry = None } }

-- a call added the items, and answered the rest
abbrev pub Tells : Head → List Written → List Written → Rest → Told → Type 0
Tells head old new rest told = (new ≡ old ++ map (at_head head) told.items) × (rest ≡ told.rest)

-- ---- instructions

abbrev pub operation_told : Bool → ℕ → Option Operation → Told
operation_told after_imm place None = refused WrongOperands place
operation_told after_imm place (Some o) = record { items = item.Instruction o.instr o.value after_imm ∷ []; rest = record { fault = o.fault; entry = None } }

abbrev pub instruction_told : Labels → Bool → Named → ℕ → Option (List Placed) → Told
instruction_told labels after_imm n place None = refused WrongOperands place
instruction_told labels after_imm n place (Some xs) = operation_told after_imm place (instruction labels after_imm n xs)

-- ---- directives

abbrev pub first_entry : Labels → Directive → List Placed → Option ℕ
first_entry labels d [] = None
first_entry labels d (x ∷ xs) = entry_for labels d x.lexeme

abbrev pub takes_all : Directive → List Placed → Bool
takes_all d xs = takes_count d (length xs) && list_all (λ (p : Placed). takes_operand d p.lexeme) xs

abbrev pub directive_told : Labels → Directive → ℕ → Option (List Placed) → Told
directive_told labels d place None = refused WrongOperands place
directive_told labels d place (Some xs) =
    if takes_all d xs then record { items = items_for labels d xs; rest = record { fault = fault_for labels d xs; entry = first_entry labels d xs } }
    else refused WrongOperands place

-- ---- a statement, whose line has no bad token where it is whole

abbrev pub by_directive : Labels → Bool → ℕ → Option Directive → List Placed → Told
by_directive labels whole place None xs = refused UnknownDirective place
by_directive labels whole place (Some d) xs = if whole then directive_told labels d place (operands_of xs) else nothing

abbrev pub by_mnemonic : Labels → Bool → Bool → ℕ → Option Named → List Placed → Told
by_mnemonic labels after_imm whole place None xs = refused UnknownMnemonic place
by_mnemonic labels after_imm whole place (Some n) xs = if whole then instruction_told labels after_imm n place (operands_of xs) else nothing

-- directives begin with a dot
abbrev pub by_word : Labels → Bool → Bool → ℕ → List ℕ → List Placed → Told
by_word labels after_imm whole place word xs =
    if get_or word 0 0 == 46 then by_directive labels whole place (directive word) xs else by_mnemonic labels after_imm whole place (mnemonic word) xs

abbrev pub by_head : Labels → Bool → Bool → ℕ → Lexeme → List Placed → Told
by_head labels after_imm whole place (Word word) xs = by_word labels after_imm whole place word xs
by_head labels after_imm whole place x xs = refused UnknownMnemonic place

unfoldable pub statement : Labels → Bool → Bool → List Placed → Told
statement labels after_imm whole [] = nothing
statement labels after_imm whole (x ∷ xs) = by_head labels after_imm whole x.place x.lexeme xs
