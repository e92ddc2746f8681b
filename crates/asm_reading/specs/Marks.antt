-- The labels of a line stand before its statement, each a name and a colon.
use Rattle.std.specs.Prelude.{ℕ, ◌+◌, ◌-◌, ◌^◌, nat_lt, Bool, true, false, List, [], ◌∷◌, ◌++◌, Some, is_some, if◌then◌else◌, bytes_eq}
use Rattle.mb_lex.specs.Lexemes.{Lexeme, Word, Colon, Placed}
use Rattle.asm_source.specs.declared.fault.Fault.{Fault}
use Rattle.asm_source.specs.declared.fault.Rule.{Rule}
use Rattle.asm_source.specs.declared.fault.Rule.TheVariants.{DefinedTwice}
use Rattle.asm_statement.specs.Labels.{Labels}

-- the bytes of a name
abbrev pub name_in : Lexeme → List ℕ
name_in (Word word) = word
name_in x = []

abbrev pub is_label : Lexeme → Lexeme → Bool
is_label (Word word) Colon = true
is_label x y = false

-- the names of the labels with which a line begins
unfoldable pub names_before : List Placed → List Placed
names_before [] = []
names_before (x ∷ []) = []
names_before (x ∷ y ∷ xs) = if is_label x.lexeme y.lexeme then x ∷ names_before xs else []

-- the statement behind them
unfoldable pub behind_names : List Placed → List Placed
behind_names [] = []
behind_names (x ∷ []) = x ∷ []
behind_names (x ∷ y ∷ xs) = if is_label x.lexeme y.lexeme then behind_names xs else x ∷ y ∷ xs

-- a label that stands before an item; a name that is defined already keeps its item
abbrev pub defined : Labels → List ℕ → ℕ → Labels
defined labels name item other = if is_some (labels name) then labels other else if bytes_eq name other then Some item else labels other

unfoldable pub all_defined : Labels → ℕ → List Placed → Labels
all_defined labels item [] = labels
all_defined labels item (x ∷ xs) = all_defined (defined labels (name_in x.lexeme) item) item xs

-- columns count from 1, and are numbers of 32 bits
abbrev pub column_of : ℕ → ℕ
column_of place = if nat_lt place (2 ^ 32 - 1) then place + 1 else 2 ^ 32 - 1

-- a fault at a place of a line
abbrev pub fault_at : ℕ → ℕ → Rule → Fault
fault_at number place rule = record { line = number; column = column_of place; rule = rule }

-- a name that is defined already
abbrev pub name_faults : Labels → ℕ → Placed → List Fault
name_faults labels number x = if is_some (labels (name_in x.lexeme)) then fault_at number x.place DefinedTwice ∷ [] else []

unfoldable pub all_name_faults : Labels → ℕ → ℕ → List Placed → List Fault
all_name_faults labels number item [] = []
all_name_faults labels number item (x ∷ xs) = name_faults labels number x ++ all_name_faults (defined labels (name_in x.lexeme) item) number item xs
