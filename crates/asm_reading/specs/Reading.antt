-- What is read of a source: line by line its items, its labels, its faults and where it begins.
use Rattle.std.specs.Prelude.{ℕ, ◌+◌, ◌==◌, Bool, true, false, ◌&&◌, List, [], ◌∷◌, ◌++◌, fold, length, map, Option, None, Some, is_some, not, if◌then◌else◌}
use Rattle.op_table.specs.declared.kinds.Kind.{Kind}
use Rattle.op_table.specs.declared.kinds.Kind.TheVariants as kind
use Rattle.op_table.specs.declared.op.Op.{Op}
use Rattle.op_table.specs.Table.{kind_of}
use Rattle.mb_lex.specs.declared.token.LexFault.{LexFault}
use Rattle.mb_lex.specs.Lexemes.{Placed, lex}
use Rattle.mb_lex.specs.Lines.{first_fault, first_good}
use Rattle.asm_layout.specs.declared.piece.Alignment.{Alignment}
use Rattle.asm_layout.specs.declared.piece.Alignment.TheVariants.{Eight, Sixteen}
use Rattle.asm_source.specs.declared.fault.Fault.{Fault}
use Rattle.asm_source.specs.declared.fault.Rule.{Rule}
use Rattle.asm_source.specs.declared.fault.Rule.TheVariants.{BadLiteral, BadCharacter, TooMuch}
use Rattle.asm_source.specs.declared.item.Item.{Item}
use Rattle.asm_source.specs.declared.item.Item.TheVariants as item
use Rattle.asm_source.specs.declared.item.Written.{Written}
use Rattle.asm_source.specs.Faults.{least_after}
use Rattle.asm_statement.specs.declared.operands.Note.{Note}
use Rattle.asm_statement.specs.declared.values.Head.{Head}
use Rattle.asm_statement.specs.Labels.{Labels}
use Rattle.asm_statement.specs.Statements.{Told, statement}
use Rattle.asm_statement.specs.Values.{at_head}
use Rattle.asm_reading.specs.declared.reading.Reading.{Reading}
use Rattle.asm_reading.specs.Lines.{lines_of}
use Rattle.asm_reading.specs.Tables.{labels_in}
use Rattle.asm_reading.specs.Marks.{all_defined, all_name_faults, behind_names, column_of, fault_at, names_before}

-- the labels, each by the number of the item that it stands before; the item before which the program begins; and whether the next
-- instruction directly follows a written `imm`
pub record Read : Type 0 where
  pub items : List Written
  pub labels : Labels
  pub first : Option Fault
  pub entry : Option ℕ
  pub after_imm : Bool

abbrev pub read_of : Reading → Read
read_of r = record { items = r.items.items; labels = labels_in r.marked.labels; first = r.marked.first; entry = r.entry; after_imm = r.after_imm }

-- ---- directly after a written `imm`

abbrev pub is_prefix : Kind → Bool
is_prefix kind.Prefix = true
is_prefix k = false

unfoldable pub is_imm : Op → Bool
is_imm name = is_prefix (kind_of name)

-- an alignment that pads nothing behind a word
abbrev pub is_narrow : Alignment → Bool
is_narrow Eight = false
is_narrow Sixteen = false
is_narrow a = true

-- whether what follows an item directly follows a written `imm`: no bytes stand between
abbrev pub after_item : Bool → Item → Bool
after_item after (item.Instruction i value after_imm) = is_imm i.op
after_item after (item.Space count) = after && count == 0
after_item after (item.Aligned alignment) = after && is_narrow alignment
after_item after i = false

-- ---- the faults of a line

abbrev pub lex_rule : ℕ → Rule
lex_rule code = if code == 1109 then BadLiteral else if code == 1110 then BadCharacter else TooMuch

abbrev pub lex_faults : ℕ → Option LexFault → List Fault
lex_faults number None = []
lex_faults number (Some f) = record { line = number; column = f.column; rule = lex_rule f.code } ∷ []

abbrev pub note_faults : ℕ → Option Note → List Fault
note_faults number None = []
note_faults number (Some note) = fault_at number note.place note.rule ∷ []

-- ---- a line

abbrev pub head_of : ℕ → List Placed → Head
head_of number [] = record { line = number; column = 1 }
head_of number (x ∷ xs) = record { line = number; column = column_of x.place }

abbrev pub later : Option ℕ → Option ℕ → Option ℕ
later (Some k) other = Some k
later None other = other

-- a line by its tokens, its first fault and what its statement asks for
abbrev pub line_with : ℕ → List Placed → Option LexFault → Told → Read → Read
line_with number xs fault told r = record {
  items = r.items ++ map (at_head (head_of number (behind_names xs))) told.items;
  labels = all_defined r.labels (length r.items) (names_before xs);
  first = least_after r.first (lex_faults number fault ++ all_name_faults r.labels number (length r.items) (names_before xs) ++ note_faults number told.rest.fault);
  entry = later told.rest.entry r.entry;
  after_imm = fold after_item r.after_imm told.items;
}

abbrev pub line_by : Labels → ℕ → List Placed → Option LexFault → Read → Read
line_by labels number xs fault r = line_with number xs fault (statement labels r.after_imm (not (is_some fault)) (behind_names xs)) r

-- the line of this number; its tokens are those before its first fault
unfoldable pub line_read : Labels → ℕ → List ℕ → Read → Read
line_read labels number line r = line_by labels number (first_good 40 (lex 0 0 line)) (first_fault 40 (lex 0 0 line)) r

unfoldable pub lines_read : Labels → ℕ → List (List ℕ) → Read → Read
lines_read labels number [] r = r
lines_read labels number (line ∷ lines) r = lines_read labels (number + 1) lines (line_read labels number line r)

-- ---- a source

abbrev pub nothing_read : Read
nothing_read = record { items = []; labels = λ name. None; first = None; entry = None; after_imm = false }

-- the labels of a source: each stands before the item that comes next, whatever the labels of values are
unfoldable pub labels_of : List ℕ → Labels
labels_of source = (lines_read (λ name. Some 0) 1 (lines_of source) nothing_read).labels

-- what is read of a source, by its labels
unfoldable pub source_read : List ℕ → Read
source_read source = lines_read (labels_of source) 1 (lines_of source) nothing_read
