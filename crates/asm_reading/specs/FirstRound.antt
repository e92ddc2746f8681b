-- All faults of the first round, line by line.
use Rattle.std.specs.Prelude.{ℕ, ◌+◌, List, [], ◌∷◌, ◌++◌, length, Option, is_some, not}
use Rattle.mb_lex.specs.declared.token.LexFault.{LexFault}
use Rattle.mb_lex.specs.Lexemes.{Placed, lex}
use Rattle.mb_lex.specs.Lines.{first_fault, first_good}
use Rattle.asm_source.specs.declared.fault.Fault.{Fault}
use Rattle.asm_statement.specs.Labels.{Labels}
use Rattle.asm_statement.specs.Statements.{statement}
use Rattle.asm_reading.specs.Lines.{lines_of}
use Rattle.asm_reading.specs.Marks.{all_name_faults, behind_names, names_before}
use Rattle.asm_reading.specs.Reading.{Read, labels_of, lex_faults, line_read, note_faults, nothing_read}

-- those of a line: its first bad token, its labels, and the first of its statement
abbrev pub faults_by : Labels → ℕ → List Placed → Option LexFault → Read → List Fault
faults_by labels number xs fault r =
    lex_faults number fault
    ++ all_name_faults r.labels number (length r.items) (names_before xs)
    ++ note_faults number (statement labels r.after_imm (not (is_some fault)) (behind_names xs)).rest.fault

unfoldable pub line_faults : Labels → ℕ → List ℕ → Read → List Fault
line_faults labels number line r = faults_by labels number (first_good 40 (lex 0 0 line)) (first_fault 40 (lex 0 0 line)) r

unfoldable pub faults_from : Labels → ℕ → List (List ℕ) → Read → List Fault
faults_from labels number [] r = []
faults_from labels number (line ∷ lines) r = line_faults labels number line r ++ faults_from labels (number + 1) lines (line_read labels number line r)

unfoldable pub first_faults : List ℕ → List Fault
first_faults source = faults_from (labels_of source) 1 (lines_of source) nothing_read
