-- What clap's faults and matches are, for a command without required arguments whose defaults aren't refused.
use Rattle.std.proofs.Common.{◌≡◌, ◌∙◌, ap, subst, sym, true, List, [], None, false, drop, fold}
use Rattle.clap.specs.Faults.{check_fault, fault_of, level_fault}
use Rattle.clap.specs.Kinds.{or_else}
use Rattle.clap.specs.Simple.{App, Shape}
use Rattle.clap.specs.Walk.{Row, Text, idle, nothing_held, with_default}
use Rattle.clap.specs.Words.{matches_of}
use Rattle.command_line.proofs.Rows.{read}
use Rattle.command_line.proofs.Turns.{at}
use Rattle.command_line.proofs.Walks.{Agrees, IsTable, Places, end_rows, finished_none, keeps_quiet, level_is, no_defaults, or_else-nil, total, walk_reads}

-- the rows that the words after a command give, before defaults
abbrev pub rows_in : Shape → List Text → List Row
rows_in top words = end_rows top (at [] None idle 1 false) (drop 1 words)

-- a command with these options, flags and places, none of them required
pub record IsPlainApp (app : App) (top : Shape) (options flags places : List Text) : Type 0 where
  pub table : IsTable options flags top
  pub stands : Places top 1 places
  pub defaults : keeps_quiet top.rules ≡ true
  pub free : (rows : List Row) → check_fault top rows false ≡ []
  pub level : (words : List Text) → fault_of app words ≡ level_fault top [] nothing_held (drop 1 words) false []
  pub rows : (words : List Text) → matches_of app words ≡ fold with_default (rows_in top words) top.rules

pub law : (app : App) (top : Shape) (options flags places : List Text) → IsPlainApp app top options flags places → (words : List Text)
    → Agrees (fault_of app words) (rows_in top words) (read options flags [] places None false (drop 1 words))
law app top options flags places p words =
    let rest = drop 1 words in
    let start = at [] None idle 1 false in
    let rows = rows_in top words in
    let fault : fault_of app words ≡ total top start rest =
    p.level words ∙ level_is top p.table.over p.defaults rest ∙ ap (λ ks. or_else (total top start rest) ks) (p.free (fold with_default rows top.rules)) ∙ or_else-nil (total top start rest) in
    subst (λ ks. Agrees ks rows (read options flags [] places None false rest)) (sym fault) (walk_reads options flags top places p.table p.stands rest)

-- where no argument has a default, the matches are those rows
pub no_default_rows : (app : App) (top : Shape) (options flags places : List Text) → IsPlainApp app top options flags places → no_defaults top.rules ≡ true → (words : List Text)
    → rows_in top words ≡ matches_of app words
no_default_rows app top options flags places p none words = sym (p.rows words ∙ finished_none top.rules (rows_in top words) none)
