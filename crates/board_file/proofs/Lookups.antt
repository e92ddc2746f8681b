-- A look-up in a table, and in the tree that it is; the number of its rows.
use Rattle.std.proofs.Common.{◌≡◌, List, [], ◌∷◌, length, refl, arith}
use Rattle.toml.proofs.Views.{table_get, Entry}
use Rattle.toml.specs.View.{members_view}
use Rattle.board_file.specs.Rules.{count_members}

pub ruleset found = (table_get)

pub count_view : (es : List Entry) → count_members (members_view es) ≡ length es
count_view [] = refl
count_view (e ∷ es) = rw (count_view es) (omega arith)
