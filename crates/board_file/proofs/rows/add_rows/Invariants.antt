use Rattle.std.proofs.Common.{◌≡◌, ◌++◌}
use Rattle.toml.specs.View.{members_view}
use Rattle.board_file.specs.Rows.{rows_by}
use Rattle.board_file.proofs.rows.add_rows.Given as goal

-- the rows so far, and those that are left
abbrev pub invariant-members : goal.invariant-members
invariant-members g l =
    l.rows.items ++ rows_by (g.R.Row.meaning l.cores) (members_view l.name-iterator)
    ≡ l.initial.rows.items ++ rows_by (g.R.Row.meaning l.cores) (members_view l.members.entries)
