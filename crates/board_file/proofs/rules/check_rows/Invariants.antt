use Rattle.std.proofs.Common.{◌≡◌}
use Rattle.toml.specs.View.{members_view, table_view}
use Rattle.board_file.specs.Faults.{least_after}
use Rattle.board_file.specs.Rules.{each_row}
use Rattle.board_file.proofs.rules.check_rows.Given as goal

-- the faults that are left, after those that were found
abbrev pub invariant-members : goal.invariant-members
invariant-members l =
    least_after l.best (each_row l.network (table_view l.root) l.rows (members_view l.name-iterator))
    ≡ least_after l.initial.best (each_row l.network (table_view l.root) l.rows (members_view l.members.entries))
