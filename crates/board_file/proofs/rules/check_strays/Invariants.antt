use Rattle.std.proofs.Common.{◌≡◌}
use Rattle.toml.specs.View.{members_view}
use Rattle.board_file.specs.Faults.{least_after}
use Rattle.board_file.specs.Rules.{stray_faults}
use Rattle.board_file.proofs.rules.check_strays.Given as goal

-- the faults that are left, after those that were found
abbrev pub invariant-members : goal.invariant-members
invariant-members l =
    least_after l.best (stray_faults l.before l.rules (members_view l.text-iterator))
    ≡ least_after l.initial.best (stray_faults l.before l.rules (members_view l.members.entries))
