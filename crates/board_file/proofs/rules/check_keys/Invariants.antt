use Rattle.std.proofs.Common.{◌≡◌, flat_map, take}
use Rattle.toml.specs.View.{table_view}
use Rattle.board_file.specs.Faults.{least_after}
use Rattle.board_file.specs.Rules.{key_faults}
use Rattle.board_file.proofs.rules.check_keys.Given as goal

abbrev pub invariant-loop-rule : goal.invariant-loop-rule
invariant-loop-rule l = l.best ≡ least_after l.initial.best (flat_map (key_faults (table_view l.root) l.before (table_view l.members)) (take l.rule-index l.rules))
