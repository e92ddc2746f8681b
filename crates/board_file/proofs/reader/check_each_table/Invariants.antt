use Rattle.std.proofs.Common.{◌≡◌, flat_map, take}
use Rattle.toml.specs.View.{table_view}
use Rattle.board_file.specs.Faults.{least_after}
use Rattle.board_file.specs.Rules.{table_faults}
use Rattle.board_file.proofs.reader.check_each_table.Given as goal

abbrev pub invariant-loop-table : goal.invariant-loop-table
invariant-loop-table l = l.best ≡ least_after l.initial.best (flat_map (table_faults (table_view l.root)) (take l.table-index l.tables))
