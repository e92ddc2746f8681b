use Rattle.std.proofs.Common.{◌≡◌, flat_map, take}
use Rattle.toml.specs.View.{table_view}
use Rattle.board_file.specs.Bus.{below_faults}
use Rattle.board_file.specs.Faults.{least_after}
use Rattle.board_file.proofs.bus.check_bases.Given as goal

abbrev pub invariant-loop-claim : goal.invariant-loop-claim
invariant-loop-claim l = l.best ≡ least_after l.initial.best (flat_map (below_faults (table_view l.root)) (take l.claim-index l.bases))
