use Rattle.std.proofs.Common.{map, take}
use Rattle.core_iface.specs.Plain.{plain_state}
use Rattle.board_run.specs.Boards.{AreNew}
use Rattle.mb_debug.proofs.tests.build.new_cores.Given as goal

abbrev pub invariant-loop-row : goal.invariant-loop-row
invariant-loop-row l = AreNew (take l.row-index l.rows) (map plain_state l.cores.items)
