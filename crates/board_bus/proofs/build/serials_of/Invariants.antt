use Rattle.std.proofs.Common.{◌≡◌, ◌++◌, drop}
use Rattle.board_machine.specs.World.{serials_of}
use Rattle.board_bus.proofs.build.serials_of.Given as goal

abbrev pub invariant-loop-row : goal.invariant-loop-row
invariant-loop-row l = serials_of l.rows l.blobs ≡ l.serials.items ++ serials_of (drop l.row-index l.rows) l.left
