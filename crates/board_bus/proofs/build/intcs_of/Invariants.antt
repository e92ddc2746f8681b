use Rattle.std.proofs.Common.{◌≡◌, map, take}
use Rattle.axi_intc.specs.Machine.{fresh}
use Rattle.board_file.specs.declared.board.IntcRow.{IntcRow}
use Rattle.board_bus.proofs.build.intcs_of.Given as goal

abbrev pub invariant-loop-row : goal.invariant-loop-row
invariant-loop-row l = l.intcs.items ≡ map (λ (r : IntcRow). fresh) (take l.row-index l.rows)
