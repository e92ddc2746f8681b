use Rattle.std.proofs.Common.{◌≡◌, map, take}
use Rattle.axi_timer.specs.Machine.{fresh}
use Rattle.board_file.specs.declared.board.TimerRow.{TimerRow}
use Rattle.board_bus.proofs.build.timers_of.Given as goal

abbrev pub invariant-loop-row : goal.invariant-loop-row
invariant-loop-row l = l.timers.items ≡ map (λ (r : TimerRow). fresh) (take l.row-index l.rows)
