use Rattle.quiet_cycles.specs.Quiet.{TurnsQuiet}
use Rattle.board_run.proofs.board.Board.turns_by_schedule.Given as goal

abbrev pub invariant-loop-k : goal.invariant-loop-k
invariant-loop-k g l = TurnsQuiet l.fn.self l.k l.acted l.self
