use Rattle.quiet_cycles.specs.Quiet.{QuietRun}
use Rattle.board_run.proofs.board.Board.run_quietly.Given as goal

abbrev pub invariant-loop-number : goal.invariant-loop-number
invariant-loop-number g l = QuietRun l.limit l.quiet l.in_step l.fn.self l.self l.number
