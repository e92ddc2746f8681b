use Rattle.std.specs.Prelude.{map}
use Rattle.quiet_cycles.specs.Quiet.{TicksAtOnce}
use Rattle.board_run.proofs.Ticks.{seen}
use Rattle.board_run.proofs.board.ticks_at_once.Given as goal

abbrev pub invariant-loop-k : goal.invariant-loop-k
invariant-loop-k g l = TicksAtOnce (map (seen g.C.Core.state) l.fn.cores) l.k (map (seen g.C.Core.state) l.cores)
