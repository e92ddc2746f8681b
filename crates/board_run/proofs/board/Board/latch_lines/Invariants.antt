use Rattle.std.proofs.Common.{◌≡◌, ◌+◌, ◌≤◌, length}
use Rattle.board_run.proofs.Latching.{lines_latched}
use Rattle.board_run.proofs.board.Board.latch_lines.Given as goal

abbrev pub invariant-loop-core : goal.invariant-loop-core
invariant-loop-core g l = record {
  latched : l.self ≡ lines_latched l.core l.fn.self;
  spare : length l.fn.self.cores ≤ l.self.fabric.spare + l.core;
}
