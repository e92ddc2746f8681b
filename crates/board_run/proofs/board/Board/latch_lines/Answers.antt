use Rattle.std.proofs.Common.{arith}
use Rattle.board_run.proofs.Latching.{latch_more, latch_room}
use Rattle.board_run.proofs.board.Board.latch_lines.Goals as goal

pub loop-core-preserved : goal.loop-core-preserved
loop-core-preserved g c = record {
  latched = latch_more c.args.self.now c.loop-core.self c.latch.new.self c.loop-core.core c.loop-core.invariant.latched c.latch.ensures;
  spare = omega (arith, c.loop-core.invariant.spare, latch_room c.loop-core.self c.latch.new.self c.loop-core.core c.latch.ensures);
}
