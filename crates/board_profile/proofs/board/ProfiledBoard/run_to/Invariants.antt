use Rattle.std.proofs.Common.{◌≡◌}
use Rattle.board_profile.proofs.Counting.{Cycled}
use Rattle.board_profile.proofs.board.ProfiledBoard.run_to.Given as goal

abbrev pub invariant-loop-number : goal.invariant-loop-number
invariant-loop-number g l = record {
  cycled : Cycled l.limit l.fn.self l.self;
  number : l.number ≡ l.self.world.fabric.cycle;
}
