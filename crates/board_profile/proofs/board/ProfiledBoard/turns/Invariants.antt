use Rattle.board_profile.proofs.Counting.{AreTurns}
use Rattle.board_profile.proofs.board.ProfiledBoard.turns.Given as goal

abbrev pub invariant-loop-k : goal.invariant-loop-k
invariant-loop-k g l = AreTurns l.fn.self l.k l.self
