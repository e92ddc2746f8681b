use Rattle.run_output.proofs.Tallying.{ReachesFirst}
use Rattle.run_output.proofs.tally.places.Given as goal

abbrev pub invariant-loop-k : goal.invariant-loop-k
invariant-loop-k l = ReachesFirst l.places l.rows l.k
