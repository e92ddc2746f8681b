use Rattle.debug_script.proofs.Splits.{IsPast}
use Rattle.debug_script.proofs.parts.cut.Given as goal

abbrev pub invariant-loop-k : goal.invariant-loop-k
invariant-loop-k l = IsPast l.separator l.text l.k
