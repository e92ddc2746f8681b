use Rattle.std.proofs.Common.{◌≡◌, ◌%◌, ◌^◌}
use Rattle.alu_units.proofs.StagesLemmas.{moved}
use Rattle.alu_units.proofs.shifts.barrel.Given as goal

abbrev pub invariant-loop-bit : goal.invariant-loop-bit
invariant-loop-bit l = l.value ≡ moved l.k l.a (l.n % 2 ^ l.bit)
