use Rattle.std.proofs.Common.{◌≤◌, take}
use Rattle.ring_demo.specs.Summary.{IsTally}
use Rattle.ring_demo.proofs.tally.tally_of.Given as goal

abbrev pub invariant-loop-k : goal.invariant-loop-k
invariant-loop-k l =
    record {
      told : IsTally l.tally (take l.k l.journal.entries);
      few : l.tally.items ≤ l.k;
    }
