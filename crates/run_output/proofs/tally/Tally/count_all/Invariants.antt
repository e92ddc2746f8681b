use Rattle.std.proofs.Common.{take}
use Rattle.run_output.specs.Tally.{IsTally}
use Rattle.run_output.proofs.Tallying.{SameSizes}
use Rattle.run_output.proofs.tally.Tally.count_all.Given as goal

abbrev pub invariant-loop-k : goal.invariant-loop-k
invariant-loop-k l =
    record {
      sizes : SameSizes l.self l.fn.self;
      told : IsTally l.self (take l.k l.entries);
    }
