use Rattle.std.proofs.Common.{◌≡◌, ◌-◌, drop, length}
use Rattle.run_output.specs.Threads.{through}
use Rattle.run_output.proofs.threads.Threads.lay.Given as goal

abbrev pub invariant-loop-count : goal.invariant-loop-count
invariant-loop-count l =
    record {
      few : length l.self.next ≡ l.count;
      room : l.self.room ≡ l.fn.self.room;
      threads : l.self ≡ through l.fn.self (drop (length l.entries - l.count) l.entries);
    }
