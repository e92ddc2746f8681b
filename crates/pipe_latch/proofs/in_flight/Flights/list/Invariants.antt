use Rattle.std.proofs.Common.{◌≡◌, ◌≤◌, ◌+◌, drop}
use Rattle.arrayvec.specs.ArrayVec.{array_vec_len}
use Rattle.pipe_latch.specs.Latches.{flown}
use Rattle.pipe_latch.proofs.in_flight.Flights.list.Given as goal

abbrev pub invariant-loop-age : goal.invariant-loop-age
invariant-loop-age l = record {
  list : l.list.items ≡ flown l.age (drop l.age l.self.stages);
  room : array_vec_len l.list + l.age ≤ 5;
}

abbrev pub decreases-loop-age : goal.decreases-loop-age
decreases-loop-age l = l.age
