use Rattle.std.proofs.Common.{◌≡◌, map}
use Rattle.std.specs.List.{range_with_len}
use Rattle.ring_demo.specs.Ring.{ring_core}
use Rattle.ring_demo.proofs.ring.core_rows.Given as goal

abbrev pub invariant-loop-core : goal.invariant-loop-core
invariant-loop-core l = l.rows.items ≡ map ring_core (range_with_len 0 l.core)
