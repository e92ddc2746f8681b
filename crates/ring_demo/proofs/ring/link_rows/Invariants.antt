use Rattle.std.proofs.Common.{◌≡◌, map}
use Rattle.std.specs.List.{range_with_len}
use Rattle.ring_demo.specs.Ring.{ring_link}
use Rattle.ring_demo.proofs.ring.link_rows.Given as goal

abbrev pub invariant-loop-core : goal.invariant-loop-core
invariant-loop-core l = l.rows.items ≡ map (ring_link l.fn.cores) (range_with_len 0 l.core)
