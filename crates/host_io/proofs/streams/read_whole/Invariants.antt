use Rattle.std.proofs.Common.{◌≡◌, ◌+◌, ◌-◌, ◌≤◌, length}
use Rattle.std.specs.Io.KnownBytes.{Consumes}
use Rattle.host_io.proofs.streams.read_whole.Given as goal

-- what was read is gone from the source, and no fault came
abbrev pub invariant-loop-chunk : goal.invariant-loop-chunk
invariant-loop-chunk g l =
    Consumes (g.S.Source.state l.initial.source).left (g.S.Source.state l.source).left l.bytes.items
    × ((g.S.Source.state l.source).faults ≡ (g.S.Source.state l.initial.source).faults)
    × (length l.bytes.items ≤ l.limit + 1)

abbrev pub decreases-loop-chunk : goal.decreases-loop-chunk
decreases-loop-chunk g l = l.limit + 1 - length l.bytes.items
