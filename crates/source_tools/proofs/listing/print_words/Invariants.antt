use Rattle.std.proofs.Common.{◌/◌, Ok, flat_map, length, take}
use Rattle.std.specs.List.{range_with_len}
use Rattle.host_io.specs.Outside.{Adds}
use Rattle.source_tools.specs.Listing.{line_at}
use Rattle.source_tools.proofs.listing.print_words.Given as goal

-- the lines so far were added
abbrev pub invariant-loop-k : goal.invariant-loop-k
invariant-loop-k g l =
    Adds (g.O.Sink.state l.fn.out) (g.O.Sink.state l.out) (flat_map (line_at l.order l.address l.bytes) (take l.k (range_with_len 0 (length l.bytes / 4)))) (Ok tt)
