use Rattle.std.proofs.Common.{Ok, flat_map, take}
use Rattle.host_io.specs.Outside.{Adds}
use Rattle.source_tools.specs.Listing.{part_lines}
use Rattle.source_tools.proofs.listing.print_image.Given as goal

-- the lines of the parts so far were added
abbrev pub invariant-loop-k : goal.invariant-loop-k
invariant-loop-k g l = Adds (g.O.Sink.state l.fn.out) (g.O.Sink.state l.out) (flat_map (part_lines l.image.order) (take l.k l.image.parts)) (Ok tt)
