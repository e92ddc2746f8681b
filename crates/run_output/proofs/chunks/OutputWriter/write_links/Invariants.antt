use Rattle.std.proofs.Common.{flat_map, take, Ok}
use Rattle.std.specs.List.{enumerate_from}
use Rattle.run_output.specs.Outputs.{WroteAll, output_of_link}
use Rattle.run_output.proofs.chunks.OutputWriter.write_links.Given as goal

abbrev pub invariant-loop-k : goal.invariant-loop-k
invariant-loop-k g l =
    WroteAll (g.S.Shelf.state l.fn.shelf) (g.S.Shelf.state l.shelf) (flat_map (output_of_link l.entries) (take l.k (enumerate_from 0 l.rows))) (Ok tt)
