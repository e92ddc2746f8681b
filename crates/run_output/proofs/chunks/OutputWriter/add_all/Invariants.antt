use Rattle.std.proofs.Common.{ℕ, List, ◌++◌, flat_map, take}
use Rattle.host_io.specs.Outside.{ShelfState}
use Rattle.piece_output.specs.Stored.{IsWriting}
use Rattle.run_output.proofs.chunks.OutputWriter.add_all.Given as goal

abbrev pub invariant-loop-k : goal.invariant-loop-k
invariant-loop-k g l = (before : ShelfState) (done : List ℕ) → IsWriting before (g.S.Shelf.state l.fn.shelf) l.name l.fn.self done
    → IsWriting before (g.S.Shelf.state l.shelf) l.name l.self (done ++ flat_map (g.P.FileContent.bytes l.pieces) (take l.k l.entries))
