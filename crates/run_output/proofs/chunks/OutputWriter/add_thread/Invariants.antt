use Rattle.std.proofs.Common.{ℕ, List, ◌++◌}
use Rattle.host_io.specs.Outside.{ShelfState}
use Rattle.piece_output.specs.Stored.{IsWriting}
use Rattle.run_output.proofs.Threading.{IsAlong}
use Rattle.run_output.proofs.chunks.OutputWriter.add_thread.Given as goal

abbrev pub decreases-loop-left : goal.decreases-loop-left
decreases-loop-left g l = l.left

abbrev pub invariant-loop-left : goal.invariant-loop-left
invariant-loop-left g l =
    IsAlong l.exit l.entries l.left (λ bytes. (before : ShelfState) (done : List ℕ) → IsWriting before (g.S.Shelf.state l.fn.shelf) l.name l.fn.self done
    → IsWriting before (g.S.Shelf.state l.shelf) l.name l.self (done ++ bytes))
