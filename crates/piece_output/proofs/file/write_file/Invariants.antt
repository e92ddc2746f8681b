use Rattle.std.proofs.Common.{length}
use Rattle.piece_output.specs.Stored.{IsWriting}
use Rattle.piece_output.proofs.file.write_file.Given as goal

-- the bytes that are left come next
abbrev pub invariant-loop-rest : goal.invariant-loop-rest
invariant-loop-rest g l = IsWriting (g.S.Shelf.state l.fn.shelf) (g.S.Shelf.state l.shelf) l.name l.rest l.bytes

abbrev pub decreases-loop-rest : goal.decreases-loop-rest
decreases-loop-rest g l = length l.rest
