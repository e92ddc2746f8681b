use Rattle.std.proofs.Common.{arith}
use Rattle.byte_mem.proofs.Joined.{length_joined}
use Rattle.byte_mem.proofs.bytes.Memory.size.Goals as goal

pub returns-clause-bytes : goal.returns-clause-bytes
returns-clause-bytes c =
    let long = length_joined c.self.inside.words c.self.invariant.whole in
    rw (← c.self.view_is) (omega arith)
