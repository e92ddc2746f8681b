use Rattle.std.proofs.Common.{arith}
use Rattle.byte_mem.proofs.OneWord.{byte_lane, half_lanes}
use Rattle.byte_mem.proofs.lanes.write_lanes.Goals as goal

pub returns-in-Byte : goal.returns-in-Byte
returns-in-Byte c =
    let room = rw c.in-Byte.is at c.requires in
    rw (c.in-Byte.is) (byte_lane c.args.order c.args.word.now c.args.at c.args.value (omega arith))

pub returns-in-Half : goal.returns-in-Half
returns-in-Half c =
    let room = rw c.in-Half.is at c.requires in
    rw (c.in-Half.is, c.half_bytes.ensures) (half_lanes c.args.order c.args.word.now c.args.at c.args.value (omega arith))
