use Rattle.std.proofs.Common.{◌≡◌, ◌+◌, length}
use Rattle.link_file.specs.File.{fault_from}
use Rattle.link_file.proofs.file.fault_in.Given as goal

abbrev pub invariant-loop-left : goal.invariant-loop-left
invariant-loop-left l = (fault_from l.at l.left ≡ fault_from 0 l.bytes) × (l.at + length l.left ≡ length l.bytes)

abbrev pub decreases-loop-left : goal.decreases-loop-left
decreases-loop-left l = length l.left
