use Rattle.std.proofs.Common.{◌≡◌, ◌++◌, length}
use Rattle.link_file.specs.File.{items_of}
use Rattle.link_file.proofs.file.read_items.Given as goal

abbrev pub invariant-loop-left : goal.invariant-loop-left
invariant-loop-left l = l.items.items ++ items_of l.left ≡ items_of l.bytes

abbrev pub decreases-loop-left : goal.decreases-loop-left
decreases-loop-left l = length l.left
