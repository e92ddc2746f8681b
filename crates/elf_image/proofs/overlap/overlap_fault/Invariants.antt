use Rattle.std.proofs.Common.{◌≡◌, [], drop, nat_cmp, take}
use Rattle.std.specs.BTreeMap.{get}
use Rattle.elf_image.specs.Ranges.{Keeps}
use Rattle.elf_image.specs.Tests.{first_failing, overlap_tests}
use Rattle.elf_image.proofs.overlap.overlap_fault.Given as goal

-- the ranges so far are kept, and those that are left decide
abbrev pub invariant-loop-header : goal.invariant-loop-header
invariant-loop-header l =
    Keeps (take l.header-index l.loads) (get nat_cmp l.ranges.ends)
    × (first_failing (overlap_tests (take l.header-index l.loads) (drop l.header-index l.loads)) ≡ first_failing (overlap_tests [] l.loads))
