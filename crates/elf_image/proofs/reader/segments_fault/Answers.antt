use Rattle.elf_image.proofs.Firsts.{first_here, none_here}
use Rattle.elf_image.specs.Tests.{segment_tests}
use Rattle.elf_image.proofs.reader.segments_fault.Goals as goal

pub returns-in-Some : goal.returns-in-Some
returns-in-Some c = first_here (segment_tests c.args.size c.args.memory) c.args.loads.now c.loop-header.header-index _ _ c.loop-header-test.true c.in-Some.ensures c.loop-header.invariant

pub loop-header-preserved : goal.loop-header-preserved
loop-header-preserved c = none_here (segment_tests c.args.size c.args.memory) c.args.loads.now c.loop-header.header-index _ c.loop-header-test.true c.in_default.ensures c.loop-header.invariant
