use Rattle.elf_image.proofs.Loaded.{parts_next}
use Rattle.elf_image.proofs.parts.read_parts.Goals as goal

pub loop-header-preserved : goal.loop-header-preserved
loop-header-preserved c = parts_next c.args.file.now c.args.loads.now c.loop-header.header-index _ _ _ c.loop-header-test.true c.loop-header.invariant c.in_ok-add_part.ensures
