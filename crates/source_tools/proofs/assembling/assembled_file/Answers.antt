use Rattle.source_tools.proofs.Sizes.{assembled_few}
use Rattle.source_tools.proofs.assembling.assembled_file.Goals as goal

pub elf_file-requires-clause-few : goal.elf_file-requires-clause-few
elf_file-requires-clause-few g c = (assembled_few c.args.order c.as_slice.result.now c.assemble.result c.in-Ok.assembled c.assemble.ensures c.in-Ok.is).few

pub elf_file-requires-clause-bytes : goal.elf_file-requires-clause-bytes
elf_file-requires-clause-bytes g c = (assembled_few c.args.order c.as_slice.result.now c.assemble.result c.in-Ok.assembled c.assemble.ensures c.in-Ok.is).bytes
