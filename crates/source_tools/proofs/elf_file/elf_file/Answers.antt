use Rattle.source_tools.proofs.Sizes.{small_parts}
use Rattle.source_tools.proofs.elf_file.elf_file.Goals as goal

pub write_elf-requires-clause-small : goal.write_elf-requires-clause-small
write_elf-requires-clause-small c = small_parts c.args.image.now.parts c.requires.plain c.requires.bytes
