use Rattle.elf_image.proofs.WrittenLoads.{file_length}
use Rattle.elf_image.proofs.writing.files_are_as_long_as_their_parts.Goals as goal

pub returns : goal.returns
returns c = file_length
