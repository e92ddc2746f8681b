use Rattle.elf_image.proofs.ReadsBack.{reads_back}
use Rattle.elf_image.proofs.writing.written_files_read_back.Goals as goal

pub returns : goal.returns
returns c = reads_back
