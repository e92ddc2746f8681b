use Rattle.std.proofs.Common.{◌≡◌, take}
use Rattle.elf_image.specs.Elf.{parts_of}
use Rattle.elf_image.proofs.parts.read_parts.Given as goal

abbrev pub invariant-loop-header : goal.invariant-loop-header
invariant-loop-header l = l.parts.items ≡ parts_of l.file (take l.header-index l.loads)
