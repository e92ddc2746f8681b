use Rattle.std.proofs.Common.{◌≡◌, ◌++◌, drop}
use Rattle.elf_image.specs.Written.{spelled}
use Rattle.elf_image.proofs.writing.put_fields.Given as goal

abbrev pub invariant-loop-field : goal.invariant-loop-field
invariant-loop-field l = l.file.items ++ spelled l.order (drop l.field-index l.fields) ≡ l.initial.file.items ++ spelled l.order l.fields
