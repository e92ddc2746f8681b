use Rattle.std.proofs.Common.{◌≡◌, ◌++◌, drop}
use Rattle.std.specs.Prelude.{flat_map}
use Rattle.elf_image.specs.declared.image.Part.{Part}
use Rattle.elf_image.proofs.writing.put_bytes.Given as goal

abbrev pub invariant-loop-part : goal.invariant-loop-part
invariant-loop-part l = l.file.items ++ flat_map (λ (p : Part). p.bytes) (drop l.part-index l.parts) ≡ l.initial.file.items ++ flat_map (λ (p : Part). p.bytes) l.parts
