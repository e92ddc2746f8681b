use Rattle.std.proofs.Common.{◌≡◌, ◌+◌, ◌^◌, ◌<◌, ◌++◌, drop, length}
use Rattle.std.specs.Prelude.{flat_map}
use Rattle.elf_image.specs.declared.image.Part.{Part}
use Rattle.elf_image.specs.Written.{loads_of, spelled}
use Rattle.elf_image.proofs.writing.put_loads.Given as goal

abbrev pub invariant-loop-part : goal.invariant-loop-part
invariant-loop-part l = record {
  fits : l.at + length (flat_map (λ (p : Part). p.bytes) (drop l.part-index l.parts)) < 2 ^ 32;
  written : l.file.items ++ spelled l.order (loads_of l.at (drop l.part-index l.parts)) ≡ l.initial.file.items ++ spelled l.order (loads_of l.place l.parts);
}
