use Rattle.std.proofs.Common.{◌≡◌, ◌-◌}
use Rattle.std.specs.List.{find}
use Rattle.elf_image.specs.Symbols.{is_symbol_table, sections, sections_from}
use Rattle.elf_image.proofs.section.first_symbol_table.Given as goal

abbrev pub invariant-loop-k : goal.invariant-loop-k
invariant-loop-k l = find is_symbol_table (sections l.file) ≡ find is_symbol_table (sections_from l.file l.k (l.k-end - l.k))
