use Rattle.std.proofs.Common.{◌≡◌, drop}
use Rattle.std.specs.List.{find}
use Rattle.std.specs.Str.{bytes_eq}
use Rattle.elf_image.specs.declared.symbol.Symbol.{Symbol}
use Rattle.debug_script.proofs.line.value_named.Given as goal

abbrev pub invariant-loop-symbol : goal.invariant-loop-symbol
invariant-loop-symbol l =
    find (λ (s : Symbol). bytes_eq s.name l.word) l.symbols ≡ find (λ (s : Symbol). bytes_eq s.name l.word) (drop l.symbol-index l.symbols)
