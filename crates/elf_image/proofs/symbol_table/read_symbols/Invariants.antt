use Rattle.std.proofs.Common.{◌≡◌, ◌-◌, ◌++◌, option_map, length, ◌/◌}
use Rattle.elf_image.specs.Symbols.{all_of, symbols_from}
use Rattle.elf_image.proofs.symbol_table.read_symbols.Given as goal

abbrev pub invariant-loop-k : goal.invariant-loop-k
invariant-loop-k l =
    all_of (symbols_from l.order l.entries l.strings 0 (length l.entries / 16))
    ≡ option_map (λ rest. l.symbols.items ++ rest) (all_of (symbols_from l.order l.entries l.strings l.k (l.k-end - l.k)))
