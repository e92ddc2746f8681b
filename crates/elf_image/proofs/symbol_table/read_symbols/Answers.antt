use Rattle.std.proofs.Common.{◌∙◌, sym}
use Rattle.elf_image.proofs.SymbolLoops.{symbol_lacks, symbol_more}
use Rattle.elf_image.proofs.symbol_table.read_symbols.Goals as goal

pub returns-in-None : goal.returns-in-None
returns-in-None c = symbol_lacks _ _ _ _ _ _ _ c.loop-k-test.true (sym c.in-None.is ∙ c.in_ok-symbol.ensures) c.loop-k.invariant

pub loop-k-preserved : goal.loop-k-preserved
loop-k-preserved c =
    symbol_more _ _ _ _ _ _ _ _ _ c.loop-k-test.true (sym c.in-Some.is ∙ c.in_ok-symbol.ensures) c.in_ok-push-in-Some.ensures.items c.loop-k.invariant
