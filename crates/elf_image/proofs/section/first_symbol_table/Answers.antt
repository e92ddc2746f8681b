use Rattle.std.proofs.Common.{◌∙◌, sym}
use Rattle.elf_image.proofs.SymbolLoops.{no_table, table_here, table_past}
use Rattle.elf_image.proofs.section.first_symbol_table.Goals as goal

pub returns-then-is_symbol_table : goal.returns-then-is_symbol_table
returns-then-is_symbol_table c = table_here _ _ _ _ _ c.loop-k-test.true c.section-header.ensures (sym c.is_symbol_table.ensures ∙ c.if-is_symbol_table.true) c.loop-k.invariant

pub loop-k-preserved : goal.loop-k-preserved
loop-k-preserved c = table_past _ _ _ _ _ c.loop-k-test.true c.section-header.ensures (sym c.is_symbol_table.ensures ∙ c.if-is_symbol_table.false) c.loop-k.invariant

pub returns : goal.returns
returns c = no_table _ _ _ _ c.loop-k-test.false c.loop-k.invariant
