use Rattle.std.proofs.Common.{◌∙◌, ap, option_map, sym}
use Rattle.elf_image.specs.declared.symbol.Symbol.{Symbol}
use Rattle.debug_script.proofs.Finding.{find_end, find_here, find_past}
use Rattle.debug_script.proofs.line.value_named.Goals as goal

pub returns-then-has_name : goal.returns-then-has_name
returns-then-has_name c =
    ap (option_map (λ (s : Symbol). s.value))
    (find_here _ _ _ _ _ c.loop-symbol-test.true c.symbol-item.is (sym c.has_name.ensures ∙ c.if-has_name.true) c.loop-symbol.invariant)

pub loop-symbol-preserved : goal.loop-symbol-preserved
loop-symbol-preserved c = find_past _ _ _ _ _ c.loop-symbol-test.true c.symbol-item.is (sym c.has_name.ensures ∙ c.if-has_name.false) c.loop-symbol.invariant

pub returns : goal.returns
returns c = ap (option_map (λ (s : Symbol). s.value)) (find_end _ _ _ _ c.loop-symbol-test.false c.loop-symbol.invariant)
