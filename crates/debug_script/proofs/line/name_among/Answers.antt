use Rattle.std.proofs.Common.{◌∙◌, ap, Some, sym}
use Rattle.debug_script.proofs.Finding.{find_end, find_here, find_past}
use Rattle.debug_script.proofs.line.name_among.Goals as goal

pub returns-then-is_word : goal.returns-then-is_word
returns-then-is_word c =
    ap Some c.copied.ensures
    ∙ find_here _ _ _ _ _ c.loop-name-test.true c.name-item.is (sym c.is_word.ensures ∙ c.if-is_word.true) c.loop-name.invariant

pub loop-name-preserved : goal.loop-name-preserved
loop-name-preserved c = find_past _ _ _ _ _ c.loop-name-test.true c.name-item.is (sym c.is_word.ensures ∙ c.if-is_word.false) c.loop-name.invariant

pub returns : goal.returns
returns c = find_end _ _ _ _ c.loop-name-test.false c.loop-name.invariant
