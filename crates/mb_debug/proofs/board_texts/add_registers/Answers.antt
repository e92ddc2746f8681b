use Rattle.std.proofs.Common.{◌*◌, ◌++◌, ap, ◌∙◌}
use Rattle.mb_debug.specs.Prints.{registers_line}
use Rattle.mb_debug.proofs.Ranges.{range_more}
use Rattle.mb_debug.proofs.board_texts.add_registers.Goals as goal

pub loop-k-preserved : goal.loop-k-preserved
loop-k-preserved c =
    range_more _ c.loop-k.text.items (λ k. registers_line c.args.a.now (4 * k)) c.loop-k.k 8 c.add.new.text.items c.loop-k-test.true
    (c.in_ok-add.ensures ∙ ap (λ t. c.loop-k.text.items ++ t) (c.as_bytes.ensures.bytes ∙ c.registers_line.ensures)) c.loop-k.invariant
