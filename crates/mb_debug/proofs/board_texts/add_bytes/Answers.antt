use Rattle.mb_debug.specs.Prints.{mem_byte}
use Rattle.mb_debug.proofs.Ranges.{range_more}
use Rattle.mb_debug.proofs.board_texts.add_bytes.Goals as goal

pub loop-k-preserved : goal.loop-k-preserved
loop-k-preserved g c =
    range_more _ c.loop-k.text.items (mem_byte (g.C.Core.state c.args.core.now).view.memory c.args.addr c.args.count) c.loop-k.k c.args.count c.add_byte.new.text.items
    c.loop-k-test.true c.in_ok-add_byte.ensures c.loop-k.invariant
