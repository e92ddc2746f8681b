use Rattle.mb_debug.specs.Prints.{core_at}
use Rattle.mb_debug.proofs.Ranges.{range_end, range_more}
use Rattle.mb_debug.proofs.board_texts.add_cores.Goals as goal

pub loop-k-preserved : goal.loop-k-preserved
loop-k-preserved g c = (
  c.loop-k.invariant.0,
  range_more _ c.loop-k.text.items (core_at c.args.names.now c.args.board.now) c.loop-k.k _ c.add_core.new.text.items
      c.loop-k-test.true c.in_ok-add_core.ensures c.loop-k.invariant.1,
)

pub returns : goal.returns
returns g c = range_end _ c.loop-k.text.items (core_at c.args.names.now c.args.board.now) c.loop-k.k _ c.loop-k-test.false c.loop-k.invariant.1
