use Rattle.mb_debug.proofs.Breaking.{note_more}
use Rattle.mb_debug.proofs.breaks.note.Goals as goal

pub loop-k-preserved : goal.loop-k-preserved
loop-k-preserved g c = note_more c.args.board.now c.args.breaks.now c.loop-k.breaks c.loop-k.k c.acts_of.result _ c.loop-k-test.true c.loop-k.invariant c.acts_of.ensures
