use Rattle.layout_faults.proofs.Noting.{size_next}
use Rattle.layout_faults.proofs.items.size_with.Goals as goal

pub returns : goal.returns
returns c = λ F laid before. size_next c.args.all.now F c.args.k c.args.before c.size_of.result c.saturating_add.result before (c.size_of.ensures F laid) c.saturating_add.ensures
