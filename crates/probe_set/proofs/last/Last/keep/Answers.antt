use Rattle.std.proofs.Common.{◌≡◌, ◌∙◌, ap}
use Rattle.probe_set.specs.Folds.{kept_with}
use Rattle.probe_set.proofs.Windows.{kept_full}
use Rattle.probe_set.proofs.last.Last.keep.Goals as goal

pub returns-else-self-lt-KEPT : goal.returns-else-self-lt-KEPT
returns-else-self-lt-KEPT c =
    kept_full c.self.inside.entries c.rotate_left.new.self c.args.e c.self.inside.len c.self.invariant.0 c.if-self-lt-KEPT.false c.self.invariant.1 c.rotate_left.ensures.after
    ∙ ap (kept_with c.args.e) c.self.view_is
