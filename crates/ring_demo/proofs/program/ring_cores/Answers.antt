use Rattle.std.proofs.Common.{◌∙◌}
use Rattle.std.proofs.lemmas.Bool.{cond-true}
use Rattle.ring_demo.proofs.Rings.{new_more, views_more}
use Rattle.ring_demo.proofs.program.ring_cores.Goals as goal

pub loop-core-preserved : goal.loop-core-preserved
loop-core-preserved c =
    let pushed = c.push.ensures.items ∙ cond-true _ _ _ c.if-is_err.ensures.negation in
    record {
      views = views_more c.args.number c.loop-core.core c.loop-core.cores.items c.push.new.self.items c.in_ok-made.made pushed c.loop-core.invariant.views c.in_ok-made.ensures.view;
      new = new_more c.loop-core.core c.loop-core.cores.items c.push.new.self.items c.in_ok-made.made pushed c.loop-core.invariant.new c.in_ok-made.ensures.new;
    }
