use Rattle.mb_sim.proofs.Demos.{demo_counts}
use Rattle.mb_sim.proofs.ring.show_ring.Goals as goal

pub returns-clause-shown : goal.returns-clause-shown
returns-clause-shown g c = record { result = c.demo-shown.result; shows = c.demo-shown.ensures.shows; is = c.status_of_demo.ensures }

pub returns-clause-writes : goal.returns-clause-writes
returns-clause-writes g c =
    demo_counts c.args.number (g.O.Sink.state c.args.out.now) (g.O.Sink.state c.demo-shown.new.out) c.status_of_demo.result c.demo-shown.result c.demo-shown.ensures.shows c.status_of_demo.ensures
