use Rattle.ring_demo.proofs.Shown.{printed, shown}
use Rattle.ring_demo.proofs.show.demo.Goals as goal

pub returns-in-Some-clause-shows : goal.returns-in-Some-clause-shows
returns-in-Some-clause-shows g c = shown c.args.number c.in-Some.runs (g.O.Sink.state c.args.out.now) (g.O.Sink.state c.print.new.out) c.print.result c.in-Some.ensures c.print.ensures

pub returns-in-Some-clause-complete : goal.returns-in-Some-clause-complete
returns-in-Some-clause-complete g c quiet = printed c.args.number c.in-Some.runs (g.O.Sink.state c.args.out.now) (g.O.Sink.state c.print.new.out) c.print.result c.print.ensures quiet
