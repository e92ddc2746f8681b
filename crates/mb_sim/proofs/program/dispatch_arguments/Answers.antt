use Rattle.mb_sim.proofs.Probes.{refused_from, script_refused_from}
use Rattle.mb_sim.proofs.program.dispatch_arguments.Goals as goal

pub returns-in-Err-texts_after_name-clause-says : goal.returns-in-Err-texts_after_name-clause-says
returns-in-Err-texts_after_name-clause-says g c = rw c.in-Ok.is (refused_from _ (g.S.Shelf.state c.args.shelf.now) (g.O.Sink.state c.args.out.now) c.refuse.result c.refuse.ensures.status)

pub returns-in-Err-texts_after_name-clause-script : goal.returns-in-Err-texts_after_name-clause-script
returns-in-Err-texts_after_name-clause-script g c = rw c.in-Ok.is (script_refused_from _ (g.S.Shelf.state c.args.shelf.now) (g.C.Source.state c.args.script.now) (g.O.Sink.state c.args.out.now) c.refuse.result c.refuse.ensures.status)
