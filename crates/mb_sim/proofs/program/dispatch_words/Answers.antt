use Rattle.mb_sim.proofs.Probes.{refused_from, script_refused_from}
use Rattle.mb_sim.proofs.program.dispatch_words.Goals as goal

pub returns-in-Err-clause-says : goal.returns-in-Err-clause-says
returns-in-Err-clause-says g c = refused_from _ (g.S.Shelf.state c.args.shelf.now) (g.O.Sink.state c.args.out.now) c.refuse.result c.refuse.ensures.status

pub returns-in-Err-clause-script : goal.returns-in-Err-clause-script
returns-in-Err-clause-script g c = script_refused_from _ (g.S.Shelf.state c.args.shelf.now) (g.C.Source.state c.args.script.now) (g.O.Sink.state c.args.out.now) c.refuse.result c.refuse.ensures.status
