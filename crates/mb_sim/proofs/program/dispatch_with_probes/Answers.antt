use Rattle.mb_sim.proofs.Probes.{refused_from, script_refused_from}
use Rattle.mb_sim.proofs.program.dispatch_with_probes.Goals as goal

pub returns-in_default-clause-says : goal.returns-in_default-clause-says
returns-in_default-clause-says g c = refused_from _ (g.S.Shelf.state c.args.shelf.now) (g.O.Sink.state c.args.out.now) c.refuse.result c.refuse.ensures.status

pub returns-in_default-clause-script : goal.returns-in_default-clause-script
returns-in_default-clause-script g c = script_refused_from _ (g.S.Shelf.state c.args.shelf.now) (g.C.Source.state c.args.script.now) (g.O.Sink.state c.args.out.now) c.refuse.result c.refuse.ensures.status

pub returns-in_default-new-clause-says : goal.returns-in_default-new-clause-says
returns-in_default-new-clause-says g c = refused_from _ (g.S.Shelf.state c.args.shelf.now) (g.O.Sink.state c.args.out.now) c.refuse-in_default-new.result c.refuse-in_default-new.ensures.status

pub returns-in_default-new-clause-script : goal.returns-in_default-new-clause-script
returns-in_default-new-clause-script g c = script_refused_from _ (g.S.Shelf.state c.args.shelf.now) (g.C.Source.state c.args.script.now) (g.O.Sink.state c.args.out.now) c.refuse-in_default-new.result c.refuse-in_default-new.ensures.status

pub returns-in_default-new-2-clause-says : goal.returns-in_default-new-2-clause-says
returns-in_default-new-2-clause-says g c = refused_from _ (g.S.Shelf.state c.args.shelf.now) (g.O.Sink.state c.args.out.now) c.refuse-in_default-new-2.result c.refuse-in_default-new-2.ensures.status

pub returns-in_default-new-2-clause-script : goal.returns-in_default-new-2-clause-script
returns-in_default-new-2-clause-script g c = script_refused_from _ (g.S.Shelf.state c.args.shelf.now) (g.C.Source.state c.args.script.now) (g.O.Sink.state c.args.out.now) c.refuse-in_default-new-2.result c.refuse-in_default-new-2.ensures.status

pub returns-in_default-new-3-clause-says : goal.returns-in_default-new-3-clause-says
returns-in_default-new-3-clause-says g c = refused_from _ (g.S.Shelf.state c.args.shelf.now) (g.O.Sink.state c.args.out.now) c.refuse-in_default-new-3.result c.refuse-in_default-new-3.ensures.status

pub returns-in_default-new-3-clause-script : goal.returns-in_default-new-3-clause-script
returns-in_default-new-3-clause-script g c = script_refused_from _ (g.S.Shelf.state c.args.shelf.now) (g.C.Source.state c.args.script.now) (g.O.Sink.state c.args.out.now) c.refuse-in_default-new-3.result c.refuse-in_default-new-3.ensures.status

pub returns-in_default-stock_probes-clause-says : goal.returns-in_default-stock_probes-clause-says
returns-in_default-stock_probes-clause-says g c = refused_from _ (g.S.Shelf.state c.args.shelf.now) (g.O.Sink.state c.args.out.now) c.refuse-in_default-stock_probes.result c.refuse-in_default-stock_probes.ensures.status

pub returns-in_default-stock_probes-clause-script : goal.returns-in_default-stock_probes-clause-script
returns-in_default-stock_probes-clause-script g c = script_refused_from _ (g.S.Shelf.state c.args.shelf.now) (g.C.Source.state c.args.script.now) (g.O.Sink.state c.args.out.now) c.refuse-in_default-stock_probes.result c.refuse-in_default-stock_probes.ensures.status
