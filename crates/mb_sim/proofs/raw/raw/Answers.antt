use Rattle.mb_sim.proofs.RawSays.{says_printed}
use Rattle.mb_sim.proofs.raw.raw.Goals as goal

pub returns-in-Ok-print_items-clause-says : goal.returns-in-Ok-print_items-clause-says
returns-in-Ok-print_items-clause-says g c =
    says_printed (record { file = c.args.file.now; cycles = c.args.cycles }) (g.S.Shelf.state c.args.shelf.now) (g.S.Shelf.state c.run_file.new.shelf) (g.O.Sink.state c.args.out.now) (g.O.Sink.state c.print_items.new.out) _ _
    c.in-Ok.ran.end c.in-Ok.ran.board _ c.status_of.result c.in-Ok.ensures.ok c.journal.ensures.entries c.in-Ok-print_items.ensures c.status_of.ensures
