use Rattle.run_journal.specs.Files.{link_file}
use Rattle.run_output.proofs.chunks.OutputWriter.write_link.Goals as goal

pub returns-in-File : goal.returns-in-File
returns-in-File g c = rw c.in-File.is (c.named.ensures (g.S.Shelf.state c.args.shelf.now) (g.S.Shelf.state c.write_exit.new.shelf) (link_file c.args.link c.args.entries.now) c.write_exit.ensures)
