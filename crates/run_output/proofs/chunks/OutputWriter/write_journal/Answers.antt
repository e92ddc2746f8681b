use Rattle.run_output.specs.Texts.{journal_text}
use Rattle.run_output.proofs.chunks.OutputWriter.write_journal.Goals as goal

pub returns-in-Some : goal.returns-in-Some
returns-in-Some g c = rw c.in-Some.is (c.named.ensures (g.S.Shelf.state c.args.shelf.now) (g.S.Shelf.state c.write_text.new.shelf) (journal_text c.args.board.now c.args.entries.now) c.write_text.ensures)
