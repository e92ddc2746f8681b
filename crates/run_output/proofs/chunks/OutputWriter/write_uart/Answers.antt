use Rattle.run_journal.specs.Files.{uart_file}
use Rattle.run_output.proofs.chunks.OutputWriter.write_uart.Goals as goal

pub returns : goal.returns
returns g c = c.named.ensures (g.S.Shelf.state c.args.shelf.now) (g.S.Shelf.state c.write_exit.new.shelf) (uart_file c.args.uart c.args.entries.now) c.write_exit.ensures
