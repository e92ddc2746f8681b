use Rattle.std.proofs.Common.{arith}
use Rattle.std.proofs.lemmas.Result.{err_from_is_err_and}
use Rattle.run_output.specs.Outputs.{output_of_uart}
use Rattle.run_output.proofs.InOrder.{all_rows, row_refused, row_written}
use Rattle.run_output.proofs.chunks.OutputWriter.write_uarts.Goals as goal

pub returns-in_err-write_uart : goal.returns-in_err-write_uart
returns-in_err-write_uart g c =
    let p = err_from_is_err_and c.from_residual.result c.from_residual.ensures.1 in
    rw (p.1, p.2)
    (row_refused (g.S.Shelf.state c.args.shelf.now) (g.S.Shelf.state c.loop-k.shelf) (g.S.Shelf.state c.write_uart.new.shelf) (output_of_uart c.args.entries.now) c.args.rows.now c.loop-k.k c.index-rows-k.result c.in_err-write_uart.field-0.0
    c.loop-k-test.true c.index-rows-k.is c.loop-k.invariant c.in_err-write_uart.ensures)

pub loop-k-preserved : goal.loop-k-preserved
loop-k-preserved g c =
    row_written (g.S.Shelf.state c.args.shelf.now) (g.S.Shelf.state c.loop-k.shelf) (g.S.Shelf.state c.write_uart.new.shelf) (output_of_uart c.args.entries.now) c.args.rows.now c.loop-k.k c.index-rows-k.result
    c.loop-k-test.true c.index-rows-k.is c.loop-k.invariant c.in_ok-write_uart.ensures

pub returns : goal.returns
returns g c =
    all_rows (g.S.Shelf.state c.args.shelf.now) (g.S.Shelf.state c.loop-k.shelf) (output_of_uart c.args.entries.now) c.args.rows.now c.loop-k.k (omega (arith, c.loop-k-test.false)) c.loop-k.invariant
