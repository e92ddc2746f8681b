use Rattle.std.proofs.Common.{ap, ◌∙◌, arith}
use Rattle.std.proofs.lemmas.Result.{err_from_is_err_and}
use Rattle.run_output.specs.Report.{uart_line}
use Rattle.run_output.specs.Tally.{counted_uart_line}
use Rattle.run_output.proofs.Printing.{all_lines, line_added, line_refused}
use Rattle.run_output.proofs.print.print_uarts.Goals as goal

pub returns-in_err-write_all : goal.returns-in_err-write_all
returns-in_err-write_all g c =
    let p = err_from_is_err_and c.from_residual.result c.from_residual.ensures.1 in
    rw (p.1, p.2)
    (line_refused (g.O.Sink.state c.args.out.now) (g.O.Sink.state c.loop-k.out) (g.O.Sink.state c.write_all.new.self)
    (counted_uart_line c.args.tally.now) c.args.rows.now c.loop-k.k c.index-rows-k.result c.as_bytes.result.now c.in_err-write_all.field-0.0
    c.loop-k-test.true c.index-rows-k.is (c.as_bytes.ensures.bytes ∙ c.uart_line-line.ensures ∙ ap (uart_line c.index-rows-k.result.name) c.uart.ensures) c.loop-k.invariant c.in_err-write_all.ensures.answer)

pub loop-k-preserved : goal.loop-k-preserved
loop-k-preserved g c =
    line_added (g.O.Sink.state c.args.out.now) (g.O.Sink.state c.loop-k.out) (g.O.Sink.state c.write_all.new.self)
    (counted_uart_line c.args.tally.now) c.args.rows.now c.loop-k.k c.index-rows-k.result c.as_bytes.result.now
    c.loop-k-test.true c.index-rows-k.is (c.as_bytes.ensures.bytes ∙ c.uart_line-line.ensures ∙ ap (uart_line c.index-rows-k.result.name) c.uart.ensures) c.loop-k.invariant c.in_ok-write_all.ensures.answer

pub returns : goal.returns
returns g c =
    all_lines (g.O.Sink.state c.args.out.now) (g.O.Sink.state c.loop-k.out) (counted_uart_line c.args.tally.now) c.args.rows.now c.loop-k.k
    (omega (arith, c.loop-k-test.false)) c.loop-k.invariant
