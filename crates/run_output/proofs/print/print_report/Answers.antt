use Rattle.std.proofs.Common.{◌++◌, ℕ, List, flat_map, length, Ok, Err, refl}
use Rattle.std.specs.List.{enumerate_from}
use Rattle.std.proofs.lemmas.Result.{err_from_is_err_and}
use Rattle.run_output.specs.Report.{status_line, core_lines, link_lines, uart_lines, report_text}
use Rattle.run_output.specs.Tally.{counted_link_line, counted_uart_line}
use Rattle.run_output.proofs.Tallying.{fit_of, link_lines_of, uart_lines_of}
use Rattle.run_output.proofs.Printing.{adds_of}
use Rattle.piece_output.proofs.Added.{adds_cut, adds_then}
use Rattle.run_output.proofs.print.print_report.Goals as goal

pub returns-in_err-print_status : goal.returns-in_err-print_status
unfolding report_text
returns-in_err-print_status g c =
    let p = err_from_is_err_and c.from_residual.result c.from_residual.ensures.1 in
    rw (p.1, p.2)
    (adds_cut (g.O.Sink.state c.args.out.now) (g.O.Sink.state c.print_status.new.out) (((status_line c.args.code c.args.cycles (length c.args.entries.now)) ++ (core_lines (g.E.CoreEnds.ends c.args.ends.now) c.args.board.now.cores)) ++ (link_lines c.args.entries.now c.args.board.now.links)) (uart_lines c.args.entries.now c.args.board.now.uarts) c.in_err-print_status.field-0.0
    (adds_cut (g.O.Sink.state c.args.out.now) (g.O.Sink.state c.print_status.new.out) ((status_line c.args.code c.args.cycles (length c.args.entries.now)) ++ (core_lines (g.E.CoreEnds.ends c.args.ends.now) c.args.board.now.cores)) (link_lines c.args.entries.now c.args.board.now.links) c.in_err-print_status.field-0.0
    (adds_cut (g.O.Sink.state c.args.out.now) (g.O.Sink.state c.print_status.new.out) (status_line c.args.code c.args.cycles (length c.args.entries.now)) (core_lines (g.E.CoreEnds.ends c.args.ends.now) c.args.board.now.cores) c.in_err-print_status.field-0.0
    (adds_of (g.O.Sink.state c.args.out.now) (g.O.Sink.state c.print_status.new.out) (status_line c.args.code c.args.cycles) (length c.args.entries.now) (length c.args.entries.now) (Err c.in_err-print_status.field-0.0) refl c.in_err-print_status.ensures))))

pub returns-in_err-print_cores : goal.returns-in_err-print_cores
unfolding report_text
returns-in_err-print_cores g c =
    let p = err_from_is_err_and c.from_residual-in_err-print_cores.result c.from_residual-in_err-print_cores.ensures.1 in
    rw (p.1, p.2)
    (adds_cut (g.O.Sink.state c.args.out.now) (g.O.Sink.state c.print_cores.new.out) (((status_line c.args.code c.args.cycles (length c.args.entries.now)) ++ (core_lines (g.E.CoreEnds.ends c.args.ends.now) c.args.board.now.cores)) ++ (link_lines c.args.entries.now c.args.board.now.links)) (uart_lines c.args.entries.now c.args.board.now.uarts) c.in_err-print_cores.field-0.0
    (adds_cut (g.O.Sink.state c.args.out.now) (g.O.Sink.state c.print_cores.new.out) ((status_line c.args.code c.args.cycles (length c.args.entries.now)) ++ (core_lines (g.E.CoreEnds.ends c.args.ends.now) c.args.board.now.cores)) (link_lines c.args.entries.now c.args.board.now.links) c.in_err-print_cores.field-0.0
    (adds_then (g.O.Sink.state c.args.out.now) (g.O.Sink.state c.print_status.new.out) (g.O.Sink.state c.print_cores.new.out) (status_line c.args.code c.args.cycles (length c.args.entries.now)) (core_lines (g.E.CoreEnds.ends c.args.ends.now) c.args.board.now.cores) (Err c.in_err-print_cores.field-0.0)
    (adds_of (g.O.Sink.state c.args.out.now) (g.O.Sink.state c.print_status.new.out) (status_line c.args.code c.args.cycles) (length c.args.entries.now) (length c.args.entries.now) (Ok tt) refl c.in_ok-print_status.ensures)
    (adds_of (g.O.Sink.state c.print_status.new.out) (g.O.Sink.state c.print_cores.new.out) (core_lines (g.E.CoreEnds.ends c.args.ends.now)) c.as_slice.result.now c.args.board.now.cores (Err c.in_err-print_cores.field-0.0) c.as_slice.ensures c.in_err-print_cores.ensures))))

pub returns-in_err-print_links : goal.returns-in_err-print_links
unfolding report_text
returns-in_err-print_links g c =
    let p = err_from_is_err_and c.from_residual-in_err-print_links.result c.from_residual-in_err-print_links.ensures.1 in
    rw (p.1, p.2)
    (adds_cut (g.O.Sink.state c.args.out.now) (g.O.Sink.state c.print_links.new.out) (((status_line c.args.code c.args.cycles (length c.args.entries.now)) ++ (core_lines (g.E.CoreEnds.ends c.args.ends.now) c.args.board.now.cores)) ++ (link_lines c.args.entries.now c.args.board.now.links)) (uart_lines c.args.entries.now c.args.board.now.uarts) c.in_err-print_links.field-0.0
    (adds_then (g.O.Sink.state c.args.out.now) (g.O.Sink.state c.print_cores.new.out) (g.O.Sink.state c.print_links.new.out) ((status_line c.args.code c.args.cycles (length c.args.entries.now)) ++ (core_lines (g.E.CoreEnds.ends c.args.ends.now) c.args.board.now.cores)) (link_lines c.args.entries.now c.args.board.now.links) (Err c.in_err-print_links.field-0.0)
    (adds_then (g.O.Sink.state c.args.out.now) (g.O.Sink.state c.print_status.new.out) (g.O.Sink.state c.print_cores.new.out) (status_line c.args.code c.args.cycles (length c.args.entries.now)) (core_lines (g.E.CoreEnds.ends c.args.ends.now) c.args.board.now.cores) (Ok tt)
    (adds_of (g.O.Sink.state c.args.out.now) (g.O.Sink.state c.print_status.new.out) (status_line c.args.code c.args.cycles) (length c.args.entries.now) (length c.args.entries.now) (Ok tt) refl c.in_ok-print_status.ensures)
    (adds_of (g.O.Sink.state c.print_status.new.out) (g.O.Sink.state c.print_cores.new.out) (core_lines (g.E.CoreEnds.ends c.args.ends.now)) c.as_slice.result.now c.args.board.now.cores (Ok tt) c.as_slice.ensures c.in_ok-print_cores.ensures))
    (adds_of (g.O.Sink.state c.print_cores.new.out) (g.O.Sink.state c.print_links.new.out) (λ (text : List ℕ). text) (flat_map (counted_link_line c.args.tally.now) (enumerate_from 0 c.as_slice-2.result.now)) (link_lines c.args.entries.now c.args.board.now.links) (Err c.in_err-print_links.field-0.0)
    (link_lines_of c.args.tally.now c.args.entries.now c.args.board.now.links c.as_slice-2.result.now c.as_slice-2.ensures c.requires.tells c.requires.covers) c.in_err-print_links.ensures)))

pub returns : goal.returns
unfolding report_text
returns g c =
    adds_then (g.O.Sink.state c.args.out.now) (g.O.Sink.state c.print_links.new.out) (g.O.Sink.state c.print_uarts.new.out) (((status_line c.args.code c.args.cycles (length c.args.entries.now)) ++ (core_lines (g.E.CoreEnds.ends c.args.ends.now) c.args.board.now.cores)) ++ (link_lines c.args.entries.now c.args.board.now.links)) (uart_lines c.args.entries.now c.args.board.now.uarts) c.print_uarts.result
    (adds_then (g.O.Sink.state c.args.out.now) (g.O.Sink.state c.print_cores.new.out) (g.O.Sink.state c.print_links.new.out) ((status_line c.args.code c.args.cycles (length c.args.entries.now)) ++ (core_lines (g.E.CoreEnds.ends c.args.ends.now) c.args.board.now.cores)) (link_lines c.args.entries.now c.args.board.now.links) (Ok tt)
    (adds_then (g.O.Sink.state c.args.out.now) (g.O.Sink.state c.print_status.new.out) (g.O.Sink.state c.print_cores.new.out) (status_line c.args.code c.args.cycles (length c.args.entries.now)) (core_lines (g.E.CoreEnds.ends c.args.ends.now) c.args.board.now.cores) (Ok tt)
    (adds_of (g.O.Sink.state c.args.out.now) (g.O.Sink.state c.print_status.new.out) (status_line c.args.code c.args.cycles) (length c.args.entries.now) (length c.args.entries.now) (Ok tt) refl c.in_ok-print_status.ensures)
    (adds_of (g.O.Sink.state c.print_status.new.out) (g.O.Sink.state c.print_cores.new.out) (core_lines (g.E.CoreEnds.ends c.args.ends.now)) c.as_slice.result.now c.args.board.now.cores (Ok tt) c.as_slice.ensures c.in_ok-print_cores.ensures))
    (adds_of (g.O.Sink.state c.print_cores.new.out) (g.O.Sink.state c.print_links.new.out) (λ (text : List ℕ). text) (flat_map (counted_link_line c.args.tally.now) (enumerate_from 0 c.as_slice-2.result.now)) (link_lines c.args.entries.now c.args.board.now.links) (Ok tt)
    (link_lines_of c.args.tally.now c.args.entries.now c.args.board.now.links c.as_slice-2.result.now c.as_slice-2.ensures c.requires.tells c.requires.covers) c.in_ok-print_links.ensures))
    (adds_of (g.O.Sink.state c.print_links.new.out) (g.O.Sink.state c.print_uarts.new.out) (λ (text : List ℕ). text) (flat_map (counted_uart_line c.args.tally.now) (enumerate_from 0 c.as_slice-3.result.now)) (uart_lines c.args.entries.now c.args.board.now.uarts) c.print_uarts.result
    (uart_lines_of c.args.tally.now c.args.entries.now c.args.board.now.uarts c.as_slice-3.result.now c.as_slice-3.ensures c.requires.tells c.requires.uarts) c.print_uarts.ensures)

pub print_links-requires : goal.print_links-requires
print_links-requires g c = record { fit = fit_of c.args.tally.now c.args.board.now.links c.as_slice-2.result.now c.as_slice-2.ensures c.requires.fit }
