use Rattle.std.proofs.Common.{◌++◌, flat_map, Ok, Err}
use Rattle.std.specs.List.{enumerate_from}
use Rattle.std.proofs.lemmas.Result.{err_from_is_err_and}
use Rattle.run_output.specs.Outputs.{output_of_journal, output_of_link, output_of_uart, outputs_of}
use Rattle.run_output.proofs.InOrder.{outputs_cut, outputs_then, outputs_under}
use Rattle.run_output.proofs.chunks.OutputWriter.write_outputs.Goals as goal

pub returns-in_err-write_links : goal.returns-in_err-write_links
unfolding outputs_of
returns-in_err-write_links g c =
    let p = err_from_is_err_and c.from_residual.result c.from_residual.ensures.1 in
    rw (p.1, p.2)
    (outputs_cut (g.S.Shelf.state c.args.shelf.now) (g.S.Shelf.state c.write_links.new.shelf) ((flat_map (output_of_link c.args.entries.now) (enumerate_from 0 c.args.board.now.links)) ++ (flat_map (output_of_uart c.args.entries.now) (enumerate_from 0 c.args.board.now.uarts))) (output_of_journal c.args.board.now c.args.entries.now c.args.journal_file.now) c.in_err-write_links.field-0.0
    (outputs_cut (g.S.Shelf.state c.args.shelf.now) (g.S.Shelf.state c.write_links.new.shelf) (flat_map (output_of_link c.args.entries.now) (enumerate_from 0 c.args.board.now.links)) (flat_map (output_of_uart c.args.entries.now) (enumerate_from 0 c.args.board.now.uarts)) c.in_err-write_links.field-0.0
    (outputs_under (g.S.Shelf.state c.args.shelf.now) (g.S.Shelf.state c.write_links.new.shelf) (λ rows. flat_map (output_of_link c.args.entries.now) (enumerate_from 0 rows)) c.as_slice.result.now c.args.board.now.links (Err c.in_err-write_links.field-0.0) c.as_slice.ensures c.in_err-write_links.ensures)))

pub returns-in_err-write_uarts : goal.returns-in_err-write_uarts
unfolding outputs_of
returns-in_err-write_uarts g c =
    let p = err_from_is_err_and c.from_residual-in_err-write_uarts.result c.from_residual-in_err-write_uarts.ensures.1 in
    rw (p.1, p.2)
    (outputs_cut (g.S.Shelf.state c.args.shelf.now) (g.S.Shelf.state c.write_uarts.new.shelf) ((flat_map (output_of_link c.args.entries.now) (enumerate_from 0 c.args.board.now.links)) ++ (flat_map (output_of_uart c.args.entries.now) (enumerate_from 0 c.args.board.now.uarts))) (output_of_journal c.args.board.now c.args.entries.now c.args.journal_file.now) c.in_err-write_uarts.field-0.0
    (outputs_then (g.S.Shelf.state c.args.shelf.now) (g.S.Shelf.state c.write_links.new.shelf) (g.S.Shelf.state c.write_uarts.new.shelf) (flat_map (output_of_link c.args.entries.now) (enumerate_from 0 c.args.board.now.links)) (flat_map (output_of_uart c.args.entries.now) (enumerate_from 0 c.args.board.now.uarts)) (Err c.in_err-write_uarts.field-0.0)
    (outputs_under (g.S.Shelf.state c.args.shelf.now) (g.S.Shelf.state c.write_links.new.shelf) (λ rows. flat_map (output_of_link c.args.entries.now) (enumerate_from 0 rows)) c.as_slice.result.now c.args.board.now.links (Ok tt) c.as_slice.ensures c.in_ok-write_links.ensures)
    (outputs_under (g.S.Shelf.state c.write_links.new.shelf) (g.S.Shelf.state c.write_uarts.new.shelf) (λ rows. flat_map (output_of_uart c.args.entries.now) (enumerate_from 0 rows)) c.as_slice-2.result.now c.args.board.now.uarts (Err c.in_err-write_uarts.field-0.0) c.as_slice-2.ensures c.in_err-write_uarts.ensures)))

pub returns : goal.returns
unfolding outputs_of
returns g c =
    outputs_then (g.S.Shelf.state c.args.shelf.now) (g.S.Shelf.state c.write_uarts.new.shelf) (g.S.Shelf.state c.write_journal.new.shelf) ((flat_map (output_of_link c.args.entries.now) (enumerate_from 0 c.args.board.now.links)) ++ (flat_map (output_of_uart c.args.entries.now) (enumerate_from 0 c.args.board.now.uarts))) (output_of_journal c.args.board.now c.args.entries.now c.args.journal_file.now) c.write_journal.result
    (outputs_then (g.S.Shelf.state c.args.shelf.now) (g.S.Shelf.state c.write_links.new.shelf) (g.S.Shelf.state c.write_uarts.new.shelf) (flat_map (output_of_link c.args.entries.now) (enumerate_from 0 c.args.board.now.links)) (flat_map (output_of_uart c.args.entries.now) (enumerate_from 0 c.args.board.now.uarts)) (Ok tt)
    (outputs_under (g.S.Shelf.state c.args.shelf.now) (g.S.Shelf.state c.write_links.new.shelf) (λ rows. flat_map (output_of_link c.args.entries.now) (enumerate_from 0 rows)) c.as_slice.result.now c.args.board.now.links (Ok tt) c.as_slice.ensures c.in_ok-write_links.ensures)
    (outputs_under (g.S.Shelf.state c.write_links.new.shelf) (g.S.Shelf.state c.write_uarts.new.shelf) (λ rows. flat_map (output_of_uart c.args.entries.now) (enumerate_from 0 rows)) c.as_slice-2.result.now c.args.board.now.uarts (Ok tt) c.as_slice-2.ensures c.in_ok-write_uarts.ensures))
    c.write_journal.ensures
