use Rattle.std.proofs.Common.{[]}
use Rattle.std.proofs.lemmas.Result.{err_from_is_err_and}
use Rattle.run_output.specs.Texts.{journal_text}
use Rattle.piece_output.proofs.Written.{failed_longer}
use Rattle.run_output.proofs.chunks.OutputWriter.write_text.Goals as goal

pub returns-in_err-start : goal.returns-in_err-start
unfolding journal_text
returns-in_err-start g c =
    let p = err_from_is_err_and c.from_residual.result c.from_residual.ensures.1 in
    rw (p.1, p.2)
    (failed_longer (g.S.Shelf.state c.args.shelf.now) (g.S.Shelf.state c.start.new.shelf) c.args.name.now [] (journal_text c.args.board.now c.args.entries.now) c.in_err-start.field-0.0 c.in_err-start.ensures)

pub returns-in_err-add_all : goal.returns-in_err-add_all
unfolding journal_text
returns-in_err-add_all g c =
    let p = err_from_is_err_and c.from_residual-in_err-add_all.result c.from_residual-in_err-add_all.ensures.1 in
    rw (p.1, p.2) (c.in_err-add_all.ensures (g.S.Shelf.state c.args.shelf.now) [] c.in_ok-start.ensures)

pub returns : goal.returns
unfolding journal_text
returns g c = c.finish.ensures (g.S.Shelf.state c.args.shelf.now) _ (c.in_ok-add_all.ensures (g.S.Shelf.state c.args.shelf.now) [] c.in_ok-start.ensures)
