use Rattle.std.proofs.Common.{◌++◌, flat_map, get_or, take, arith, ◌∙◌}
use Rattle.std.proofs.lemmas.Option.{slice_get-get_or}
use Rattle.std.proofs.lemmas.Result.{err_from_is_err_and}
use Rattle.run_output.proofs.Joined.{all_pieces, no_piece, piece_added, piece_refused}
use Rattle.run_output.proofs.Threading.{no_entry}
use Rattle.run_output.proofs.chunks.OutputWriter.add_all.Goals as goal

pub loop-k-init : goal.loop-k-init
loop-k-init g c = λ before done w.
    no_piece before (g.S.Shelf.state c.args.shelf.now) c.args.name.now c.args.self.now done (g.P.FileContent.bytes c.args.pieces.now) c.args.entries.now w

pub loop-k-preserved : goal.loop-k-preserved
loop-k-preserved g c = λ before done w.
    piece_added before (g.S.Shelf.state c.add.new.shelf) c.args.name.now c.add.new.self done c.as_bytes.result.now
    (g.P.FileContent.bytes c.args.pieces.now) c.args.entries.now c.loop-k.k (get_or c.args.entries.now c.loop-k.k no_entry)
    (slice_get-get_or c.args.entries.now c.loop-k.k no_entry c.loop-k-test.true) (c.as_bytes.ensures.bytes ∙ c.piece.ensures)
    (c.in_ok-add.ensures before (done ++ flat_map (g.P.FileContent.bytes c.args.pieces.now) (take c.loop-k.k c.args.entries.now)) (c.loop-k.invariant before done w))

pub returns-in_err-add : goal.returns-in_err-add
returns-in_err-add g c = λ before done w.
    let p = err_from_is_err_and c.from_residual.result c.from_residual.ensures.1 in
    rw (p.1, p.2)
    (piece_refused before (g.S.Shelf.state c.add.new.shelf) c.args.name.now done c.as_bytes.result.now
    (g.P.FileContent.bytes c.args.pieces.now) c.args.entries.now c.loop-k.k (get_or c.args.entries.now c.loop-k.k no_entry) c.in_err-add.field-0.0
    (slice_get-get_or c.args.entries.now c.loop-k.k no_entry c.loop-k-test.true) (c.as_bytes.ensures.bytes ∙ c.piece.ensures)
    (c.in_err-add.ensures before (done ++ flat_map (g.P.FileContent.bytes c.args.pieces.now) (take c.loop-k.k c.args.entries.now)) (c.loop-k.invariant before done w)))

pub returns : goal.returns
returns g c = λ before done w.
    all_pieces before (g.S.Shelf.state c.loop-k.shelf) c.args.name.now c.loop-k.self done (g.P.FileContent.bytes c.args.pieces.now) c.args.entries.now c.loop-k.k
    (omega (arith, c.loop-k-test.false)) (c.loop-k.invariant before done w)
