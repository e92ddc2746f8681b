use Rattle.std.proofs.lemmas.Result.{err_from_is_err_and}
use Rattle.run_output.proofs.Written.{added, add_failed}
use Rattle.run_output.proofs.chunks.OutputWriter.add.Goals as goal

pub returns-in_err-send : goal.returns-in_err-send
returns-in_err-send g c = λ before done w.
    let p = err_from_is_err_and c.from_residual.result c.from_residual.ensures.1 in
    rw (p.1, p.2)
    (add_failed before (g.S.Shelf.state c.args.shelf.now) (g.S.Shelf.state c.send.new.shelf) c.args.name.now c.args.self.now c.keep-2.new.self done
    c.args.bytes.now c.split_at.result.0.now c.split_at.result.1.now c.in_err-send.field-0.0 c.keep-2.ensures c.split_at.ensures.by_index.0 w c.in_err-send.ensures.sent)

pub returns : goal.returns
returns g c = λ before done w.
    added before (g.S.Shelf.state c.args.shelf.now) (g.S.Shelf.state c.send.new.shelf) c.args.name.now c.args.self.now c.keep-2.new.self c.send.new.self c.keep-3.new.self done
    c.args.bytes.now c.split_at.result.0.now c.split_at.result.1.now c.keep-2.ensures c.split_at.ensures.by_index.0 c.in_ok-send.ensures.empty c.keep-3.ensures w c.in_ok-send.ensures.sent
