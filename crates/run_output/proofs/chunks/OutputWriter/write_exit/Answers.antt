use Rattle.std.proofs.Common.{[], Err}
use Rattle.std.proofs.lemmas.Result.{err_from_is_err_and}
use Rattle.run_output.specs.Threads.{file_of}
use Rattle.run_output.proofs.Threading.{early_cut, late_either, late_threads}
use Rattle.piece_output.proofs.Written.{failed_longer}
use Rattle.run_output.proofs.chunks.OutputWriter.write_exit.Goals as goal

pub add_thread-requires : goal.add_thread-requires
add_thread-requires g c = record {
  threads = late_threads c.args.threads.now c.args.entries.now c.split_at.result.1.now c.len.result c.requires.lie c.len.ensures c.split_at.ensures.back;
  knows = c.requires.knows;
}

pub returns-in_err-start : goal.returns-in_err-start
returns-in_err-start g c =
    let p = err_from_is_err_and c.from_residual.result c.from_residual.ensures.1 in
    rw (p.1, p.2)
    (failed_longer (g.S.Shelf.state c.args.shelf.now) (g.S.Shelf.state c.start.new.shelf) c.args.name.now [] (file_of c.args.exit c.args.entries.now) c.in_err-start.field-0.0 c.in_err-start.ensures)

pub returns-in_err-add_all : goal.returns-in_err-add_all
returns-in_err-add_all g c =
    let p = err_from_is_err_and c.from_residual-in_err-add_all.result c.from_residual-in_err-add_all.ensures.1 in
    rw (p.1, p.2)
    (early_cut (g.S.Shelf.state c.args.shelf.now) (g.S.Shelf.state c.add_all.new.shelf) c.args.name.now c.args.exit c.args.entries.now c.split_at.result.0.now c.split_at.result.1.now
    c.in_err-add_all.field-0.0 c.split_at.ensures.by_index.0 (c.in_err-add_all.ensures (g.S.Shelf.state c.args.shelf.now) [] c.in_ok-start.ensures))

pub returns-in_err-add_thread : goal.returns-in_err-add_thread
returns-in_err-add_thread g c =
    let p = err_from_is_err_and c.from_residual-in_err-add_thread.result c.from_residual-in_err-add_thread.ensures.1 in
    rw (p.1, p.2)
    (late_either (g.S.Shelf.state c.args.shelf.now) (g.S.Shelf.state c.add_thread.new.shelf) c.args.name.now c.args.exit c.args.entries.now c.split_at.result.0.now c.split_at.result.1.now
    (Err c.in_err-add_thread.field-0.0) c.split_at.ensures.by_index.0
    (c.in_err-add_thread.ensures (g.S.Shelf.state c.args.shelf.now) (file_of c.args.exit c.split_at.result.0.now)
    (c.in_ok-add_all.ensures (g.S.Shelf.state c.args.shelf.now) [] c.in_ok-start.ensures)))

pub returns : goal.returns
returns g c =
    late_either (g.S.Shelf.state c.args.shelf.now) (g.S.Shelf.state c.finish.new.shelf) c.args.name.now c.args.exit c.args.entries.now c.split_at.result.0.now c.split_at.result.1.now
    c.finish.result c.split_at.ensures.by_index.0
    (c.finish.ensures (g.S.Shelf.state c.args.shelf.now) _
    (c.in_ok-add_thread.ensures (g.S.Shelf.state c.args.shelf.now) (file_of c.args.exit c.split_at.result.0.now)
    (c.in_ok-add_all.ensures (g.S.Shelf.state c.args.shelf.now) [] c.in_ok-start.ensures)))
