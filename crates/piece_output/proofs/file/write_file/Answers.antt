use Rattle.std.proofs.Common.{List, ℕ, Ok, Err, subst, sym}
use Rattle.std.proofs.lemmas.Result.{err_from_is_err_and}
use Rattle.host_io.specs.Outside.{Appends, Starts}
use Rattle.piece_output.proofs.Written.{all_left, none_left, piece_failed, piece_sent, start_failed}
use Rattle.piece_output.proofs.file.write_file.Goals as goal

pub returns-in_err-start : goal.returns-in_err-start
returns-in_err-start g c =
    let p = err_from_is_err_and c.from_residual.result c.from_residual.ensures.1 in
    let P : List ℕ → Type 0 = λ n. Starts (g.S.Shelf.state c.args.shelf.now) (g.S.Shelf.state c.start.new.self) n (Err c.in_err-start.field-0.0) in
    rw (p.1, p.2)
    (start_failed (g.S.Shelf.state c.args.shelf.now) (g.S.Shelf.state c.start.new.self) c.args.name.now c.args.bytes.now c.in_err-start.field-0.0 (subst P c.as_text.ensures.text c.in_err-start.ensures.answer))

pub returns-in_err-append : goal.returns-in_err-append
returns-in_err-append g c =
    let p = err_from_is_err_and c.from_residual-in_err-append.result c.from_residual-in_err-append.ensures.1 in
    let P : List ℕ → Type 0 = λ n. Appends (g.S.Shelf.state c.loop-rest.shelf) (g.S.Shelf.state c.append.new.self) n c.split_at.result.0.now (Err c.in_err-append.field-0.0) in
    rw (p.1, p.2)
    (piece_failed (g.S.Shelf.state c.args.shelf.now) (g.S.Shelf.state c.loop-rest.shelf) (g.S.Shelf.state c.append.new.self) c.args.name.now c.loop-rest.rest.now c.split_at.result.0.now c.split_at.result.1.now c.args.bytes.now
    c.in_err-append.field-0.0 c.split_at.ensures.by_index.0 c.loop-rest.invariant (subst P c.as_text-in-loop-rest.ensures.text c.in_err-append.ensures.answer))

pub loop-rest-preserved : goal.loop-rest-preserved
loop-rest-preserved g c =
    let P : List ℕ → Type 0 = λ n. Appends (g.S.Shelf.state c.loop-rest.shelf) (g.S.Shelf.state c.append.new.self) n c.split_at.result.0.now (Ok tt) in
    piece_sent (g.S.Shelf.state c.args.shelf.now) (g.S.Shelf.state c.loop-rest.shelf) (g.S.Shelf.state c.append.new.self) c.args.name.now c.loop-rest.rest.now c.split_at.result.0.now c.split_at.result.1.now c.args.bytes.now
    c.split_at.ensures.by_index.0 c.loop-rest.invariant (subst P c.as_text-in-loop-rest.ensures.text c.in_ok-append.ensures.answer)

pub loop-rest-init : goal.loop-rest-init
loop-rest-init g c =
    let P : List ℕ → Type 0 = λ n. Starts (g.S.Shelf.state c.args.shelf.now) (g.S.Shelf.state c.start.new.self) n (Ok tt) in
    all_left (g.S.Shelf.state c.args.shelf.now) (g.S.Shelf.state c.start.new.self) c.args.name.now c.args.bytes.now (subst P c.as_text.ensures.text c.in_ok-start.ensures.answer)

pub returns : goal.returns
returns g c =
    none_left (g.S.Shelf.state c.args.shelf.now) (g.S.Shelf.state c.loop-rest.shelf) c.args.name.now c.loop-rest.rest.now c.args.bytes.now (sym c.loop-rest-test.ensures) c.loop-rest.invariant
