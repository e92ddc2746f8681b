use Rattle.std.proofs.Common.{◌-◌, ◌++◌, Err, get_or, length, ◌∙◌, arith}
use Rattle.std.proofs.lemmas.Option.{slice_get-get_or}
use Rattle.std.proofs.lemmas.Result.{err_from_is_err_and}
use Rattle.piece_output.specs.Stored.{Wrote}
use Rattle.run_output.specs.Threads.{bytes_at, file_of}
use Rattle.run_output.proofs.Threading.{added_to, at_end, begins, cut_off, gets_near, goes_along, inside, no_entry, nothing_more, stopped_at}
use Rattle.run_output.proofs.chunks.OutputWriter.add_thread.Goals as goal

pub loop-left-init : goal.loop-left-init
loop-left-init g c =
    begins c.args.threads.now c.args.exit c.args.entries.now c.first-left.result _ c.requires.threads c.requires.knows c.first-left.ensures
    (λ before done w. nothing_more before (g.S.Shelf.state c.args.shelf.now) c.args.name.now c.args.self.now done w)

pub loop-left-smaller : goal.loop-left-smaller
loop-left-smaller g c =
    let place = length c.args.entries.now - c.loop-left.left in
    gets_near c.args.threads.now c.args.exit c.args.entries.now c.loop-left.left c.next-left.result (get_or c.args.entries.now place no_entry) _
    c.requires.threads c.requires.knows c.loop-left-test.true
    (slice_get-get_or c.args.entries.now place no_entry (inside c.args.exit c.args.entries.now c.loop-left.left _ c.loop-left.invariant c.loop-left-test.true))
    c.next-left.ensures c.loop-left.invariant

pub loop-left-preserved : goal.loop-left-preserved
loop-left-preserved g c =
    let place = length c.args.entries.now - c.loop-left.left in
    goes_along c.args.threads.now c.args.exit c.args.entries.now c.loop-left.left c.next-left.result (get_or c.args.entries.now place no_entry) _ _
    c.requires.threads c.requires.knows c.loop-left-test.true
    (slice_get-get_or c.args.entries.now place no_entry (inside c.args.exit c.args.entries.now c.loop-left.left _ c.loop-left.invariant c.loop-left-test.true))
    c.next-left.ensures
    (λ bytes so_far before done w.
    added_to before (g.S.Shelf.state c.add.new.shelf) c.args.name.now c.add.new.self done bytes c.as_bytes.result.now (bytes_at c.args.exit (get_or c.args.entries.now place no_entry))
    (c.as_bytes.ensures.bytes ∙ c.piece.ensures) (c.in_ok-add.ensures before (done ++ bytes) (so_far before done w)))
    c.loop-left.invariant

pub returns-in_err-add : goal.returns-in_err-add
returns-in_err-add g c = λ before done w.
    let p = err_from_is_err_and c.from_residual.result c.from_residual.ensures.1 in
    let place = length c.args.entries.now - c.loop-left.left in
    rw (p.1, p.2)
    (stopped_at c.args.exit c.args.entries.now c.loop-left.left (get_or c.args.entries.now place no_entry) _
    (Wrote before (g.S.Shelf.state c.add.new.shelf) c.args.name.now (done ++ file_of c.args.exit c.args.entries.now) (Err c.in_err-add.field-0.0))
    c.loop-left-test.true
    (slice_get-get_or c.args.entries.now place no_entry (inside c.args.exit c.args.entries.now c.loop-left.left _ c.loop-left.invariant c.loop-left-test.true))
    (λ front behind split so_far.
    cut_off before (g.S.Shelf.state c.add.new.shelf) c.args.name.now done front c.as_bytes.result.now (bytes_at c.args.exit (get_or c.args.entries.now place no_entry)) behind
    (file_of c.args.exit c.args.entries.now) c.in_err-add.field-0.0 (c.as_bytes.ensures.bytes ∙ c.piece.ensures) split
    (c.in_err-add.ensures before (done ++ front) (so_far before done w)))
    c.loop-left.invariant)

pub returns : goal.returns
returns g c = λ before done w.
    at_end c.args.exit c.args.entries.now c.loop-left.left _ (omega (arith, c.loop-left-test.false)) c.loop-left.invariant before done w
