use Rattle.std.proofs.Common.{◌<◌, ◌≤◌, length, arith}
use Rattle.std.proofs.lemmas.Result.{err_from_is_err_and}
use Rattle.mb_sim.proofs.Printed.{all_printed, entry_added, entry_refused}
use Rattle.mb_sim.proofs.print.print_items.Goals as goal

pub returns-in_err-print_at : goal.returns-in_err-print_at
returns-in_err-print_at g c =
    let p = err_from_is_err_and c.from_residual.result c.from_residual.ensures.1 in
    let l : c.loop-k.k < length c.args.journal.now.entries = omega (arith, c.loop-k-test.true, c.len-k-end.ensures) in
    rw (p.1, p.2)
    (entry_refused (g.O.Sink.state c.args.out.now) (g.O.Sink.state c.loop-k.out) (g.O.Sink.state c.print_at.new.out) c.args.journal.now.entries c.loop-k.k
    c.in_err-print_at.field-0.0 l c.loop-k.invariant c.in_err-print_at.ensures)

pub loop-k-preserved : goal.loop-k-preserved
loop-k-preserved g c =
    let l : c.loop-k.k < length c.args.journal.now.entries = omega (arith, c.loop-k-test.true, c.len-k-end.ensures) in
    entry_added (g.O.Sink.state c.args.out.now) (g.O.Sink.state c.loop-k.out) (g.O.Sink.state c.print_at.new.out) c.args.journal.now.entries c.loop-k.k l c.loop-k.invariant c.in_ok-print_at.ensures

pub returns : goal.returns
returns g c =
    let l : length c.args.journal.now.entries ≤ c.loop-k.k = omega (arith, c.loop-k-test.false, c.len-k-end.ensures) in
    all_printed (g.O.Sink.state c.args.out.now) (g.O.Sink.state c.loop-k.out) c.args.journal.now.entries c.loop-k.k l c.loop-k.invariant
