use Rattle.std.proofs.Common.{ap, ◌∙◌, arith}
use Rattle.std.proofs.lemmas.Result.{err_from_is_err_and}
use Rattle.run_output.specs.declared.tally.LinkCounts.{LinkCounts}
use Rattle.run_output.specs.Report.{link_line}
use Rattle.run_output.specs.Tally.{counted_link_line}
use Rattle.run_output.proofs.Printing.{all_lines, line_added, line_refused}
use Rattle.run_output.proofs.print.print_links.Goals as goal

pub returns-in_err-write_all : goal.returns-in_err-write_all
returns-in_err-write_all g c =
    let p = err_from_is_err_and c.from_residual.result c.from_residual.ensures.1 in
    rw (p.1, p.2)
    (line_refused (g.O.Sink.state c.args.out.now) (g.O.Sink.state c.loop-k.out) (g.O.Sink.state c.write_all.new.self)
    (counted_link_line c.args.tally.now) c.args.rows.now c.loop-k.k c.index-rows-k.result c.as_bytes.result.now c.in_err-write_all.field-0.0
    c.loop-k-test.true c.index-rows-k.is (c.as_bytes.ensures.bytes ∙ c.link_line-line.ensures ∙ ap (λ (n : LinkCounts). link_line c.index-rows-k.result.name n.sent n.taken) c.link-counts.ensures) c.loop-k.invariant c.in_err-write_all.ensures.answer)

pub loop-k-preserved : goal.loop-k-preserved
loop-k-preserved g c =
    line_added (g.O.Sink.state c.args.out.now) (g.O.Sink.state c.loop-k.out) (g.O.Sink.state c.write_all.new.self)
    (counted_link_line c.args.tally.now) c.args.rows.now c.loop-k.k c.index-rows-k.result c.as_bytes.result.now
    c.loop-k-test.true c.index-rows-k.is (c.as_bytes.ensures.bytes ∙ c.link_line-line.ensures ∙ ap (λ (n : LinkCounts). link_line c.index-rows-k.result.name n.sent n.taken) c.link-counts.ensures) c.loop-k.invariant c.in_ok-write_all.ensures.answer

pub returns : goal.returns
returns g c =
    all_lines (g.O.Sink.state c.args.out.now) (g.O.Sink.state c.loop-k.out) (counted_link_line c.args.tally.now) c.args.rows.now c.loop-k.k
    (omega (arith, c.loop-k-test.false)) c.loop-k.invariant
