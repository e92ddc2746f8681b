use Rattle.std.proofs.Common.{◌≤◌, ◌/◌, List, ℕ, Ok, Err, arith, length, subst, sym, ◌∙◌}
use Rattle.std.proofs.lemmas.List.FromFn.{length-range_with_len}
use Rattle.std.proofs.lemmas.Result.{err_from_is_err_and}
use Rattle.std.specs.List.{range_with_len}
use Rattle.host_io.specs.Outside.{Adds}
use Rattle.piece_output.proofs.Added.{all_added, text_added, text_refused}
use Rattle.source_tools.specs.Listing.{line_at}
use Rattle.source_tools.proofs.Lines.{number_at_place}
use Rattle.source_tools.proofs.listing.print_words.Goals as goal

pub returns-in_err-write_all : goal.returns-in_err-write_all
returns-in_err-write_all g c =
    let p = err_from_is_err_and c.from_residual.result c.from_residual.ensures.1 in
    let n = length c.args.bytes.now / 4 in
    let k = c.loop-k.k in
    let P : List ℕ → Type 0 = λ line. Adds (g.O.Sink.state c.loop-k.out) (g.O.Sink.state c.write_all.new.self) line (Err c.in_err-write_all.field-0.0) in
    rw (p.1, p.2)
    (text_refused (line_at c.args.order c.args.address c.args.bytes.now) (g.O.Sink.state c.args.out.now) (g.O.Sink.state c.loop-k.out) (g.O.Sink.state c.write_all.new.self) (range_with_len 0 n) k k c.in_err-write_all.field-0.0
    (number_at_place n k (omega (arith, c.loop-k-test.true))) c.loop-k.invariant (subst P (c.as_bytes.ensures.bytes ∙ c.line_at-line.ensures) c.in_err-write_all.ensures.answer))

pub loop-k-preserved : goal.loop-k-preserved
loop-k-preserved g c =
    let n = length c.args.bytes.now / 4 in
    let k = c.loop-k.k in
    let P : List ℕ → Type 0 = λ line. Adds (g.O.Sink.state c.loop-k.out) (g.O.Sink.state c.write_all.new.self) line (Ok tt) in
    text_added (line_at c.args.order c.args.address c.args.bytes.now) (g.O.Sink.state c.args.out.now) (g.O.Sink.state c.loop-k.out) (g.O.Sink.state c.write_all.new.self) (range_with_len 0 n) k k
    (number_at_place n k (omega (arith, c.loop-k-test.true))) c.loop-k.invariant (subst P (c.as_bytes.ensures.bytes ∙ c.line_at-line.ensures) c.in_ok-write_all.ensures.answer)

pub returns : goal.returns
returns g c =
    let n = length c.args.bytes.now / 4 in
    let P : ℕ → Type 0 = λ m. m ≤ c.loop-k.k in
    all_added (line_at c.args.order c.args.address c.args.bytes.now) (g.O.Sink.state c.args.out.now) (g.O.Sink.state c.loop-k.out) (range_with_len 0 n) c.loop-k.k
    (subst P (sym (length-range_with_len 0 n)) (omega (arith, c.loop-k-test.false))) c.loop-k.invariant
