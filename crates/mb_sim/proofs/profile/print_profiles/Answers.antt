use Rattle.std.proofs.Common.{Option, ap, length, sym, ◌∙◌, arith}
use Rattle.std.proofs.lemmas.Result.{err_from_is_err_and}
use Rattle.exact_machine.specs.Machine.{ExactWorld}
use Rattle.exact_machine.specs.Profile.{Profile}
use Rattle.board_profile.specs.Lines.{profile_line}
use Rattle.run_output.proofs.Printing.{all_lines, line_added, line_refused}
use Rattle.mb_sim.specs.Profiled.{line_of_profile, or_nothing}
use Rattle.mb_sim.proofs.profile.print_profiles.Goals as goal

pub returns-in_err-write_all : goal.returns-in_err-write_all
returns-in_err-write_all g c =
    let p = err_from_is_err_and c.from_residual.result c.from_residual.ensures.1 in
    rw (p.1, p.2)
    (line_refused (g.O.Sink.state c.args.out.now) (g.O.Sink.state c.loop-k.out) (g.O.Sink.state c.write_all.new.self)
    (line_of_profile c.args.board.now.profiles) c.args.rows.now c.loop-k.k c.index-rows-k.result c.as_bytes.result.now c.in_err-write_all.field-0.0
    (omega (arith, c.loop-k-test.true, c.cores-k-end.ensures, c.requires, ap (λ (x : ExactWorld). length x.cores) c.board.ensures)) c.index-rows-k.is
    (c.as_bytes.ensures.bytes ∙ c.profile_line-line.ensures ∙ ap (λ (o : Option Profile). profile_line c.index-rows-k.result.name (or_nothing o)) (sym c.profile-profile.ensures)) c.loop-k.invariant c.in_err-write_all.ensures.answer)

pub loop-k-preserved : goal.loop-k-preserved
loop-k-preserved g c =
    line_added (g.O.Sink.state c.args.out.now) (g.O.Sink.state c.loop-k.out) (g.O.Sink.state c.write_all.new.self)
    (line_of_profile c.args.board.now.profiles) c.args.rows.now c.loop-k.k c.index-rows-k.result c.as_bytes.result.now
    (omega (arith, c.loop-k-test.true, c.cores-k-end.ensures, c.requires, ap (λ (x : ExactWorld). length x.cores) c.board.ensures)) c.index-rows-k.is
    (c.as_bytes.ensures.bytes ∙ c.profile_line-line.ensures ∙ ap (λ (o : Option Profile). profile_line c.index-rows-k.result.name (or_nothing o)) (sym c.profile-profile.ensures)) c.loop-k.invariant c.in_ok-write_all.ensures.answer

pub returns : goal.returns
returns g c =
    all_lines (g.O.Sink.state c.args.out.now) (g.O.Sink.state c.loop-k.out) (line_of_profile c.args.board.now.profiles) c.args.rows.now c.loop-k.k
    (omega (arith, c.loop-k-test.false, c.cores-k-end.ensures, c.requires, ap (λ (x : ExactWorld). length x.cores) c.board.ensures)) c.loop-k.invariant
