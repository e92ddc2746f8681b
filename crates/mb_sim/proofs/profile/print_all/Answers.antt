use Rattle.std.proofs.Common.{◌∙◌, ap}
use Rattle.std.proofs.lemmas.Result.{err_from_is_err_and}
use Rattle.board_file.specs.declared.board.BoardFile.{BoardFile}
use Rattle.exact_machine.specs.Machine.{ExactWorld}
use Rattle.mb_sim.specs.Runs.{code_of}
use Rattle.mb_sim.proofs.Profiles.{all_added, report_cut, report_seen}
use Rattle.mb_sim.proofs.profile.print_all.Goals as goal

pub returns-in_err-print_report : goal.returns-in_err-print_report
returns-in_err-print_report g c =
    let p = err_from_is_err_and c.from_residual.result c.from_residual.ensures.1 in
    let text = report_seen c.args.ready.now.outputs c.args.ready.now.board.world c.board-2.result.now c.args.end c.journal.result.now.entries c.code-code.result c.number-cycles.result c.board-2.ensures
    (c.journal.ensures.entries ∙ ap (λ (x : ExactWorld). x.fabric.journal) c.board-3.ensures) (c.code-code.ensures ∙ ap code_of c.status_of.ensures) (c.number-cycles.ensures ∙ ap (λ (x : ExactWorld). x.fabric.cycle) c.board.ensures) in
    rw (p.1, p.2)
    (report_cut c.args.ready.now.outputs c.args.ready.now.board c.args.end (g.O.Sink.state c.args.out.now) (g.O.Sink.state c.print_report.new.out) _ c.in_err-print_report.field-0.0 text c.in_err-print_report.ensures.report)

pub returns : goal.returns
returns g c =
    let text = report_seen c.args.ready.now.outputs c.args.ready.now.board.world c.board-2.result.now c.args.end c.journal.result.now.entries c.code-code.result c.number-cycles.result c.board-2.ensures
    (c.journal.ensures.entries ∙ ap (λ (x : ExactWorld). x.fabric.journal) c.board-3.ensures) (c.code-code.ensures ∙ ap code_of c.status_of.ensures) (c.number-cycles.ensures ∙ ap (λ (x : ExactWorld). x.fabric.cycle) c.board.ensures) in
    let rows = c.as_slice.ensures ∙ ap (λ (b : BoardFile). b.cores) (c.board-4.ensures ∙ c.in_ok-print_report.ensures.board) in
    all_added c.args.ready.now.outputs c.args.ready.now.board c.args.end (g.O.Sink.state c.args.out.now) (g.O.Sink.state c.print_report.new.out) (g.O.Sink.state c.print_profiles.new.out) _ _ c.print_profiles.result
    text rows c.in_ok-print_report.ensures.report c.print_profiles.ensures
