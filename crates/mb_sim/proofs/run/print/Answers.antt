use Rattle.std.proofs.Common.{ℕ, List, Ok, Err, sym, ap, subst, ◌∙◌}
use Rattle.host_io.specs.Outside.{Adds}
use Rattle.host_io.specs.declared.faults.StoreFault.{StoreFault}
use Rattle.host_io.specs.declared.faults.StoreFault.TheVariants.{Failed, NoMemory}
use Rattle.mb_sim.specs.declared.status.Status.{Status}
use Rattle.mb_sim.specs.declared.status.Status.TheVariants.{WriteFault}
use Rattle.mb_sim.specs.Board.{Prints, printed, report_of, stopped}
use Rattle.mb_sim.specs.Runs.{code_of}
use Rattle.mb_sim.proofs.Boards.{report_is}
use Rattle.mb_sim.proofs.run.print.Goals as goal

pub returns-in-Ok : goal.returns-in-Ok
returns-in-Ok g c =
    let text = report_is c.args.outputs.now c.args.board.now c.args.end c.journal.result.now.entries c.code.result c.number.result c.journal.ensures.entries (c.code.ensures ∙ ap code_of c.status_of-status.ensures) c.number.ensures in
    let P : List ℕ → Type 0 = λ t. Adds (g.O.Sink.state c.args.out.now) (g.O.Sink.state c.print_report.new.out) t (Ok tt) in
    let Q : Status → Type 0 = λ s. Prints c.args.outputs.now c.args.board.now c.args.end (g.O.Sink.state c.args.out.now) (g.O.Sink.state c.print_report.new.out) s in
    subst Q (sym c.status_of-status.ensures) (printed (subst P text c.in-Ok.ensures.report))

pub returns-in-Err-Failed : goal.returns-in-Err-Failed
returns-in-Err-Failed g c =
    let text = report_is c.args.outputs.now c.args.board.now c.args.end c.journal.result.now.entries c.code.result c.number.result c.journal.ensures.entries (c.code.ensures ∙ ap code_of c.status_of-status.ensures) c.number.ensures in
    let R : StoreFault → Type 0 = λ f. Adds (g.O.Sink.state c.args.out.now) (g.O.Sink.state c.print_report.new.out) (report_of c.args.outputs.now c.args.board.now c.args.end) (Err f) in
    let P : List ℕ → Type 0 = λ t. Adds (g.O.Sink.state c.args.out.now) (g.O.Sink.state c.print_report.new.out) t (Err c.in-Err-Failed.field-0) in
    let Q : List ℕ → Type 0 = λ f. Prints c.args.outputs.now c.args.board.now c.args.end (g.O.Sink.state c.args.out.now) (g.O.Sink.state c.print_report.new.out) (WriteFault f) in
    subst Q (sym c.output.ensures) (stopped Failed (subst R c.in-Err-Failed.field-0-is (subst P text c.in-Err-Failed.ensures.report)))

pub returns-in-Err-NoMemory : goal.returns-in-Err-NoMemory
returns-in-Err-NoMemory g c =
    let text = report_is c.args.outputs.now c.args.board.now c.args.end c.journal.result.now.entries c.code.result c.number.result c.journal.ensures.entries (c.code.ensures ∙ ap code_of c.status_of-status.ensures) c.number.ensures in
    let R : StoreFault → Type 0 = λ f. Adds (g.O.Sink.state c.args.out.now) (g.O.Sink.state c.print_report.new.out) (report_of c.args.outputs.now c.args.board.now c.args.end) (Err f) in
    let P : List ℕ → Type 0 = λ t. Adds (g.O.Sink.state c.args.out.now) (g.O.Sink.state c.print_report.new.out) t (Err c.in-Err-NoMemory.field-0) in
    stopped NoMemory (subst R c.in-Err-NoMemory.field-0-is (subst P text c.in-Err-NoMemory.ensures.report))
