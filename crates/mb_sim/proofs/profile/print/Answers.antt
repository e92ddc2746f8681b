use Rattle.std.proofs.Common.{ℕ, List, Err, sym, subst}
use Rattle.host_io.specs.Outside.{Adds}
use Rattle.host_io.specs.declared.faults.StoreFault.{StoreFault}
use Rattle.host_io.specs.declared.faults.StoreFault.TheVariants.{Failed, NoMemory}
use Rattle.mb_sim.specs.declared.status.Status.{Status}
use Rattle.mb_sim.specs.declared.status.Status.TheVariants.{WriteFault}
use Rattle.mb_sim.specs.Profiled.{PrintsProfiled, printed, profile_text, stopped}
use Rattle.mb_sim.proofs.profile.print.Goals as goal

pub returns-in-Ok : goal.returns-in-Ok
returns-in-Ok g c =
    let Q : Status → Type 0 = λ s. PrintsProfiled c.args.ready.now.outputs c.args.ready.now.board c.args.end (g.O.Sink.state c.args.out.now) (g.O.Sink.state c.print_all.new.out) s in
    subst Q (sym c.status_of.ensures) (printed c.in-Ok.ensures)

pub returns-in-Err-Failed : goal.returns-in-Err-Failed
returns-in-Err-Failed g c =
    let R : StoreFault → Type 0 = λ f. Adds (g.O.Sink.state c.args.out.now) (g.O.Sink.state c.print_all.new.out) (profile_text c.args.ready.now.outputs c.args.ready.now.board c.args.end) (Err f) in
    let Q : List ℕ → Type 0 = λ f. PrintsProfiled c.args.ready.now.outputs c.args.ready.now.board c.args.end (g.O.Sink.state c.args.out.now) (g.O.Sink.state c.print_all.new.out) (WriteFault f) in
    subst Q (sym c.output.ensures) (stopped Failed (subst R c.in-Err-Failed.field-0-is c.in-Err-Failed.ensures))

pub returns-in-Err-NoMemory : goal.returns-in-Err-NoMemory
returns-in-Err-NoMemory g c =
    let R : StoreFault → Type 0 = λ f. Adds (g.O.Sink.state c.args.out.now) (g.O.Sink.state c.print_all.new.out) (profile_text c.args.ready.now.outputs c.args.ready.now.board c.args.end) (Err f) in
    stopped NoMemory (subst R c.in-Err-NoMemory.field-0-is c.in-Err-NoMemory.ensures)
