-- The laws of journals, from the open machine.
use Rattle.std.proofs.Common.{◌≡◌, ℕ, List, Some, ap, subst, slice_get}
use Rattle.isa_step.specs.Effects.{View}
use Rattle.board_file.specs.declared.board.BoardFile.{BoardFile}
use Rattle.board_machine.specs.Fabric.{Fabric}
use Rattle.board_machine.specs.World.{CoreAt, Inputs}
use Rattle.journal_laws.specs.Laws.{order_of}
use Rattle.journal_laws.specs.LinkLaw.{LinkLaw}
use Rattle.journal_laws.specs.Progress.{ProgressBound}
use Rattle.journal_laws.specs.TakeLaw.{TakeLaw}
use Rattle.journal_laws.proofs.LinkRuns.{link_law_holds}
use Rattle.journal_laws.proofs.PaceCycles.{progress_bound_holds}
use Rattle.journal_laws.proofs.TakeRuns.{take_law_holds}
use Rattle.exact_machine.specs.Machine.{ExactCore, ExactWorld, exact_steps}
use Rattle.exact_machine.specs.Runs.{exact_cycles, exact_start}
use Rattle.exact_machine.specs.Laws.{ExactJournalsHaveLaws, OpenCycles, OpenReached}
use Rattle.exact_machine.proofs.Cycling.{runs_open}
use Rattle.exact_machine.proofs.Opening.{open_at}

link_law : (b : BoardFile) (views : List View) (inputs : Inputs) (x : ExactWorld) → OpenReached b views inputs x → LinkLaw b.links x.fabric.journal
link_law b views inputs x o = subst (λ (f : Fabric). LinkLaw b.links f.journal) o.is_open.fabric (link_law_holds.law b views inputs o.end o.reached)

take_law : (b : BoardFile) (views : List View) (inputs : Inputs) (x : ExactWorld) → OpenReached b views inputs x → (core : ℕ) (s : ExactCore) (first : View) → slice_get x.cores core ≡ Some s → slice_get views core ≡ Some first
    → TakeLaw b.events first core s.acts x.fabric.journal
take_law b views inputs x o core s first q v =
    let at = open_at x.cores o.end.cores core s o.is_open.cores q in
    let law = take_law_holds.law b views inputs o.end o.reached core at.0 first at.1 v in
    subst (λ n. TakeLaw b.events first core n x.fabric.journal) (ap (λ (s : CoreAt). s.acts) at.2.core)
    (subst (λ (f : Fabric). TakeLaw b.events first core at.0.acts f.journal) o.is_open.fabric law)

progress : (b : BoardFile) (views : List View) (inputs : Inputs) (count : ℕ) (x : ExactWorld) → OpenCycles b views inputs count x → ProgressBound (order_of b) b.links views x.fabric.journal
progress b views inputs count x o = subst (λ (f : Fabric). ProgressBound (order_of b) b.links views f.journal) o.is_open.fabric (progress_bound_holds.law b views inputs count o.end o.ran)

pub journals_have_laws : ExactJournalsHaveLaws
journals_have_laws = record {
  links = λ b views inputs room events l t. link_law b views inputs (exact_steps (exact_start b views inputs room) events) (runs_open.reached b views inputs room events l t);
  takes = λ b views inputs room events l t. take_law b views inputs (exact_steps (exact_start b views inputs room) events) (runs_open.reached b views inputs room events l t);
  progress = λ b views inputs room count l. progress b views inputs count (exact_cycles (exact_start b views inputs room) count) (runs_open.cycles b views inputs room count l);
}
