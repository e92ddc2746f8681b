use Rattle.std.proofs.Common.{◌≡◌, subst}
use Rattle.board_machine.specs.Fabric.{Fabric, breaks_come}
use Rattle.quiet_cycles.proofs.Calm.{none_come}
use Rattle.board_run.proofs.wires.Wires.let_breaks_come.Goals as goal

pub returns-else-self : goal.returns-else-self
returns-else-self c = subst (λ (f : Fabric). f ≡ breaks_come f) c.self.view_is (none_come _ c.self.inside.next_break c.self.invariant.5 c.if-self.false)
