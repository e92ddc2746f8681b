use Rattle.std.proofs.Common.{ap, length, ◌∙◌}
use Rattle.board_machine.specs.Fabric.{Fabric, breaks_come}
use Rattle.board_machine.proofs.Lines.{moved_lines}
use Rattle.board_run.proofs.board.Board.move_devices.Goals as goal

pub invariant_of-self : goal.invariant_of-self
invariant_of-self g c = (
  c.self.invariant.0,
  ap (λ (f : Fabric). length f.lines) c.devices.ensures ∙ ap length (moved_lines (breaks_come c.self.inside.wires)) ∙ c.self.invariant.1,
  c.self.invariant.2,
  c.self.invariant.3,
)
