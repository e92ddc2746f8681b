use Rattle.std.proofs.Common.{◌≡◌, length}
use Rattle.board_machine.specs.DeviceMoves.{timer_inputs}
use Rattle.board_bus.proofs.bus.Bus.bits_of_timers.Given as goal

abbrev pub invariant-loop-k : goal.invariant-loop-k
invariant-loop-k l = (l.k-end ≡ length l.fn.self.rows.timers) × (l.inputs ≡ timer_inputs l.fn.self.rows l.fn.self.devices l.fn.core l.k)
