use Rattle.std.proofs.Common.{◌≡◌, length}
use Rattle.board_machine.specs.DeviceMoves.{uart_inputs}
use Rattle.board_bus.proofs.bus.Bus.bits_of_uarts.Given as goal

abbrev pub invariant-loop-k : goal.invariant-loop-k
invariant-loop-k l = (l.k-end ≡ length l.fn.self.rows.uarts) × (l.inputs ≡ uart_inputs l.fn.self.rows l.fn.self.devices l.fn.core l.k)
