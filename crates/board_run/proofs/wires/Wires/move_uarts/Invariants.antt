use Rattle.std.proofs.Common.{◌≡◌, ◌+◌, ◌≤◌, length}
use Rattle.board_machine.specs.DeviceMoves.{in_order, uart_moved}
use Rattle.board_run.proofs.wires.Wires.move_uarts.Given as goal

abbrev pub invariant-loop-k : goal.invariant-loop-k
invariant-loop-k l = record {
  moved : l.self ≡ in_order uart_moved l.k l.fn.self;
  bus : l.self.bus ≡ l.fn.self.bus;
  count : l.k-end ≡ length l.fn.self.bus.uarts;
  spare : length l.fn.self.bus.uarts ≤ l.self.spare + l.k;
}
