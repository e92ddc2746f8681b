use Rattle.std.proofs.Common.{◌≡◌, length}
use Rattle.board_bus.specs.RestTests.{intcs_rest}
use Rattle.board_bus.proofs.bus.Bus.intcs_rest.Given as goal

abbrev pub invariant-loop-k : goal.invariant-loop-k
invariant-loop-k l = (l.k-end ≡ length l.fn.self.rows.intcs) × (l.rest ≡ intcs_rest l.fn.self.rows l.fn.self.devices l.k)
