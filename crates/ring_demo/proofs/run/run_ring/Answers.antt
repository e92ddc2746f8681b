use Rattle.std.proofs.Common.{arith}
use Rattle.ring_demo.proofs.Rings.{has_run}
use Rattle.ring_demo.proofs.Tallies.{tally_of_journal}
use Rattle.exact_machine.proofs.Starting.{can_run}
use Rattle.ring_demo.specs.Programs.{no_inputs, ring_views}
use Rattle.ring_demo.specs.Ring.{ring_board}
use Rattle.ring_demo.proofs.run.run_ring.Goals as goal

pub run-end-requires-clause-can : goal.run-end-requires-clause-can
run-end-requires-clause-can c = can_run (ring_board c.args.turn c.args.number) (ring_views c.args.number) no_inputs 1_048_576 10_000_000 c.in_ok-board.board c.in_ok-board.ensures (omega arith)

pub returns : goal.returns
returns c =
    has_run c.args.turn c.args.number (record { end = c.run-end.result; tally = c.tally_of-tally.result }) c.in_ok-board.board c.run-end.new.self
    c.in_ok-board.ensures c.run-end.ensures.ran
    (tally_of_journal c.tally_of-tally.result c.journal.result.now.entries c.run-end.new.self.fabric.journal c.journal.ensures.entries c.tally_of-tally.ensures)
