use Rattle.std.proofs.Common.{◌≡◌, map}
use Rattle.std.specs.List.{range_with_len}
use Rattle.any_core.specs.States.{any_state}
use Rattle.any_core.specs.declared.AnyCore.{AnyCore}
use Rattle.board_run.specs.Boards.{AreNew}
use Rattle.ring_demo.specs.Programs.{ring_view}
use Rattle.ring_demo.specs.Ring.{ring_core}
use Rattle.ring_demo.proofs.program.ring_cores.Given as goal

abbrev pub invariant-loop-core : goal.invariant-loop-core
invariant-loop-core l =
    record {
      views : map (λ (core : AnyCore). (any_state core).view) l.cores.items ≡ map (ring_view l.fn.number) (range_with_len 0 l.core);
      new : AreNew (map ring_core (range_with_len 0 l.core)) (map any_state l.cores.items);
    }
