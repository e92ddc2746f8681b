use Rattle.std.proofs.Common.{◌≡◌, flat_map, take}
use Rattle.board_file.specs.Bus.{lone_faults}
use Rattle.board_file.specs.Faults.{least_after}
use Rattle.board_file.proofs.bus.check_lone_irqs.Given as goal

abbrev pub invariant-loop-claim : goal.invariant-loop-claim
invariant-loop-claim l = l.best ≡ least_after l.initial.best (flat_map (lone_faults l.controllers) (take l.claim-index l.irqs))
