use Rattle.std.proofs.Common.{◌≤◌, map}
use Rattle.probe_set.specs.Sets.{items_of, named}
use Rattle.mb_debug.specs.Scenes.{scene}
use Rattle.mb_debug.proofs.Cycling.{Along}
use Rattle.mb_debug.proofs.moves.step.Given as goal

-- so many cycles were done, and no end came before them
abbrev pub invariant-loop-k : goal.invariant-loop-k
invariant-loop-k g l =
    (l._k ≤ l.count)
    × Along l.limit (scene l.fn.board (map (λ a. named a.name ((goal.Probe-dyn g (a.probe.vtable, a.probe.value)).state_of a.probe.value)) (items_of l.fn.probes.probes)))
    (scene l.board (map (λ a. named a.name ((goal.Probe-dyn g (a.probe.vtable, a.probe.value)).state_of a.probe.value)) (items_of l.probes.probes))) l._k
