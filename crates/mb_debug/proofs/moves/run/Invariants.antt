use Rattle.std.proofs.Common.{◌≡◌, ◌≤◌, map}
use Rattle.probe_set.specs.Sets.{items_of, named}
use Rattle.mb_debug.specs.Breaks.{place_of}
use Rattle.mb_debug.specs.Scenes.{scene}
use Rattle.mb_debug.proofs.Cycling.{Along, Unstopped}
use Rattle.mb_debug.proofs.moves.run.Given as goal

-- so many cycles were done, no end came before them, and none of them stopped the run
abbrev pub invariant-loop-k : goal.invariant-loop-k
invariant-loop-k g l =
    (l._k ≤ l.count) × (map place_of l.breaks ≡ map place_of l.fn.breaks)
    × Along l.limit (scene l.fn.board (map (λ a. named a.name ((goal.Probe-dyn g (a.probe.vtable, a.probe.value)).state_of a.probe.value)) (items_of l.fn.probes.probes)))
    (scene l.board (map (λ a. named a.name ((goal.Probe-dyn g (a.probe.vtable, a.probe.value)).state_of a.probe.value)) (items_of l.probes.probes))) l._k
    × Unstopped (map place_of l.fn.breaks) (scene l.fn.board (map (λ a. named a.name ((goal.Probe-dyn g (a.probe.vtable, a.probe.value)).state_of a.probe.value)) (items_of l.fn.probes.probes))) l._k
