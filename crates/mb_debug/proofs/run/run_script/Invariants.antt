use Rattle.std.proofs.Common.{List, [], map, take}
use Rattle.probe_set.specs.Sets.{items_of, named}
use Rattle.mb_debug.specs.Breaks.{place_of}
use Rattle.mb_debug.specs.Scripts.{session}
use Rattle.mb_debug.proofs.Scripting.{Done}
use Rattle.mb_debug.proofs.run.run_script.Given as goal

-- the first commands were done
abbrev pub invariant-loop-command : goal.invariant-loop-command
invariant-loop-command g l =
    Done l.names l.limit (take l.command-index l.command-items) (session l.fn.b (map (λ a. named a.name ((goal.Probe-dyn g (a.probe.vtable, a.probe.value)).state_of a.probe.value)) (items_of l.fn.probes.probes)) [])
    (session l.b (map (λ a. named a.name ((goal.Probe-dyn g (a.probe.vtable, a.probe.value)).state_of a.probe.value)) (items_of l.probes.probes)) (map place_of l.breaks.items)) (g.O.Sink.state l.fn.out) (g.O.Sink.state l.out)
