use Rattle.std.proofs.Common.{◌≡◌, map, take}
use Rattle.debug_job.proofs.names.probe_names.Given as goal

abbrev pub invariant-loop-probe : goal.invariant-loop-probe
invariant-loop-probe g l = l.names.items ≡ map (λ probe. probe.name) (take l.probe-index l.attached)
