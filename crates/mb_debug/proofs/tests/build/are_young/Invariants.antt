use Rattle.std.proofs.Common.{◌≤◌, ◌^◌, take}
use Rattle.std.specs.List.{AllByRecursion}
use Rattle.mb_debug.proofs.tests.build.are_young.Given as goal

abbrev pub invariant-loop-one : goal.invariant-loop-one
invariant-loop-one g l = AllByRecursion (λ a. ((goal.Probe-dyn g (a.probe.vtable, a.probe.value)).state_of a.probe.value).count ≤ 2 ^ 32) (take l.one-index l.one-items)
