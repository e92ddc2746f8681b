use Rattle.std.proofs.Common.{◌≡◌, ◌++◌, flat_map, take}
use Rattle.mb_debug.specs.Prints.{kind_of}
use Rattle.probe_set.specs.Sets.{named}
use Rattle.mb_debug.proofs.probe_texts.add_kinds.Given as goal

-- the lines of the first are there
abbrev pub invariant-loop-one : goal.invariant-loop-one
invariant-loop-one g l =
    l.text.items ≡ l.fn.text.items ++ flat_map (λ a. kind_of (named a.name ((goal.Probe-dyn g (a.probe.vtable, a.probe.value)).state_of a.probe.value))) (take l.one-index l.one-items)
