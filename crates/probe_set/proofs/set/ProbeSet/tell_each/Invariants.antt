use Rattle.std.proofs.Common.{rules, ◌≡◌, ℕ, ◌+◌, ◌<◌, ◌≤◌, ◌^◌, ◌↔◌, ◌||◌, ◌∷◌, ◌++◌, [], true, false, not, filter, length, map, take, drop, IsTrue, List, refl, sym, ap, ◌∙◌, arith, Some, None}
use Rattle.std.specs.List.{list_any}
use Rattle.std.specs.Str.{bytes_eq}
use Rattle.probe_set.specs.Folds.{asks, begun, told}
use Rattle.probe_set.specs.Sets.{HaveRoom, Named, all_told, all_told_each, any_asks, any_asks_each, items_of, named, state_named}
use Rattle.probe_set.proofs.Telling.{GoesOn}
use Rattle.probe_set.proofs.set.ProbeSet.tell_each.Given as goal

abbrev pub invariant-loop-e : goal.invariant-loop-e
invariant-loop-e g l =
    GoesOn l.entries (map (λ a. named a.name ((goal.Probe-dyn g (a.probe.vtable, a.probe.value)).state_of a.probe.value)) (items_of l.fn.self.probes))
    (map (λ a. named a.name ((goal.Probe-dyn g (a.probe.vtable, a.probe.value)).state_of a.probe.value)) (items_of l.self.probes))
    (drop l.e-index l.entries) l.asked
