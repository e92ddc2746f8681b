use Rattle.std.proofs.Common.{rules, ◌≡◌, ℕ, ◌+◌, ◌<◌, ◌≤◌, ◌^◌, ◌↔◌, ◌||◌, ◌∷◌, ◌++◌, [], true, false, not, filter, length, map, take, drop, IsTrue, List, refl, sym, ap, ◌∙◌, arith, Some, None}
use Rattle.std.specs.List.{list_any}
use Rattle.std.specs.Str.{bytes_eq}
use Rattle.probe_set.specs.Folds.{asks, begun, told}
use Rattle.probe_set.specs.Sets.{HaveRoom, Named, all_told, all_told_each, any_asks, any_asks_each, items_of, named, state_named}
use Rattle.probe_set.proofs.attached.has_name.Given as goal

abbrev pub invariant-loop-one : goal.invariant-loop-one
invariant-loop-one g l = list_any (λ a. bytes_eq a.name l.name) l.attached ≡ list_any (λ a. bytes_eq a.name l.name) (drop l.one-index l.attached)
