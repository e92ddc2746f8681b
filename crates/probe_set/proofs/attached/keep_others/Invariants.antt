use Rattle.std.proofs.Common.{rules, ◌≡◌, ℕ, ◌+◌, ◌<◌, ◌≤◌, ◌^◌, ◌↔◌, ◌||◌, ◌∷◌, ◌++◌, [], true, false, not, filter, length, map, take, drop, IsTrue, List, vec_len, ◌-◌, refl, sym, ap, ◌∙◌, arith, Some, None}
use Rattle.std.specs.List.{list_any}
use Rattle.std.specs.Str.{bytes_eq}
use Rattle.probe_set.specs.Folds.{asks, begun, told}
use Rattle.probe_set.specs.Sets.{HaveRoom, Named, all_told, all_told_each, any_asks, any_asks_each, items_of, named, state_named}
use Rattle.probe_set.proofs.Telling.{Sifted}
use Rattle.probe_set.proofs.attached.keep_others.Given as goal

abbrev pub invariant-loop-k : goal.invariant-loop-k
invariant-loop-k g l = Sifted (λ a. not (bytes_eq a.name l.name)) l.fn.list.items l.list.items l.k

abbrev pub decreases-loop-k : goal.decreases-loop-k
decreases-loop-k g l = vec_len l.list - l.k
