use Rattle.std.proofs.Common.{rules, ◌≡◌, ℕ, ◌+◌, ◌<◌, ◌≤◌, ◌^◌, ◌↔◌, ◌||◌, ◌∷◌, ◌++◌, [], true, false, not, filter, length, map, take, drop, IsTrue, List, refl, sym, ap, ◌∙◌, arith, Some, None}
use Rattle.std.specs.List.{list_any}
use Rattle.std.specs.Str.{bytes_eq}
use Rattle.probe_set.specs.Folds.{asks, begun, told}
use Rattle.probe_set.specs.Sets.{HaveRoom, Named, all_told, all_told_each, any_asks, any_asks_each, items_of, named, state_named}
use Rattle.probe_set.proofs.Telling.{any_here, any_past, any_end}
use Rattle.probe_set.proofs.attached.has_name.Goals as goal

pub returns-then-has_name : goal.returns-then-has_name
returns-then-has_name g c = any_here _ _ _ _ c.loop-one-test.true c.one-item.is (sym c.has_name.ensures ∙ c.if-has_name.true) c.loop-one.invariant

pub loop-one-preserved : goal.loop-one-preserved
loop-one-preserved g c = any_past _ _ _ _ c.loop-one-test.true c.one-item.is (sym c.has_name.ensures ∙ c.if-has_name.false) c.loop-one.invariant

pub returns : goal.returns
returns g c = any_end _ _ _ c.loop-one-test.false c.loop-one.invariant
