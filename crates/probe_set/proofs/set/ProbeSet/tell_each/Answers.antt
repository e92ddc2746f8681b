use Rattle.std.proofs.Common.{rules, ◌≡◌, ℕ, ◌+◌, ◌<◌, ◌≤◌, ◌^◌, ◌↔◌, ◌||◌, ◌∷◌, ◌++◌, [], true, false, not, filter, length, map, take, drop, IsTrue, List, refl, sym, ap, ◌∙◌, arith, Some, None}
use Rattle.std.specs.List.{list_any}
use Rattle.std.specs.Str.{bytes_eq}
use Rattle.probe_set.specs.Folds.{asks, begun, told}
use Rattle.probe_set.specs.Sets.{HaveRoom, Named, all_told, all_told_each, any_asks, any_asks_each, items_of, named, state_named}
use Rattle.probe_set.proofs.Telling.{goes_begin, goes_end, goes_more, goes_room, no_entry, nobody}
use Rattle.probe_set.proofs.set.ProbeSet.tell_each.Goals as goal

pub loop-e-init : goal.loop-e-init
loop-e-init g c = goes_begin _ _ c.requires

pub tell-answer-requires : goal.tell-answer-requires
tell-answer-requires g c = goes_room no_entry _ _ _ _ _ c.loop-e-test.true c.loop-e.invariant

pub loop-e-preserved : goal.loop-e-preserved
loop-e-preserved g c = goes_more no_entry _ _ _ _ _ _ _ _ c.loop-e-test.true c.loop-e.invariant c.tell-answer.ensures.told c.tell-answer.ensures.asked c.either-asked.ensures

pub returns-clause-told : goal.returns-clause-told
returns-clause-told g c = (goes_end _ _ _ _ _ c.loop-e-test.false c.loop-e.invariant).0

pub returns-clause-asked : goal.returns-clause-asked
returns-clause-asked g c = (goes_end _ _ _ _ _ c.loop-e-test.false c.loop-e.invariant).1

pub returns-then-is_empty-clause-told : goal.returns-then-is_empty-clause-told
returns-then-is_empty-clause-told g c =
    let none : items_of c.args.self.now.probes ≡ [] = search rules in
    (nobody c.args.entries.now _ (ap (map _) none)).0

pub returns-then-is_empty-clause-asked : goal.returns-then-is_empty-clause-asked
returns-then-is_empty-clause-asked g c =
    let none : items_of c.args.self.now.probes ≡ [] = search rules in
    (nobody c.args.entries.now _ (ap (map _) none)).1
