use Rattle.std.proofs.Common.{rules, ◌≡◌, ℕ, ◌+◌, ◌<◌, ◌≤◌, ◌^◌, ◌↔◌, ◌||◌, ◌∷◌, ◌++◌, [], true, false, not, filter, length, map, take, drop, IsTrue, List, refl, sym, ap, ◌∙◌, arith, Some, None}
use Rattle.std.specs.List.{list_any}
use Rattle.std.specs.Str.{bytes_eq}
use Rattle.probe_set.specs.Folds.{asks, begun, told}
use Rattle.probe_set.specs.Sets.{HaveRoom, Named, all_told, all_told_each, any_asks, any_asks_each, items_of, named, state_named}
use Rattle.probe_set.proofs.Telling.{partly_all, partly_length, partly_more, partly_none, partly_room}
use Rattle.probe_set.proofs.attached.tell_all.Goals as goal

pub loop-k-init : goal.loop-k-init
loop-k-init g c = partly_none _ _

pub on-answer-requires : goal.on-answer-requires
on-answer-requires g c = partly_room _ _ _ _ _ _ _ c.loop-k.invariant (omega (arith, partly_length _ _ _ _ _ _ c.loop-k.invariant)) c.index_mut-one.ensures.value c.requires

pub loop-k-preserved : goal.loop-k-preserved
loop-k-preserved g c =
    partly_more _ _ _ _ _ _ _ _ _ _ c.loop-k.invariant (omega (arith, partly_length _ _ _ _ _ _ c.loop-k.invariant)) c.index_mut-one.ensures.value
    (λ i. record { name = c.on-answer.ensures.name i; state = c.on-answer.ensures.moved i })
    c.on-answer.ensures.asked c.either-asked.ensures

pub returns-clause-told : goal.returns-clause-told
returns-clause-told g c = (partly_all _ _ _ _ _ _ c.loop-k.invariant (omega (arith, partly_length _ _ _ _ _ _ c.loop-k.invariant))).0

pub returns-clause-asked : goal.returns-clause-asked
returns-clause-asked g c = (partly_all _ _ _ _ _ _ c.loop-k.invariant (omega (arith, partly_length _ _ _ _ _ _ c.loop-k.invariant))).1
