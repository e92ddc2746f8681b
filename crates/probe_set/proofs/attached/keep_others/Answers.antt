use Rattle.std.proofs.Common.{rules, ◌≡◌, ℕ, ◌+◌, ◌<◌, ◌≤◌, ◌^◌, ◌↔◌, ◌||◌, ◌∷◌, ◌++◌, [], true, false, not, filter, length, map, take, drop, IsTrue, List, refl, sym, ap, ◌∙◌, arith, Some, None}
use Rattle.std.specs.List.{list_any}
use Rattle.std.specs.Str.{bytes_eq}
use Rattle.probe_set.specs.Folds.{asks, begun, told}
use Rattle.probe_set.specs.Sets.{HaveRoom, Named, all_told, all_told_each, any_asks, any_asks_each, items_of, named, state_named}
use Rattle.probe_set.proofs.Telling.{Sifted, sift_begin, sift_drop, sift_end, sift_keep, sifted_as}
use Rattle.probe_set.proofs.attached.keep_others.Goals as goal

pub loop-k-init : goal.loop-k-init
loop-k-init g c = sift_begin _ _

pub returns : goal.returns
returns g c = sift_end _ _ _ _ c.loop-k.invariant (omega arith)

pub loop-k-preserved : goal.loop-k-preserved
loop-k-preserved g c = sift_keep _ _ _ _ _ c.loop-k.invariant (omega arith) c.index.ensures (ap not (sym c.has_name.ensures ∙ c.if-has_name.false))

pub loop-k-preserved-then-has_name : goal.loop-k-preserved-then-has_name
loop-k-preserved-then-has_name g c =
    let sifted : Sifted (λ a. not (bytes_eq a.name c.args.name.now)) c.args.list.now.items (take c.loop-k.k c.loop-k.list.items ++ drop (c.loop-k.k + 1) c.loop-k.list.items) c.loop-k.k =
    sift_drop _ _ _ _ _ c.loop-k.invariant (omega arith) c.index.ensures (ap not (sym c.has_name.ensures ∙ c.if-has_name.true)) in
    sifted_as (sym c.remove-dropped.ensures.by_index.2) sifted
