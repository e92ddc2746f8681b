-- Cores that act at once, one after another.
use Rattle.std.proofs.Common.{◌≡◌, ℕ, ◌+◌, ◌<◌, List, length, map, Option, Some, None, refl, ap, sym, ◌∙◌, subst, get_or, slice_get, slice_set, false}
use Rattle.std.proofs.lemmas.List.{map-set}
use Rattle.std.proofs.Math.Seq.{map-set_same}
use Rattle.core_iface.specs.Cores.{CoreState}
use Rattle.core_iface.specs.Ticks.{TicksAlone}
use Rattle.prepared_act.specs.Retiring.{is_offered}
use Rattle.board_machine.specs.Fabric.{shown}
use Rattle.board_machine.specs.Resting.{idle_at, idle_here}
use Rattle.exact_machine.specs.Machine.{ExactCore, ExactWorld}
use Rattle.exact_machine.specs.Stepping.{Step}
use Rattle.board_machine.specs.declared.events.Event.TheVariants.{Tick}
use Rattle.quiet_cycles.specs.Quiet.{TicksAtOnce}
use Rattle.quiet_cycles.proofs.Running.{TickAtOnce, ticks_more}
use Rattle.board_run.specs.Boards.{core_of}
use Rattle.board_run.proofs.Ticks.{opened_at, stepped, ticks_alone, busy_alone, seen, slice_get_mapped}

-- a core of a list that acts at once
ticked : {X : Type 0} (state : X → CoreState) (xs : List X) (k : ℕ) (old new : X) → k < length xs → old ≡ get_or xs k old → TicksAlone (state old) (state new) → TickAtOnce k (map (seen state) xs) (map (seen state) (slice_set xs k new))
ticked state xs k old new l e h =
    let there = slice_get_mapped (seen state) xs k old l e in
    record {
      step = λ w same calm.
          let tick = ticks_alone k (shown w.fabric k) w.fabric (state old) (state new) h calm in
          stepped w k (seen state old) (seen state new) w.fabric (ap (λ (cores : List ExactCore). slice_get cores k) same ∙ there) tick.core_is tick.fabric
          (map-set (seen state) xs k new ∙ ap (λ (cores : List ExactCore). slice_set cores k (seen state new)) (sym same));
      busy = λ w same calm. ap (idle_here w.fabric k) (opened_at w.cores k (seen state old) (ap (λ (cores : List ExactCore). slice_get cores k) same ∙ there)) ∙ busy_alone k w.fabric h calm;
    }

pub ticked_more : {X : Type 0} (state : X → CoreState) (first xs : List X) (k : ℕ) (old new : X) → length xs ≡ length first → k < length xs → old ≡ get_or xs k old → TicksAlone (state old) (state new) → k < length (map (seen state) first)
    → TicksAtOnce (map (seen state) first) k (map (seen state) xs) → TicksAtOnce (map (seen state) first) (k + 1) (map (seen state) (slice_set xs k new))
ticked_more state first xs k old new n l e h there t = ticks_more (map (seen state) first) (map (seen state) xs) (map (seen state) (slice_set xs k new)) k there t (ticked state xs k old new l e h)

-- one that doesn't is as before
pub ticked_none : {X : Type 0} (state : X → CoreState) (first xs : List X) (k : ℕ) (old new : X) → old ≡ get_or xs k old → state new ≡ state old → TicksAtOnce (map (seen state) first) k (map (seen state) xs) → TicksAtOnce (map (seen state) first) k (map (seen state) (slice_set xs k new))
ticked_none state first xs k old new e h t =
    let same : map (seen state) (slice_set xs k new) ≡ map (seen state) xs = map-set_same (seen state) xs k new old (ap core_of h ∙ ap (seen state) e) in
    subst (λ (cores : List ExactCore). TicksAtOnce (map (seen state) first) k cores) (sym same) t
