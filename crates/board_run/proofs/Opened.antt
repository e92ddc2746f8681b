-- What each call keeps of the open machine.
use Rattle.std.proofs.Common.{◌≡◌, ℕ, zero, suc, take, List, [], ◌∷◌, length, refl, ap, sym, ◌∙◌, subst}
use Rattle.std.specs.List.{AllByRecursion}
use Rattle.board_machine.specs.declared.events.Event.{Event}
use Rattle.board_machine.specs.declared.events.RunEnd.{RunEnd}
use Rattle.board_machine.specs.Cycles.{cycles_of, events_of}
use Rattle.board_machine.specs.Fabric.{Fabric}
use Rattle.board_machine.specs.World.{IsThere, Schedule, Steps, World}
use Rattle.board_machine.proofs.Keeping.{keeps_rest, keeps_runs}
use Rattle.net_law.proofs.Files.{keeps_network}
use Rattle.exact_machine.specs.Machine.{ExactWorld}
use Rattle.exact_machine.specs.Opening.{IsOpen}
use Rattle.exact_machine.specs.Runs.{ExactRun}
use Rattle.exact_machine.specs.Stepping.{Steps as ExactSteps}
use Rattle.exact_machine.proofs.Cycling.{events_there, runs_open}
use Rattle.exact_machine.proofs.Opening.{steps_open}
use Rattle.board_run.specs.Laws.{InOpen, KeepsAll, KeepsProgress}
use Rattle.board_run.proofs.LawsKept.{keeps_laws, keeps_progress, one_cycle}

all_kept : (w v : World) (es : List Event) → Steps w es v → KeepsAll w v
all_kept w v es h = (keeps_runs w v es h, keeps_laws w v es h, keeps_network w v es h, keeps_rest w v es h)

in_open : (P : World → World → Type 0) (old new : ExactWorld) (es : List Event) → ExactSteps old es new → AllByRecursion (IsThere (length old.cores)) es
    → ((w v : World) → IsOpen old w → Steps w es v → P w v) → InOpen P old new
in_open P old new es s there keeps w h =
    let o = steps_open old w es h there in
    (o.end, subst (λ x. IsOpen x o.end) (sym s) o.is_open, keeps w o.end h o.steps)

pub steps_in_open : (old new : ExactWorld) (es : List Event) → ExactSteps old es new → AllByRecursion (IsThere (length old.cores)) es → InOpen KeepsAll old new
steps_in_open old new es s there = in_open KeepsAll old new es s there (λ w v h steps. all_kept w v es steps)

all_take : {X : Type 0} (P : X → Type 0) (k : ℕ) (xs : List X) → AllByRecursion P xs → AllByRecursion P (take k xs)
all_take P zero xs h = tt
all_take P (suc k) [] h = tt
all_take P (suc k) (x ∷ xs) h = (h.0, all_take P k xs h.1)

pub play_in_open : (old new : ExactWorld) (es : List Event) (k : ℕ) → ExactSteps old (take k es) new → AllByRecursion (IsThere (length old.cores)) es → InOpen KeepsAll old new
play_in_open old new es k s there = steps_in_open old new (take k es) s (all_take (IsThere (length old.cores)) k es there)

there_by : (old : ExactWorld) → length old.schedule.clocks ≡ length old.cores → AllByRecursion (IsThere (length old.cores)) (events_of old.schedule old.fabric.cycle)
there_by old c = subst (λ n. AllByRecursion (IsThere n) (events_of old.schedule old.fabric.cycle)) c (events_there old.schedule old.fabric.cycle)

pub cycle_in_open : (old new : ExactWorld) → length old.schedule.clocks ≡ length old.cores → ExactSteps old (events_of old.schedule old.fabric.cycle) new → InOpen KeepsAll old new
cycle_in_open old new c s = steps_in_open old new (events_of old.schedule old.fabric.cycle) s (there_by old c)

own_events : (old : ExactWorld) (w v : World) → IsOpen old w → Steps w (events_of old.schedule old.fabric.cycle) v → Steps w (events_of w.schedule w.fabric.cycle) v
own_events old w v h steps =
    subst (λ (t : Schedule). Steps w (events_of t w.fabric.cycle) v) (sym h.schedule)
    (subst (λ (f : Fabric). Steps w (events_of old.schedule f.cycle) v) (sym h.fabric) steps)

pub cycle_progress : (old new : ExactWorld) → length old.schedule.clocks ≡ length old.cores → ExactSteps old (events_of old.schedule old.fabric.cycle) new → InOpen KeepsProgress old new
cycle_progress old new c s =
    in_open KeepsProgress old new (events_of old.schedule old.fabric.cycle) s (there_by old c) (λ w v h steps. keeps_progress w v 1 (one_cycle w v (own_events old w v h steps)))

pub run_in_open : (limit : ℕ) (old new : ExactWorld) (end : RunEnd) → length old.schedule.clocks ≡ length old.cores → ExactRun limit old new end → InOpen KeepsAll old new
run_in_open limit old new end c r w h =
    let o = runs_open.runs limit old new w end h c r in
    (o.last, o.is_open, all_kept w o.last (cycles_of w.schedule w.fabric.cycle o.ran.count) o.ran.cycles)

pub run_progress : (limit : ℕ) (old new : ExactWorld) (end : RunEnd) → length old.schedule.clocks ≡ length old.cores → ExactRun limit old new end → InOpen KeepsProgress old new
run_progress limit old new end c r w h =
    let o = runs_open.runs limit old new w end h c r in
    (o.last, o.is_open, keeps_progress w o.last o.ran.count o.ran.cycles)

pub clocks_by : (old view : ExactWorld) → old ≡ view → length old.schedule.clocks ≡ length old.cores → length view.schedule.clocks ≡ length view.cores
clocks_by old view e c = subst (λ (x : ExactWorld). length x.schedule.clocks ≡ length x.cores) e c
