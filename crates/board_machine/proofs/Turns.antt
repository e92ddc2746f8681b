-- What a cycle leaves: each core ticks once at most.
use Rattle.std.proofs.Common.{◌≡◌, ℕ, zero, suc, ◌+◌, ◌*◌, ◌-◌, ◌%◌, ◌^◌, ◌<◌, ◌≤◌, List, [], ◌∷◌, length, Option, Some, None, refl, ap, sym, ◌∙◌, subst, inl, inr, ◌⊎◌, arith, slice_get, length-set, Bool, true, false, add-zero, ◌==◌}
use Rattle.std.proofs.lemmas.Bool.{cases_eq, eq-eqb}
use Rattle.std.proofs.lemmas.Bool.Decides.{nat_tests}
use Rattle.std.proofs.lemmas.Option.{same_Some}
use Rattle.board_machine.specs.declared.events.Event.TheVariants.{Devices, Host, Next}
use Rattle.board_file.specs.declared.board.Turn.{Turn}
use Rattle.board_file.specs.declared.board.Turn.TheVariants.{Ascending, Descending, Rotating}
use Rattle.board_machine.specs.declared.events.RunEnd.{RunEnd}
use Rattle.board_machine.specs.declared.events.RunEnd.TheVariants.{Rest as AtRest, CyclesSpent}
use Rattle.board_machine.specs.declared.events.Rest.{Rest}
use Rattle.isa_step.specs.Due.{due}
use Rattle.board_machine.specs.Fabric.{shown, host_moves}
use Rattle.board_machine.specs.World.{World, CoreAt, Schedule, devices_done, Step, Steps, TickStep, need}
use Rattle.board_machine.specs.Cycles.{core_at, rotated, core_of_turn, turn_of, turns, ticks_where, divides, events_of, cycles_of, Cycles, Runs, RunsTo, CanCycle, CanRun, end_at, end_of}
use Rattle.board_machine.specs.Resting.{rest_of}
use Rattle.board_machine.proofs.Steps.{steps_split, steps_append, steps_push, Ticked, ticked, moves_enter}
use Rattle.board_file.specs.declared.board.LinkRow.{LinkRow}
use Rattle.board_machine.proofs.DeviceSteps.{done_enters}
use Rattle.board_machine.proofs.Lists.{slice_get_set_same, slice_get_set_other}

rotated_apart : (first n j k : ℕ) → first < n → j < n → k < n → rotated first n j ≡ rotated first n k → j ≡ k
rotated_apart first n j k f a b e = grind (arith, nat_tests)

pub turns_apart : (t : Turn) (n cycle j k : ℕ) → j < n → k < n → core_at t n cycle j ≡ core_at t n cycle k → j ≡ k
turns_apart Ascending n cycle j k a b e = e
turns_apart Descending n cycle j k a b e = omega (arith, a, b, e)
turns_apart Rotating n cycle j k a b e = rotated_apart (cycle % n) n j k (omega (arith, a)) a b e

-- amid a cycle, after its first k turns
pub record Amid (old w : World) (k : ℕ) : Type 0 where
  pub rows : w.fabric.rows ≡ old.fabric.rows
  pub cores : length w.cores ≡ length old.cores
  pub schedule : w.schedule ≡ old.schedule
  pub cycle : w.fabric.cycle ≡ old.fabric.cycle
  pub bus : w.fabric.bus ≡ old.fabric.bus
  pub spare : old.fabric.spare ≤ w.fabric.spare + length old.fabric.bus.uarts + length old.cores + length old.fabric.rows + 2 * k
  pub coming : (j : ℕ) → k ≤ j → j < length old.schedule.clocks → slice_get w.cores (core_of_turn old.schedule old.fabric.cycle j) ≡ slice_get old.cores (core_of_turn old.schedule old.fabric.cycle j)
  pub ticks : (i : ℕ) (s : CoreAt) → slice_get w.cores i ≡ Some s → (r : CoreAt) × (slice_get old.cores i ≡ Some r) × (s.ticks ≤ r.ticks + 1)

devices_then : World → World
devices_then w = record w { fabric = devices_done w.cores w.fabric }

host_then : World → World
host_then w = record w { fabric = host_moves w.fabric (length w.fabric.rows) }

host_amid : (old : World) → Amid old (host_then (devices_then old)) 0
unfolding devices_then host_then
host_amid old =
    let d = done_enters old.cores old.fabric in
    let f = devices_done old.cores old.fabric in
    let m = moves_enter f (length f.rows) in
    record {
      rows = m.rows ∙ d.rows;
      cores = refl;
      schedule = refl;
      cycle = m.cycle ∙ d.cycle;
      bus = m.bus ∙ d.bus;
      spare = omega (arith, m.spare, d.spare, ap (λ (rows : List LinkRow). length rows) d.rows);
      coming = λ j le lt. refl;
      ticks = λ i s q. (s, q, omega arith);
    }

amid_host : (old w : World) → Steps old (Devices ∷ Host ∷ []) w → Amid old w 0
unfolding devices_then host_then
amid_host old w h = subst (λ w. Amid old w 0) (sym (h.2.2 ∙ subst (λ (m : World). h.2.0 ≡ host_then m) h.1 h.2.1)) (host_amid old)

ticks_at : (old w v : World) (core : ℕ) (h : TickStep core w v) → Ticked h.was w.fabric h.is v.fabric → slice_get w.cores core ≡ slice_get old.cores core → ((i : ℕ) (s : CoreAt) → slice_get w.cores i ≡ Some s → (r : CoreAt) × (slice_get old.cores i ≡ Some r) × (s.ticks ≤ r.ticks + 1)) → (i : ℕ) (s : CoreAt) → (i ≡ core) ⊎ (i ≡ core → ⊥) → slice_get v.cores i ≡ Some s → (r : CoreAt) × (slice_get old.cores i ≡ Some r) × (s.ticks ≤ r.ticks + 1)
ticks_at old w v core h t first ticks i s (inl e) q =
    let same : h.is ≡ s = same_Some _ _ (sym (slice_get_set_same w.cores core h.was h.is h.there) ∙ ap (λ (cs : List CoreAt). slice_get cs core) (sym h.cores) ∙ ap (slice_get v.cores) (sym e) ∙ q) in
    (h.was, ap (slice_get old.cores) e ∙ sym first ∙ h.there, omega (arith, t.ticks, ap (λ (x : CoreAt). x.ticks) same))
ticks_at old w v core h t first ticks i s (inr ne) q = ticks i s (sym (slice_get_set_other w.cores i core h.is ne) ∙ ap (λ (cs : List CoreAt). slice_get cs i) (sym h.cores) ∙ q)

amid_tick : (old w v : World) (k : ℕ) → k < length old.schedule.clocks → Amid old w k → TickStep (core_of_turn old.schedule old.fabric.cycle k) w v → Amid old v (suc k)
amid_tick old w v k l a h =
    let core = core_of_turn old.schedule old.fabric.cycle k in
    let t = ticked core (due h.was.view (shown w.fabric core)) h.was w.fabric h.is v.fabric h.may in
    record {
      rows = t.enters.rows ∙ a.rows;
      cores = ap length h.cores ∙ length-set w.cores core h.is ∙ a.cores;
      schedule = h.schedule ∙ a.schedule;
      cycle = t.enters.cycle ∙ a.cycle;
      bus = t.enters.bus ∙ a.bus;
      spare = omega (arith, t.enters.spare, a.spare);
      coming = λ j le lt.
          let other = core_of_turn old.schedule old.fabric.cycle j in
          let ne : other ≡ core → ⊥ = λ e. omega (arith, le, turns_apart old.schedule.turn (length old.schedule.clocks) old.fabric.cycle j k lt l e) in
          ap (λ (cs : List CoreAt). slice_get cs other) h.cores ∙ slice_get_set_other w.cores other core h.is ne ∙ a.coming j (omega (arith, le)) lt;
      ticks = λ i s q. ticks_at old w v core h t (a.coming k (omega arith) l) a.ticks i s (cases_eq i core) q;
    }

amid_same : (old w : World) (k : ℕ) → Amid old w k → Amid old w (suc k)
amid_same old w k a = record {
  rows = a.rows;
  cores = a.cores;
  schedule = a.schedule;
  cycle = a.cycle;
  bus = a.bus;
  spare = omega (arith, a.spare);
  coming = λ j le lt. a.coming j (omega (arith, le)) lt;
  ticks = a.ticks;
}

amid_where : (old w v : World) (k : ℕ) (b : Bool) → k < length old.schedule.clocks → Amid old w k → Steps w (ticks_where b (core_of_turn old.schedule old.fabric.cycle k)) v → Amid old v (suc k)
amid_where old w v k false l a h = subst (λ v. Amid old v (suc k)) (sym h) (amid_same old w k a)
amid_where old w v k true l a h = subst (λ v. Amid old v (suc k)) (sym h.2) (amid_tick old w h.0 k l a h.1)

pub amid_turn : (old w v : World) (k : ℕ) → k < length old.schedule.clocks → Amid old w k → Steps w (turn_of old.schedule old.fabric.cycle k) v → Amid old v (suc k)
amid_turn old w v k l a h = amid_where old w v k (divides (slice_get old.schedule.clocks (core_of_turn old.schedule old.fabric.cycle k)) old.fabric.cycle) l a h

pub turns_amid : (old w : World) (k : ℕ) → k ≤ length old.schedule.clocks → Steps old (Devices ∷ Host ∷ turns old.schedule old.fabric.cycle k) w → Amid old w k
turns_amid old w zero l h = amid_host old w h
turns_amid old w (suc k) l h =
    let p = steps_split old w (Devices ∷ Host ∷ turns old.schedule old.fabric.cycle k) (turn_of old.schedule old.fabric.cycle k) h in
    amid_turn old p.0 w k (omega (arith, l)) (turns_amid old p.0 k (omega (arith, l)) p.1) p.2

-- what a cycle leaves
pub record Cycled (old new : World) : Type 0 where
  pub rows : new.fabric.rows ≡ old.fabric.rows
  pub cores : length new.cores ≡ length old.cores
  pub schedule : new.schedule ≡ old.schedule
  pub cycle : new.fabric.cycle ≡ old.fabric.cycle + 1
  pub ticks : (i : ℕ) (s : CoreAt) → slice_get new.cores i ≡ Some s → (r : CoreAt) × (slice_get old.cores i ≡ Some r) × (s.ticks ≤ r.ticks + 1)

pub cycled : (old new : World) → Steps old (events_of old.schedule old.fabric.cycle) new → Cycled old new
cycled old new h =
    let n = length old.schedule.clocks in
    let p = steps_split old new (Devices ∷ Host ∷ turns old.schedule old.fabric.cycle n) (Next ∷ []) h in
    let a = turns_amid old p.0 n (omega arith) p.1 in
    let e : new ≡ record (p.0) { fabric = _ } = p.2.2 ∙ p.2.1 in
    subst (Cycled old) (sym e) (record { rows = a.rows; cores = a.cores; schedule = a.schedule; cycle = ap (λ n. n + 1) a.cycle; ticks = a.ticks })

-- runs are Steps of whole cycles
record Far (old new : World) (n : ℕ) : Type 0 where
  schedule : new.schedule ≡ old.schedule
  cycle : new.fabric.cycle ≡ old.fabric.cycle + n
  steps : Cycles old n new

runs_far : (limit : ℕ) (old new : World) (n : ℕ) → Runs limit old n new → Far old new n
runs_far limit old new zero h = subst (λ w. Far old w 0) (sym h) (record { schedule = refl; cycle = sym (add-zero _); steps = refl })
runs_far limit old new (suc n) h =
    let f = runs_far limit old h.0 n h.1 in
    let c = cycled h.0 new h.3 in
    let last : Steps h.0 (events_of old.schedule (old.fabric.cycle + n)) new = subst (λ (s : Schedule). Steps h.0 (events_of s (old.fabric.cycle + n)) new) f.schedule (subst (λ c. Steps h.0 (events_of h.0.schedule c) new) f.cycle h.3) in
    record {
      schedule = c.schedule ∙ f.schedule;
      cycle = omega (arith, c.cycle, f.cycle);
      steps = steps_append old h.0 new (cycles_of old.schedule old.fabric.cycle n) (events_of old.schedule (old.fabric.cycle + n)) f.steps last;
    }

pub runs_cycles : (limit : ℕ) (old new : World) (n : ℕ) → Runs limit old n new → Cycles old n new
runs_cycles limit old new n h = (runs_far limit old new n h).steps

-- where a run goes on, a cycle has room
spare_by : (limit : ℕ) (w : World) (o : Option Rest) → end_of limit w o ≡ None → need w ≤ w.fabric.spare
spare_by limit w (Some r) e = cc
spare_by limit w None e = grind (arith, nat_tests)

pub can_cycle : (limit : ℕ) (w : World) → CanRun limit w → w.fabric.cycle < limit → end_at limit w ≡ None → CanCycle w
can_cycle limit w c l e = record {
  young = λ k s q. omega (arith, c.young k s q, l);
  early = omega (arith, l, c.early);
  spare = spare_by limit w (rest_of w) e;
}

pub can_go_on : (limit : ℕ) (w v : World) → CanRun limit w → w.fabric.cycle < limit → Cycled w v → CanRun limit v
can_go_on limit w v c l d = record {
  before = omega (arith, l, d.cycle);
  young = λ k s q. let r = d.ticks k s q in omega (arith, c.young k r.0 r.1, r.2, l, d.cycle);
  early = c.early;
}

-- what a turn of a cycle may ask
pub record TurnReady (w : World) (k : ℕ) : Type 0 where
  pub there : k < length w.cores
  pub young : (s : CoreAt) → slice_get w.cores (core_of_turn w.schedule w.fabric.cycle k) ≡ Some s → s.ticks < 2 ^ 62
  pub spare : 2 ≤ w.fabric.spare

pub turn_ready : (old w : World) (k : ℕ) → length old.schedule.clocks ≡ length old.cores → k < length old.cores → CanCycle old → Steps old (Devices ∷ Host ∷ turns old.schedule old.fabric.cycle k) w → TurnReady w k
turn_ready old w k n l c h =
    let a = turns_amid old w k (omega (arith, n, l)) h in
    record {
      there = omega (arith, l, a.cores);
      young = λ s q.
          let core : core_of_turn w.schedule w.fabric.cycle k ≡ core_of_turn old.schedule old.fabric.cycle k = ap (λ (s : Schedule). core_of_turn s w.fabric.cycle k) a.schedule ∙ ap (λ c. core_of_turn old.schedule c k) a.cycle in
          c.young (core_of_turn old.schedule old.fabric.cycle k) s (sym (a.coming k (omega arith) (omega (arith, n, l))) ∙ ap (slice_get w.cores) (sym core) ∙ q);
      spare = omega (arith, a.spare, c.spare, l, a.cores);
    }

pub turns_push : (old w v : World) (k : ℕ) → k < length old.schedule.clocks → Steps old (Devices ∷ Host ∷ turns old.schedule old.fabric.cycle k) w → Steps w (turn_of w.schedule w.fabric.cycle k) v → Steps old (Devices ∷ Host ∷ turns old.schedule old.fabric.cycle (k + 1)) v
turns_push old w v k l h t =
    let a = turns_amid old w k (omega (arith, l)) h in
    let turn : Steps w (turn_of old.schedule old.fabric.cycle k) v = subst (λ (s : Schedule). Steps w (turn_of s old.fabric.cycle k) v) a.schedule (subst (λ c. Steps w (turn_of w.schedule c k) v) a.cycle t) in
    let one : suc k ≡ k + 1 = omega arith in
    subst (λ n. Steps old (Devices ∷ Host ∷ turns old.schedule old.fabric.cycle n) v) one (steps_append old w v (Devices ∷ Host ∷ turns old.schedule old.fabric.cycle k) (turn_of old.schedule old.fabric.cycle k) h turn)

pub turns_end : (old w v : World) (k : ℕ) → k ≡ length old.schedule.clocks → Steps old (Devices ∷ Host ∷ turns old.schedule old.fabric.cycle k) w → Step w Next v → Steps old (events_of old.schedule old.fabric.cycle) v
turns_end old w v k e h n = steps_push old w v (Devices ∷ Host ∷ turns old.schedule old.fabric.cycle (length old.schedule.clocks)) Next (subst (λ k. Steps old (Devices ∷ Host ∷ turns old.schedule old.fabric.cycle k) w) e h) n

pub turns_early : (old w : World) (k : ℕ) → k ≡ length old.schedule.clocks → Steps old (Devices ∷ Host ∷ turns old.schedule old.fabric.cycle k) w → CanCycle old → w.fabric.cycle < 2 ^ 62
turns_early old w k e h c = let a = turns_amid old w k (omega (arith, e)) h in omega (arith, a.cycle, c.early)

-- a run to its first end
pub runs_to : (limit : ℕ) (old w : World) (n : ℕ) (end : RunEnd) → Runs limit old n w → end_at limit w ≡ Some end → RunsTo limit old w end
runs_to limit old w n end h e = record { count = n; ran = h; cycles = runs_cycles limit old w n h; ends = e }

pub rest_ends : (limit : ℕ) (w : World) (r : Rest) → rest_of w ≡ Some r → end_at limit w ≡ Some (AtRest r)
rest_ends limit w r e = ap (end_of limit w) e

spent : (limit : ℕ) (w : World) → (w.fabric.cycle == limit) ≡ true → end_of limit w None ≡ Some CyclesSpent
spent limit w e = rw e refl

pub spent_ends : (limit : ℕ) (w : World) → rest_of w ≡ None → w.fabric.cycle ≡ limit → end_at limit w ≡ Some CyclesSpent
spent_ends limit w e l = ap (end_of limit w) e ∙ spent limit w (eq-eqb w.fabric.cycle limit l)

run_suc : (limit : ℕ) (old w v : World) (n : ℕ) → Runs limit old n w → end_at limit w ≡ None → Steps w (events_of w.schedule w.fabric.cycle) v → Runs limit old (suc n) v
run_suc limit old w v n h e s = (w, h, e, s)

-- one more cycle of a run
pub record RunMore (limit : ℕ) (old v : World) (next : ℕ) : Type 0 where
  pub ran : Runs limit old (next - old.fabric.cycle) v
  pub cycle : v.fabric.cycle ≡ next
  pub can : CanRun limit v

pub run_more : (limit : ℕ) (old w v : World) (number : ℕ) → old.fabric.cycle ≤ number → number < limit → w.fabric.cycle ≡ number → CanRun limit w → end_at limit w ≡ None → Runs limit old (number - old.fabric.cycle) w → Steps w (events_of w.schedule w.fabric.cycle) v → RunMore limit old v (number + 1)
run_more limit old w v number from l at can end h s =
    let d = cycled w v s in
    let one : suc (number - old.fabric.cycle) ≡ number + 1 - old.fabric.cycle = omega (arith, from) in
    record {
      ran = subst (λ n. Runs limit old n v) one (run_suc limit old w v (number - old.fabric.cycle) h end s);
      cycle = omega (arith, d.cycle, at);
      can = can_go_on limit w v can (omega (arith, l, at)) d;
    }
