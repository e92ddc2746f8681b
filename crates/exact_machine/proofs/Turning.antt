-- What a cycle of the exact machine leaves: each core ticks once at most.
use Rattle.std.proofs.Common.{◌≡◌, ℕ, zero, suc, ◌+◌, ◌*◌, ◌-◌, ◌%◌, ◌^◌, ◌<◌, ◌≤◌, List, [], ◌∷◌, ◌++◌, length, Option, Some, None, refl, ap, sym, ◌∙◌, subst, inl, inr, ◌⊎◌, arith, slice_get, slice_set, length-set, Bool, true, false, ◌==◌}
use Rattle.std.proofs.lemmas.Bool.{cases_eq}
use Rattle.std.proofs.lemmas.Bool.Decides.{nat_tests}
use Rattle.std.proofs.lemmas.List.{length-map}
use Rattle.std.proofs.lemmas.Option.{same_Some, slice_get_within}
use Rattle.isa_step.specs.Effects.{Due, Does, Waits, Sleeps, Ends, Stops}
use Rattle.isa_step.specs.Due.{due}
use Rattle.board_file.specs.declared.board.LinkRow.{LinkRow}
use Rattle.board_machine.specs.declared.events.Event.{Event}
use Rattle.board_machine.specs.declared.events.Event.TheVariants.{Devices, Host, Tick, Next}
use Rattle.board_machine.specs.declared.events.Rest.{Rest}
use Rattle.board_machine.specs.Cycles.{core_of_turn, divides, end_of, events_of, ticks_where, turn_of, turns}
use Rattle.board_machine.specs.Fabric.{Fabric, host_moves, shown}
use Rattle.board_machine.specs.Resting.{rest_of}
use Rattle.board_machine.specs.World.{CoreAt, IsThere, Schedule, TickMay, devices_done}
use Rattle.board_machine.specs.Bus.{DeviceRows}
use Rattle.board_machine.specs.declared.events.RunEnd.{RunEnd}
use Rattle.std.specs.List.{AllByRecursion}
use Rattle.board_machine.proofs.DeviceSteps.{done_enters}
use Rattle.board_machine.proofs.Lists.{last_or_before, slice_get_in, slice_get_set_other, slice_get_set_same}
use Rattle.board_machine.proofs.Steps.{Enters, Ticked, moves_enter, ticked as ticked_free}
use Rattle.board_machine.proofs.Turns.{turns_apart}
use Rattle.exact_machine.specs.Machine.{ExactCore, ExactWorld, core_after, exact_step, exact_steps, fabric_after, is_held_at, opened, ticked, with_slack}
use Rattle.exact_machine.specs.Runs.{ExactRun, exact_cycle, exact_cycles, exact_end}
use Rattle.exact_machine.specs.Stepping.{CanCycle, CanPlay, CanRun, Runs, Step, Steps, need_of}

steps_join : (x : ExactWorld) (first more : List Event) → exact_steps x (first ++ more) ≡ exact_steps (exact_steps x first) more
steps_join x [] more = refl
steps_join x (e ∷ first) more = steps_join (exact_step x e) first more

pub steps_append : (a m n : ExactWorld) (es ds : List Event) → Steps a es m → Steps m ds n → Steps a (es ++ ds) n
steps_append a m n es ds p q = q ∙ ap (λ x. exact_steps x ds) p ∙ sym (steps_join a es ds)

pub steps_push : (a m n : ExactWorld) (es : List Event) (e : Event) → Steps a es m → Step m e n → Steps a (es ++ e ∷ []) n
steps_push a m n es e p q = steps_append a m n es (e ∷ []) p q

pub steps_split : (a n : ExactWorld) (es ds : List Event) → Steps a (es ++ ds) n → (m : ExactWorld) × Steps a es m × Steps m ds n
steps_split a n es ds p = (exact_steps a es, refl, p ∙ steps_join a es ds)

pub steps_first : (a m n : ExactWorld) (e : Event) (es : List Event) → Step a e m → Steps m es n → Steps a (e ∷ es) n
steps_first a m n e es p q = q ∙ ap (λ x. exact_steps x es) p

-- a tick of the exact machine, as one of the open machine from any slack
record FreeTick (core : ℕ) (d : Due) (held : Bool) (x : ExactCore) (f : Fabric) : Type 0 where
  slack : ℕ
  may : TickMay core d (with_slack 1 x) f (with_slack slack (core_after d held x)) (fabric_after core x.acts d held f)

free_tick : (core : ℕ) (d : Due) (held : Bool) (x : ExactCore) (f : Fabric) → FreeTick core d held x f
free_tick core (Does effect) false x f = record { slack = 0; may = inl (record { slack = omega arith; state = refl; fabric = refl }) }
free_tick core (Does effect) true x f = record { slack = 0; may = inr (record { slack = omega arith; state = refl; fabric = refl }) }
free_tick core (Waits port full) false x f = record { slack = 1; may = inl (record { state = refl; fabric = refl }) }
free_tick core (Waits port full) true x f = record { slack = 0; may = inr (record { slack = omega arith; state = refl; fabric = refl }) }
free_tick core Sleeps held x f = record { slack = 1; may = record { state = refl; fabric = refl } }
free_tick core Ends held x f = record { slack = 1; may = record { state = refl; fabric = refl } }
free_tick core (Stops cause) held x f = record { slack = 1; may = record { state = refl; fabric = refl } }

tick_leaves : (core : ℕ) (d : Due) (held : Bool) (x : ExactCore) (f : Fabric) → Ticked (with_slack 1 x) f (with_slack 0 (core_after d held x)) (fabric_after core x.acts d held f)
tick_leaves core d held x f =
    let t = free_tick core d held x f in
    let k = ticked_free core d (with_slack 1 x) f (with_slack t.slack (core_after d held x)) (fabric_after core x.acts d held f) t.may in
    record { ticks = k.ticks; enters = k.enters }

-- each entry that was added took a place of the room
pub record Fills (f g : Fabric) : Type 0 where
  pub less : g.spare ≤ f.spare
  pub places : length g.journal + g.spare ≡ length f.journal + f.spare

fills : (f g h : Fabric) (n : ℕ) → n ≤ g.spare → Fills f g → Enters g h n → Fills f h
fills f g h n l a b = record { less = omega (arith, a.less, b.less); places = b.places l ∙ a.places }

-- amid a cycle, after its first k turns
pub record Amid (old w : ExactWorld) (k : ℕ) : Type 0 where
  pub rows : w.fabric.rows ≡ old.fabric.rows
  pub cores : length w.cores ≡ length old.cores
  pub schedule : w.schedule ≡ old.schedule
  pub cycle : w.fabric.cycle ≡ old.fabric.cycle
  pub bus : w.fabric.bus ≡ old.fabric.bus
  pub spare : old.fabric.spare ≤ w.fabric.spare + length old.fabric.bus.uarts + length old.cores + length old.fabric.rows + 2 * k
  pub fills : length old.fabric.bus.uarts + length old.cores + length old.fabric.rows + 2 * k ≤ old.fabric.spare → Fills old.fabric w.fabric
  pub coming : (j : ℕ) → k ≤ j → j < length old.schedule.clocks → slice_get w.cores (core_of_turn old.schedule old.fabric.cycle j) ≡ slice_get old.cores (core_of_turn old.schedule old.fabric.cycle j)
  pub ticks : (i : ℕ) (s : ExactCore) → slice_get w.cores i ≡ Some s → (r : ExactCore) × (slice_get old.cores i ≡ Some r) × (s.ticks ≤ r.ticks + 1)

host_amid : (old : ExactWorld) → Amid old (exact_step (exact_step old Devices) Host) 0
host_amid old =
    let d = done_enters (opened old).cores old.fabric in
    let f = devices_done (opened old).cores old.fabric in
    let m = moves_enter f (length f.rows) in
    let n : length (opened old).cores ≡ length old.cores = length-map old.cores (with_slack 0) in
    record {
      rows = m.rows ∙ d.rows;
      cores = refl;
      schedule = refl;
      cycle = m.cycle ∙ d.cycle;
      bus = m.bus ∙ d.bus;
      spare = omega (arith, m.spare, d.spare, n, ap (λ (rows : List LinkRow). length rows) d.rows);
      fills = λ l.
          let rows : length f.rows ≡ length old.fabric.rows = ap (λ (rows : List LinkRow). length rows) d.rows in
          record {
            less = omega (arith, m.less, d.less);
            places = m.places (omega (arith, l, d.spare, n, rows)) ∙ d.places (omega (arith, l, n));
          };
      coming = λ j le lt. refl;
      ticks = λ i s q. (s, q, omega arith);
    }

ticks_at : (old w : ExactWorld) (core : ℕ) (s is : ExactCore) → slice_get w.cores core ≡ Some s → is.ticks ≡ s.ticks + 1 → slice_get w.cores core ≡ slice_get old.cores core
    → ((i : ℕ) (s : ExactCore) → slice_get w.cores i ≡ Some s → (r : ExactCore) × (slice_get old.cores i ≡ Some r) × (s.ticks ≤ r.ticks + 1))
    → (i : ℕ) (r : ExactCore) → (i ≡ core) ⊎ (i ≡ core → ⊥) → slice_get (slice_set w.cores core is) i ≡ Some r → (o : ExactCore) × (slice_get old.cores i ≡ Some o) × (r.ticks ≤ o.ticks + 1)
ticks_at old w core s is q t first ticks i r (inl e) z =
    let same : is ≡ r = same_Some is r (sym (slice_get_set_same w.cores core s is q) ∙ ap (slice_get (slice_set w.cores core is)) (sym e) ∙ z) in
    (s, ap (slice_get old.cores) e ∙ sym first ∙ q, omega (arith, t, ap (λ (x : ExactCore). x.ticks) same))
ticks_at old w core s is q t first ticks i r (inr ne) z = ticks i r (sym (slice_get_set_other w.cores i core is ne) ∙ z)

-- the turn of a core that is there
tick_there : (old w : ExactWorld) (k : ℕ) (s : ExactCore) → k < length old.schedule.clocks → Amid old w k → slice_get w.cores (core_of_turn old.schedule old.fabric.cycle k) ≡ Some s
    → Amid old (ticked (core_of_turn old.schedule old.fabric.cycle k) (Some s) w) (suc k)
tick_there old w k s l a q =
    let core = core_of_turn old.schedule old.fabric.cycle k in
    let d = due s.view (shown w.fabric core) in
    let held = is_held_at s (shown w.fabric core) in
    let is = core_after d held s in
    let t = tick_leaves core d held s w.fabric in
    record {
      rows = t.enters.rows ∙ a.rows;
      cores = length-set w.cores core is ∙ a.cores;
      schedule = a.schedule;
      cycle = t.enters.cycle ∙ a.cycle;
      bus = t.enters.bus ∙ a.bus;
      spare = omega (arith, t.enters.spare, a.spare);
      fills = λ l. fills old.fabric w.fabric (fabric_after core s.acts d held w.fabric) 2 (omega (arith, l, a.spare)) (a.fills (omega (arith, l))) t.enters;
      coming = λ j le lt.
          let other = core_of_turn old.schedule old.fabric.cycle j in
          let ne : other ≡ core → ⊥ = λ e. omega (arith, le, turns_apart old.schedule.turn (length old.schedule.clocks) old.fabric.cycle j k lt l e) in
          slice_get_set_other w.cores other core is ne ∙ a.coming j (omega (arith, le)) lt;
      ticks = λ i r z. ticks_at old w core s is q t.ticks (a.coming k (omega arith) l) a.ticks i r (cases_eq i core) z;
    }

amid_more : (old w : ExactWorld) (k : ℕ) → Amid old w k → Amid old w (suc k)
amid_more old w k a = record {
  rows = a.rows;
  cores = a.cores;
  schedule = a.schedule;
  cycle = a.cycle;
  bus = a.bus;
  spare = omega (arith, a.spare);
  fills = λ l. a.fills (omega (arith, l));
  coming = λ j le lt. a.coming j (omega (arith, le)) lt;
  ticks = a.ticks;
}

amid_tick : (old w : ExactWorld) (k : ℕ) (o : Option ExactCore) → k < length old.schedule.clocks → Amid old w k → slice_get w.cores (core_of_turn old.schedule old.fabric.cycle k) ≡ o
    → Amid old (ticked (core_of_turn old.schedule old.fabric.cycle k) o w) (suc k)
amid_tick old w k None l a q = amid_more old w k a
amid_tick old w k (Some s) l a q = tick_there old w k s l a q

amid_where : (old w : ExactWorld) (k : ℕ) (b : Bool) → k < length old.schedule.clocks → Amid old w k → Amid old (exact_steps w (ticks_where b (core_of_turn old.schedule old.fabric.cycle k))) (suc k)
amid_where old w k false l a = amid_more old w k a
amid_where old w k true l a = amid_tick old w k _ l a refl

turns_after : (old : ExactWorld) (k : ℕ) → k ≤ length old.schedule.clocks → Amid old (exact_steps old (Devices ∷ Host ∷ turns old.schedule old.fabric.cycle k)) k
turns_after old zero l = host_amid old
turns_after old (suc k) l =
    let first = exact_step (exact_step old Devices) Host in
    let turn = turn_of old.schedule old.fabric.cycle k in
    let here = exact_steps first (turns old.schedule old.fabric.cycle k) in
    subst (λ x. Amid old x (suc k)) (sym (steps_join first (turns old.schedule old.fabric.cycle k) turn))
    (amid_where old here k (divides (slice_get old.schedule.clocks (core_of_turn old.schedule old.fabric.cycle k)) old.fabric.cycle) (omega (arith, l)) (turns_after old k (omega (arith, l))))

pub turns_amid : (old w : ExactWorld) (k : ℕ) → k ≤ length old.schedule.clocks → Steps old (Devices ∷ Host ∷ turns old.schedule old.fabric.cycle k) w → Amid old w k
turns_amid old w k l h = subst (λ w. Amid old w k) (sym h) (turns_after old k l)

-- what a cycle leaves
pub record Cycled (old new : ExactWorld) : Type 0 where
  pub rows : new.fabric.rows ≡ old.fabric.rows
  pub cores : length new.cores ≡ length old.cores
  pub schedule : new.schedule ≡ old.schedule
  pub cycle : new.fabric.cycle ≡ old.fabric.cycle + 1
  pub ticks : (i : ℕ) (s : ExactCore) → slice_get new.cores i ≡ Some s → (r : ExactCore) × (slice_get old.cores i ≡ Some r) × (s.ticks ≤ r.ticks + 1)
  pub fills : length old.schedule.clocks ≡ length old.cores → need_of old ≤ old.fabric.spare → Fills old.fabric new.fabric

pub cycled : (old new : ExactWorld) → Steps old (events_of old.schedule old.fabric.cycle) new → Cycled old new
cycled old new h =
    let n = length old.schedule.clocks in
    let p = steps_split old new (Devices ∷ Host ∷ turns old.schedule old.fabric.cycle n) (Next ∷ []) h in
    let a = turns_amid old p.0 n (omega arith) p.1 in
    subst (Cycled old) (sym p.2) (record { rows = a.rows; cores = a.cores; schedule = a.schedule; cycle = ap (λ n. n + 1) a.cycle; ticks = a.ticks; fills = λ c l. let g = a.fills (omega (arith, c, l)) in record { less = g.less; places = g.places } })

pub can_go_on : (limit : ℕ) (w v : ExactWorld) → CanRun limit w → w.fabric.cycle < limit → Cycled w v → CanRun limit v
can_go_on limit w v c l d = record {
  before = omega (arith, l, d.cycle);
  young = λ k s q. let r = d.ticks k s q in omega (arith, c.young k r.0 r.1, r.2, l, d.cycle);
  early = c.early;
}

-- what a turn of a cycle may ask
pub record TurnReady (w : ExactWorld) (k : ℕ) : Type 0 where
  pub there : k < length w.cores
  pub young : (s : ExactCore) → slice_get w.cores (core_of_turn w.schedule w.fabric.cycle k) ≡ Some s → s.ticks < 2 ^ 62
  pub spare : 2 ≤ w.fabric.spare

pub turn_ready : (old w : ExactWorld) (k : ℕ) → length old.schedule.clocks ≡ length old.cores → k < length old.cores → CanCycle old → Steps old (Devices ∷ Host ∷ turns old.schedule old.fabric.cycle k) w → TurnReady w k
turn_ready old w k n l c h =
    let a = turns_amid old w k (omega (arith, n, l)) h in
    record {
      there = omega (arith, l, a.cores);
      young = λ s q.
          let core : core_of_turn w.schedule w.fabric.cycle k ≡ core_of_turn old.schedule old.fabric.cycle k = ap (λ (s : Schedule). core_of_turn s w.fabric.cycle k) a.schedule ∙ ap (λ c. core_of_turn old.schedule c k) a.cycle in
          c.young (core_of_turn old.schedule old.fabric.cycle k) s (sym (a.coming k (omega arith) (omega (arith, n, l))) ∙ ap (slice_get w.cores) (sym core) ∙ q);
      spare = omega (arith, a.spare, c.spare, l, a.cores);
    }

pub turns_push : (old w v : ExactWorld) (k : ℕ) → k < length old.schedule.clocks → Steps old (Devices ∷ Host ∷ turns old.schedule old.fabric.cycle k) w → Steps w (turn_of w.schedule w.fabric.cycle k) v → Steps old (Devices ∷ Host ∷ turns old.schedule old.fabric.cycle (k + 1)) v
turns_push old w v k l h t =
    let a = turns_amid old w k (omega (arith, l)) h in
    let turn : Steps w (turn_of old.schedule old.fabric.cycle k) v = subst (λ (s : Schedule). Steps w (turn_of s old.fabric.cycle k) v) a.schedule (subst (λ c. Steps w (turn_of w.schedule c k) v) a.cycle t) in
    let one : suc k ≡ k + 1 = omega arith in
    subst (λ n. Steps old (Devices ∷ Host ∷ turns old.schedule old.fabric.cycle n) v) one (steps_append old w v (Devices ∷ Host ∷ turns old.schedule old.fabric.cycle k) (turn_of old.schedule old.fabric.cycle k) h turn)

pub turns_end : (old w v : ExactWorld) (k : ℕ) → k ≡ length old.schedule.clocks → Steps old (Devices ∷ Host ∷ turns old.schedule old.fabric.cycle k) w → Step w Next v → Steps old (events_of old.schedule old.fabric.cycle) v
turns_end old w v k e h n = steps_push old w v (Devices ∷ Host ∷ turns old.schedule old.fabric.cycle (length old.schedule.clocks)) Next (subst (λ k. Steps old (Devices ∷ Host ∷ turns old.schedule old.fabric.cycle k) w) e h) n

pub turns_early : (old w : ExactWorld) (k : ℕ) → k ≡ length old.schedule.clocks → Steps old (Devices ∷ Host ∷ turns old.schedule old.fabric.cycle k) w → CanCycle old → w.fabric.cycle < 2 ^ 62
turns_early old w k e h c = let a = turns_amid old w k (omega (arith, e)) h in omega (arith, a.cycle, c.early)

-- runs up to the first end
runs_cycles : (limit : ℕ) (old new : ExactWorld) (n : ℕ) → Runs limit old n new → new ≡ exact_cycles old n
runs_cycles limit old new zero h = h
runs_cycles limit old new (suc n) h = h.3 ∙ ap exact_cycle (runs_cycles limit old h.0 n h.1)

runs_on : (limit : ℕ) (old new : ExactWorld) (n : ℕ) → Runs limit old n new → (k : ℕ) → k < n → exact_end limit (exact_cycles old k) ≡ None
runs_on limit old new zero h k l = absurd (omega (arith, l))
runs_on limit old new (suc n) h k l = elim (last_or_before k n l) [
  | inl e ↦ ap (λ k. exact_end limit (exact_cycles old k)) e ∙ ap (exact_end limit) (sym (runs_cycles limit old h.0 n h.1)) ∙ h.2
  | inr before ↦ runs_on limit old h.0 n h.1 k before
]

pub runs_to : (limit : ℕ) (old w : ExactWorld) (n : ℕ) (end : RunEnd) → Runs limit old n w → exact_end limit w ≡ Some end → ExactRun limit old w end
runs_to limit old w n end h e = record { count = n; ran = runs_cycles limit old w n h; goes_on = runs_on limit old w n h; ends = e }

-- what an event leaves of the room for others
pub record Kept (w v : ExactWorld) : Type 0 where
  pub rows : v.fabric.rows ≡ w.fabric.rows
  pub cores : length v.cores ≡ length w.cores
  pub schedule : v.schedule ≡ w.schedule
  pub cycle : v.fabric.cycle ≤ w.fabric.cycle + 1
  pub bus : v.fabric.bus ≡ w.fabric.bus
  pub spare : w.fabric.spare ≤ v.fabric.spare + need_of w
  pub ticks : (k : ℕ) (s : ExactCore) → slice_get v.cores k ≡ Some s → (r : ExactCore) × (slice_get w.cores k ≡ Some r) × (s.ticks ≤ r.ticks + 1)

tick_kept : (w : ExactWorld) (core : ℕ) (o : Option ExactCore) → slice_get w.cores core ≡ o → Kept w (ticked core o w)
tick_kept w core None q = record { rows = refl; cores = refl; schedule = refl; cycle = omega arith; bus = refl; spare = omega arith; ticks = λ k s q. (s, q, omega arith) }
tick_kept w core (Some s) q =
    let d = due s.view (shown w.fabric core) in
    let held = is_held_at s (shown w.fabric core) in
    let is = core_after d held s in
    let t = tick_leaves core d held s w.fabric in
    let there : core < length w.cores = slice_get_within w.cores core s q in
    record {
      rows = t.enters.rows;
      cores = length-set w.cores core is;
      schedule = refl;
      cycle = omega (arith, t.enters.cycle);
      bus = t.enters.bus;
      spare = omega (arith, t.enters.spare, there);
      ticks = λ k r z. ticks_at w w core s is q t.ticks refl (λ i s q. (s, q, omega arith)) k r (cases_eq k core) z;
    }

kept_by : (w : ExactWorld) (e : Event) → Kept w (exact_step w e)
kept_by w (Tick core) = tick_kept w core _ refl
kept_by w Devices =
    let d = done_enters (opened w).cores w.fabric in
    let n : length (opened w).cores ≡ length w.cores = length-map w.cores (with_slack 0) in
    record { rows = d.rows; cores = refl; schedule = refl; bus = d.bus; cycle = omega (arith, d.cycle); spare = omega (arith, d.spare, n); ticks = λ k s q. (s, q, omega arith) }
kept_by w Host =
    let m = moves_enter w.fabric (length w.fabric.rows) in
    record { rows = m.rows; cores = refl; schedule = refl; cycle = omega (arith, m.cycle); bus = m.bus; spare = omega (arith, m.spare); ticks = λ k s q. (s, q, omega arith) }
kept_by w Next = record { rows = refl; cores = refl; schedule = refl; bus = refl; cycle = omega arith; spare = omega arith; ticks = λ k s q. (s, q, omega arith) }

pub step_kept : (w v : ExactWorld) (e : Event) → Step w e v → Kept w v
step_kept w v e h = subst (Kept w) (sym h) (kept_by w e)

pub can_first : (w : ExactWorld) (e : Event) (es : List Event) → CanPlay w (e ∷ es) → CanPlay w (e ∷ [])
can_first w e es c = record {
  there = (c.there.0, tt);
  young = λ k s q. omega (arith, c.young k s q);
  early = omega (arith, c.early);
  spare = grind (arith, c.spare);
}

need_kept : (w v : ExactWorld) → length v.cores ≡ length w.cores → v.fabric.rows ≡ w.fabric.rows → v.fabric.bus ≡ w.fabric.bus → need_of v ≡ need_of w
need_kept w v c r b = omega (arith, c, ap (λ (rows : List LinkRow). length rows) r, ap (λ (bus : DeviceRows). length bus.uarts) b)

spare_left : (n need old new : ℕ) → suc n * need ≤ old → old ≤ new + need → n * need ≤ new
spare_left n need old new a b = grind (arith, a, b)

pub can_rest : (w v : ExactWorld) (e : Event) (es : List Event) → CanPlay w (e ∷ es) → Step w e v → CanPlay v es
can_rest w v e es c h =
    let k = step_kept w v e h in
    record {
      there = subst (λ n. AllByRecursion (IsThere n) es) (sym k.cores) c.there.1;
      young = λ j s q. let t = k.ticks j s q in omega (arith, t.2, c.young j t.0 t.1);
      early = omega (arith, c.early, k.cycle);
      spare = subst (λ n. length es * n ≤ v.fabric.spare) (sym (need_kept w v k.cores k.rows k.bus)) (spare_left (length es) (need_of w) w.fabric.spare v.fabric.spare c.spare k.spare);
    }
