-- Cycles in which each core acts at once.
use Rattle.std.proofs.Common.{◌≡◌, ℕ, zero, suc, ◌+◌, ◌*◌, ◌%◌, ◌^◌, ◌<◌, ◌≤◌, ◌==◌, ◌||◌, if◌then◌else◌, List, [], ◌∷◌, length, Option, Some, None, refl, ap, sym, ◌∙◌, subst, arith, slice_get, Bool, true, false, nat_lt, add-zero}
use Rattle.std.proofs.lemmas.Bool.Decides.{nat_tests}
use Rattle.std.proofs.lemmas.List.{length-map}
use Rattle.board_file.specs.declared.board.Turn.{Turn}
use Rattle.board_machine.specs.declared.events.Event.TheVariants.{Devices, Host, Tick, Next}
use Rattle.board_machine.specs.declared.events.Rest.{Rest}
use Rattle.prepared_act.specs.Retiring.{is_offered}
use Rattle.board_machine.specs.Fabric.{Fabric, shown}
use Rattle.board_machine.specs.Cycles.{core_at, core_of_turn, divides, end_of, events_of, ticks_where, turn_of, turns}
use Rattle.board_machine.specs.Resting.{idle_at, rest_of}
use Rattle.board_machine.specs.World.{Schedule, need}
use Rattle.exact_machine.specs.Machine.{ExactCore, ExactWorld, opened, with_slack}
use Rattle.exact_machine.specs.Runs.{exact_end}
use Rattle.exact_machine.specs.Stepping.{CanCycle, CanRun, Runs, Step, Steps, need_of}
use Rattle.exact_machine.proofs.Turning.{Amid, TurnReady, can_go_on, cycled, steps_first, turn_ready, turns_amid, turns_early, turns_end, turns_push}
use Rattle.board_machine.proofs.Staying.{busy_at}
use Rattle.quiet_cycles.specs.Quiet.{AreReadyInStep, Finished, IsAmid, IsInStep, IsReadyInStep, IsQuiet, IsQuietNow, QuietRun, RunsOn, TicksAtOnce, TurnAtOnce, TurnsAtOnce, TurnsFrom, TurnsQuiet, TurnsWhole}
use Rattle.quiet_cycles.proofs.Calm.{not_offered, quiet_of}
use Rattle.quiet_cycles.proofs.Doing.{quiet_cycles}

-- a quiet cycle begins with nothing
pub begins : (w : ExactWorld) (until : ℕ) → IsQuiet until w.fabric → w.fabric.cycle < until → Steps w (Devices ∷ Host ∷ []) w
begins w until q l = steps_first w w w Devices (Host ∷ []) (quiet_cycles.devices w until q.breaks l q.calm q.devices) (quiet_cycles.host w (quiet_of w.fabric q.links))

-- on a board in step, turn k is the tick of core k
pub core_in_step : (s : Schedule) (cycle k : ℕ) → IsInStep s → core_of_turn s cycle k ≡ k
core_in_step s cycle k h = ap (λ (t : Turn). core_at t (length s.clocks) cycle k) h.ascends

one_divides : (cycle : ℕ) → divides (Some 1) cycle ≡ true
one_divides cycle = grind (arith, nat_tests)

pub turn_in_step : (s : Schedule) (cycle k : ℕ) → IsInStep s → k < length s.clocks → turn_of s cycle k ≡ Tick k ∷ []
turn_in_step s cycle k h l =
    ap (λ (core : ℕ). ticks_where (divides (slice_get s.clocks core) cycle) core) (core_in_step s cycle k h)
    ∙ ap (λ (b : Bool). ticks_where b k) (ap (λ (o : Option ℕ). divides o cycle) (h.clocks.ones k l) ∙ one_divides cycle)

no_end_of : (limit : ℕ) (w : ExactWorld) (o : Option Rest) → o ≡ None → (w.fabric.cycle == limit) ≡ false → nat_lt w.fabric.spare (need (opened w)) ≡ false → end_of limit (opened w) o ≡ None
no_end_of limit w o e b f = rw (e, b, f) refl

not_limit : (cycle limit : ℕ) → cycle < limit → (cycle == limit) ≡ false
not_limit cycle limit l = grind (arith, nat_tests)

not_full : (spare need : ℕ) → need ≤ spare → nat_lt spare need ≡ false
not_full spare need l = grind (arith, nat_tests)

need_same : (w : ExactWorld) → need (opened w) ≡ need_of w
need_same w = ap (λ n. 5 * n + length w.fabric.rows + length w.fabric.bus.uarts) (length-map w.cores (with_slack 0))

busy_here : (w : ExactWorld) (core : ℕ) → core < length w.cores → idle_at (opened w) core ≡ None → rest_of (opened w) ≡ None
busy_here w core l e = busy_at (opened w) core (subst (λ n. core < n) (sym (length-map w.cores (with_slack 0))) l) e

-- no end where a core is busy, the limit is to come and the journal has room
pub no_end : (limit : ℕ) (w : ExactWorld) → rest_of (opened w) ≡ None → w.fabric.cycle < limit → need_of w ≤ w.fabric.spare → exact_end limit w ≡ None
no_end limit w e l n = no_end_of limit w (rest_of (opened w)) e (not_limit w.fabric.cycle limit l) (not_full w.fabric.spare (need (opened w)) (subst (λ k. k ≤ w.fabric.spare) (sym (need_same w)) n))

below_by : (limit : ℕ) (w : ExactWorld) (o : Option Rest) → end_of limit (opened w) o ≡ None → w.fabric.cycle ≤ limit → w.fabric.cycle < limit
below_by limit w (Some r) e l = cc
below_by limit w None e l = grind (arith, nat_tests)

-- where no end was reached the limit is to come
pub end_below : (limit : ℕ) (w : ExactWorld) → exact_end limit w ≡ None → w.fabric.cycle ≤ limit → w.fabric.cycle < limit
end_below limit w e l = below_by limit w (rest_of (opened w)) e l

room_by : (limit : ℕ) (w : ExactWorld) (o : Option Rest) → end_of limit (opened w) o ≡ None → need_of w ≤ w.fabric.spare
room_by limit w (Some r) e = cc
room_by limit w None e = let full = need_same w in grind (arith, nat_tests, full)

-- and the journal has room
pub end_room : (limit : ℕ) (w : ExactWorld) → exact_end limit w ≡ None → need_of w ≤ w.fabric.spare
end_room limit w e = room_by limit w (rest_of (opened w)) e

pub can_begin : (limit : ℕ) (w : ExactWorld) → CanRun limit w → w.fabric.cycle < limit → need_of w ≤ w.fabric.spare → CanCycle w
can_begin limit w c l n = record {
  young = λ k s q. omega (arith, c.young k s q, l);
  early = omega (arith, l, c.early);
  spare = n;
}

pub runs_none : (limit : ℕ) (w : ExactWorld) → CanRun limit w → RunsOn limit w w
runs_none limit w can = record { count = 0; ran = refl; cycle = sym (add-zero _); schedule = refl; can = can }

run_one : (limit : ℕ) (old w v : ExactWorld) (n : ℕ) → Runs limit old n w → exact_end limit w ≡ None → Steps w (events_of w.schedule w.fabric.cycle) v → Runs limit old (suc n) v
run_one limit old w v n h e s = (w, h, e, s)

-- one cycle more
pub runs_one : (limit : ℕ) (old w v : ExactWorld) → RunsOn limit old w → exact_end limit w ≡ None → w.fabric.cycle < limit → Steps w (events_of w.schedule w.fabric.cycle) v → RunsOn limit old v
runs_one limit old w v r e l s =
    let d = cycled w v s in
    record { count = suc r.count; ran = run_one limit old w v r.count r.ran e s; cycle = omega (arith, d.cycle, r.cycle); schedule = d.schedule ∙ r.schedule; can = can_go_on limit w v r.can l d }

runs_join : (limit : ℕ) (old w v : ExactWorld) (m n t : ℕ) → t ≡ n + m → Runs limit old m w → Runs limit w n v → Runs limit old t v
runs_join limit old w v m zero t e h k = let same : m ≡ t = omega (arith, e) in subst (λ t. Runs limit old t v) same (subst (λ v. Runs limit old m v) (sym k) h)
runs_join limit old w v m (suc n) t e h k = let same : suc (n + m) ≡ t = omega (arith, e) in subst (λ t. Runs limit old t v) same (run_one limit old k.0 v (n + m) (runs_join limit old w k.0 m n (n + m) refl h k.1) k.2 k.3)

-- one part after another
pub runs_then : (limit : ℕ) (old w v : ExactWorld) → RunsOn limit old w → RunsOn limit w v → RunsOn limit old v
runs_then limit old w v a b = record { count = b.count + a.count; ran = runs_join limit old w v a.count b.count (b.count + a.count) refl a.ran b.ran; cycle = omega (arith, a.cycle, b.cycle); schedule = b.schedule ∙ a.schedule; can = b.can }

nothing_ran : (limit : ℕ) (old w : ExactWorld) (n : ℕ) → n ≡ 0 → Runs limit old n w → w ≡ old
nothing_ran limit old w zero e h = h
nothing_ran limit old w (suc n) e h = absurd (omega (arith, e))

-- a part in which the number stays is none
pub ran_none : (limit : ℕ) (old w : ExactWorld) → RunsOn limit old w → w.fabric.cycle ≡ old.fabric.cycle → w ≡ old
ran_none limit old w r e = nothing_ran limit old w r.count (omega (arith, r.cycle, e)) r.ran

-- what stays quiet in the next cycle
pub quiet_next : (until : ℕ) (f g : Fabric) → g ≡ record f { cycle = f.cycle + 1 } → IsQuiet until f → IsQuiet until g
quiet_next until f g e q = subst (IsQuiet until) (sym e) (record { breaks = q.breaks; calm = q.calm; links = q.links; devices = q.devices })

-- turns at once

pub at_once_none : (w : ExactWorld) → IsQuietNow w.fabric → TurnsAtOnce w 0 w
at_once_none w q = record { steps = begins w q.until q.quiet q.before; fabric = refl; none = λ e. refl; busy = λ l. absurd (omega (arith, l)) }

pub in_step_amid : (old w : ExactWorld) (k : ℕ) → Amid old w k → IsInStep old.schedule → IsInStep w.schedule
in_step_amid old w k a h = subst IsInStep (sym a.schedule) h

tick_turn : (w v : ExactWorld) (k : ℕ) → IsInStep w.schedule → k < length w.schedule.clocks → Step w (Tick k) v → Steps w (turn_of w.schedule w.fabric.cycle k) v
tick_turn w v k h l s = subst (λ es. Steps w es v) (sym (turn_in_step w.schedule w.fabric.cycle k h l)) s

busy_first : (old w : ExactWorld) (k : ℕ) → k < length old.cores → TurnsAtOnce old k w → idle_at (opened w) k ≡ None → rest_of (opened old) ≡ None
busy_first old w zero l t e = busy_here old 0 l (subst (λ (w : ExactWorld). idle_at (opened w) 0 ≡ None) (t.none refl) e)
busy_first old w (suc k) l t e = t.busy (omega arith)

-- one core more that acts at once
pub at_once_more : (old w v : ExactWorld) (k : ℕ) → IsInStep old.schedule → length old.schedule.clocks ≡ length old.cores → k < length old.cores → TurnsAtOnce old k w → Step w (Tick k) v → v.fabric ≡ w.fabric → idle_at (opened w) k ≡ None → TurnsAtOnce old (k + 1) v
at_once_more old w v k h n l t s f e =
    let a = turns_amid old w k (omega (arith, n, l)) t.steps in
    let clocks : length w.schedule.clocks ≡ length old.schedule.clocks = ap (λ (s : Schedule). length s.clocks) a.schedule in
    record {
      steps = turns_push old w v k (omega (arith, n, l)) t.steps (tick_turn w v k (in_step_amid old w k a h) (omega (arith, n, l, clocks)) s);
      fabric = f ∙ t.fabric;
      none = λ z. absurd (omega (arith, z));
      busy = λ z. busy_first old w k l t e;
    }

-- what a tick at once may ask
pub record AtOnceReady (w : ExactWorld) (k : ℕ) : Type 0 where
  pub there : k < length w.cores
  pub young : (s : ExactCore) → slice_get w.cores k ≡ Some s → s.ticks < 2 ^ 62
  pub calm : is_offered (shown w.fabric k) ≡ false

pub at_once_ready : (old w : ExactWorld) (k : ℕ) → IsInStep old.schedule → IsQuietNow old.fabric → length old.schedule.clocks ≡ length old.cores → k < length old.cores → CanCycle old → TurnsAtOnce old k w → AtOnceReady w k
at_once_ready old w k h q n l c t =
    let a = turns_amid old w k (omega (arith, n, l)) t.steps in
    let r = turn_ready old w k n l c t.steps in
    record {
      there = r.there;
      young = λ s z. r.young s (ap (slice_get w.cores) (core_in_step w.schedule w.fabric.cycle k (in_step_amid old w k a h)) ∙ z);
      calm = subst (λ (f : Fabric). is_offered (shown f k) ≡ false) (sym t.fabric) (not_offered old.fabric k q.quiet.calm);
    }

-- the cores alone

pub ticks_none : (cores : List ExactCore) → TicksAtOnce cores 0 cores
ticks_none cores = record { each = λ w e r. subst (λ (cores : List ExactCore). TurnsAtOnce w 0 (record w { cores = cores })) e (at_once_none w r.quiet) }

-- what the tick of a core is on any board with these cores that offers nothing
pub record TickAtOnce (k : ℕ) (old new : List ExactCore) : Type 0 where
  pub step : (w : ExactWorld) → w.cores ≡ old → is_offered (shown w.fabric k) ≡ false → Step w (Tick k) (record w { cores = new })
  pub busy : (w : ExactWorld) → w.cores ≡ old → is_offered (shown w.fabric k) ≡ false → idle_at (opened w) k ≡ None

-- one core more
pub ticks_more : (old mid new : List ExactCore) (k : ℕ) → k < length old → TicksAtOnce old k mid → TickAtOnce k mid new → TicksAtOnce old (k + 1) new
ticks_more old mid new k l t d = record {
  each = λ w e r.
      let turns = t.each w e r in
      let there : k < length w.cores = omega (arith, l, ap length e) in
      let ready = at_once_ready w (record w { cores = mid }) k r.in_step r.quiet r.clocks there r.can turns in
      at_once_more w (record w { cores = mid }) (record w { cores = new }) k r.in_step r.clocks there turns (d.step (record w { cores = mid }) refl ready.calm) refl (d.busy (record w { cores = mid }) refl ready.calm);
}

pub ticks_ready : (old mid : List ExactCore) (k : ℕ) → AreReadyInStep old → k < length old → TicksAtOnce old k mid → (s : ExactCore) → slice_get mid k ≡ Some s → s.ticks < 2 ^ 62
ticks_ready old mid k a l t =
    let r = a.ready in
    (at_once_ready a.board (record (a.board) { cores = mid }) k r.in_step r.quiet r.clocks (omega (arith, l, ap length a.here)) r.can (t.each a.board a.here r)).young

-- turns of any schedule

pub quiet_turns_none : (w : ExactWorld) → IsQuietNow w.fabric → TurnsQuiet w 0 false w
quiet_turns_none w q = record { steps = begins w q.until q.quiet q.before; fabric = refl; none = λ e. refl; some = λ e. cc; busy = λ e. cc }

none_more : (old w v : ExactWorld) (acted did : Bool) → (acted ≡ false → w ≡ old) → (did ≡ false → v ≡ w) → acted || did ≡ false → v ≡ old
none_more old w v true did a d e = cc
none_more old w v false true a d e = cc
none_more old w v false false a d e = d refl ∙ a refl

busy_more : (old w : ExactWorld) (acted did : Bool) → (acted ≡ false → w ≡ old) → (acted ≡ true → rest_of (opened old) ≡ None) → (did ≡ true → rest_of (opened w) ≡ None) → acted || did ≡ true → rest_of (opened old) ≡ None
busy_more old w true did same a d e = a refl
busy_more old w false true same a d e = subst (λ (w : ExactWorld). rest_of (opened w) ≡ None) (same refl) (d refl)
busy_more old w false false same a d e = cc

-- one turn more
pub quiet_turns_more : (old w v : ExactWorld) (k : ℕ) (acted did : Bool) → length old.schedule.clocks ≡ length old.cores → k < length old.cores → TurnsQuiet old k acted w → TurnAtOnce w k did v → TurnsQuiet old (k + 1) (acted || did) v
quiet_turns_more old w v k acted did n l t d = record {
  steps = turns_push old w v k (omega (arith, n, l)) t.steps d.steps;
  fabric = d.fabric ∙ t.fabric;
  none = none_more old w v acted did t.none d.none;
  some = λ e. omega arith;
  busy = busy_more old w acted did t.none t.busy d.busy;
}

-- what a turn at once may ask
pub record TurnAtOnceReady (w : ExactWorld) (k : ℕ) : Type 0 where
  pub there : k < length w.cores
  pub young : (s : ExactCore) → slice_get w.cores (core_of_turn w.schedule w.fabric.cycle k) ≡ Some s → s.ticks < 2 ^ 62
  pub calm : is_offered (shown w.fabric (core_of_turn w.schedule w.fabric.cycle k)) ≡ false

pub turn_at_once_ready : (old w : ExactWorld) (k : ℕ) (acted : Bool) → IsQuietNow old.fabric → length old.schedule.clocks ≡ length old.cores → k < length old.cores → CanCycle old → TurnsQuiet old k acted w → TurnAtOnceReady w k
turn_at_once_ready old w k acted q n l c t =
    let r = turn_ready old w k n l c t.steps in
    record {
      there = r.there;
      young = r.young;
      calm = subst (λ (f : Fabric). is_offered (shown f (core_of_turn w.schedule w.fabric.cycle k)) ≡ false) (sym t.fabric) (not_offered old.fabric _ q.quiet.calm);
    }

-- a core would do something else in turn k
pub quiet_turns_stop : (old w : ExactWorld) (k : ℕ) (acted : Bool) → IsQuietNow old.fabric → TurnsQuiet old k acted w → TurnsAtOnce old (if acted then k else 0) w
quiet_turns_stop old w k true q t = record { steps = t.steps; fabric = t.fabric; none = λ z. absurd (omega (arith, z, t.some refl)); busy = λ l. t.busy refl }
quiet_turns_stop old w k false q t = subst (TurnsAtOnce old 0) (sym (t.none refl)) (at_once_none old q)

-- all turns were such, and a core acted or is busy
pub quiet_turns_all : (old w : ExactWorld) (k : ℕ) (acted went : Bool) → IsQuietNow old.fabric → TurnsQuiet old k acted w → (acted ≡ true → went ≡ true) → (went ≡ true → acted ≡ false → rest_of (opened w) ≡ None) → TurnsAtOnce old (if went then k else 0) w
quiet_turns_all old w k true true q t a b = quiet_turns_stop old w k true q t
quiet_turns_all old w k true false q t a b = let e : false ≡ true = a refl in cc
quiet_turns_all old w k false true q t a b = record { steps = t.steps; fabric = t.fabric; none = λ z. t.none refl; busy = λ l. subst (λ (w : ExactWorld). rest_of (opened w) ≡ None) (t.none refl) (b refl refl) }
quiet_turns_all old w k false false q t a b = quiet_turns_stop old w k false q t

pub turns_few : (k n : ℕ) (acted : Bool) → k ≤ n → (if acted then k else 0) ≤ n
turns_few k n true l = l
turns_few k n false l = omega arith

turn_where : (w v : ExactWorld) (k core clock : ℕ) (b : Bool) → core ≡ core_of_turn w.schedule w.fabric.cycle k → slice_get w.schedule.clocks core ≡ Some clock → (w.fabric.cycle % clock == 0) ≡ b → Steps w (ticks_where b core) v → Steps w (turn_of w.schedule w.fabric.cycle k) v
turn_where w v k core clock b here at e s =
    let same : turn_of w.schedule w.fabric.cycle k ≡ ticks_where b core =
    ap (λ (c : ℕ). ticks_where (divides (slice_get w.schedule.clocks c) w.fabric.cycle) c) (sym here)
    ∙ ap (λ (o : Option ℕ). ticks_where (divides o w.fabric.cycle) core) at
    ∙ ap (λ (b : Bool). ticks_where b core) e in
    subst (λ es. Steps w es v) (sym same) s

-- a core whose clock doesn't divide the cycle passes its turn
pub turn_passed : (w : ExactWorld) (k core clock : ℕ) → core ≡ core_of_turn w.schedule w.fabric.cycle k → slice_get w.schedule.clocks core ≡ Some clock → (w.fabric.cycle % clock == 0) ≡ false → TurnAtOnce w k false w
turn_passed w k core clock here at e = record { steps = turn_where w w k core clock false here at e refl; fabric = refl; none = λ z. refl; busy = λ z. cc }

-- another acts in it
pub turn_acted : (w v : ExactWorld) (k core clock : ℕ) → core ≡ core_of_turn w.schedule w.fabric.cycle k → slice_get w.schedule.clocks core ≡ Some clock → (w.fabric.cycle % clock == 0) ≡ true → core < length w.cores → Step w (Tick core) v → v.fabric ≡ w.fabric → idle_at (opened w) core ≡ None → TurnAtOnce w k true v
turn_acted w v k core clock here at e l s f idle = record { steps = turn_where w v k core clock true here at e s; fabric = f; none = λ z. cc; busy = λ z. busy_here w core l idle }

-- the other turns

few_cores : (old w : ExactWorld) (k : ℕ) → k ≤ length old.schedule.clocks → Steps old (Devices ∷ Host ∷ turns old.schedule old.fabric.cycle k) w → length w.schedule.clocks ≡ length w.cores → (length old.schedule.clocks ≡ length w.cores) × (length old.cores ≡ length w.cores)
few_cores old w k l s n =
    let a = turns_amid old w k l s in
    (sym (ap (λ (s : Schedule). length s.clocks) a.schedule) ∙ n, sym a.cores)

pub turn_from_ready : (w v : ExactWorld) (first k : ℕ) → IsAmid w first → length w.schedule.clocks ≡ length w.cores → k < length w.cores → TurnsFrom w first v k → TurnReady v k
turn_from_ready w v first k m n l t =
    let e = few_cores m.old w first m.few m.steps n in
    turn_ready m.old v k (e.0 ∙ sym e.1) (omega (arith, e.1, l)) m.can (t.each m.old m.can m.few m.steps)

pub turns_from_more : (w v u : ExactWorld) (first k : ℕ) → length w.schedule.clocks ≡ length w.cores → k < length w.cores → TurnsFrom w first v k → Steps v (turn_of v.schedule v.fabric.cycle k) u → TurnsFrom w first u (k + 1)
turns_from_more w v u first k n l t turn = record {
  each = λ old c few s.
      let e = few_cores old w first few s n in
      let there : k < length old.schedule.clocks = omega (arith, e.0, l) in
      turns_push old v u k there (t.each old c few s) turn;
}

pub turns_from_all : (w v : ExactWorld) (first k : ℕ) → length w.schedule.clocks ≡ length w.cores → k ≡ length w.cores → TurnsFrom w first v k → TurnsWhole w first v
turns_from_all w v first k n l t = record {
  each = λ old c few s.
      let e = few_cores old w first few s n in
      subst (λ k. Steps old (Devices ∷ Host ∷ turns old.schedule old.fabric.cycle k) v) (l ∙ sym e.0) (t.each old c few s);
}

pub first_few : (w : ExactWorld) (first : ℕ) → IsAmid w first → length w.schedule.clocks ≡ length w.cores → first ≤ length w.cores
first_few w first m n = let e = few_cores m.old w first m.few m.steps n in omega (arith, m.few, e.0)

pub whole_early : (w v : ExactWorld) (k : ℕ) → IsAmid w k → TurnsWhole w k v → v.fabric.cycle < 2 ^ 62
whole_early w v k m t = turns_early m.old v (length m.old.schedule.clocks) refl (t.each m.old m.can m.few m.steps) m.can

pub finished : (w v u : ExactWorld) (k : ℕ) → 0 < k → TurnsWhole w k v → Step v Next u → Finished w k u
finished w v u k l t next = record {
  none = λ z. absurd (omega (arith, l, z));
  each = λ some old c few s. turns_end old v u (length old.schedule.clocks) refl (t.each old c few s) next;
}

pub begun : (old mid w : ExactWorld) → CanCycle old → Step old Devices mid → Step mid Host w → IsAmid w 0
begun old mid w c d h = record { old = old; can = c; few = omega arith; steps = steps_first old mid w Devices (Host ∷ []) d h }

pub cycle_done : (old mid w v u : ExactWorld) → CanCycle old → Step old Devices mid → Step mid Host w → TurnsWhole w 0 v → Step v Next u → Steps old (events_of old.schedule old.fabric.cycle) u
cycle_done old mid w v u c d h t next = turns_end old v u (length old.schedule.clocks) refl (t.each old c (omega arith) (steps_first old mid w Devices (Host ∷ []) d h)) next

-- a quiet cycle that is half done
pub half_done : (limit quiet number : ℕ) (steady : Bool) (first w v : ExactWorld) (k : ℕ) → QuietRun limit quiet steady first w number → number < limit → k ≤ length w.schedule.clocks → TurnsAtOnce w k v → IsAmid v k
half_done limit quiet number steady first w v k r l few t = record { old = w; can = can_begin limit w r.ran.can (omega (arith, r.cycle, l)) r.spare; few = few; steps = t.steps }

-- and then finished; nothing where no core acted at once
pub quiet_stop : (limit quiet number : ℕ) (steady : Bool) (first w v u : ExactWorld) (k : ℕ) → QuietRun limit quiet steady first w number → number < limit → k ≤ length w.schedule.clocks → TurnsAtOnce w k v → Finished v k u → RunsOn limit first u
quiet_stop limit quiet number steady first w v u zero r l few t f = subst (RunsOn limit first) (sym (f.none refl ∙ t.none refl)) r.ran
quiet_stop limit quiet number steady first w v u (suc k) r l few t f =
    let below : w.fabric.cycle < limit = omega (arith, r.cycle, l) in
    let some : 0 < suc k = omega arith in
    runs_one limit first w u r.ran (no_end limit w (t.busy some) below r.spare) below (f.each some w (can_begin limit w r.ran.can below r.spare) few t.steps)

pub all_turns : (w u : ExactWorld) (k : ℕ) → k ≤ length w.schedule.clocks → TurnsAtOnce w k u → length u.schedule.clocks ≡ length u.cores → length u.cores ≤ k → k ≡ length w.schedule.clocks
all_turns w u k few t n all = let e = few_cores w u k few t.steps n in omega (arith, few, e.0, all)

-- cycles up to where one was done by turns
pub stretched : (limit : ℕ) (w m v : ExactWorld) → CanRun limit w → exact_end limit w ≡ None → RunsOn limit w m → m.fabric.cycle ≡ w.fabric.cycle → Steps m (events_of m.schedule m.fabric.cycle) v → RunsOn limit w v
stretched limit w m v c e r same s =
    let here : m ≡ w = ran_none limit w m r same in
    runs_one limit w m v r (ap (exact_end limit) here ∙ e) (omega (arith, same, end_below limit w e c.before)) s

pub further : (w m v : ExactWorld) → m.fabric.cycle ≡ w.fabric.cycle → Steps m (events_of m.schedule m.fabric.cycle) v → w.fabric.cycle < v.fabric.cycle
further w m v same s = omega (arith, (cycled m v s).cycle, same)

-- where it was done at once to its end, the run stays quiet
pub quiet_more : (limit quiet number : ℕ) (steady : Bool) (first w u v : ExactWorld) (k : ℕ) → QuietRun limit quiet steady first w number → number < limit → k ≡ length w.schedule.clocks → 0 < k → TurnsAtOnce w k u → Step u Next v → QuietRun limit quiet steady first v (number + 1)
quiet_more limit quiet number steady first w u v k r l n some t next =
    let s = turns_end w u v k n t.steps next in
    let d = cycled w v s in
    let f : v.fabric ≡ record (w.fabric) { cycle = w.fabric.cycle + 1 } = ap (λ (w : ExactWorld). w.fabric) next ∙ ap (λ (f : Fabric). record f { cycle = f.cycle + 1 }) t.fabric in
    let below : w.fabric.cycle < limit = omega (arith, l, r.cycle) in
    record {
      ran = runs_one limit first w v r.ran (no_end limit w (t.busy some) below r.spare) below s;
      cycle = omega (arith, d.cycle, r.cycle);
      calm = λ z. quiet_next quiet w.fabric v.fabric f (r.calm (omega (arith, z)));
      spare = omega (arith, r.spare, d.cores, ap length d.rows, ap (λ (f : Fabric). length f.bus.uarts) f, ap (λ (f : Fabric). f.spare) f);
      in_step = λ e. subst IsInStep (sym d.schedule) (r.in_step e);
    }
