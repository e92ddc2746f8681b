-- Boards with profiles: their steps join, and each profile is that of the exact machine.
use Rattle.std.proofs.Common.{◌≡◌, ◌⊎◌, inl, inr, ℕ, zero, suc, ◌+◌, ◌-◌, ◌<◌, ◌≤◌, ◌==◌, ◌^◌, Bool, true, false, if◌then◌else◌, List, [], ◌∷◌, ◌++◌, length, map, Option, Some, None, refl, ap, sym, ◌∙◌, subst, arith, slice_get, slice_set}
use Rattle.std.proofs.lemmas.Bool.{cases_eq}
use Rattle.std.proofs.Common.{ap₂, replicate}
use Rattle.std.specs.Prelude.{option_map}
use Rattle.std.proofs.lemmas.List.{length-replicate, length-set, map-set}
use Rattle.std.proofs.lemmas.Option.{same_Some, slice_get-map}
use Rattle.isa_step.specs.Effects.{Does, Due, Ends, Sleeps, Stops, Waits}
use Rattle.isa_step.specs.Due.{due}
use Rattle.board_machine.specs.declared.events.Event.{Event}
use Rattle.board_machine.specs.declared.events.Event.TheVariants.{Devices, Host, Tick, Next}
use Rattle.board_machine.specs.declared.events.RunEnd.{RunEnd}
use Rattle.board_machine.specs.Cycles.{core_of_turn, divides, events_of, ticks_where, turn_of, turns}
use Rattle.board_machine.specs.Fabric.{shown}
use Rattle.board_machine.specs.World.{Schedule}
use Rattle.board_machine.proofs.Lists.{last_or_before, slice_get_set_other, slice_get_set_same}
use Rattle.exact_machine.specs.Machine.{ExactCore, ExactWorld, core_after, exact_step, exact_steps, is_held_at, ticked}
use Rattle.exact_machine.specs.Profile.{Acting, Dividing, Holding, Profile, Reading, Resting, Sleeping, Spent, Starting, Turning, Waiting, counted, counted_at, nothing, profile_step, profile_steps, reason, spent, total}
use Rattle.exact_machine.specs.Runs.{ExactRun, exact_cycles, exact_end, exact_events}
use Rattle.exact_machine.specs.Stepping.{CanCycle, CanRun, Step, Steps}
use Rattle.exact_machine.proofs.Joins.{runs_join}
use Rattle.exact_machine.proofs.Opening.{step_cores}
use Rattle.exact_machine.proofs.Profiles.{other_tick}
use Rattle.exact_machine.proofs.Turning.{TurnReady, can_go_on, cycled, turn_ready, turns_amid, turns_early}
use Rattle.quiet_cycles.specs.Quiet.{IsAmid}
use Rattle.quiet_cycles.proofs.Running.{can_begin, end_below, end_room}
use Rattle.core_iface.specs.declared.Tick.{Tick as Answer}
use Rattle.board_run.specs.Boards.{TickSays}
use Rattle.board_run.proofs.Latching.{host_room}
use Rattle.board_profile.specs.Profiles.{AreCounted, Counts, Profiled, ProfiledRun, TurnsDone, counts_of, profiled_step, profiled_steps, profiles_at, profiles_step, spent_as, spent_on}
use Rattle.board_profile.specs.declared.profile.Profile.{Profile as Nine}
use Rattle.board_profile.specs.declared.profile.Spent.{Spent as SpentOn}
use Rattle.board_profile.proofs.Answering.{says}

-- steps join, and lead where the exact machine does

pub steps_join : (x : Profiled) (first more : List Event) → profiled_steps x (first ++ more) ≡ profiled_steps (profiled_steps x first) more
steps_join x [] more = refl
steps_join x (e ∷ first) more = steps_join (profiled_step x e) first more

pub steps_world : (x : Profiled) (events : List Event) → (profiled_steps x events).world ≡ exact_steps x.world events
steps_world x [] = refl
steps_world x (e ∷ es) = steps_world (profiled_step x e) es

-- each profile is that of the exact machine

own_counted : (x : ExactWorld) (profiles : List Profile) (core : ℕ) (p : Profile) (o : Option Profile) → slice_get profiles core ≡ o → o ≡ Some p
    → slice_get (profiles_at x core o profiles) core ≡ Some (counted_at x core (slice_get x.cores core) p)
own_counted x profiles core p None q e = cc
own_counted x profiles core p (Some r) q e =
    slice_get_set_same profiles core r (counted_at x core (slice_get x.cores core) r) q ∙ ap (λ p. Some (counted_at x core (slice_get x.cores core) p)) (same_Some r p e)

other_counted : (x : ExactWorld) (profiles : List Profile) (other core : ℕ) (o : Option Profile) → (core ≡ other → ⊥) → slice_get (profiles_at x other o profiles) core ≡ slice_get profiles core
other_counted x profiles other core None ne = refl
other_counted x profiles other core (Some r) ne = slice_get_set_other profiles core other _ ne

tick_counted : (x : ExactWorld) (profiles : List Profile) (other core : ℕ) (p : Profile) (t : Bool) → (other == core) ≡ t → slice_get profiles core ≡ Some p
    → slice_get (profiles_at x other (slice_get profiles other) profiles) core ≡ Some (if t then counted_at x core (slice_get x.cores core) p else p)
tick_counted x profiles other core p true e q =
    let same : core ≡ other = grind (arith, e) in
    subst (λ k. slice_get (profiles_at x k (slice_get profiles k) profiles) core ≡ Some (counted_at x core (slice_get x.cores core) p)) same
    (own_counted x profiles core p (slice_get profiles core) refl q)
tick_counted x profiles other core p false e q = other_counted x profiles other core (slice_get profiles other) (grind (arith, e)) ∙ q

step_counted : (x : Profiled) (e : Event) (core : ℕ) (p : Profile) → slice_get x.profiles core ≡ Some p → slice_get (profiled_step x e).profiles core ≡ Some (profile_step x.world core e p)
step_counted x Devices core p q = q
step_counted x Host core p q = q
step_counted x Next core p q = q
step_counted x (Tick other) core p q = tick_counted x.world x.profiles other core p (other == core) refl q

pub steps_counted : (x : Profiled) (events : List Event) → AreCounted x events (profiled_steps x events)
steps_counted x [] core p q = q
steps_counted x (e ∷ es) core p q = steps_counted (profiled_step x e) es core (profile_step x.world core e p) (step_counted x e core p q)

-- no profile passes the ticks of its core

one_more : (t : Spent) (p : Profile) → total (counted t p) ≡ total p + 1
one_more Acting p = omega arith
one_more Starting p = omega arith
one_more Holding p = omega arith
one_more Reading p = omega arith
one_more Turning p = omega arith
one_more Dividing p = omega arith
one_more Waiting p = omega arith
one_more Sleeping p = omega arith
one_more Resting p = omega arith

tick_more : (d : Due) (held : Bool) (s : ExactCore) → (core_after d held s).ticks ≡ s.ticks + 1
tick_more (Does effect) false s = refl
tick_more (Does effect) true s = refl
tick_more (Waits port full) held s = refl
tick_more Sleeps held s = refl
tick_more Ends held s = refl
tick_more (Stops cause) held s = refl

own_few : (x : ExactWorld) (profiles : List Profile) (core : ℕ) (s : ExactCore) (p : Profile) (o : Option ExactCore) → slice_get x.cores core ≡ Some s → slice_get profiles core ≡ Some p → total p ≤ s.ticks
    → slice_get x.cores core ≡ o → (t : ExactCore) (q : Profile) → slice_get (ticked core o x).cores core ≡ Some t → slice_get (slice_set profiles core (counted_at x core o p)) core ≡ Some q → total q ≤ t.ticks
own_few x profiles core s p None at there few e t q st sq = cc
own_few x profiles core s p (Some r) at there few e t q st sq =
    let is : s ≡ r = same_Some s r (sym at ∙ e) in
    let d = due r.view (shown x.fabric core) in
    let held = is_held_at r (shown x.fabric core) in
    let after : core_after d held r ≡ t = same_Some _ _ (sym (slice_get_set_same x.cores core r (core_after d held r) e) ∙ st) in
    let now : counted (spent r (shown x.fabric core)) p ≡ q = same_Some _ _ (sym (slice_get_set_same profiles core p (counted (spent r (shown x.fabric core)) p) there) ∙ sq) in
    omega (arith, few, ap (λ (s : ExactCore). s.ticks) is, tick_more d held r, ap (λ (s : ExactCore). s.ticks) after, one_more (spent r (shown x.fabric core)) p, ap total now)

few_at : (x : ExactWorld) (profiles : List Profile) (core : ℕ) (s : ExactCore) (p : Profile) → Counts x.cores profiles → slice_get x.cores core ≡ Some s → slice_get profiles core ≡ Some p
    → (k : ℕ) (t : ExactCore) (q : Profile) → (k ≡ core) ⊎ (k ≡ core → ⊥) → slice_get (exact_step x (Tick core)).cores k ≡ Some t → slice_get (slice_set profiles core (counted_at x core (slice_get x.cores core) p)) k ≡ Some q → total q ≤ t.ticks
few_at x profiles core s p c at there k t q (inl is) st sq =
    own_few x profiles core s p (slice_get x.cores core) at there (c.few core s p at there) refl t q
    (ap (slice_get (exact_step x (Tick core)).cores) (sym is) ∙ st) (ap (slice_get (slice_set profiles core (counted_at x core (slice_get x.cores core) p))) (sym is) ∙ sq)
few_at x profiles core s p c at there k t q (inr ne) st sq =
    c.few k t q (sym (other_tick x core k (slice_get x.cores core) ne) ∙ st) (sym (slice_get_set_other profiles k core _ ne) ∙ sq)

pub tick_counts : (x : ExactWorld) (profiles : List Profile) (core : ℕ) (s : ExactCore) (p : Profile) → Counts x.cores profiles → slice_get x.cores core ≡ Some s → slice_get profiles core ≡ Some p
    → Counts (exact_step x (Tick core)).cores (slice_set profiles core (counted_at x core (slice_get x.cores core) p))
tick_counts x profiles core s p c at there = record {
  count = length-set profiles core _ ∙ c.count ∙ sym (step_cores x (Tick core));
  few = λ k t q st sq. few_at x profiles core s p c at there k t q (cases_eq k core) st sq;
}

-- a board is new, and its events

new_few : (n : ℕ) (k : ℕ) (p : Profile) → slice_get (replicate n nothing) k ≡ Some p → total p ≡ 0
new_few zero k p e = cc
new_few (suc n) zero p e = ap total (sym (same_Some nothing p e))
new_few (suc n) (suc k) p e = new_few n k p e

pub new_profiles : (n : ℕ) (zeros : Nine) → counts_of zeros ≡ nothing → map counts_of (replicate n zeros) ≡ replicate n nothing
new_profiles zero zeros e = refl
new_profiles (suc n) zeros e = ap₂ (λ p ps. p ∷ ps) e (new_profiles n zeros e)

pub new_counts : (cores : List ExactCore) (n : ℕ) → n ≡ length cores → Counts cores (replicate n nothing)
new_counts cores n e = record {
  count = length-replicate n nothing ∙ e;
  few = λ k s p at there. omega (arith, new_few n k p there);
}

-- a tick, as the board does it and counts it
pub record Ticked (x new : ExactWorld) (core : ℕ) (before after : Nine) : Type 0 where
  pub step : Step x (Tick core) new
  pub was : ExactCore
  pub here : slice_get x.cores core ≡ Some was
  pub counts : counts_of after ≡ counted (spent was (shown x.fabric core)) (counts_of before)

pub ticked_by : (x new : ExactWorld) (core : ℕ) (s : ExactCore) (answer : Answer) (reason' on : SpentOn) (before after : Nine) → Step x (Tick core) new → TickSays core answer x → slice_get x.cores core ≡ Some s
    → spent_as reason' ≡ reason s → spent_as on ≡ spent_on answer (spent_as reason') → counts_of after ≡ counted (spent_as on) (counts_of before) → Ticked x new core before after
ticked_by x new core s answer reason' on before after step t here why is counts = record {
  step = step;
  was = s;
  here = here;
  counts = counts ∙ ap (λ t. counted t (counts_of before)) (is ∙ ap (spent_on answer) why ∙ says x core answer s t here);
}

pub mapped_at : (items : List Nine) (core : ℕ) (before : Nine) → slice_get items core ≡ Some before → slice_get (map counts_of items) core ≡ Some (counts_of before)
mapped_at items core before e = rw slice_get-map (ap (option_map counts_of) e)

own_at : (x : ExactWorld) (core : ℕ) (s : ExactCore) (o : Option ExactCore) (p : Profile) → o ≡ Some s → counted_at x core o p ≡ counted (spent s (shown x.fabric core)) p
own_at x core s o p e = ap (λ o. counted_at x core o p) e

pub ticked_profiles : (x new : ExactWorld) (core : ℕ) (before after : Nine) (items : List Nine) → Ticked x new core before after → slice_get items core ≡ Some before
    → map counts_of (slice_set items core after) ≡ profiles_step x (Tick core) (map counts_of items)
ticked_profiles x new core before after items t e =
    map-set counts_of items core after
    ∙ ap (slice_set (map counts_of items) core) (t.counts ∙ sym (own_at x core t.was (slice_get x.cores core) (counts_of before) t.here))
    ∙ ap (λ o. profiles_at x core o (map counts_of items)) (sym (mapped_at items core before e))

pub ticked_counts : (x new : ExactWorld) (core : ℕ) (before after : Nine) (items : List Nine) → Ticked x new core before after → slice_get items core ≡ Some before
    → Counts x.cores (map counts_of items) → Counts new.cores (map counts_of (slice_set items core after))
ticked_counts x new core before after items t e c =
    let there = mapped_at items core before e in
    let kept = tick_counts x (map counts_of items) core t.was (counts_of before) c t.here there in
    subst (λ ps. Counts new.cores ps) (sym (map-set counts_of items core after ∙ ap (slice_set (map counts_of items) core) (t.counts ∙ sym (own_at x core t.was (slice_get x.cores core) (counts_of before) t.here))))
    (subst (λ (y : ExactWorld). Counts y.cores (slice_set (map counts_of items) core (counted_at x core (slice_get x.cores core) (counts_of before)))) (sym t.step) kept)

-- the next profile has room for a tick more
pub few_here : (x : ExactWorld) (core : ℕ) (s : ExactCore) (before : Nine) (items : List Nine) → Counts x.cores (map counts_of items) → slice_get x.cores core ≡ Some s → slice_get items core ≡ Some before → total (counts_of before) ≤ s.ticks
few_here x core s before items c at e = c.few core s (counts_of before) at (mapped_at items core before e)

-- what a step leaves
pub profiled_is : (x new : ExactWorld) (ps qs : List Profile) (e : Event) → Step x e new → qs ≡ profiles_step x e ps
    → record { world = new; profiles = qs } ≡ profiled_step (record { world = x; profiles = ps }) e
profiled_is x new ps qs e s p = λ i. record { world = s i; profiles = p i }

pub counts_stay : (x new : ExactWorld) (ps : List Profile) → new.cores ≡ x.cores → Counts x.cores ps → Counts new.cores ps
counts_stay x new ps e c = subst (λ cores. Counts cores ps) (sym e) c

-- the core of a turn
ticked_core : List Event → ℕ
ticked_core [] = 0
ticked_core (Devices ∷ es) = 0
ticked_core (Host ∷ es) = 0
ticked_core (Tick core ∷ es) = core
ticked_core (Next ∷ es) = 0

core_where : (b : Bool) (core other : ℕ) → Tick core ∷ [] ≡ ticks_where b other → core ≡ other
unfolding ticked_core
core_where true core other e = ap ticked_core e
core_where false core other e = cc

pub turn_core : (s : Schedule) (cycle k core : ℕ) → Tick core ∷ [] ≡ turn_of s cycle k → core ≡ core_of_turn s cycle k
turn_core s cycle k core e = core_where (divides (slice_get s.clocks (core_of_turn s cycle k)) cycle) core (core_of_turn s cycle k) e

-- turns and cycles

pub record CycleReady (old : ExactWorld) (k : ℕ) (w : Profiled) : Type 0 where
  pub ready : TurnReady w.world k
  pub schedule : w.world.schedule ≡ old.schedule
  pub cycle : w.world.fabric.cycle ≡ old.fabric.cycle

-- amid a cycle that began at old, from the first turn on
amid_steps : (old : ExactWorld) (first w : Profiled) (k : ℕ) → Steps old (Devices ∷ Host ∷ []) first.world → w ≡ profiled_steps first (turns old.schedule old.fabric.cycle k) → Steps old (Devices ∷ Host ∷ turns old.schedule old.fabric.cycle k) w.world
amid_steps old first w k begun e =
    ap (λ (w : Profiled). w.world) e ∙ steps_world first (turns old.schedule old.fabric.cycle k) ∙ ap (λ x. exact_steps x (turns old.schedule old.fabric.cycle k)) begun

pub record Begun (first : Profiled) : Type 0 where
  pub old : ExactWorld
  pub can : CanCycle old
  pub steps : Steps old (Devices ∷ Host ∷ []) first.world
  pub schedule : first.world.schedule ≡ old.schedule
  pub cycle : first.world.fabric.cycle ≡ old.fabric.cycle
  pub cores : length first.world.cores ≡ length old.cores

pub begun : (first : Profiled) → IsAmid first.world 0 → Begun first
begun first a =
    let amid = turns_amid a.old first.world 0 (omega arith) a.steps in
    record { old = a.old; can = a.can; steps = a.steps; schedule = amid.schedule; cycle = amid.cycle; cores = amid.cores }

abbrev pub AreTurns : Profiled → ℕ → Profiled → Type 0
AreTurns first k w = w ≡ profiled_steps first (turns first.world.schedule first.world.fabric.cycle k)

same_turns : (first : Profiled) (b : Begun first) (k : ℕ) → turns first.world.schedule first.world.fabric.cycle k ≡ turns b.old.schedule b.old.fabric.cycle k
same_turns first b k = ap (λ (s : Schedule). turns s first.world.fabric.cycle k) b.schedule ∙ ap (λ c. turns b.old.schedule c k) b.cycle

-- what the next turn may ask
pub turn_may : (first w : Profiled) (k : ℕ) → IsAmid first.world 0 → length first.world.schedule.clocks ≡ length first.world.cores → k < length first.world.cores → AreTurns first k w → TurnReady w.world k
turn_may first w k a n l t =
    let b = begun first a in
    turn_ready b.old w.world k (sym (ap (λ (s : Schedule). length s.clocks) b.schedule) ∙ n ∙ b.cores) (omega (arith, l, b.cores)) b.can (amid_steps b.old first w k b.steps (t ∙ ap (profiled_steps first) (same_turns first b k)))

-- one turn more
pub turn_more : (first w v : Profiled) (k : ℕ) → IsAmid first.world 0 → length first.world.schedule.clocks ≡ length first.world.cores → k < length first.world.cores → AreTurns first k w
    → v ≡ profiled_steps w (turn_of w.world.schedule w.world.fabric.cycle k) → AreTurns first (k + 1) v
turn_more first w v k a n l t s =
    let b = begun first a in
    let few : k ≤ length b.old.schedule.clocks = omega (arith, l, n, ap (λ (s : Schedule). length s.clocks) b.schedule) in
    let amid = turns_amid b.old w.world k few (amid_steps b.old first w k b.steps (t ∙ ap (profiled_steps first) (same_turns first b k))) in
    let turn : turn_of w.world.schedule w.world.fabric.cycle k ≡ turn_of first.world.schedule first.world.fabric.cycle k =
    ap (λ (s : Schedule). turn_of s w.world.fabric.cycle k) (amid.schedule ∙ sym b.schedule) ∙ ap (λ c. turn_of first.world.schedule c k) (amid.cycle ∙ sym b.cycle) in
    let one : suc k ≡ k + 1 = omega arith in
    s ∙ ap (profiled_steps w) turn ∙ ap (λ w. profiled_steps w (turn_of first.world.schedule first.world.fabric.cycle k)) t
    ∙ sym (steps_join first (turns first.world.schedule first.world.fabric.cycle k) (turn_of first.world.schedule first.world.fabric.cycle k))
    ∙ ap (λ n. profiled_steps first (turns first.world.schedule first.world.fabric.cycle n)) one

-- a whole cycle
pub cycle_whole : (old mid first last new : Profiled) → CanCycle old.world → mid ≡ profiled_step old Devices → first ≡ profiled_step mid Host → TurnsDone first last → new ≡ profiled_step last Next
    → new ≡ profiled_steps old (events_of old.world.schedule old.world.fabric.cycle)
cycle_whole old mid first last new can d h t n =
    let two : first ≡ profiled_steps old (Devices ∷ Host ∷ []) = h ∙ ap (λ m. profiled_step m Host) d in
    let a = turns_amid old.world first.world 0 (omega arith) (ap (λ (w : Profiled). w.world) two) in
    let same : turns first.world.schedule first.world.fabric.cycle (length first.world.schedule.clocks) ≡ turns old.world.schedule old.world.fabric.cycle (length old.world.schedule.clocks) =
    ap (λ (s : Schedule). turns s first.world.fabric.cycle (length s.clocks)) a.schedule ∙ ap (λ c. turns old.world.schedule c (length old.world.schedule.clocks)) a.cycle in
    n ∙ ap (λ w. profiled_step w Next) (t ∙ ap (profiled_steps first) same ∙ ap (λ w. profiled_steps w (turns old.world.schedule old.world.fabric.cycle (length old.world.schedule.clocks))) two)
    ∙ sym (steps_join old (Devices ∷ Host ∷ turns old.world.schedule old.world.fabric.cycle (length old.world.schedule.clocks)) (Next ∷ []))

-- what the parts of a cycle may ask
pub host_may : (old mid : Profiled) → CanCycle old.world → mid ≡ profiled_step old Devices → length mid.world.fabric.rows ≤ mid.world.fabric.spare
host_may old mid can d = host_room old.world mid.world can (ap (λ (w : Profiled). w.world) d)

pub turns_may : (old mid first : Profiled) → CanCycle old.world → mid ≡ profiled_step old Devices → first ≡ profiled_step mid Host → IsAmid first.world 0
turns_may old mid first can d h = record { old = old.world; can = can; few = omega arith; steps = ap (λ (w : Profiled). w.world) (h ∙ ap (λ m. profiled_step m Host) d) }

pub next_may : (old mid first last : Profiled) → CanCycle old.world → mid ≡ profiled_step old Devices → first ≡ profiled_step mid Host → TurnsDone first last → last.world.fabric.cycle < 2 ^ 62
next_may old mid first last can d h t =
    let b = begun first (turns_may old mid first can d h) in
    let n = length b.old.schedule.clocks in
    let same : turns first.world.schedule first.world.fabric.cycle (length first.world.schedule.clocks) ≡ turns b.old.schedule b.old.fabric.cycle n =
    same_turns first b (length first.world.schedule.clocks) ∙ ap (turns b.old.schedule b.old.fabric.cycle) (ap (λ (s : Schedule). length s.clocks) b.schedule) in
    turns_early b.old last.world n refl (amid_steps b.old first last n b.steps (t ∙ ap (profiled_steps first) same)) b.can

-- runs

-- so many cycles, in none of which an end was reached at the start
pub record Cycled (limit : ℕ) (old now : Profiled) : Type 0 where
  pub count : ℕ
  pub is : now ≡ profiled_steps old (exact_events old.world count)
  pub goes_on : (n : ℕ) → n < count → exact_end limit (exact_cycles old.world n) ≡ None
  pub can : CanRun limit now.world

pub none_cycled : (limit : ℕ) (old : Profiled) → CanRun limit old.world → Cycled limit old old
none_cycled limit old can = record { count = 0; is = refl; goes_on = λ n l. absurd (omega (arith, l)); can = can }

cycled_world : (limit : ℕ) (old now : Profiled) (c : Cycled limit old now) → now.world ≡ exact_cycles old.world c.count
cycled_world limit old now c = ap (λ (w : Profiled). w.world) c.is ∙ steps_world old (exact_events old.world c.count) ∙ sym (runs_join.events old.world c.count)

on_by : (limit : ℕ) (old : ExactWorld) (count : ℕ) → ((n : ℕ) → n < count → exact_end limit (exact_cycles old n) ≡ None) → exact_end limit (exact_cycles old count) ≡ None → (n : ℕ) → n < suc count → exact_end limit (exact_cycles old n) ≡ None
on_by limit old count before now n l = elim (last_or_before n count l) [
  | inl e ↦ ap (λ n. exact_end limit (exact_cycles old n)) e ∙ now
  | inr less ↦ before n less
]

pub one_cycled : (limit : ℕ) (old now next : Profiled) → Cycled limit old now → exact_end limit now.world ≡ None → next ≡ profiled_steps now (events_of now.world.schedule now.world.fabric.cycle) → Cycled limit old next
one_cycled limit old now next c none s =
    let here = cycled_world limit old now c in
    let events = events_of now.world.schedule now.world.fabric.cycle in
    let same : events ≡ events_of (exact_cycles old.world c.count).schedule (exact_cycles old.world c.count).fabric.cycle = ap (λ (x : ExactWorld). events_of x.schedule x.fabric.cycle) here in
    let step : Steps now.world events next.world = ap (λ (w : Profiled). w.world) s ∙ steps_world now events in
    record {
      count = suc c.count;
      is = s ∙ ap (λ w. profiled_steps w events) c.is ∙ sym (steps_join old (exact_events old.world c.count) events) ∙ ap (λ es. profiled_steps old (exact_events old.world c.count ++ es)) same;
      goes_on = on_by limit old.world c.count c.goes_on (ap (exact_end limit) (sym here) ∙ none);
      can = can_go_on limit now.world next.world c.can (end_below limit now.world none c.can.before) (cycled now.world next.world step);
    }

-- what the next cycle may ask
pub cycle_may : (limit : ℕ) (old now : Profiled) → Cycled limit old now → exact_end limit now.world ≡ None → CanCycle now.world
cycle_may limit old now c none = can_begin limit now.world c.can (end_below limit now.world none c.can.before) (end_room limit now.world none)

pub run_ended : (limit : ℕ) (old now : Profiled) (end : RunEnd) → Cycled limit old now → exact_end limit now.world ≡ Some end → ProfiledRun limit old now end
run_ended limit old now end c e = record {
  ran = record { count = c.count; ran = cycled_world limit old now c; goes_on = c.goes_on; ends = e };
  counted = subst (AreCounted old (exact_events old.world c.count)) (sym c.is) (steps_counted old (exact_events old.world c.count));
}

-- a cycle moves the number by one
pub cycle_next : (now next : Profiled) → next ≡ profiled_steps now (events_of now.world.schedule now.world.fabric.cycle) → next.world.fabric.cycle ≡ now.world.fabric.cycle + 1
cycle_next now next s =
    let events = events_of now.world.schedule now.world.fabric.cycle in
    (cycled now.world next.world (ap (λ (w : Profiled). w.world) s ∙ steps_world now events)).cycle
