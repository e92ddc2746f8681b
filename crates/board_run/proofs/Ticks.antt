-- What the contract of a core's tick says of the board machine.
use Rattle.std.proofs.Common.{◌≡◌, ℕ, ◌+◌, ◌<◌, ◌≤◌, List, length, map, get_or, slice_get, slice_set, Option, Some, None, refl, ap, sym, ◌∙◌, cond, inl, inr, Bool, true, false, ◌||◌, ◌&&◌, subst, arith}
use Rattle.std.specs.Option.{option_map}
use Rattle.std.specs.Prelude.{is_none}
use Rattle.std.proofs.lemmas.Option.{slice_get-map, slice_get_read}
use Rattle.core_regs.specs.declared.causes.WaitOn.{WaitOn}
use Rattle.isa_step.specs.declared.acts.Act.{Act}
use Rattle.isa_step.specs.declared.acts.Action.{Action}
use Rattle.isa_step.specs.Shown.{Shown, Moves}
use Rattle.isa_step.specs.Effects.{View, Due, Does, Waits, Sleeps, Ends, Stops}
use Rattle.core_regs.specs.State.{bare}
use Rattle.isa_step.specs.Due.{due, here_of, take_due}
use Rattle.prepared_act.proofs.Offers.{nothing_taken}
use Rattle.exact_machine.specs.Machine.{ExactCore, ExactWorld, core_after, exact_step, fabric_after, is_held_at, opened, ticked, with_slack}
use Rattle.board_machine.specs.Resting.{idle_at, idle_here}
use Rattle.board_machine.specs.World.{acts_of}
use Rattle.board_machine.specs.declared.events.Event.TheVariants.{Tick as TickOfCore}
use Rattle.isa_step.specs.declared.acts.Idle.{Idle}
use Rattle.isa_step.specs.Resting.{IsAnnounced, idle_due, idle_view}
use Rattle.isa_step.proofs.RestLaws.{idle_lasts}
use Rattle.core_iface.specs.declared.Tick.{Tick}
use Rattle.core_iface.specs.declared.Tick.TheVariants.{Acted, Filling, Waiting, Sleeping, Ended, Stopped}
use Rattle.core_iface.specs.Cores.{CoreState, is_early, is_held}
use Rattle.core_iface.specs.Ticks.{AloneOf, Ticks, TicksAlone, TickOf, is_view_quiet}
use Rattle.prepared_act.specs.Retiring.{is_offered}
use Rattle.board_machine.proofs.Lines.{act_line, some_lines, waited_by}
use Rattle.board_machine.proofs.Staying.{announced}
use Rattle.board_machine.specs.Fabric.{Fabric, breaks_at, or_low, shown, entered, entered_some, entries_of_action, entry_of_act, entry_of_action, is_logged, waited}
use Rattle.board_run.specs.Boards.{AnswerOf, answered, core_of, exact_acts, exact_idle, idle_of}

-- a core as the board machine sees it
abbrev pub seen : {X : Type 0} → (X → CoreState) → X → ExactCore
seen state x = core_of (state x)

-- a core without its past
pub opened_at : (cores : List ExactCore) (k : ℕ) (s : ExactCore) → slice_get cores k ≡ Some s → slice_get (map (with_slack 0) cores) k ≡ Some (with_slack 0 s)
opened_at cores k s q = slice_get-map (with_slack 0) cores k ∙ ap (option_map (with_slack 0)) q

idle_by : (f : Fabric) (k : ℕ) (o : Option ExactCore) → idle_here f k (option_map (with_slack 0) o) ≡ idle_of f k o
idle_by f k None = refl
idle_by f k (Some s) = refl

pub idle_seen : (x : ExactWorld) (k : ℕ) → idle_at (opened x) k ≡ exact_idle x k
idle_seen x k = ap (idle_here x.fabric k) (slice_get-map (with_slack 0) x.cores k) ∙ idle_by x.fabric k (slice_get x.cores k)

acts_by : (o : Option ExactCore) → acts_of (option_map (with_slack 0) o) ≡ exact_acts o
acts_by None = refl
acts_by (Some s) = refl

pub acts_seen : (cores : List ExactCore) (k : ℕ) → acts_of (slice_get (map (with_slack 0) cores) k) ≡ exact_acts (slice_get cores k)
acts_seen cores k = ap acts_of (slice_get-map (with_slack 0) cores k) ∙ acts_by (slice_get cores k)

-- a member of an element, as an element of the mapped list
pub slice_get_mapped : {A B : Type 0} (f : A → B) (xs : List A) (i : ℕ) (x : A) → i < length xs → x ≡ get_or xs i x → slice_get (map f xs) i ≡ Some (f x)
slice_get_mapped f xs i x l e = rw slice_get-map (ap (option_map f) (slice_get_read xs (length xs) i x refl l e))

leaves_act : {P : Type 0} (done : P → List Action) (spare : P → ℕ) (leaves : P → Action → P → Type 0) (fabric : P → Fabric) (core act : ℕ) (o : Option Action) (p q : P) → ((a : Action) → leaves p a q → fabric q ≡ entered core act (entry_of_action a) (fabric p)) → Moves done spare leaves p o q → fabric q ≡ entered_some core act (entries_of_action o) (fabric p)
leaves_act done spare leaves fabric core act None p q does h = ap fabric h
leaves_act done spare leaves fabric core act (Some a) p q does h = does a h.left

-- the core and the fabric after a tick are those of the exact machine
pub record IsExactTick (core : ℕ) (d : Due) (held : Bool) (old : CoreState) (before : Fabric) (new : CoreState) (later : Fabric) : Type 0 where
  pub core_is : core_of new ≡ core_after d held (core_of old)
  pub fabric : later ≡ fabric_after core old.acts d held before

-- a tick
tick_of : {P : Type 0} (done : P → List Action) (spare : P → ℕ) (leaves : P → Action → P → Type 0) (fabric : P → Fabric) (core : ℕ) (d : Due) (held quiet : Bool) (answer : Tick) (old : CoreState) (p : P) (new : CoreState) (q : P) → ((a : Action) → leaves p a q → fabric q ≡ entered core old.acts (entry_of_action a) (fabric p)) → TickOf done spare leaves d held quiet answer old p new q → IsExactTick core d held old (fabric p) new (answered core old.acts answer (fabric q))
tick_of done spare leaves fabric core (Does effect) false quiet (Acted a) old p new q does h = record {
  core_is = ap core_of h.1.core;
  fabric = ap (λ a. entered_some core old.acts (entry_of_act a) (fabric q)) h.0 ∙ ap (entered_some core old.acts (entry_of_act effect.done.act)) (leaves_act done spare leaves fabric core old.acts effect.action p q does h.1.ports);
}
tick_of done spare leaves fabric core (Does effect) true quiet (Acted a) old p new q does h = absurd h
tick_of done spare leaves fabric core (Does effect) true quiet Filling old p new q does h = record { core_is = ap core_of h.core; fabric = ap fabric h.ports }
tick_of done spare leaves fabric core (Does effect) false quiet Filling old p new q does h = absurd h
tick_of done spare leaves fabric core (Does effect) true quiet (Waiting on) old p new q does h = absurd h
tick_of done spare leaves fabric core (Does effect) false quiet (Waiting on) old p new q does h = absurd h
tick_of done spare leaves fabric core (Does effect) true quiet Sleeping old p new q does h = absurd h
tick_of done spare leaves fabric core (Does effect) false quiet Sleeping old p new q does h = absurd h
tick_of done spare leaves fabric core (Does effect) true quiet Ended old p new q does h = absurd h
tick_of done spare leaves fabric core (Does effect) false quiet Ended old p new q does h = absurd h
tick_of done spare leaves fabric core (Does effect) true quiet (Stopped why) old p new q does h = absurd h
tick_of done spare leaves fabric core (Does effect) false quiet (Stopped why) old p new q does h = absurd h
tick_of done spare leaves fabric core (Waits port full) true quiet (Acted a) old p new q does h = absurd h
tick_of done spare leaves fabric core (Waits port full) false quiet (Acted a) old p new q does h = absurd h
tick_of done spare leaves fabric core (Waits port full) true quiet Filling old p new q does h = record { core_is = ap core_of h.core; fabric = ap fabric h.ports }
tick_of done spare leaves fabric core (Waits port full) false quiet Filling old p new q does h = absurd h
tick_of done spare leaves fabric core (Waits port full) false quiet (Waiting on) old p new q does h = record {
  core_is = ap core_of h.1.core;
  fabric = ap (λ on. waited core old.acts on (fabric q)) h.0 ∙ ap (λ q. waited core old.acts (record { port = port; full = full }) (fabric q)) h.1.ports;
}
tick_of done spare leaves fabric core (Waits port full) true quiet (Waiting on) old p new q does h = absurd h
tick_of done spare leaves fabric core (Waits port full) true quiet Sleeping old p new q does h = absurd h
tick_of done spare leaves fabric core (Waits port full) false quiet Sleeping old p new q does h = absurd h
tick_of done spare leaves fabric core (Waits port full) true quiet Ended old p new q does h = absurd h
tick_of done spare leaves fabric core (Waits port full) false quiet Ended old p new q does h = absurd h
tick_of done spare leaves fabric core (Waits port full) true quiet (Stopped why) old p new q does h = absurd h
tick_of done spare leaves fabric core (Waits port full) false quiet (Stopped why) old p new q does h = absurd h
tick_of done spare leaves fabric core Sleeps held true (Acted a) old p new q does h = absurd h
tick_of done spare leaves fabric core Sleeps held false (Acted a) old p new q does h = absurd h
tick_of done spare leaves fabric core Sleeps held true Filling old p new q does h = absurd h
tick_of done spare leaves fabric core Sleeps held false Filling old p new q does h = absurd h
tick_of done spare leaves fabric core Sleeps held true (Waiting on) old p new q does h = absurd h
tick_of done spare leaves fabric core Sleeps held false (Waiting on) old p new q does h = absurd h
tick_of done spare leaves fabric core Sleeps held true Sleeping old p new q does h = absurd h
tick_of done spare leaves fabric core Sleeps held false Sleeping old p new q does h = record { core_is = ap core_of h.core; fabric = ap fabric h.ports }
tick_of done spare leaves fabric core Sleeps held true Ended old p new q does h = record { core_is = ap core_of h.core; fabric = ap fabric h.ports }
tick_of done spare leaves fabric core Sleeps held false Ended old p new q does h = absurd h
tick_of done spare leaves fabric core Sleeps held true (Stopped why) old p new q does h = absurd h
tick_of done spare leaves fabric core Sleeps held false (Stopped why) old p new q does h = absurd h
tick_of done spare leaves fabric core Ends held quiet (Acted a) old p new q does h = absurd h
tick_of done spare leaves fabric core Ends held quiet Filling old p new q does h = absurd h
tick_of done spare leaves fabric core Ends held quiet (Waiting on) old p new q does h = absurd h
tick_of done spare leaves fabric core Ends held quiet Sleeping old p new q does h = absurd h
tick_of done spare leaves fabric core Ends held quiet Ended old p new q does h = record { core_is = ap core_of h.core; fabric = ap fabric h.ports }
tick_of done spare leaves fabric core Ends held quiet (Stopped why) old p new q does h = absurd h
tick_of done spare leaves fabric core (Stops cause) held quiet (Acted a) old p new q does h = absurd h
tick_of done spare leaves fabric core (Stops cause) held quiet Filling old p new q does h = absurd h
tick_of done spare leaves fabric core (Stops cause) held quiet (Waiting on) old p new q does h = absurd h
tick_of done spare leaves fabric core (Stops cause) held quiet Sleeping old p new q does h = absurd h
tick_of done spare leaves fabric core (Stops cause) held quiet Ended old p new q does h = absurd h
tick_of done spare leaves fabric core (Stops cause) held quiet (Stopped why) old p new q does h = record { core_is = ap core_of h.1.core; fabric = ap fabric h.1.ports }

pub tick_exact : {P : Type 0} {done : P → List Action} {spare : P → ℕ} {leaves : P → Action → P → Type 0} {shown : Shown} {answer : Tick} {old new : CoreState} {p q : P} (fabric : P → Fabric) (core : ℕ)
    → ((a : Action) → leaves p a q → fabric q ≡ entered core old.acts (entry_of_action a) (fabric p)) → Ticks done spare leaves shown answer old p new q
    → IsExactTick core (due old.view shown) (is_held old shown) old (fabric p) new (answered core old.acts answer (fabric q))
tick_exact {done = done} {spare = spare} {leaves = leaves} {shown = shown} {answer = answer} {old = old} {new = new} {p = p} {q = q} fabric core does h = tick_of done spare leaves fabric core (due old.view shown) (is_held old shown) (is_view_quiet old.view shown) answer old p new q does h.does

-- a tick makes one action at the ports at most
moves_once : {P : Type 0} (done : P → List Action) (spare : P → ℕ) (leaves : P → Action → P → Type 0) (o : Option Action) (p q : P) → Moves done spare leaves p o q → spare p ≤ spare q + 1
moves_once done spare leaves None p q h = omega (arith, ap spare h)
moves_once done spare leaves (Some a) p q h = omega (arith, h.spared)

once_of : {P : Type 0} (done : P → List Action) (spare : P → ℕ) (leaves : P → Action → P → Type 0) (d : Due) (held quiet : Bool) (answer : Tick) (old : CoreState) (p : P) (new : CoreState) (q : P) → TickOf done spare leaves d held quiet answer old p new q → spare p ≤ spare q + 1
once_of done spare leaves (Does effect) false quiet (Acted a) old p new q h = moves_once done spare leaves effect.action p q h.1.ports
once_of done spare leaves (Does effect) true quiet (Acted a) old p new q h = absurd h
once_of done spare leaves (Does effect) true quiet Filling old p new q h = omega (arith, ap spare h.ports)
once_of done spare leaves (Does effect) false quiet Filling old p new q h = absurd h
once_of done spare leaves (Does effect) true quiet (Waiting on) old p new q h = absurd h
once_of done spare leaves (Does effect) false quiet (Waiting on) old p new q h = absurd h
once_of done spare leaves (Does effect) true quiet Sleeping old p new q h = absurd h
once_of done spare leaves (Does effect) false quiet Sleeping old p new q h = absurd h
once_of done spare leaves (Does effect) true quiet Ended old p new q h = absurd h
once_of done spare leaves (Does effect) false quiet Ended old p new q h = absurd h
once_of done spare leaves (Does effect) true quiet (Stopped why) old p new q h = absurd h
once_of done spare leaves (Does effect) false quiet (Stopped why) old p new q h = absurd h
once_of done spare leaves (Waits port full) true quiet (Acted a) old p new q h = absurd h
once_of done spare leaves (Waits port full) false quiet (Acted a) old p new q h = absurd h
once_of done spare leaves (Waits port full) true quiet Filling old p new q h = omega (arith, ap spare h.ports)
once_of done spare leaves (Waits port full) false quiet Filling old p new q h = absurd h
once_of done spare leaves (Waits port full) false quiet (Waiting on) old p new q h = omega (arith, ap spare h.1.ports)
once_of done spare leaves (Waits port full) true quiet (Waiting on) old p new q h = absurd h
once_of done spare leaves (Waits port full) true quiet Sleeping old p new q h = absurd h
once_of done spare leaves (Waits port full) false quiet Sleeping old p new q h = absurd h
once_of done spare leaves (Waits port full) true quiet Ended old p new q h = absurd h
once_of done spare leaves (Waits port full) false quiet Ended old p new q h = absurd h
once_of done spare leaves (Waits port full) true quiet (Stopped why) old p new q h = absurd h
once_of done spare leaves (Waits port full) false quiet (Stopped why) old p new q h = absurd h
once_of done spare leaves Sleeps held true (Acted a) old p new q h = absurd h
once_of done spare leaves Sleeps held false (Acted a) old p new q h = absurd h
once_of done spare leaves Sleeps held true Filling old p new q h = absurd h
once_of done spare leaves Sleeps held false Filling old p new q h = absurd h
once_of done spare leaves Sleeps held true (Waiting on) old p new q h = absurd h
once_of done spare leaves Sleeps held false (Waiting on) old p new q h = absurd h
once_of done spare leaves Sleeps held true Sleeping old p new q h = absurd h
once_of done spare leaves Sleeps held false Sleeping old p new q h = omega (arith, ap spare h.ports)
once_of done spare leaves Sleeps held true Ended old p new q h = omega (arith, ap spare h.ports)
once_of done spare leaves Sleeps held false Ended old p new q h = absurd h
once_of done spare leaves Sleeps held true (Stopped why) old p new q h = absurd h
once_of done spare leaves Sleeps held false (Stopped why) old p new q h = absurd h
once_of done spare leaves Ends held quiet (Acted a) old p new q h = absurd h
once_of done spare leaves Ends held quiet Filling old p new q h = absurd h
once_of done spare leaves Ends held quiet (Waiting on) old p new q h = absurd h
once_of done spare leaves Ends held quiet Sleeping old p new q h = absurd h
once_of done spare leaves Ends held quiet Ended old p new q h = omega (arith, ap spare h.ports)
once_of done spare leaves Ends held quiet (Stopped why) old p new q h = absurd h
once_of done spare leaves (Stops cause) held quiet (Acted a) old p new q h = absurd h
once_of done spare leaves (Stops cause) held quiet Filling old p new q h = absurd h
once_of done spare leaves (Stops cause) held quiet (Waiting on) old p new q h = absurd h
once_of done spare leaves (Stops cause) held quiet Sleeping old p new q h = absurd h
once_of done spare leaves (Stops cause) held quiet Ended old p new q h = absurd h
once_of done spare leaves (Stops cause) held quiet (Stopped why) old p new q h = omega (arith, ap spare h.1.ports)

pub tick_once : {P : Type 0} {done : P → List Action} {spare : P → ℕ} {leaves : P → Action → P → Type 0} {shown : Shown} {answer : Tick} {old new : CoreState} {p q : P} → Ticks done spare leaves shown answer old p new q → spare p ≤ spare q + 1
tick_once {done = done} {spare = spare} {leaves = leaves} {shown = shown} {answer = answer} {old = old} {new = new} {p = p} {q = q} h = once_of done spare leaves (due old.view shown) (is_held old shown) (is_view_quiet old.view shown) answer old p new q h.does

-- what no action of a core changes, a tick doesn't
moves_keep : {P X : Type 0} (done : P → List Action) (spare : P → ℕ) (leaves : P → Action → P → Type 0) (part : P → X) (o : Option Action) (p q : P) → ((a : Action) → leaves p a q → part q ≡ part p) → Moves done spare leaves p o q → part q ≡ part p
moves_keep done spare leaves part None p q does h = ap part h
moves_keep done spare leaves part (Some a) p q does h = does a h.left

kept_of : {P X : Type 0} (done : P → List Action) (spare : P → ℕ) (leaves : P → Action → P → Type 0) (part : P → X) (d : Due) (held quiet : Bool) (answer : Tick) (old : CoreState) (p : P) (new : CoreState) (q : P) → ((a : Action) → leaves p a q → part q ≡ part p) → TickOf done spare leaves d held quiet answer old p new q → part q ≡ part p
kept_of done spare leaves part (Does effect) false quiet (Acted a) old p new q does h = moves_keep done spare leaves part effect.action p q does h.1.ports
kept_of done spare leaves part (Does effect) true quiet (Acted a) old p new q does h = absurd h
kept_of done spare leaves part (Does effect) true quiet Filling old p new q does h = ap part h.ports
kept_of done spare leaves part (Does effect) false quiet Filling old p new q does h = absurd h
kept_of done spare leaves part (Does effect) true quiet (Waiting on) old p new q does h = absurd h
kept_of done spare leaves part (Does effect) false quiet (Waiting on) old p new q does h = absurd h
kept_of done spare leaves part (Does effect) true quiet Sleeping old p new q does h = absurd h
kept_of done spare leaves part (Does effect) false quiet Sleeping old p new q does h = absurd h
kept_of done spare leaves part (Does effect) true quiet Ended old p new q does h = absurd h
kept_of done spare leaves part (Does effect) false quiet Ended old p new q does h = absurd h
kept_of done spare leaves part (Does effect) true quiet (Stopped why) old p new q does h = absurd h
kept_of done spare leaves part (Does effect) false quiet (Stopped why) old p new q does h = absurd h
kept_of done spare leaves part (Waits port full) true quiet (Acted a) old p new q does h = absurd h
kept_of done spare leaves part (Waits port full) false quiet (Acted a) old p new q does h = absurd h
kept_of done spare leaves part (Waits port full) true quiet Filling old p new q does h = ap part h.ports
kept_of done spare leaves part (Waits port full) false quiet Filling old p new q does h = absurd h
kept_of done spare leaves part (Waits port full) false quiet (Waiting on) old p new q does h = ap part h.1.ports
kept_of done spare leaves part (Waits port full) true quiet (Waiting on) old p new q does h = absurd h
kept_of done spare leaves part (Waits port full) true quiet Sleeping old p new q does h = absurd h
kept_of done spare leaves part (Waits port full) false quiet Sleeping old p new q does h = absurd h
kept_of done spare leaves part (Waits port full) true quiet Ended old p new q does h = absurd h
kept_of done spare leaves part (Waits port full) false quiet Ended old p new q does h = absurd h
kept_of done spare leaves part (Waits port full) true quiet (Stopped why) old p new q does h = absurd h
kept_of done spare leaves part (Waits port full) false quiet (Stopped why) old p new q does h = absurd h
kept_of done spare leaves part Sleeps held true (Acted a) old p new q does h = absurd h
kept_of done spare leaves part Sleeps held false (Acted a) old p new q does h = absurd h
kept_of done spare leaves part Sleeps held true Filling old p new q does h = absurd h
kept_of done spare leaves part Sleeps held false Filling old p new q does h = absurd h
kept_of done spare leaves part Sleeps held true (Waiting on) old p new q does h = absurd h
kept_of done spare leaves part Sleeps held false (Waiting on) old p new q does h = absurd h
kept_of done spare leaves part Sleeps held true Sleeping old p new q does h = absurd h
kept_of done spare leaves part Sleeps held false Sleeping old p new q does h = ap part h.ports
kept_of done spare leaves part Sleeps held true Ended old p new q does h = ap part h.ports
kept_of done spare leaves part Sleeps held false Ended old p new q does h = absurd h
kept_of done spare leaves part Sleeps held true (Stopped why) old p new q does h = absurd h
kept_of done spare leaves part Sleeps held false (Stopped why) old p new q does h = absurd h
kept_of done spare leaves part Ends held quiet (Acted a) old p new q does h = absurd h
kept_of done spare leaves part Ends held quiet Filling old p new q does h = absurd h
kept_of done spare leaves part Ends held quiet (Waiting on) old p new q does h = absurd h
kept_of done spare leaves part Ends held quiet Sleeping old p new q does h = absurd h
kept_of done spare leaves part Ends held quiet Ended old p new q does h = ap part h.ports
kept_of done spare leaves part Ends held quiet (Stopped why) old p new q does h = absurd h
kept_of done spare leaves part (Stops cause) held quiet (Acted a) old p new q does h = absurd h
kept_of done spare leaves part (Stops cause) held quiet Filling old p new q does h = absurd h
kept_of done spare leaves part (Stops cause) held quiet (Waiting on) old p new q does h = absurd h
kept_of done spare leaves part (Stops cause) held quiet Sleeping old p new q does h = absurd h
kept_of done spare leaves part (Stops cause) held quiet Ended old p new q does h = absurd h
kept_of done spare leaves part (Stops cause) held quiet (Stopped why) old p new q does h = ap part h.1.ports

pub tick_keeps : {P X : Type 0} {done : P → List Action} {spare : P → ℕ} {leaves : P → Action → P → Type 0} {shown : Shown} {answer : Tick} {old new : CoreState} {p q : P} (part : P → X) → ((a : Action) → leaves p a q → part q ≡ part p) → Ticks done spare leaves shown answer old p new q → part q ≡ part p
tick_keeps {done = done} {spare = spare} {leaves = leaves} {shown = shown} {answer = answer} {old = old} {new = new} {p = p} {q = q} part does h = kept_of done spare leaves part (due old.view shown) (is_held old shown) (is_view_quiet old.view shown) answer old p new q does h.does

-- no answer changes the lines
pub answered_lines : (core act : ℕ) (answer : Tick) (f : Fabric) → (answered core act answer f).lines ≡ f.lines
answered_lines core act (Acted a) f = some_lines core act (entry_of_act a) f (act_line a)
answered_lines core act Filling f = refl
answered_lines core act (Waiting on) f = waited_by core act on f (is_logged core act f.journal)
answered_lines core act Sleeping f = refl
answered_lines core act Ended f = refl
answered_lines core act (Stopped why) f = refl

-- the answer of a tick says what was due, and whether it was done
answer_of : {P : Type 0} (done : P → List Action) (spare : P → ℕ) (leaves : P → Action → P → Type 0) (d : Due) (held quiet : Bool) (answer : Tick) (old : CoreState) (p : P) (new : CoreState) (q : P) → TickOf done spare leaves d held quiet answer old p new q → AnswerOf d held quiet answer
answer_of done spare leaves (Does effect) false quiet (Acted a) old p new q h = h.0
answer_of done spare leaves (Does effect) true quiet (Acted a) old p new q h = absurd h
answer_of done spare leaves (Does effect) true quiet Filling old p new q h = tt
answer_of done spare leaves (Does effect) false quiet Filling old p new q h = absurd h
answer_of done spare leaves (Does effect) true quiet (Waiting on) old p new q h = absurd h
answer_of done spare leaves (Does effect) false quiet (Waiting on) old p new q h = absurd h
answer_of done spare leaves (Does effect) true quiet Sleeping old p new q h = absurd h
answer_of done spare leaves (Does effect) false quiet Sleeping old p new q h = absurd h
answer_of done spare leaves (Does effect) true quiet Ended old p new q h = absurd h
answer_of done spare leaves (Does effect) false quiet Ended old p new q h = absurd h
answer_of done spare leaves (Does effect) true quiet (Stopped why) old p new q h = absurd h
answer_of done spare leaves (Does effect) false quiet (Stopped why) old p new q h = absurd h
answer_of done spare leaves (Waits port full) true quiet (Acted a) old p new q h = absurd h
answer_of done spare leaves (Waits port full) false quiet (Acted a) old p new q h = absurd h
answer_of done spare leaves (Waits port full) true quiet Filling old p new q h = tt
answer_of done spare leaves (Waits port full) false quiet Filling old p new q h = absurd h
answer_of done spare leaves (Waits port full) false quiet (Waiting on) old p new q h = h.0
answer_of done spare leaves (Waits port full) true quiet (Waiting on) old p new q h = absurd h
answer_of done spare leaves (Waits port full) true quiet Sleeping old p new q h = absurd h
answer_of done spare leaves (Waits port full) false quiet Sleeping old p new q h = absurd h
answer_of done spare leaves (Waits port full) true quiet Ended old p new q h = absurd h
answer_of done spare leaves (Waits port full) false quiet Ended old p new q h = absurd h
answer_of done spare leaves (Waits port full) true quiet (Stopped why) old p new q h = absurd h
answer_of done spare leaves (Waits port full) false quiet (Stopped why) old p new q h = absurd h
answer_of done spare leaves Sleeps held true (Acted a) old p new q h = absurd h
answer_of done spare leaves Sleeps held true Filling old p new q h = absurd h
answer_of done spare leaves Sleeps held true (Waiting on) old p new q h = absurd h
answer_of done spare leaves Sleeps held true Sleeping old p new q h = absurd h
answer_of done spare leaves Sleeps held true Ended old p new q h = tt
answer_of done spare leaves Sleeps held true (Stopped why) old p new q h = absurd h
answer_of done spare leaves Sleeps held false (Acted a) old p new q h = absurd h
answer_of done spare leaves Sleeps held false Filling old p new q h = absurd h
answer_of done spare leaves Sleeps held false (Waiting on) old p new q h = absurd h
answer_of done spare leaves Sleeps held false Sleeping old p new q h = tt
answer_of done spare leaves Sleeps held false Ended old p new q h = absurd h
answer_of done spare leaves Sleeps held false (Stopped why) old p new q h = absurd h
answer_of done spare leaves Ends held quiet (Acted a) old p new q h = absurd h
answer_of done spare leaves Ends held quiet Filling old p new q h = absurd h
answer_of done spare leaves Ends held quiet (Waiting on) old p new q h = absurd h
answer_of done spare leaves Ends held quiet Sleeping old p new q h = absurd h
answer_of done spare leaves Ends held quiet Ended old p new q h = tt
answer_of done spare leaves Ends held quiet (Stopped why) old p new q h = absurd h
answer_of done spare leaves (Stops cause) held quiet (Acted a) old p new q h = absurd h
answer_of done spare leaves (Stops cause) held quiet Filling old p new q h = absurd h
answer_of done spare leaves (Stops cause) held quiet (Waiting on) old p new q h = absurd h
answer_of done spare leaves (Stops cause) held quiet Sleeping old p new q h = absurd h
answer_of done spare leaves (Stops cause) held quiet Ended old p new q h = absurd h
answer_of done spare leaves (Stops cause) held quiet (Stopped why) old p new q h = h.0

pub tick_says : {P : Type 0} {done : P → List Action} {spare : P → ℕ} {leaves : P → Action → P → Type 0} {shown : Shown} {answer : Tick} {old new : CoreState} {p q : P} → Ticks done spare leaves shown answer old p new q → AnswerOf (due old.view shown) (is_held old shown) (is_view_quiet old.view shown) answer
tick_says {done = done} {spare = spare} {leaves = leaves} {shown = shown} {answer = answer} {old = old} {new = new} {p = p} {q = q} h = answer_of done spare leaves (due old.view shown) (is_held old shown) (is_view_quiet old.view shown) answer old p new q h.does

-- so a world whose core does it makes the exact step
pub stepped : (x : ExactWorld) (core : ℕ) (was is : ExactCore) (later : Fabric) {cores : List ExactCore} → slice_get x.cores core ≡ Some was → is ≡ core_after (due was.view (shown x.fabric core)) (is_held_at was (shown x.fabric core)) was
    → later ≡ fabric_after core was.acts (due was.view (shown x.fabric core)) (is_held_at was (shown x.fabric core)) x.fabric → cores ≡ slice_set x.cores core is → record { schedule = x.schedule; cores = cores; fabric = later } ≡ exact_step x (TickOfCore core)
stepped x core was is later at e f c =
    (λ i. record { schedule = x.schedule; cores = (c ∙ ap (slice_set x.cores core) e) i; fabric = f i }) ∙ ap (λ o. ticked core o x) (sym at)

-- what is done at once
early_of : (core : ℕ) (d : Due) (old new : CoreState) (f : Fabric) → AloneOf d true old new → IsExactTick core d true old f new f
early_of core (Does effect) old new f h = record { core_is = ap core_of h.1; fabric = refl }
early_of core (Waits port full) old new f h = absurd h
early_of core Sleeps old new f h = absurd h
early_of core Ends old new f h = absurd h
early_of core (Stops cause) old new f h = absurd h

due_of : (core : ℕ) (d : Due) (old new : CoreState) (f : Fabric) → AloneOf d false old new → IsExactTick core d false old f new f
due_of core (Does effect) old new f h = record {
  core_is = ap core_of h.3;
  fabric = sym (ap (λ (a : Act). entered_some core old.acts (entry_of_act a) (entered_some core old.acts (entries_of_action effect.action) f)) h.1
      ∙ ap (λ (o : Option Action). entered_some core old.acts (entries_of_action o) f) h.0);
}
due_of core (Waits port full) old new f h = absurd h
due_of core Sleeps old new f h = absurd h
due_of core Ends old new f h = absurd h
due_of core (Stops cause) old new f h = absurd h

alone_of : (core : ℕ) (d : Due) (held early : Bool) (old new : CoreState) (f : Fabric) → held ≡ early → AloneOf d early old new → IsExactTick core d held old f new f
alone_of core d held true old new f e h = subst (λ held. IsExactTick core d held old f new f) (sym e) (early_of core d old new f h)
alone_of core d held false old new f e h = subst (λ held. IsExactTick core d held old f new f) (sym e) (due_of core d old new f h)

pub ticks_alone : (core : ℕ) (shown : Shown) (f : Fabric) (old new : CoreState) → TicksAlone old new → is_offered shown ≡ false → IsExactTick core (due old.view shown) (is_held old shown) old f new f
ticks_alone core shown f old new h calm =
    let none = ap (λ (t : Option _). is_none t && is_early old) (nothing_taken (here_of old.view) (bare old.view.arch) shown calm) in
    alone_of core (due old.view shown) (is_held old shown) (is_early old) old new f none (h.does shown calm)

-- and the core is busy there

not_idle : (v : View) (s : Shown) (o : Option Idle) → IsAnnounced s → idle_due (due v s) ≡ None → idle_view v s ≡ o → o ≡ None
not_idle v s None h n e = refl
not_idle v s (Some why) h n e = let z : Some why ≡ None = sym (idle_lasts v s why h e) ∙ n in cc

alone_busy : (d : Due) (early : Bool) (old new : CoreState) → AloneOf d early old new → idle_due d ≡ None
alone_busy (Does effect) early old new h = refl
alone_busy (Waits port full) early old new h = absurd h
alone_busy Sleeps early old new h = absurd h
alone_busy Ends early old new h = absurd h
alone_busy (Stops cause) early old new h = absurd h

pub busy_alone : {old new : CoreState} (core : ℕ) (f : Fabric) → TicksAlone old new → is_offered (shown f core) ≡ false → idle_view old.view (shown f core) ≡ None
busy_alone {old = old} {new = new} core f h calm = not_idle old.view (shown f core) (idle_view old.view (shown f core)) (announced f core) (alone_busy (due old.view (shown f core)) (is_early old) old new (h.does (shown f core) calm)) refl
