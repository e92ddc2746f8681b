-- Each step of the exact machine is one of the open machine.
use Rattle.std.proofs.Common.{◌≡◌, ℕ, zero, suc, ◌+◌, ◌-◌, ◌<◌, nat_lt, ◌&&◌, Bool, true, false, List, [], ◌∷◌, length, map, Option, Some, None, refl, ap, sym, ◌∙◌, subst, inl, inr, arith, slice_get, slice_set, length-set}
use Rattle.std.specs.Prelude.{is_some}
use Rattle.std.proofs.lemmas.List.{length-map}
use Rattle.std.proofs.lemmas.Option.{same_Some}
use Rattle.std.specs.List.{AllByRecursion}
use Rattle.isa_step.specs.Effects.{Effect, Due, Does, Waits, Sleeps, Ends, Stops}
use Rattle.isa_step.specs.Due.{due, here_of}
use Rattle.timing_law.specs.Passing.{instr_of, jump_of, past_after}
use Rattle.board_machine.specs.declared.events.Event.{Event}
use Rattle.board_machine.specs.declared.events.Event.TheVariants.{Devices, Host, Tick, Next}
use Rattle.board_machine.specs.Fabric.{Fabric, shown}
use Rattle.board_machine.specs.World.{CoreAt, IsThere, Step, TickMay, World, acts_of, devices_done}
use Rattle.board_machine.proofs.Alone.{acts_alone}
use Rattle.board_machine.proofs.Lists.{and_right, slice_get_in}
use Rattle.exact_machine.specs.Machine.{ExactCore, ExactWorld, acted, core_after, exact_step, exact_steps, fabric_after, is_held_at, passed, ticked, with_slack}
use Rattle.exact_machine.specs.Opening.{AreOpen, IsOpen, IsOpenCore, due_of}
use Rattle.exact_machine.specs.Laws.{AreThere, OpenSteps}
use Rattle.exact_machine.proofs.Pasts.{due_near, later, passed_near}

-- lists of cores

pub same_length : (xs : List ExactCore) (ss : List CoreAt) → AreOpen xs ss → length ss ≡ length xs
same_length [] [] h = refl
same_length (x ∷ xs) (s ∷ ss) h = ap suc (same_length xs ss h.1)
same_length [] (s ∷ ss) h = absurd h
same_length (x ∷ xs) [] h = absurd h

pub open_at : (xs : List ExactCore) (ss : List CoreAt) (k : ℕ) (x : ExactCore) → AreOpen xs ss → slice_get xs k ≡ Some x → (s : CoreAt) × (slice_get ss k ≡ Some s) × IsOpenCore x s
open_at [] ss k x h q = cc
open_at (y ∷ xs) [] k x h q = absurd h
open_at (y ∷ xs) (s ∷ ss) zero x h q = (s, refl, subst (λ y. IsOpenCore y s) (same_Some y x q) h.0)
open_at (y ∷ xs) (s ∷ ss) (suc k) x h q = open_at xs ss k x h.1 q

open_set : (xs : List ExactCore) (ss : List CoreAt) (k : ℕ) (x : ExactCore) (s : CoreAt) → AreOpen xs ss → IsOpenCore x s → AreOpen (slice_set xs k x) (slice_set ss k s)
open_set [] [] k x s h o = tt
open_set [] (t ∷ ss) k x s h o = absurd h
open_set (y ∷ xs) [] k x s h o = absurd h
open_set (y ∷ xs) (t ∷ ss) zero x s h o = (o, h.1)
open_set (y ∷ xs) (t ∷ ss) (suc k) x s h o = (h.0, open_set xs ss k x s h.1 o)

-- what isn't told by slacks is the same of both
pub seen_same : {Y : Type 0} (see : Option CoreAt → Y) → ((s : CoreAt) (slack : ℕ) → see (Some s) ≡ see (Some (record s { slack = slack }))) → (xs : List ExactCore) (ss : List CoreAt) (k : ℕ) → AreOpen xs ss → see (slice_get ss k) ≡ see (slice_get (map (with_slack 0) xs) k)
seen_same see free [] [] k h = refl
seen_same see free [] (s ∷ ss) k h = absurd h
seen_same see free (x ∷ xs) [] k h = absurd h
seen_same see free (x ∷ xs) (s ∷ ss) zero h = ap (λ s. see (Some s)) h.0.core ∙ free (with_slack s.slack x) 0
seen_same see free (x ∷ xs) (s ∷ ss) (suc k) h = seen_same see free xs ss k h.1

-- a tick

-- the tick of an open core that stands for an exact one
record OpenTick (core : ℕ) (d : Due) (held : Bool) (x : ExactCore) (s : CoreAt) (f : Fabric) : Type 0 where
  is : CoreAt
  may : TickMay core d s f is (fabric_after core x.acts d held f)
  is_open : IsOpenCore (core_after d held x) is

act_open : (effect : Effect) (x : ExactCore) (s : CoreAt) → IsOpenCore x s → IsOpenCore (acted effect x) (with_slack 63 (acted effect x))
act_open effect x s h =
    let past = past_after (here_of x.view) effect.done effect.arch.pc x.ticks x.past in
    let near = passed_near effect.done.act (instr_of (here_of x.view)) (jump_of effect.done effect.arch.pc) x.past x.ticks (later x.past (x.ticks + 4) (x.ticks + 5) h.near (omega arith)) in
    let y = acted effect x in
    let soon = due_near past (instr_of (here_of y.view)) (is_some y.view.arch.slot) (x.ticks + 5) near in
    record {
      core = refl;
      below = omega arith;
      enough = omega (arith, soon);
      near = later past (x.ticks + 5) (x.ticks + 1 + 4) near (omega arith);
    }

fill_open : (x : ExactCore) (s : CoreAt) → x.ticks < due_of x → IsOpenCore x s → IsOpenCore (passed x) (with_slack (s.slack - 1) (passed x))
fill_open x s early h = record {
  core = refl;
  below = omega (arith, h.below);
  enough = omega (arith, h.enough, early);
  near = later x.past (x.ticks + 4) (x.ticks + 1 + 4) h.near (omega arith);
}

idle_open : (x : ExactCore) (s : CoreAt) → IsOpenCore x s → IsOpenCore (passed x) (with_slack s.slack (passed x))
idle_open x s h = record {
  core = refl;
  below = h.below;
  enough = omega (arith, h.enough);
  near = later x.past (x.ticks + 4) (x.ticks + 1 + 4) h.near (omega arith);
}

tick_at : (core : ℕ) (d : Due) (held : Bool) (x : ExactCore) (n : ℕ) (f : Fabric) → (held ≡ true → x.ticks < due_of x) → IsOpenCore x (with_slack n x) → OpenTick core d held x (with_slack n x) f
tick_at core (Does effect) false x n f early h = record {
  is = with_slack 63 (acted effect x);
  may = inl (record { slack = omega arith; state = refl; fabric = refl });
  is_open = act_open effect x (with_slack n x) h;
}
tick_at core (Does effect) true x n f early h = record {
  is = with_slack (n - 1) (passed x);
  may = inr (record { slack = (let e = early refl in omega (arith, e, h.enough)); state = refl; fabric = refl });
  is_open = fill_open x (with_slack n x) (early refl) h;
}
tick_at core (Waits port full) false x n f early h = record {
  is = with_slack n (passed x);
  may = inl (record { state = refl; fabric = refl });
  is_open = idle_open x (with_slack n x) h;
}
tick_at core (Waits port full) true x n f early h = record {
  is = with_slack (n - 1) (passed x);
  may = inr (record { slack = (let e = early refl in omega (arith, e, h.enough)); state = refl; fabric = refl });
  is_open = fill_open x (with_slack n x) (early refl) h;
}
tick_at core Sleeps held x n f early h = record { is = with_slack n (passed x); may = record { state = refl; fabric = refl }; is_open = idle_open x (with_slack n x) h }
tick_at core Ends held x n f early h = record { is = with_slack n (passed x); may = record { state = refl; fabric = refl }; is_open = idle_open x (with_slack n x) h }
tick_at core (Stops cause) held x n f early h = record { is = with_slack n (passed x); may = record { state = refl; fabric = refl }; is_open = idle_open x (with_slack n x) h }

tick_open : (core : ℕ) (d : Due) (held : Bool) (x : ExactCore) (s : CoreAt) (f : Fabric) → (held ≡ true → x.ticks < due_of x) → IsOpenCore x s → OpenTick core d held x s f
tick_open core d held x s f early h =
    subst (λ s. OpenTick core d held x s f) (sym h.core) (tick_at core d held x s.slack f early (subst (IsOpenCore x) h.core h))

early_by : (t due : ℕ) (free : Bool) → (free && nat_lt t due) ≡ true → t < due
early_by t due free e = let e = and_right free (nat_lt t due) e in grind (arith, e)

-- a step

-- the open world with these cores
abbrev pub with_cores : ExactWorld → List CoreAt → World
with_cores x ss = record { schedule = x.schedule; cores = ss; fabric = x.fabric }

pub is_with : (x : ExactWorld) (w : World) → IsOpen x w → w ≡ with_cores x w.cores
is_with x w h = λ i. record { schedule = h.schedule i; cores = w.cores; fabric = h.fabric i }

pub record OpenStep (w : World) (e : Event) (x : ExactWorld) : Type 0 where
  pub next : World
  pub step : Step w e next
  pub is_open : IsOpen x next

tick_there : (x : ExactWorld) (ss : List CoreAt) (core : ℕ) (c : ExactCore) (s : CoreAt) → AreOpen x.cores ss → slice_get ss core ≡ Some s → IsOpenCore c s
    → OpenStep (with_cores x ss) (Tick core) (ticked core (Some c) x)
tick_there x ss core c s h q o =
    let d = due c.view (shown x.fabric core) in
    let held = is_held_at c (shown x.fabric core) in
    let t = tick_open core d held c s x.fabric (λ e. early_by c.ticks (due_of c) _ e) o in
    let same : d ≡ due s.view (shown x.fabric core) = ap (λ (s : CoreAt). due s.view (shown x.fabric core)) (sym o.core) in
    let left = fabric_after core c.acts d held x.fabric in
    record {
      next = record { schedule = x.schedule; cores = slice_set ss core t.is; fabric = left };
      step = record { was = s; is = t.is; there = q; schedule = refl; cores = refl; may = subst (λ d. TickMay core d s x.fabric t.is left) same t.may };
      is_open = record { schedule = refl; cores = open_set x.cores ss core (core_after d held c) t.is h t.is_open; fabric = refl };
    }

devices_same : (xs : List ExactCore) (ss : List CoreAt) (f : Fabric) → AreOpen xs ss → devices_done ss f ≡ devices_done (map (with_slack 0) xs) f
devices_same xs ss f h =
    acts_alone ss (map (with_slack 0) xs) f (same_length xs ss h ∙ sym (length-map xs (with_slack 0))) (λ k. seen_same acts_of (λ s slack. refl) xs ss k h)

step_at : (x : ExactWorld) (ss : List CoreAt) (e : Event) → AreOpen x.cores ss → IsThere (length x.cores) e → OpenStep (with_cores x ss) e (exact_step x e)
step_at x ss Devices h l = record { next = _; step = refl; is_open = record { schedule = refl; cores = h; fabric = devices_same x.cores ss x.fabric h } }
step_at x ss Host h l = record { next = _; step = refl; is_open = record { schedule = refl; cores = h; fabric = refl } }
step_at x ss Next h l = record { next = _; step = refl; is_open = record { schedule = refl; cores = h; fabric = refl } }
step_at x ss (Tick core) h l =
    let there = slice_get_in x.cores core l in
    let at = open_at x.cores ss core there.0 h there.1 in
    subst (λ o. OpenStep (with_cores x ss) (Tick core) (ticked core o x)) (sym there.1) (tick_there x ss core there.0 at.0 h at.1 at.2)

pub step_open : (x : ExactWorld) (w : World) (e : Event) → IsOpen x w → IsThere (length x.cores) e → OpenStep w e (exact_step x e)
step_open x w e h l = subst (λ w. OpenStep w e (exact_step x e)) (sym (is_with x w h)) (step_at x w.cores e h.cores l)

-- the cores that are there stay
tick_cores : (x : ExactWorld) (core : ℕ) (o : Option ExactCore) → length (ticked core o x).cores ≡ length x.cores
tick_cores x core None = refl
tick_cores x core (Some s) = length-set x.cores core _

pub step_cores : (x : ExactWorld) (e : Event) → length (exact_step x e).cores ≡ length x.cores
step_cores x Devices = refl
step_cores x Host = refl
step_cores x Next = refl
step_cores x (Tick core) = tick_cores x core (slice_get x.cores core)

pub steps_open : (x : ExactWorld) (w : World) (es : List Event) → IsOpen x w → AreThere x es → OpenSteps w es (exact_steps x es)
steps_open x w [] h l = record { end = w; steps = refl; is_open = h }
steps_open x w (e ∷ es) h l =
    let s = step_open x w e h l.0 in
    let rest = steps_open (exact_step x e) s.next es s.is_open (subst (λ n. AllByRecursion (IsThere n) es) (sym (step_cores x e)) l.1) in
    record { end = rest.end; steps = (s.next, s.step, rest.steps); is_open = rest.is_open }
