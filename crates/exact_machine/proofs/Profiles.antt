-- The counts of a profile add up to the ticks of the core.
use Rattle.std.proofs.Common.{◌≡◌, ℕ, zero, suc, ◌+◌, ◌<◌, ◌==◌, nat_lt, Bool, true, false, if◌then◌else◌, List, [], ◌∷◌, Option, Some, None, refl, ap, sym, ◌∙◌, subst, arith, slice_get, length, max}
use Rattle.std.specs.Prelude.{is_some}
use Rattle.std.proofs.lemmas.Option.{same_Some, slice_get_within}
use Rattle.isa_step.specs.Effects.{View, Due, Does, Waits, Sleeps, Ends, Stops}
use Rattle.isa_step.specs.Due.{due, here_of}
use Rattle.isa_step.specs.Shown.{Shown}
use Rattle.core_regs.specs.State.{bare}
use Rattle.isa_step.specs.Resting.{is_quiet}
use Rattle.board_file.specs.declared.board.BoardFile.{BoardFile}
use Rattle.board_file.specs.declared.board.CoreRow.{CoreRow}
use Rattle.timing_law.specs.Past.{due_at, operands_at}
use Rattle.timing_law.specs.Passing.{instr_of}
use Rattle.timing_law.specs.Table.{extra_for}
use Rattle.board_machine.specs.declared.events.Event.{Event}
use Rattle.board_machine.specs.declared.events.Event.TheVariants.{Devices, Host, Tick, Next}
use Rattle.board_machine.specs.Fabric.{shown}
use Rattle.board_machine.specs.World.{Inputs}
use Rattle.board_machine.proofs.Lists.{and_right, slice_get_in, slice_get_set_other, slice_get_set_same}
use Rattle.exact_machine.specs.Machine.{ExactCore, ExactWorld, core_after, exact_step, exact_steps, is_held_at, ticked}
use Rattle.exact_machine.specs.Profile.{Acting, Dividing, Holding, Profile, Reading, Resting, Sleeping, Spent, Starting, Turning, Waiting, counted, counted_at, first_reason, nothing, profile_step, profile_steps, reason, spent, spent_by, total}
use Rattle.exact_machine.specs.Runs.{exact_start, fresh_core, fresh_cores}
use Rattle.exact_machine.specs.Laws.{ProfilesAddUp}
use Rattle.exact_machine.proofs.Opening.{step_cores}

-- a tick counts once

one_more : (t : Spent) (p : Profile) → total (counted t p) ≡ total p + 1
one_more Acting p = omega arith
one_more Starting p = omega arith
one_more Holding p = omega arith
one_more Reading p = omega arith
one_more Turning p = omega arith
one_more Dividing p = omega arith
one_more Waiting p = omega arith
one_more Sleeping p = omega arith
one_more Resting p = omega arith

tick_more : (d : Due) (held : Bool) (s : ExactCore) → (core_after d held s).ticks ≡ s.ticks + 1
tick_more (Does effect) false s = refl
tick_more (Does effect) true s = refl
tick_more (Waits port full) held s = refl
tick_more Sleeps held s = refl
tick_more Ends held s = refl
tick_more (Stops cause) held s = refl

-- and an act as an act
held_no_act : (a b c d : Bool) (p : Profile) → (counted (first_reason a b c d) p).acted ≡ p.acted
held_no_act true b c d p = refl
held_no_act false true c d p = refl
held_no_act false false true d p = refl
held_no_act false false false true p = refl
held_no_act false false false false p = refl

act_by : (d : Due) (held quiet : Bool) (why : Spent) (s : ExactCore) (p : Profile) → (counted why p).acted ≡ p.acted → (counted (spent_by d held quiet why) p).acted + s.acts ≡ p.acted + (core_after d held s).acts
act_by (Does effect) false quiet why s p e = omega arith
act_by (Does effect) true quiet why s p e = ap (λ n. n + s.acts) e
act_by (Waits port full) false quiet why s p e = refl
act_by (Waits port full) true quiet why s p e = ap (λ n. n + s.acts) e
act_by Sleeps held false why s p e = refl
act_by Sleeps held true why s p e = refl
act_by Ends held quiet why s p e = refl
act_by (Stops cause) held quiet why s p e = refl

-- what an event leaves of a core and its profile
record Adds (core : ℕ) (s : ExactCore) (p : Profile) (new : ExactWorld) (q : Profile) : Type 0 where
  is : ExactCore
  there : slice_get new.cores core ≡ Some is
  ticks : total q + s.ticks ≡ total p + is.ticks
  acts : q.acted + s.acts ≡ p.acted + is.acts

stays : (core : ℕ) (s : ExactCore) (p : Profile) (new : ExactWorld) → slice_get new.cores core ≡ Some s → Adds core s p new p
stays core s p new q = record { is = s; there = q; ticks = refl; acts = refl }

own_tick : (x : ExactWorld) (core : ℕ) (s : ExactCore) (p : Profile) → slice_get x.cores core ≡ Some s → Adds core s p (ticked core (Some s) x) (counted_at x core (Some s) p)
own_tick x core s p q =
    let d = due s.view (shown x.fabric core) in
    let held = is_held_at s (shown x.fabric core) in
    let one = one_more (spent s (shown x.fabric core)) p in
    let tick = tick_more d held s in
    record {
      is = core_after d held s;
      there = slice_get_set_same x.cores core s (core_after d held s) q;
      ticks = omega (arith, one, tick);
      acts = act_by d held (is_quiet (bare s.view.arch) (here_of s.view) (shown x.fabric core)) (reason s) s p (held_no_act _ _ _ _ p);
    }

pub other_tick : (x : ExactWorld) (other core : ℕ) (o : Option ExactCore) → (core ≡ other → ⊥) → slice_get (ticked other o x).cores core ≡ slice_get x.cores core
other_tick x other core None ne = refl
other_tick x other core (Some s) ne = slice_get_set_other x.cores core other _ ne

tick_adds : (x : ExactWorld) (other core : ℕ) (s : ExactCore) (p : Profile) (t : Bool) → (other == core) ≡ t → slice_get x.cores core ≡ Some s
    → Adds core s p (ticked other (slice_get x.cores other) x) (if t then counted_at x core (slice_get x.cores core) p else p)
tick_adds x other core s p true e q =
    let same : core ≡ other = grind (arith, e) in
    subst (λ k. Adds core s p (ticked k (slice_get x.cores k) x) (counted_at x core (slice_get x.cores core) p)) same
    (subst (λ o. Adds core s p (ticked core o x) (counted_at x core o p)) (sym q) (own_tick x core s p q))
tick_adds x other core s p false e q =
    stays core s p (ticked other (slice_get x.cores other) x) (other_tick x other core (slice_get x.cores other) (grind (arith, e)) ∙ q)

step_adds : (x : ExactWorld) (core : ℕ) (e : Event) (s : ExactCore) (p : Profile) → slice_get x.cores core ≡ Some s → Adds core s p (exact_step x e) (profile_step x core e p)
step_adds x core Devices s p q = stays core s p (exact_step x Devices) q
step_adds x core Host s p q = stays core s p (exact_step x Host) q
step_adds x core Next s p q = stays core s p (exact_step x Next) q
step_adds x core (Tick other) s p q = tick_adds x other core s p _ refl q

steps_add : (x : ExactWorld) (core : ℕ) (es : List Event) (s : ExactCore) (p : Profile) → slice_get x.cores core ≡ Some s → Adds core s p (exact_steps x es) (profile_steps x core es p)
steps_add x core [] s p q = stays core s p x q
steps_add x core (e ∷ es) s p q =
    let a = step_adds x core e s p q in
    let b = steps_add (exact_step x e) core es a.is (profile_step x core e p) a.there in
    record { is = b.is; there = b.there; ticks = omega (arith, a.ticks, b.ticks); acts = omega (arith, a.acts, b.acts) }

-- a core that is there was there before, and was new at the beginning

steps_count : (x : ExactWorld) (es : List Event) → length (exact_steps x es).cores ≡ length x.cores
steps_count x [] = refl
steps_count x (e ∷ es) = steps_count (exact_step x e) es ∙ step_cores x e

pub was_there : (x : ExactWorld) (es : List Event) (core : ℕ) (s : ExactCore) → slice_get (exact_steps x es).cores core ≡ Some s → (was : ExactCore) × (slice_get x.cores core ≡ Some was)
was_there x es core s q =
    let within : core < length (exact_steps x es).cores = slice_get_within (exact_steps x es).cores core s q in
    slice_get_in x.cores core (omega (arith, within, steps_count x es))

new_by : (rows : List CoreRow) (views : List View) (core : ℕ) (s : ExactCore) → slice_get (fresh_cores rows views) core ≡ Some s → (s.acts ≡ 0) × (s.ticks ≡ 0)
new_by [] views core s q = cc
new_by (row ∷ rows) [] core s q = cc
new_by (row ∷ rows) (view ∷ views) zero s q = (ap (λ (s : ExactCore). s.acts) (sym (same_Some (fresh_core row view) s q)), ap (λ (s : ExactCore). s.ticks) (sym (same_Some (fresh_core row view) s q)))
new_by (row ∷ rows) (view ∷ views) (suc core) s q = new_by rows views core s q

adds_up : (b : BoardFile) (views : List View) (inputs : Inputs) (room : ℕ) (events : List Event) (core : ℕ) (s : ExactCore) → slice_get (exact_steps (exact_start b views inputs room) events).cores core ≡ Some s
    → (total (profile_steps (exact_start b views inputs room) core events nothing) ≡ s.ticks) × ((profile_steps (exact_start b views inputs room) core events nothing).acted ≡ s.acts)
adds_up b views inputs room events core s q =
    let x = exact_start b views inputs room in
    let was = was_there x events core s q in
    let new = new_by b.cores views core was.0 was.1 in
    let a = steps_add x core events was.0 nothing was.1 in
    let same : a.is ≡ s = same_Some a.is s (sym a.there ∙ q) in
    (omega (arith, new.1, a.ticks, ap (λ (s : ExactCore). s.ticks) same), omega (arith, new.0, a.acts, ap (λ (s : ExactCore). s.acts) same))

-- what is held back for no other reason is a divide

record NoReason (a b c d : Bool) : Type 0 where
  first : a ≡ false
  next : b ≡ false
  operand : c ≡ false
  redirect : d ≡ false

no_reason : (a b c d : Bool) → first_reason a b c d ≡ Dividing → NoReason a b c d
no_reason true b c d e = cc
no_reason false true c d e = cc
no_reason false false true d e = cc
no_reason false false false true e = cc
no_reason false false false false e = record { first = refl; next = refl; operand = refl; redirect = refl }

extra_by : (t first redirect next operand extra : ℕ) → NoReason (nat_lt t first) (nat_lt t next) (nat_lt t operand) (nat_lt t redirect) → nat_lt t (max (max (max first redirect) next) operand + extra) ≡ true → 0 < extra
extra_by t first redirect next operand extra n early = grind (arith, n.first, n.next, n.operand, n.redirect, early)

divides : (s : ExactCore) (shown : Shown) → is_held_at s shown ≡ true → reason s ≡ Dividing → 0 < extra_for s.past.pipe (instr_of (here_of s.view))
unfolding due_at
divides s shown held why =
    let i = instr_of (here_of s.view) in
    let redirect = if is_some s.view.arch.slot then 0 else s.past.redirect in
    extra_by s.ticks s.past.first redirect s.past.next (operands_at i s.past.ready) (extra_for s.past.pipe i) (no_reason _ _ _ _ why) (and_right _ _ held)

pub profiles_add_up : ProfilesAddUp
profiles_add_up = record { ticks = adds_up; divides = divides }
