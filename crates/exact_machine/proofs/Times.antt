-- The past of a core is that of the list of its acts.
use Rattle.std.proofs.Common.{◌≡◌, ℕ, zero, suc, ◌+◌, ◌==◌, ◌&&◌, nat_lt, Bool, true, false, if◌then◌else◌, List, [], ◌∷◌, ◌++◌, map, Option, Some, None, IfSome, refl, ap, sym, ◌∙◌, subst, arith, slice_get}
use Rattle.std.specs.Prelude.{is_none, is_some}
use Rattle.std.proofs.lemmas.List.{append-nil, append_assoc}
use Rattle.std.proofs.lemmas.Option.{same_Some}
use Rattle.mb_decode.specs.declared.instruction.Instr.{Instr}
use Rattle.mb_decode.specs.Meaning.{NamesRegisters}
use Rattle.isa_step.specs.declared.acts.Act.{Act}
use Rattle.isa_step.specs.declared.acts.Act.TheVariants as acts
use Rattle.isa_step.specs.Effects.{Due, Does, Waits, Sleeps, Ends, Stops, View}
use Rattle.core_regs.specs.State.{bare}
use Rattle.isa_step.specs.Due.{due, here_of, take_due}
use Rattle.board_file.specs.declared.board.BoardFile.{BoardFile}
use Rattle.board_file.specs.declared.board.CoreRow.{CoreRow}
use Rattle.timing_law.specs.declared.pipe.Jump.{Jump}
use Rattle.timing_law.specs.declared.past.Past.{Past}
use Rattle.timing_law.specs.DueTick.{IsRising, Timed, due_tick, moved_all}
use Rattle.timing_law.specs.Past.{due_at, fresh}
use Rattle.timing_law.specs.Passing.{instr_of, jump_of, passed_by}
use Rattle.timing_law.specs.Laws.{IsExact}
use Rattle.board_machine.specs.declared.events.Event.{Event}
use Rattle.board_machine.specs.declared.events.Event.TheVariants.{Devices, Host, Tick, Next}
use Rattle.board_machine.specs.Fabric.{shown}
use Rattle.board_machine.specs.World.{Inputs}
use Rattle.board_machine.proofs.Lists.{slice_get_set_same}
use Rattle.exact_machine.specs.Machine.{ExactCore, ExactWorld, core_after, exact_step, exact_steps, is_held_at, ticked}
use Rattle.exact_machine.specs.Opening.{due_of}
use Rattle.exact_machine.specs.Runs.{exact_start, fresh_core, fresh_cores, pipe_of}
use Rattle.exact_machine.specs.Times.{act_at, act_by, act_in, acts_in, at_tick, passed_as}
use Rattle.exact_machine.specs.Laws.{ActsAreTimed}
use Rattle.exact_machine.proofs.Names.{here_names}
use Rattle.exact_machine.proofs.Profiles.{other_tick, was_there}

-- an act moves the past as its list does

moves_as : (act : Act) (i : Option Instr) (jump : Jump) (at : ℕ) (p : Past) → passed_by act i at jump p ≡ moved_all (map (at_tick at) (passed_as act i jump)) p
moves_as acts.Retired None jump at p = refl
moves_as acts.Retired (Some i) jump at p = refl
moves_as acts.Slept None jump at p = refl
moves_as acts.Slept (Some i) jump at p = refl
moves_as (acts.Took take) i jump at p = refl
moves_as (acts.Raised esr) i jump at p = refl
moves_as (acts.Stopped cause) i jump at p = refl

tick_moves : (d : Due) (held : Bool) (s : ExactCore) → (core_after d held s).past ≡ moved_all (act_by d held s) s.past
tick_moves (Does effect) false s = moves_as effect.done.act (instr_of (here_of s.view)) (jump_of effect.done effect.arch.pc) s.ticks s.past
tick_moves (Does effect) true s = refl
tick_moves (Waits port full) held s = refl
tick_moves Sleeps held s = refl
tick_moves Ends held s = refl
tick_moves (Stops cause) held s = refl

moved_append : (first more : List Timed) (p : Past) → moved_all (first ++ more) p ≡ moved_all more (moved_all first p)
moved_append [] more p = refl
moved_append (act ∷ first) more p = moved_append first more _

-- and comes before those of later ticks

lower : (low : ℕ) (rest : List Timed) → IsRising (low + 1) rest → IsRising low rest
lower low [] h = tt
lower low (act ∷ rest) h = (omega (arith, h.0), h.1, h.2)

rises_as : (act : Act) (i : Option Instr) (jump : Jump) (at : ℕ) (rest : List Timed) → IfSome i NamesRegisters → IsRising (at + 1) rest → IsRising at (map (at_tick at) (passed_as act i jump) ++ rest)
rises_as acts.Retired None jump at rest names h = lower at rest h
rises_as acts.Retired (Some i) jump at rest names h = (omega arith, names, h)
rises_as acts.Slept None jump at rest names h = lower at rest h
rises_as acts.Slept (Some i) jump at rest names h = (omega arith, names, h)
rises_as (acts.Took take) i jump at rest names h = (omega arith, tt, h)
rises_as (acts.Raised esr) i jump at rest names h = (omega arith, tt, h)
rises_as (acts.Stopped cause) i jump at rest names h = lower at rest h

tick_rises : (d : Due) (held : Bool) (s : ExactCore) (rest : List Timed) → IsRising (core_after d held s).ticks rest → IsRising s.ticks (act_by d held s ++ rest)
tick_rises (Does effect) false s rest h = rises_as effect.done.act (instr_of (here_of s.view)) (jump_of effect.done effect.arch.pc) s.ticks rest (here_names s.view) h
tick_rises (Does effect) true s rest h = lower s.ticks rest h
tick_rises (Waits port full) held s rest h = lower s.ticks rest h
tick_rises Sleeps held s rest h = lower s.ticks rest h
tick_rises Ends held s rest h = lower s.ticks rest h
tick_rises (Stops cause) held s rest h = lower s.ticks rest h

-- what an event leaves of a core, and the acts that it adds

record Moves (core : ℕ) (s : ExactCore) (new : ExactWorld) (added : List Timed) : Type 0 where
  is : ExactCore
  there : slice_get new.cores core ≡ Some is
  past : is.past ≡ moved_all added s.past
  rises : (rest : List Timed) → IsRising is.ticks rest → IsRising s.ticks (added ++ rest)

stays : (core : ℕ) (s : ExactCore) (new : ExactWorld) → slice_get new.cores core ≡ Some s → Moves core s new []
stays core s new q = record { is = s; there = q; past = refl; rises = λ rest h. h }

own_tick : (x : ExactWorld) (core : ℕ) (s : ExactCore) → slice_get x.cores core ≡ Some s → Moves core s (ticked core (Some s) x) (act_at x core (Some s))
own_tick x core s q =
    let d = due s.view (shown x.fabric core) in
    let held = is_held_at s (shown x.fabric core) in
    record {
      is = core_after d held s;
      there = slice_get_set_same x.cores core s (core_after d held s) q;
      past = tick_moves d held s;
      rises = tick_rises d held s;
    }

tick_moved : (x : ExactWorld) (other core : ℕ) (s : ExactCore) (t : Bool) → (other == core) ≡ t → slice_get x.cores core ≡ Some s
    → Moves core s (ticked other (slice_get x.cores other) x) (if t then act_at x core (slice_get x.cores core) else [])
tick_moved x other core s true e q =
    let same : core ≡ other = grind (arith, e) in
    subst (λ k. Moves core s (ticked k (slice_get x.cores k) x) (act_at x core (slice_get x.cores core))) same
    (subst (λ o. Moves core s (ticked core o x) (act_at x core o)) (sym q) (own_tick x core s q))
tick_moved x other core s false e q =
    stays core s (ticked other (slice_get x.cores other) x) (other_tick x other core (slice_get x.cores other) (grind (arith, e)) ∙ q)

step_moves : (x : ExactWorld) (core : ℕ) (e : Event) (s : ExactCore) → slice_get x.cores core ≡ Some s → Moves core s (exact_step x e) (act_in x core e)
step_moves x core Devices s q = stays core s (exact_step x Devices) q
step_moves x core Host s q = stays core s (exact_step x Host) q
step_moves x core Next s q = stays core s (exact_step x Next) q
step_moves x core (Tick other) s q = tick_moved x other core s _ refl q

steps_move : (x : ExactWorld) (core : ℕ) (es : List Event) (s : ExactCore) → slice_get x.cores core ≡ Some s → Moves core s (exact_steps x es) (acts_in x core es)
steps_move x core [] s q = stays core s x q
steps_move x core (e ∷ es) s q =
    let a = step_moves x core e s q in
    let b = steps_move (exact_step x e) core es a.is a.there in
    let first = act_in x core e in
    let more = acts_in (exact_step x e) core es in
    record {
      is = b.is;
      there = b.there;
      past = b.past ∙ ap (moved_all more) a.past ∙ sym (moved_append first more s.past);
      rises = λ rest h. subst (IsRising s.ticks) (sym (append_assoc first more rest)) (a.rises (more ++ rest) (b.rises rest h));
    }

-- from the beginning

fresh_by : (rows : List CoreRow) (views : List View) (core : ℕ) (row : CoreRow) (s : ExactCore) → slice_get rows core ≡ Some row → slice_get (fresh_cores rows views) core ≡ Some s
    → (s.ticks ≡ 0) × (s.past ≡ fresh (pipe_of row.pipeline))
fresh_by [] views core row s r q = cc
fresh_by (first ∷ rows) [] core row s r q = cc
fresh_by (first ∷ rows) (view ∷ views) zero row s r q =
    let e : s ≡ fresh_core first view = sym (same_Some (fresh_core first view) s q) in
    (ap (λ (s : ExactCore). s.ticks) e, ap (λ (s : ExactCore). s.past) e ∙ ap (λ (r : CoreRow). fresh (pipe_of r.pipeline)) (same_Some first row r))
fresh_by (first ∷ rows) (view ∷ views) (suc core) row s r q = fresh_by rows views core row s r q

timed : IsExact → (b : BoardFile) (views : List View) (inputs : Inputs) (room : ℕ) (events : List Event) (core : ℕ) (row : CoreRow) (s : ExactCore)
    → slice_get b.cores core ≡ Some row → slice_get (exact_steps (exact_start b views inputs room) events).cores core ≡ Some s
    → due_of s ≡ due_tick (pipe_of row.pipeline) (acts_in (exact_start b views inputs room) core events) (instr_of (here_of s.view)) (is_some s.view.arch.slot)
timed exact b views inputs room events core row s r q =
    let x = exact_start b views inputs room in
    let acts = acts_in x core events in
    let i = instr_of (here_of s.view) in
    let in_slot = is_some s.view.arch.slot in
    let was = was_there x events core s q in
    let new = fresh_by b.cores views core row was.0 r was.1 in
    let m = steps_move x core events was.0 was.1 in
    let same : m.is ≡ s = same_Some m.is s (sym m.there ∙ q) in
    let past : s.past ≡ moved_all acts (fresh (pipe_of row.pipeline)) = ap (λ (s : ExactCore). s.past) (sym same) ∙ m.past ∙ ap (moved_all acts) new.1 in
    let rising : IsRising 0 acts = subst (λ n. IsRising n acts) new.0 (subst (IsRising was.0.ticks) (append-nil acts) (m.rises [] tt)) in
    ap (λ p. due_at p i in_slot) past ∙ exact.exact (pipe_of row.pipeline) acts i in_slot rising (here_names s.view)

pub acts_are_timed : IsExact → ActsAreTimed
acts_are_timed exact = record {
  timed = timed exact;
  held = λ b views inputs room events core row s shown r q.
      ap (λ n. is_none (take_due (here_of s.view) (bare s.view.arch) shown) && nat_lt s.ticks n) (timed exact b views inputs room events core row s r q);
}
