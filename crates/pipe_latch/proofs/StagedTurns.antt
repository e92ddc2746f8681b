-- The ticks of a core with results in flight.
use Rattle.std.proofs.Common.{ℕ, ◌≡◌, ◌<◌, ◌+◌, ◌-◌, ◌==◌, ◌&&◌, ◌++◌, Bool, true, false, List, Option, Some, None, refl, sym, ap, ◌∙◌, subst, arith}
use Rattle.std.specs.Prelude.{is_none, is_some, if◌then◌else◌}
use Rattle.core_regs.specs.declared.registers.Arch.{Arch}
use Rattle.core_regs.specs.State.{bare, written}
use Rattle.isa_step.specs.declared.acts.Act.{Act}
use Rattle.isa_step.specs.declared.acts.Act.TheVariants as acts
use Rattle.isa_step.specs.declared.acts.Action.{Action}
use Rattle.isa_step.specs.declared.acts.Done.{Done}
use Rattle.isa_step.specs.declared.acts.Here.{Here}
use Rattle.isa_step.specs.declared.acts.Idle.{Idle}
use Rattle.isa_step.specs.declared.acts.Outcome.TheVariants.{Did, Idle as Rests}
use Rattle.mb_decode.specs.declared.instruction.Instr.{Instr}
use Rattle.isa_step.specs.Shown.{Shown}
use Rattle.isa_step.specs.Effects.{Effect, Due, Does, Waits, Sleeps, Ends, Stops, after, after_store}
use Rattle.isa_step.specs.Due.{due, here_at, take_due}
use Rattle.isa_step.specs.Resting.{is_quiet}
use Rattle.isa_step.specs.Performing.{Performed, PerformedBy}
use Rattle.timing_law.specs.declared.pipe.Jump.{Jump}
use Rattle.timing_law.specs.declared.past.Past.{Past}
use Rattle.timing_law.specs.Table.{depth_of}
use Rattle.timing_law.specs.Passing.{instr_of, jump_of, passed_by, past_after, retired_here}
use Rattle.core_iface.specs.declared.Flight.{Flight}
use Rattle.core_iface.specs.declared.Tick.{Tick}
use Rattle.core_iface.specs.declared.Tick.TheVariants as tick
use Rattle.core_iface.specs.Flights.{begun, flights_aged, file_aged}
use Rattle.core_iface.specs.Cores.{CoreState, is_early, is_held}
use Rattle.core_iface.specs.Ticks as ticks
use Rattle.core_iface.proofs.Pending.{pending}
use Rattle.core_iface.proofs.Turns.{did_turn, fill_turn, rest_answer, rest_turn, rests_keep}
use Rattle.pipe_latch.specs.Clocks.{Clocked, IsSet, filled, holds, left_later, moved, set, stayed}
use Rattle.pipe_latch.specs.Staged.{staged}
use Rattle.pipe_latch.proofs.ClockLemmas.{holds_so}

-- what a tick leaves of results in flight and of the register file
pub record Ages (before later : List ℕ) (fl fs : List Flight) (d : ℕ) (t : Clocked) : Type 0 where
  pub flights : fs ≡ flights_aged d fl
  pub file : later ≡ file_aged d fl before
  pub depth : depth_of t.past.pipe ≡ d
  pub deep : (d == 0) ≡ false

-- and whether it fills: it is early for the word at pc, and something is pending
pub record Finds (a : Arch) (m : List ℕ) (shown : Shown) (here : Option Here) (t : Clocked) (fills : Bool) : Type 0 where
  pub met : here ≡ here_at (bare a) m
  pub set : IsSet t (instr_of (here_at (bare a) m)) (is_some a.slot)
  pub fills_is : fills ≡ (holds t && ticks.is_pending here (bare a) shown)

staged_moved : (a b : Arch) (m n : List ℕ) (fl fs gs : List Flight) (file later : List ℕ) (d : ℕ) (t : Clocked) (here : Option Here) (told : Done) (effect : Effect)
    → effect.done ≡ told → b ≡ record effect.arch { regs = written told.write a.regs } → n ≡ after_store a.order effect.done.store m
    → gs ≡ fs ++ begun told.write → here ≡ here_at (bare a) m → Ages file later fl fs d t
    → staged b later n gs (moved here told b.pc t) ≡ ticks.acted (staged a file m fl t) effect 63
staged_moved a b m n fl fs gs file later d t here told effect is_told arch memory begin at ages =
    let in_either : ℕ → Bool → CoreState = λ deep zero. record {
      view = after (record { arch = a; memory = m }) effect;
      acts = t.acts + 1;
      ticks = t.ticks + 1;
      slack = 63;
      file = if zero then written effect.done.write (file_aged deep fl file) else file_aged deep fl file;
      flights = if zero then flights_aged deep fl else flights_aged deep fl ++ begun effect.done.write;
      past = past_after (here_at (bare a) m) effect.done effect.arch.pc t.ticks t.past;
    } in
    let in_depth : ℕ → CoreState = λ deep. in_either deep (deep == 0) in
    let first : staged b later n gs (moved here told b.pc t) ≡ in_either d false =
    rw (begin, ages.flights, arch, memory, at, ages.file)
    (subst (λ (e : Done). staged (record effect.arch { regs = written e.write a.regs }) (file_aged d fl file) (after_store a.order effect.done.store m) (flights_aged d fl ++ begun e.write) (moved (here_at (bare a) m) e effect.arch.pc t) ≡ in_either d false) is_told refl) in
    first ∙ sym (ap (in_either d) ages.deep) ∙ sym (ap in_depth ages.depth)

pub staged_ticked : (a b : Arch) (m n : List ℕ) (fl fs : List Flight) (file later : List ℕ) (d slack wait left : ℕ) (t : Clocked) → b ≡ a → n ≡ m → Ages file later fl fs d t
    → staged b later n fs (record t { ticks = t.ticks + 1; slack = slack; wait = wait; left = left }) ≡ record (ticks.ticked (staged a file m fl t)) { slack = slack }
staged_ticked a b m n fl fs file later d slack wait left t arch memory ages =
    let in_depth : ℕ → CoreState = λ deep. record {
      view = record { arch = a; memory = m };
      acts = t.acts;
      ticks = t.ticks + 1;
      slack = slack;
      file = file_aged deep fl file;
      flights = flights_aged deep fl;
      past = t.past;
    } in
    let first : staged b later n fs (record t { ticks = t.ticks + 1; slack = slack; wait = wait; left = left }) ≡ in_depth d =
    rw (arch, memory, ages.flights, ages.file) refl in
    first ∙ sym (ap in_depth ages.depth)

turned_and : (early none may : Bool) → (early && (none && may)) ≡ ((none && early) && may)
turned_and true true may = refl
turned_and true false may = refl
turned_and false true may = refl
turned_and false false may = refl

-- whether the instruction at pc is held back is whether it is early
pub holds_early : (a : Arch) (m : List ℕ) (file : List ℕ) (fl : List Flight) (t : Clocked) → IsSet t (instr_of (here_at (bare a) m)) (is_some a.slot) → holds t ≡ is_early (staged a file m fl t)
holds_early a m file fl t set = holds_so t (instr_of (here_at (bare a) m)) (is_some a.slot) set

-- the tick fills exactly where the clause has it
fills_so : (a : Arch) (m : List ℕ) (file : List ℕ) (fl : List Flight) (shown : Shown) (here : Option Here) (t : Clocked) (fills : Bool) → Finds a m shown here t fills
    → fills ≡ (is_held (staged a file m fl t) shown && ticks.may_fill (due (record { arch = a; memory = m }) shown))
fills_so a m file fl shown here t fills finds =
    finds.fills_is
    ∙ ap (λ (h : Option Here). holds t && ticks.is_pending h (bare a) shown) finds.met
    ∙ ap (λ z. holds t && z) (pending (here_at (bare a) m) _ (bare a) m shown)
    ∙ turned_and (holds t) _ _
    ∙ ap (λ z. (is_none (take_due (here_at (bare a) m) (bare a) shown) && z) && ticks.may_fill (due (record { arch = a; memory = m }) shown)) (holds_early a m file fl t finds.set)

pub staged_acts : {P : Type 0} (done : P → List Action) (spare : P → ℕ) (leaves : P → Action → P → Type 0) (shown : Shown) (here : Option Here) (fills : Bool) (told : Done) (a b c : Arch) (m n : List ℕ)
    (fl fs gs : List Flight) (file later : List ℕ) (d : ℕ) (i : Option Instr) (in_slot : Bool) (t u v : Clocked) (p q : P)
    → Performed done spare leaves (due (record { arch = a; memory = m }) shown) (Did told) a m p b n q
    → c ≡ record b { regs = written told.write b.regs }
    → Ages file later fl fs d t → Finds a m shown here t fills → fills ≡ false → gs ≡ fs ++ begun told.write
    → u ≡ moved here told c.pc t → v ≡ set i in_slot u
    → ticks.Ticks done spare leaves shown (tick.Acted told.act) (staged a file m fl t) p (staged c later n gs v) q
staged_acts done spare leaves shown here fills told a b c m n fl fs gs file later d i in_slot t u v p q h back ages finds goes begin acts_so set_so =
    subst (λ (w : Clocked). ticks.Ticks done spare leaves shown (tick.Acted told.act) (staged a file m fl t) p (staged c later n gs w) q) (sym set_so)
    (subst (λ (w : Clocked). ticks.Ticks done spare leaves shown (tick.Acted told.act) (staged a file m fl t) p (staged c later n gs (set i in_slot w)) q) (sym acts_so)
    (record {
      does = did_turn done spare leaves _ _ _ told a b m n p q _ _ h.does (record {
        below = omega arith;
        core = λ effect is_told arch memory.
            staged_moved a c m n fl fs gs file later d t here told effect is_told (back ∙ ap (λ (x : Arch). record x { regs = written told.write x.regs }) arch) memory begin finds.met ages;
      }) (sym (fills_so a m file fl shown here t fills finds) ∙ goes);
    }))

pub staged_rests : {P : Type 0} (done : P → List Action) (spare : P → ℕ) (leaves : P → Action → P → Type 0) (shows : P → Shown) (here : Option Here) (fills : Bool) (why : Idle) (answer : Tick) (a b : Arch) (m n : List ℕ)
    (fl fs : List Flight) (file later : List ℕ) (d : ℕ) (t u : Clocked) (p q : P)
    → Performed done spare leaves (due (record { arch = a; memory = m }) (shows p)) (Rests why) a m p b n q
    → Ages file later fl fs d t → Finds a m (shows p) here t fills → fills ≡ false
    → answer ≡ ticks.rest_of why (is_quiet (bare b) here (shows q)) → u ≡ stayed t
    → ticks.Ticks done spare leaves (shows p) answer (staged a file m fl t) p (staged b later n fs u) q
staged_rests done spare leaves shows here fills why answer a b m n fl fs file later d t u p q h ages finds goes is stays =
    let answered = rest_answer shows here why answer a b m n p q (rests_keep done spare leaves _ why a b m n p q h.does) finds.met is in
    subst (λ (x : Tick). ticks.Ticks done spare leaves (shows p) x (staged a file m fl t) p (staged b later n fs u) q) (sym answered)
    (subst (λ (w : Clocked). ticks.Ticks done spare leaves (shows p) (ticks.rest_of why (is_quiet (bare a) (here_at (bare a) m) (shows p))) (staged a file m fl t) p (staged b later n fs w) q) (sym stays)
    (record {
      does = rest_turn done spare leaves _ _ _ why a b m n p q _ _ h.does (sym (fills_so a m file fl (shows p) here t fills finds) ∙ goes)
          (λ arch memory. staged_ticked a b m n fl fs file later d t.slack (t.wait - 1) (left_later t) t arch memory ages);
    }))

pub staged_fills : {P : Type 0} (done : P → List Action) (spare : P → ℕ) (leaves : P → Action → P → Type 0) (shown : Shown) (here : Option Here) (fills : Bool) (a : Arch) (m : List ℕ)
    (fl fs : List Flight) (file later : List ℕ) (d : ℕ) (t u : Clocked) (p : P)
    → Ages file later fl fs d t → Finds a m shown here t fills → fills ≡ true → u ≡ filled t → 0 < t.slack
    → ticks.Ticks done spare leaves shown tick.Filling (staged a file m fl t) p (staged a later m fs u) p
staged_fills done spare leaves shown here fills a m fl fs file later d t u p ages finds goes fill less =
    subst (λ (w : Clocked). ticks.Ticks done spare leaves shown tick.Filling (staged a file m fl t) p (staged a later m fs w) p) (sym fill)
    (record {
      does = fill_turn done spare leaves _ _ _ p p _ _ (sym (fills_so a m file fl shown here t fills finds) ∙ goes)
          (record { less = omega (arith, less); core = staged_ticked a a m m fl fs file later d (t.slack - 1) (t.wait - 1) (left_later t) t refl refl ages; ports = refl });
    })

-- what stays of a core that does nothing, of its memory at an act, and of its pipeline
pub did_stores : {P : Type 0} (done : P → List Action) (spare : P → ℕ) (leaves : P → Action → P → Type 0) (due : Due) (told : Done) (a b : Arch) (m n : List ℕ) (p q : P)
    → PerformedBy done spare leaves due (Did told) a m p b n q → n ≡ after_store a.order told.store m
did_stores done spare leaves (Does effect) told a b m n p q h = h.memory ∙ ap (λ (e : Done). after_store a.order e.store m) (sym h.told_of)
did_stores done spare leaves (Waits port full) told a b m n p q h = absurd h
did_stores done spare leaves Sleeps told a b m n p q h = absurd h
did_stores done spare leaves Ends told a b m n p q h = absurd h
did_stores done spare leaves (Stops cause) told a b m n p q h = absurd h

-- an act leaves the registers as they were before its result is written
pub did_regs : {P : Type 0} (done : P → List Action) (spare : P → ℕ) (leaves : P → Action → P → Type 0) (due : Due) (told : Done) (a b : Arch) (m n : List ℕ) (p q : P)
    → PerformedBy done spare leaves due (Did told) a m p b n q → b.regs ≡ a.regs
did_regs done spare leaves (Does effect) told a b m n p q h = ap (λ (x : Arch). x.regs) h.arch
did_regs done spare leaves (Waits port full) told a b m n p q h = absurd h
did_regs done spare leaves Sleeps told a b m n p q h = absurd h
did_regs done spare leaves Ends told a b m n p q h = absurd h
did_regs done spare leaves (Stops cause) told a b m n p q h = absurd h

pipe_retired : (i : Option Instr) (at : ℕ) (jump : Jump) (x : Past) → (retired_here i at jump x).pipe ≡ x.pipe
pipe_retired None at jump x = refl
pipe_retired (Some i) at jump x = refl

pipe_by : (act : Act) (i : Option Instr) (at : ℕ) (jump : Jump) (x : Past) → (passed_by act i at jump x).pipe ≡ x.pipe
pipe_by acts.Retired i at jump x = pipe_retired i at jump x
pipe_by acts.Slept i at jump x = pipe_retired i at jump x
pipe_by (acts.Took take) i at jump x = refl
pipe_by (acts.Raised esr) i at jump x = refl
pipe_by (acts.Stopped cause) i at jump x = refl

pub pipe_kept : (here : Option Here) (told : Done) (pc at : ℕ) (x : Past) → (past_after here told pc at x).pipe ≡ x.pipe
pipe_kept here told pc at x = pipe_by told.act (instr_of here) at (jump_of told pc) x
