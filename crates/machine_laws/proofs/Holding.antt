-- What holds of a board's beginning, and after each step.
use Rattle.std.proofs.Common.{◌≡◌, ℕ, suc, ◌+◌, ◌≤◌, List, [], ◌∷◌, length, Option, Some, None, refl, ap, sym, ◌∙◌, subst, inl, inr, arith, slice_get, Bool, true, false, cond}
use Rattle.std.specs.Prelude.{if◌then◌else◌}
use Rattle.std.specs.List.{AllByRecursion}
use Rattle.std.proofs.lemmas.Bool.{cases_eq}
use Rattle.std.proofs.lemmas.List.{length-map}
use Rattle.std.proofs.lemmas.Option.{same_Some}
use Rattle.axi_link.specs.Channel.{empty}
use Rattle.axi_link.specs.declared.item.Item.{Item}
use Rattle.core_regs.specs.declared.causes.StopCause.{StopCause}
use Rattle.core_regs.specs.declared.causes.Take.{Take}
use Rattle.core_regs.specs.declared.causes.WaitOn.{WaitOn}
use Rattle.core_regs.specs.declared.registers.Arch.{Arch}
use Rattle.core_regs.specs.State.{bare}
use Rattle.isa_step.specs.Effects.{View, Effect, Due, Does, Waits, Sleeps, Ends, Stops, Request, Goes, HaltLoop, Gets, Puts, Reads, Writes}
use Rattle.isa_step.specs.Due.{awake, by_item, by_room, due, due_by, due_with, here_of, is_closed, reply, take_due}
use Rattle.isa_step.specs.Shown.{Shown}
use Rattle.isa_step.specs.Requests.{operands_of}
use Rattle.board_file.specs.declared.board.BoardFile.{BoardFile}
use Rattle.board_file.specs.declared.board.LinkRow.{LinkRow}
use Rattle.board_file.specs.declared.board.UartRow.{UartRow}
use Rattle.run_journal.specs.declared.entry.Entry.{Entry}
use Rattle.run_journal.specs.declared.entry.What.{What}
use Rattle.run_journal.specs.declared.entry.What.TheVariants.{Wait}
use Rattle.board_machine.specs.declared.events.Event.{Event}
use Rattle.board_machine.specs.declared.events.Event.TheVariants.{Devices, Host, Tick, Next}
use Rattle.board_machine.specs.Fabric.{Fabric, act_leaves, entered, entered_some, entries_of_action, entry_of, entry_of_act, is_logged, is_wait, logged_wait, shown, waited}
use Rattle.board_machine.specs.Bus.{DeviceRows, Devices as DeviceSet}
use Rattle.board_machine.specs.World.{CoreAt, Inputs, IsAct, IsFilling, IsIdle, Reached, Start, Step, Steps, TickMay, World, feeds_of, serials_of}
use Rattle.board_machine.proofs.Keeping.{wired}
use Rattle.board_machine.proofs.Lists.{all_append}
use Rattle.board_machine.proofs.Staying.{announced}
use Rattle.board_machine.proofs.Lasting.{step_kept}
use Rattle.board_machine.proofs.Tells.{which}
use Rattle.board_machine.proofs.Waits.{none_kept}
use Rattle.machine_laws.specs.Holding.{EachStateHolds, Holds, IsAtWait, IsWaitWithin, WaitsHold, can_wait, request_at}
use Rattle.machine_laws.specs.Stamps.{IsStamped, maker}
use Rattle.machine_laws.proofs.Lengths.{step_length}
use Rattle.machine_laws.proofs.Stamping.{AddedAll, and_more, no_more, step_stamped}
use Rattle.machine_laws.proofs.Waiting.{IsNoWait, act_no_wait, action_no_wait, acts_keep, others_keep, wait_keeps}

-- where a wait is due, the core stands at a link access that waits

item_waits : (port : ℕ) (item : Item → Effect) (empty : Option Effect) (o : Option Item) (p : ℕ) (full : Bool) → by_item port item empty o ≡ Waits p full → can_wait (Gets port item empty) ≡ true
item_waits port item None o p full e = refl
item_waits port item (Some d) (Some x) p full e = cc
item_waits port item (Some d) None p full e = cc

room_waits : (port : ℕ) (room : Effect) (missed : Option Effect) (b : Bool) (p : ℕ) (full : Bool) → by_room port room missed b ≡ Waits p full → can_wait (Puts port room missed) ≡ true
room_waits port room None b p full e = refl
room_waits port room (Some d) true p full e = cc
room_waits port room (Some d) false p full e = cc

halt_loop_waits : (d : Effect) (b : Bool) (p : ℕ) (full : Bool) → (if b then Ends else Does d) ≡ Waits p full → ⊥
halt_loop_waits d true p full e = cc
halt_loop_waits d false p full e = cc

reply_waits : (a : Arch) (w : Request) (s : Shown) (p : ℕ) (full : Bool) → reply a w s ≡ Waits p full → can_wait w ≡ true
reply_waits a (Goes d) s p full e = cc
reply_waits a (HaltLoop d) s p full e = absurd (halt_loop_waits d (is_closed a s.hopes) p full e)
reply_waits a (Gets port item empty) s p full e = item_waits port item empty (s.first port) p full e
reply_waits a (Puts port room missed) s p full e = room_waits port room missed (s.room port) p full e
reply_waits a (Reads addr answer) s p full e = cc
reply_waits a (Writes addr word answer) s p full e = cc

awake_waits : (v : View) (s : Shown) (asleep : Bool) (p : ℕ) (full : Bool) → v.arch.asleep ≡ asleep → v.arch.stopped ≡ None → awake (here_of v) (operands_of (here_of v) v.arch.regs) (bare v.arch) v.memory s asleep ≡ Waits p full → IsAtWait v
awake_waits v s true p full a c e = cc
awake_waits v s false p full a c e = record { awake = record { asleep = a; stopped = c }; waits = reply_waits (bare v.arch) (request_at v) s p full e }

by_waits : (v : View) (s : Shown) (t : Option Take) (c : Option StopCause) (p : ℕ) (full : Bool) → v.arch.stopped ≡ c → due_by (here_of v) (operands_of (here_of v) v.arch.regs) (bare v.arch) v.memory s t c ≡ Waits p full → IsAtWait v
by_waits v s t (Some cause) p full c e = cc
by_waits v s (Some t) None p full c e = cc
by_waits v s None None p full c e = awake_waits v s v.arch.asleep p full refl c e

at_wait : (v : View) (s : Shown) (p : ℕ) (full : Bool) → due v s ≡ Waits p full → IsAtWait v
unfolding due_with
at_wait v s p full e = by_waits v s (take_due (here_of v) (bare v.arch) s) v.arch.stopped p full refl e

-- the Wait entries of a core

all_later : (core acts more : ℕ) (es : List Entry) → acts ≤ more → AllByRecursion (IsWaitWithin core acts) es → AllByRecursion (IsWaitWithin core more) es
all_later core acts more [] l h = tt
all_later core acts more (e ∷ es) l h = (record { within = λ c w. omega (arith, l, h.0.within c w) }, all_later core acts more es l h.1)

wait_made : (core : ℕ) (what : What) → is_wait what ≡ true → maker core what ≡ Tick core
wait_made core (Wait on) h = refl
wait_made core _ h = cc

of_other : (core acts cycle : ℕ) (event : Event) (e : Entry) → (event ≡ Tick core → ⊥) → IsStamped cycle event e → IsWaitWithin core acts e
of_other core acts cycle event e ne h = record {
  within = λ c w. absurd (ne (sym h.made ∙ wait_made e.core e.what w ∙ ap Tick c));
}

all_other : (core acts cycle : ℕ) (event : Event) (es : List Entry) → (event ≡ Tick core → ⊥) → AllByRecursion (IsStamped cycle event) es → AllByRecursion (IsWaitWithin core acts) es
all_other core acts cycle event [] ne h = tt
all_other core acts cycle event (e ∷ es) ne h = (of_other core acts cycle event e ne h.0, all_other core acts cycle event es ne h.1)

-- another event
others_hold : (core : ℕ) (s : CoreAt) (w v : World) (event : Event) → (event ≡ Tick core → ⊥) → Step w event v → WaitsHold core s w.fabric.journal → WaitsHold core s v.fabric.journal
others_hold core s w v event ne h k =
    let a = step_stamped w v event h in
    let same = others_keep core w v event ne h in
    record {
      each = subst (AllByRecursion (IsWaitWithin core s.acts)) (sym a.journal) (all_append (IsWaitWithin core s.acts) w.fabric.journal a.added k.each (all_other core s.acts w.fabric.cycle event a.added ne a.each));
      kept = λ act q. k.kept act (sym same ∙ q);
      waits = λ q. k.waits (sym same ∙ q);
    }

-- the core's own act

some_within : (core acts k act : ℕ) (o : Option What) (f : Fabric) → IsNoWait o → AddedAll (IsWaitWithin core acts) f (entered_some k act o f)
unfolding IsNoWait
some_within core acts k act None f h = no_more (IsWaitWithin core acts) f f refl
some_within core acts k act (Some what) f h = record {
  added = entry_of f.cycle k act what ∷ [];
  journal = refl;
  each = (record { within = λ c w. let z : false ≡ true = sym h ∙ w in cc }, tt);
}

act_within : (core acts act : ℕ) (effect : Effect) (f : Fabric) → AddedAll (IsWaitWithin core acts) f (act_leaves core act effect f)
act_within core acts act effect f =
    let g = entered_some core act (entries_of_action effect.action) f in
    and_more (IsWaitWithin core acts) f g (act_leaves core act effect f)
    (some_within core acts core act (entries_of_action effect.action) f (action_no_wait effect.action))
    (some_within core acts core act (entry_of_act effect.done.act) g (act_no_wait effect.done.act))

acts_hold : (core : ℕ) (effect : Effect) (old new : CoreAt) (f g : Fabric) → IsAct core effect old f new g → WaitsHold core old f.journal → WaitsHold core new g.journal
acts_hold core effect old new f g h k =
    let more : new.acts ≡ old.acts + 1 = ap (λ (s : CoreAt). s.acts) h.state in
    let a = act_within core new.acts old.acts effect f in
    let same : logged_wait core g.journal ≡ logged_wait core f.journal = ap (λ (x : Fabric). logged_wait core x.journal) h.fabric ∙ acts_keep core old.acts effect f in
    record {
      each = subst (AllByRecursion (IsWaitWithin core new.acts)) (sym (ap (λ (x : Fabric). x.journal) h.fabric ∙ a.journal))
          (all_append (IsWaitWithin core new.acts) f.journal a.added (all_later core old.acts new.acts f.journal (omega (arith, more)) k.each) a.each);
      kept = λ act q. omega (arith, more, k.kept act (sym same ∙ q));
      waits = λ q. absurd (omega (arith, more, k.kept new.acts (sym same ∙ q)));
    }

-- a wait
wait_holds : (core : ℕ) (s : CoreAt) (on : WaitOn) (f : Fabric) (b : Bool) → IsAtWait s.view → WaitsHold core s f.journal → WaitsHold core s (cond b f (entered core s.acts (Wait on) f)).journal
wait_holds core s on f true v k = k
wait_holds core s on f false v k = record {
  each = all_append (IsWaitWithin core s.acts) f.journal (entry_of f.cycle core s.acts (Wait on) ∷ []) k.each (record { within = λ c w. omega arith }, tt);
  kept = λ act q. let e : s.acts ≡ act = same_Some _ _ (sym (wait_keeps core s.acts on f) ∙ q) in omega (arith, e);
  waits = λ q. v;
}

same_holds : (core : ℕ) (old new : CoreAt) (f g : Fabric) → new.view ≡ old.view → new.acts ≡ old.acts → g ≡ f → WaitsHold core old f.journal → WaitsHold core new g.journal
same_holds core old new f g v a e k = record {
  each = subst (λ (x : Fabric). AllByRecursion (IsWaitWithin core new.acts) x.journal) (sym e) (all_later core old.acts new.acts f.journal (omega (arith, a)) k.each);
  kept = λ act q. omega (arith, a, k.kept act (ap (λ (x : Fabric). logged_wait core x.journal) (sym e) ∙ q));
  waits = λ q. subst IsAtWait (sym v) (k.waits (ap (λ (x : Fabric). logged_wait core x.journal) (sym e) ∙ q ∙ ap Some a));
}

filled_holds : (core : ℕ) (old new : CoreAt) (f g : Fabric) → IsFilling old f new g → WaitsHold core old f.journal → WaitsHold core new g.journal
filled_holds core old new f g h k = same_holds core old new f g (ap (λ (s : CoreAt). s.view) h.state) (ap (λ (s : CoreAt). s.acts) h.state) h.fabric k

idle_holds : (core : ℕ) (old new : CoreAt) (f left g : Fabric) → IsIdle old left new g → WaitsHold core old left.journal → WaitsHold core new g.journal
idle_holds core old new f left g h k = same_holds core old new left g (ap (λ (s : CoreAt). s.view) h.state) (ap (λ (s : CoreAt). s.acts) h.state) h.fabric k

tick_holds : (core : ℕ) (d : Due) (old new : CoreAt) (f g : Fabric) → due old.view (shown f core) ≡ d → TickMay core d old f new g → WaitsHold core old f.journal → WaitsHold core new g.journal
tick_holds core (Does effect) old new f g e (inl h) k = acts_hold core effect old new f g h k
tick_holds core (Does effect) old new f g e (inr h) k = filled_holds core old new f g h k
tick_holds core (Waits port full) old new f g e (inl h) k =
    let on : WaitOn = record { port = port; full = full } in
    idle_holds core old new f (waited core old.acts on f) g h (wait_holds core old on f (is_logged core old.acts f.journal) (at_wait old.view (shown f core) port full e) k)
tick_holds core (Waits port full) old new f g e (inr h) k = filled_holds core old new f g h k
tick_holds core Sleeps old new f g e h k = idle_holds core old new f f g h k
tick_holds core Ends old new f g e h k = idle_holds core old new f f g h k
tick_holds core (Stops cause) old new f g e h k = idle_holds core old new f f g h k

-- each step

AllWait : World → Type 0
AllWait w = (core : ℕ) (s : CoreAt) → slice_get w.cores core ≡ Some s → WaitsHold core s w.fabric.journal

tick_of : Event → ℕ → ℕ
tick_of (Tick k) core = k
tick_of _ core = core

tick_same : (j k : ℕ) → Tick j ≡ Tick k → j ≡ k
unfolding tick_of
tick_same j k e = ap (λ event. tick_of event 0) e

no_tick_devices : (core : ℕ) → Devices ≡ Tick core → ⊥
no_tick_devices core e = cc

no_tick_host : (core : ℕ) → Host ≡ Tick core → ⊥
no_tick_host core e = cc

no_tick_next : (core : ℕ) → Next ≡ Tick core → ⊥
no_tick_next core e = cc

step_waits : (w v : World) (event : Event) → Step w event v → AllWait w → AllWait v
unfolding AllWait
step_waits w v (Tick core) h k i s q = elim (which core i w v h s (cases_eq i core) q) [
  | inl p ↦
      subst (λ (s : CoreAt). WaitsHold i s v.fabric.journal) p.1
      (subst (λ i. WaitsHold i h.is v.fabric.journal) (sym p.0) (tick_holds core (due h.was.view (shown w.fabric core)) h.was h.is w.fabric v.fabric refl h.may (k core h.was h.there)))
  | inr p ↦ others_hold i s w v (Tick core) (λ e. p.0 (sym (tick_same core i e))) h (k i s p.1)
]
step_waits w v Devices h k i s q = others_hold i s w v Devices (no_tick_devices i) h (k i s (ap (λ (x : World). slice_get x.cores i) (sym h) ∙ q))
step_waits w v Host h k i s q = others_hold i s w v Host (no_tick_host i) h (k i s (ap (λ (x : World). slice_get x.cores i) (sym h) ∙ q))
step_waits w v Next h k i s q = others_hold i s w v Next (no_tick_next i) h (k i s (ap (λ (x : World). slice_get x.cores i) (sym h) ∙ q))

steps_wait : (w v : World) (es : List Event) → Steps w es v → AllWait w → AllWait v
steps_wait w v [] h k = subst AllWait (sym h) k
steps_wait w v (e ∷ es) h k = steps_wait h.0 v es h.2 (step_waits w h.0 e h.1 k)

-- the lengths

record Sized (w : World) : Type 0 where
  lines : length w.fabric.lines ≡ length w.cores
  pending : length w.fabric.pending ≡ length w.cores
  links : length w.fabric.links ≡ length w.fabric.rows
  feeds : length w.fabric.feeds ≡ length w.fabric.rows
  timers : length w.fabric.devices.timers ≡ length w.fabric.bus.timers
  intcs : length w.fabric.devices.intcs ≡ length w.fabric.bus.intcs
  uarts : length w.fabric.devices.uarts ≡ length w.fabric.bus.uarts

step_sized : (w v : World) (event : Event) → Step w event v → Sized w → Sized v
step_sized w v event h z =
    let k = step_kept w v event h in
    let l = step_length w v event h in
    let rows : length v.fabric.rows ≡ length w.fabric.rows = ap length k.rows in
    record {
      lines = l.lines ∙ z.lines ∙ sym k.cores;
      pending = l.pending ∙ z.pending ∙ sym k.cores;
      links = l.links ∙ z.links ∙ sym rows;
      feeds = l.feeds ∙ z.feeds ∙ sym rows;
      timers = l.devices.timers ∙ z.timers ∙ sym (ap (λ (bus : DeviceRows). length bus.timers) k.bus);
      intcs = l.devices.intcs ∙ z.intcs ∙ sym (ap (λ (bus : DeviceRows). length bus.intcs) k.bus);
      uarts = l.devices.uarts ∙ z.uarts ∙ sym (ap (λ (bus : DeviceRows). length bus.uarts) k.bus);
    }

steps_sized : (w v : World) (es : List Event) → Steps w es v → Sized w → Sized v
steps_sized w v [] h z = subst Sized (sym h) z
steps_sized w v (e ∷ es) h z = steps_sized h.0 v es h.2 (step_sized w h.0 e h.1 z)

-- the beginning

feeds_count : (rows : List LinkRow) (inputs : List (List ℕ)) → length (feeds_of rows inputs) ≡ length rows
feeds_count [] inputs = refl
feeds_count (r ∷ rows) inputs = ap suc (feeds_count rows _)

serials_count : (rows : List UartRow) (blobs : List (List ℕ)) → length (serials_of rows blobs) ≡ length rows
serials_count [] blobs = refl
serials_count (r ∷ rows) blobs = ap suc (serials_count rows _)

start_sized : (b : BoardFile) (views : List View) (inputs : Inputs) (w : World) → Start b views inputs w → Sized w
start_sized b views inputs w s =
    let rows : length b.links ≡ length w.fabric.rows = sym (ap length s.has_rows) in
    record {
      lines = ap length s.lines ∙ length-map w.cores _;
      pending = ap length s.pending ∙ length-map w.cores _;
      links = ap length s.links ∙ length-map b.links _ ∙ rows;
      feeds = ap length s.feeds ∙ feeds_count b.links inputs.links ∙ rows;
      timers = ap (λ (d : DeviceSet). length d.timers) s.devices ∙ length-map b.timers _ ∙ sym (ap (λ (bus : DeviceRows). length bus.timers) s.has_bus);
      intcs = ap (λ (d : DeviceSet). length d.intcs) s.devices ∙ length-map b.intcs _ ∙ sym (ap (λ (bus : DeviceRows). length bus.intcs) s.has_bus);
      uarts = ap (λ (d : DeviceSet). length d.uarts) s.devices ∙ serials_count b.uarts inputs.uarts ∙ sym (ap (λ (bus : DeviceRows). length bus.uarts) s.has_bus);
    }

nothing_waits : (core : ℕ) (s : CoreAt) (journal : List Entry) → journal ≡ [] → WaitsHold core s journal
nothing_waits core s journal e = record {
  each = subst (AllByRecursion (IsWaitWithin core s.acts)) (sym e) tt;
  kept = λ act q. let z : None ≡ Some act = sym (ap (logged_wait core) e ∙ none_kept core) ∙ q in cc;
  waits = λ q. let z : None ≡ Some s.acts = sym (ap (logged_wait core) e ∙ none_kept core) ∙ q in cc;
}

start_waits : (b : BoardFile) (views : List View) (inputs : Inputs) (w : World) → Start b views inputs w → AllWait w
unfolding AllWait
start_waits b views inputs w s core c q = nothing_waits core c w.fabric.journal s.journal

reached_holds : (b : BoardFile) (views : List View) (inputs : Inputs) (w : World) → Reached b views inputs w → Holds w
unfolding AllWait
reached_holds b views inputs w r =
    let z = steps_sized r.first w r.events r.ran (start_sized b views inputs r.first r.began) in
    record {
      wired = wired b views inputs w r;
      announced = announced w.fabric;
      lines = z.lines;
      pending = z.pending;
      links = z.links;
      feeds = z.feeds;
      timers = z.timers;
      intcs = z.intcs;
      uarts = z.uarts;
      waits = steps_wait r.first w r.events r.ran (start_waits b views inputs r.first r.began);
    }

pub each_state_holds : EachStateHolds
each_state_holds = record { holds = reached_holds }
