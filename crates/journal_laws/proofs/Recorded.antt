-- Sleep, stop and waits are what the journal records.
use Rattle.std.proofs.Common.{◌≡◌, ℕ, ◌+◌, ◌≤◌, ◌&&◌, List, [], ◌∷◌, ◌++◌, Option, Some, None, refl, ap, sym, ◌∙◌, subst, inl, inr, ◌⊎◌, arith, slice_get, Bool, true, false, cond, option_to_list}
use Rattle.std.specs.List.{AllByRecursion}
use Rattle.std.specs.Option.{is_some, option_map}
use Rattle.std.proofs.lemmas.List.{append-nil, append_assoc, map-append}
use Rattle.std.proofs.lemmas.Bool.{cases_eq, eq-eqb, eqb-true, ne_eqb}
use Rattle.std.proofs.lemmas.Option.{same_Some, slice_get-map}
use Rattle.core_regs.specs.declared.causes.StopCause.{StopCause}
use Rattle.core_regs.specs.declared.causes.WaitOn.{WaitOn}
use Rattle.isa_step.specs.declared.acts.Act.{Act}
use Rattle.isa_step.specs.declared.acts.Act.TheVariants as acts
use Rattle.isa_step.specs.declared.acts.Action.{Action}
use Rattle.isa_step.specs.declared.acts.Action.TheVariants as action
use Rattle.isa_step.specs.Shown.{Shown}
use Rattle.isa_step.specs.Effects.{View, Effect, Due, Does, Waits, Sleeps, Ends, Stops, Request, Goes, HaltLoop, Gets, Puts, Reads, Writes}
use Rattle.isa_step.specs.Due.{due}
use Rattle.isa_step.specs.History.{answered, effect_told, exactly}
use Rattle.isa_step.proofs.Telling.{is_told}
use Rattle.board_file.specs.declared.board.BoardFile.{BoardFile}
use Rattle.run_journal.specs.declared.entry.Entry.{Entry}
use Rattle.run_journal.specs.declared.entry.What.{What}
use Rattle.run_journal.specs.declared.entry.What.TheVariants.{Took, Slept, Stopped, Wait, LineUp, LineDown, HostSent, HostGot, Left}
use Rattle.board_machine.specs.declared.events.Event.{Event}
use Rattle.board_machine.specs.declared.events.Event.TheVariants.{Devices, Host, Tick, Next}
use Rattle.board_machine.specs.Fabric.{Fabric, entered, entries_of_action, entry_of, entry_of_act, entry_of_action, is_act, is_logged, logged_wait, shown, waited}
use Rattle.board_machine.specs.World.{CoreAt, Inputs, IsAct, Reached, Start, Step, Steps, TickMay, TickStep, World}
use Rattle.board_machine.proofs.Steps.{steps_push}
use Rattle.board_machine.proofs.Tells.{which}
use Rattle.board_machine.proofs.Waits.{none_kept}
use Rattle.machine_laws.specs.Holding.{IsAtWait, WaitsHold, can_wait, request_at}
use Rattle.machine_laws.specs.Stamps.{IsStamped, maker}
use Rattle.machine_laws.proofs.Holding.{each_state_holds}
use Rattle.machine_laws.proofs.Stamping.{step_stamped}
use Rattle.journal_laws.specs.Laws.{IsRecorded, RestIsRecorded}
use Rattle.journal_laws.specs.Progress.{asleep_by, asleep_recorded, by_tick, kept_by, stopped_by, stopped_recorded, wait_recorded}
use Rattle.journal_laws.proofs.ActEntries.{IsByAct, act_out, effect_acts, effect_whats, none_waits}
use Rattle.journal_laws.proofs.Asking.{act_splits}
use Rattle.journal_laws.proofs.Lists.{cons_append}
use Rattle.journal_laws.proofs.Outcomes.{SaysRest, act_says}
use Rattle.journal_laws.proofs.Pace.{recorded_more}
use Rattle.journal_laws.proofs.Paces.{IsOther, kept_more, no_tick, other_core}
use Rattle.journal_laws.proofs.PaceTicks.{made}

-- entries of others

other_recorded : (first : View) (i : ℕ) (s : CoreAt) (journal : List Entry) (e : Entry) → IsOther i e → IsRecorded first i s journal → IsRecorded first i s (journal ++ e ∷ [])
other_recorded first i s journal e o k = record {
  asleep = recorded_more asleep_by i first.arch.asleep journal e ∙ o.asleep (asleep_recorded first i journal) ∙ k.asleep;
  stopped = recorded_more stopped_by i (is_some first.arch.stopped) journal e ∙ o.stopped (stopped_recorded first i journal) ∙ k.stopped;
  waits = ap is_some (recorded_more kept_by i None journal e ∙ o.kept (wait_recorded i journal)) ∙ k.waits ∙ ap (λ w. is_act w s.acts) (sym (kept_more i journal e ∙ o.wait (logged_wait i journal)));
}

tick_made : (core : ℕ) (what : What) → by_tick what ≡ true → maker core what ≡ Tick core
tick_made core LineUp h = cc
tick_made core LineDown h = cc
tick_made core (HostSent link item) h = cc
tick_made core (HostGot link item) h = cc
tick_made core (Left uart byte) h = cc
tick_made core _ h = refl

stamped_other : (i : ℕ) (event : Event) (e : Entry) (t : Bool) → by_tick e.what ≡ t → maker e.core e.what ≡ event → (event ≡ Tick i → ⊥) → IsOther i e
stamped_other i event e false b m n = no_tick i e b
stamped_other i event e true b m n = other_core i e (λ z. n (sym m ∙ tick_made e.core e.what b ∙ ap Tick z))

all_recorded : (first : View) (i : ℕ) (s : CoreAt) (cycle : ℕ) (event : Event) (journal es : List Entry) → (event ≡ Tick i → ⊥) → AllByRecursion (IsStamped cycle event) es → IsRecorded first i s journal → IsRecorded first i s (journal ++ es)
all_recorded first i s cycle event journal [] n h k = subst (IsRecorded first i s) (sym (append-nil journal)) k
all_recorded first i s cycle event journal (e ∷ es) n h k =
    subst (IsRecorded first i s) (cons_append journal es e)
    (all_recorded first i s cycle event (journal ++ e ∷ []) es n h.1 (other_recorded first i s journal e (stamped_other i event e (by_tick e.what) refl h.0.made n) k))

others_recorded : (first : View) (i : ℕ) (s : CoreAt) (w v : World) (event : Event) → (event ≡ Tick i → ⊥) → Step w event v → IsRecorded first i s w.fabric.journal → IsRecorded first i s v.fabric.journal
others_recorded first i s w v event n h k =
    let a = step_stamped w v event h in
    subst (IsRecorded first i s) (sym a.journal) (all_recorded first i s w.fabric.cycle event w.fabric.journal a.added n a.each k)

-- an act

is_slept : Act → Bool
is_slept acts.Slept = true
is_slept _ = false

is_halted : Act → Bool
is_halted (acts.Stopped cause) = true
is_halted _ = false

slept_is : (a : Act) → is_slept a ≡ true → a ≡ acts.Slept
unfolding is_slept
slept_is acts.Slept h = refl
slept_is _ h = cc

halted_is : (a : Act) → is_halted a ≡ true → (cause : StopCause) × (a ≡ acts.Stopped cause)
unfolding is_halted
halted_is (acts.Stopped cause) h = (cause, refl)
halted_is _ h = cc

pub alike : (a b : Bool) → (a ≡ true → b ≡ true) → (b ≡ true → a ≡ true) → a ≡ b
alike true true f g = refl
alike true false f g = let z : false ≡ true = f refl in cc
alike false true f g = let z : false ≡ true = g refl in cc
alike false false f g = refl

slept_so : (d : Effect) → SaysRest d → is_slept d.done.act ≡ d.arch.asleep
unfolding is_slept
slept_so d says = alike (is_slept d.done.act) d.arch.asleep (λ h. says.sleeps (slept_is d.done.act h)) (λ h. ap is_slept (says.asleep h))

halted_so : (d : Effect) → SaysRest d → is_halted d.done.act ≡ is_some d.arch.stopped
unfolding is_halted
halted_so d says = alike (is_halted d.done.act) (is_some d.arch.stopped) (λ h. let c = halted_is d.done.act h in says.halts c.0 c.1) (λ h. let c = says.stopped h in ap is_halted c.1)

-- one entry of the core itself
own_asleep : (first : View) (c i act : ℕ) (journal : List Entry) (what : What) → asleep_recorded first i (journal ++ entry_of c i act what ∷ []) ≡ asleep_by (asleep_recorded first i journal) what
own_asleep first c i act journal what =
    recorded_more asleep_by i first.arch.asleep journal (entry_of c i act what)
    ∙ ap (λ t. cond t (asleep_by (asleep_recorded first i journal) what) (asleep_recorded first i journal)) (eq-eqb i i refl)

own_stopped : (first : View) (c i act : ℕ) (journal : List Entry) (what : What) → stopped_recorded first i (journal ++ entry_of c i act what ∷ []) ≡ stopped_by (stopped_recorded first i journal) what
own_stopped first c i act journal what =
    recorded_more stopped_by i (is_some first.arch.stopped) journal (entry_of c i act what)
    ∙ ap (λ t. cond t (stopped_by (stopped_recorded first i journal) what) (stopped_recorded first i journal)) (eq-eqb i i refl)

own_wait : (c i act : ℕ) (journal : List Entry) (what : What) → wait_recorded i (journal ++ entry_of c i act what ∷ []) ≡ kept_by (wait_recorded i journal) what
own_wait c i act journal what =
    recorded_more kept_by i None journal (entry_of c i act what)
    ∙ ap (λ t. cond t (kept_by (wait_recorded i journal) what) (wait_recorded i journal)) (eq-eqb i i refl)

action_keeps : (a : Action) → (asleep_by false (entry_of_action a) ≡ false) × ((b : Bool) → stopped_by b (entry_of_action a) ≡ b)
action_keeps (action.Took t) = (refl, λ b. refl)
action_keeps (action.Got p x) = (refl, λ b. refl)
action_keeps (action.Sent p x) = (refl, λ b. refl)
action_keeps (action.Seen p x) = (refl, λ b. refl)
action_keeps (action.Room p) = (refl, λ b. refl)
action_keeps (action.Missed p f) = (refl, λ b. refl)
action_keeps (action.Read p w) = (refl, λ b. refl)
action_keeps (action.ReadRefused p) = (refl, λ b. refl)
action_keeps (action.Wrote p w) = (refl, λ b. refl)
action_keeps (action.WriteRefused p w) = (refl, λ b. refl)

-- after what the act did at its ports
ports_asleep : (first : View) (c i act : ℕ) (journal : List Entry) (o : Option Action) → asleep_recorded first i journal ≡ false → asleep_recorded first i (journal ++ made c i act (option_to_list (entries_of_action o))) ≡ false
ports_asleep first c i act journal None h = ap (asleep_recorded first i) (append-nil journal) ∙ h
ports_asleep first c i act journal (Some a) h = own_asleep first c i act journal (entry_of_action a) ∙ ap (λ b. asleep_by b (entry_of_action a)) h ∙ (action_keeps a).0

ports_stopped : (first : View) (c i act : ℕ) (journal : List Entry) (o : Option Action) → stopped_recorded first i (journal ++ made c i act (option_to_list (entries_of_action o))) ≡ stopped_recorded first i journal
ports_stopped first c i act journal None = ap (stopped_recorded first i) (append-nil journal)
ports_stopped first c i act journal (Some a) = own_stopped first c i act journal (entry_of_action a) ∙ (action_keeps a).1 (stopped_recorded first i journal)

-- after what the act says itself
act_asleep : (first : View) (c i act : ℕ) (journal : List Entry) (a : Act) → asleep_recorded first i journal ≡ false → asleep_recorded first i (journal ++ made c i act (option_to_list (entry_of_act a))) ≡ is_slept a
unfolding is_slept
act_asleep first c i act journal acts.Retired h = ap (asleep_recorded first i) (append-nil journal) ∙ h
act_asleep first c i act journal acts.Slept h = own_asleep first c i act journal Slept
act_asleep first c i act journal (acts.Took t) h = ap (asleep_recorded first i) (append-nil journal) ∙ h
act_asleep first c i act journal (acts.Raised esr) h = own_asleep first c i act journal _ ∙ h
act_asleep first c i act journal (acts.Stopped cause) h = own_asleep first c i act journal (Stopped cause) ∙ h

act_stopped : (first : View) (c i act : ℕ) (journal : List Entry) (a : Act) → stopped_recorded first i journal ≡ false → stopped_recorded first i (journal ++ made c i act (option_to_list (entry_of_act a))) ≡ is_halted a
unfolding is_halted
act_stopped first c i act journal acts.Retired h = ap (stopped_recorded first i) (append-nil journal) ∙ h
act_stopped first c i act journal acts.Slept h = own_stopped first c i act journal Slept ∙ h
act_stopped first c i act journal (acts.Took t) h = ap (stopped_recorded first i) (append-nil journal) ∙ h
act_stopped first c i act journal (acts.Raised esr) h = own_stopped first c i act journal _ ∙ h
act_stopped first c i act journal (acts.Stopped cause) h = own_stopped first c i act journal (Stopped cause)

-- the entries of an act stand at the journal's end
in_turn : (c i act : ℕ) (journal : List Entry) (xs ys : List What) → journal ++ made c i act (xs ++ ys) ≡ (journal ++ made c i act xs) ++ made c i act ys
in_turn c i act journal xs ys = ap (λ es. journal ++ es) (map-append (entry_of c i act) xs ys) ∙ sym (append_assoc journal (made c i act xs) (made c i act ys))

record RestOf (first : View) (i : ℕ) (d : Effect) (journal : List Entry) : Type 0 where
  asleep : asleep_recorded first i journal ≡ d.arch.asleep
  stopped : stopped_recorded first i journal ≡ is_some d.arch.stopped

effect_rest : (first : View) (c i act : ℕ) (journal : List Entry) (d : Effect) → SaysRest d
    → asleep_recorded first i (journal ++ made c i act (option_to_list (entries_of_action d.action))) ≡ false → stopped_recorded first i journal ≡ false → RestOf first i d (journal ++ made c i act (effect_whats d))
unfolding effect_whats
effect_rest first c i act journal d says a s =
    let xs = option_to_list (entries_of_action d.action) in
    let ys = option_to_list (entry_of_act d.done.act) in
    let half = journal ++ made c i act xs in
    record {
      asleep = ap (asleep_recorded first i) (in_turn c i act journal xs ys) ∙ act_asleep first c i act half d.done.act a ∙ slept_so d says;
      stopped = ap (stopped_recorded first i) (in_turn c i act journal xs ys) ∙ act_stopped first c i act half d.done.act (ports_stopped first c i act journal d.action ∙ s) ∙ halted_so d says;
    }

take_rest : (first : View) (c i : ℕ) (s : CoreAt) (journal : List Entry) (sh : Shown) (d : Effect) → due s.view sh ≡ Does d → IsRecorded first i s journal → RestOf first i d (journal ++ made c i s.acts (effect_whats d))
take_rest first c i s journal sh d e k = elim (act_splits s.view sh d e) [
  | inl t ↦
      effect_rest first c i s.acts journal d (act_says s.view sh d e)
      (subst (λ (d : Effect). asleep_recorded first i (journal ++ made c i s.acts (option_to_list (entries_of_action d.action))) ≡ false) (sym t.is) (own_asleep first c i s.acts journal (Took t.take)))
      (k.stopped ∙ ap is_some t.runs)
  | inr n ↦
      effect_rest first c i s.acts journal d (act_says s.view sh d e)
      (ports_asleep first c i s.acts journal d.action (k.asleep ∙ n.awake.asleep))
      (k.stopped ∙ ap is_some n.awake.stopped)
]

-- no wait is recorded after an act

cleared : (o : Option WaitOn) (what : What) → IsByAct what → kept_by o what ≡ None
cleared o (Wait on) h = let z = h.1 in cc
cleared o LineUp h = let z = h.0 in cc
cleared o LineDown h = let z = h.0 in cc
cleared o (HostSent link item) h = let z = h.0 in cc
cleared o (HostGot link item) h = let z = h.0 in cc
cleared o (Left uart byte) h = let z = h.0 in cc
cleared o _ h = refl

waits_cleared : (c i act : ℕ) (journal : List Entry) (es : List What) → AllByRecursion IsByAct es → (es ≡ [] → is_some (wait_recorded i journal) ≡ false) → is_some (wait_recorded i (journal ++ made c i act es)) ≡ false
waits_cleared c i act journal [] h n = ap (λ j. is_some (wait_recorded i j)) (append-nil journal) ∙ n refl
waits_cleared c i act journal (what ∷ es) h n =
    let e : Entry = entry_of c i act what in
    ap (λ j. is_some (wait_recorded i j)) (sym (cons_append journal (made c i act es) e))
    ∙ waits_cleared c i act (journal ++ e ∷ []) es h.1 (λ z. ap is_some (own_wait c i act journal what ∙ cleared (wait_recorded i journal) what h.0))

no_answer : (w : Request) → can_wait w ≡ true → answered w [] ≡ None
no_answer (Gets port item None) h = refl
no_answer (Gets port item (Some d)) h = cc
no_answer (Puts port room None) h = refl
no_answer (Puts port room (Some d)) h = cc
no_answer (Goes d) h = cc
no_answer (HaltLoop d) h = cc
no_answer (Reads addr answer) h = cc
no_answer (Writes addr word answer) h = cc

-- a core that waits does no act without an entry
wait_acts : (v : View) (s : Shown) (d : Effect) → IsAtWait v → due v s ≡ Does d → d.action ≡ None → ⊥
unfolding effect_told
wait_acts v s d w e n =
    let t : effect_told v [] ≡ Some d = ap (λ a. effect_told v (option_to_list a)) (sym n) ∙ is_told.told v s d e in
    let z : None ≡ Some d = sym (ap (exactly []) (no_answer (request_at v) w.waits)) ∙ t in
    cc

no_action : (o : Option Action) (ys : List What) → option_to_list (entries_of_action o) ++ ys ≡ [] → o ≡ None
no_action None ys h = refl
no_action (Some a) ys h = cc

pub kept_is : (o : Option ℕ) (act : ℕ) → is_act o act ≡ true → o ≡ Some act
kept_is None act h = cc
kept_is (Some a) act h = ap Some (eqb-true a act h)

not_true_is : (b : Bool) → (b ≡ true → ⊥) → b ≡ false
not_true_is false n = refl
not_true_is true n = absurd (n refl)

silent_waits : (i : ℕ) (s : CoreAt) (journal : List Entry) (sh : Shown) (d : Effect) → due s.view sh ≡ Does d → WaitsHold i s journal → effect_whats d ≡ [] → is_logged i s.acts journal ≡ false
unfolding effect_whats
silent_waits i s journal sh d e h z = not_true_is (is_logged i s.acts journal) (λ k. wait_acts s.view sh d (h.waits (kept_is (logged_wait i journal) s.acts k)) e (no_action d.action (option_to_list (entry_of_act d.done.act)) z))

not_later : (o : Option ℕ) (acts : ℕ) → ((act : ℕ) → o ≡ Some act → act ≤ acts) → is_act o (acts + 1) ≡ false
not_later None acts h = refl
not_later (Some a) acts h = let l = h a refl in ne_eqb a (acts + 1) (λ z. omega (arith, l, z))

act_recorded : (first : View) (i : ℕ) (d : Effect) (old new : CoreAt) (f g : Fabric) → due old.view (shown f i) ≡ Does d → IsAct i d old f new g → WaitsHold i old f.journal → IsRecorded first i old f.journal → IsRecorded first i new g.journal
act_recorded first i d old new f g e h w k =
    let es = effect_whats d in
    let j : g.journal ≡ f.journal ++ made f.cycle i old.acts es = ap (λ (x : Fabric). x.journal) h.fabric ∙ (act_out i old.acts d f).journal in
    let r = take_rest first f.cycle i old f.journal (shown f i) d e k in
    let a : new.acts ≡ old.acts + 1 = ap (λ (s : CoreAt). s.acts) h.state in
    let none : is_some (wait_recorded i (f.journal ++ made f.cycle i old.acts es)) ≡ false = waits_cleared f.cycle i old.acts f.journal es (effect_acts d) (λ z. k.waits ∙ silent_waits i old f.journal (shown f i) d e w z) in
    let last : logged_wait i (f.journal ++ made f.cycle i old.acts es) ≡ logged_wait i f.journal = none_waits i f.cycle old.acts f.journal es (effect_acts d) in
    subst (IsRecorded first i new) (sym j) (record {
      asleep = r.asleep ∙ sym (ap (λ (s : CoreAt). s.view.arch.asleep) h.state);
      stopped = r.stopped ∙ sym (ap (λ (s : CoreAt). is_some s.view.arch.stopped) h.state);
      waits = none ∙ sym (ap (λ n. is_act (logged_wait i (f.journal ++ made f.cycle i old.acts es)) n) a ∙ ap (λ o. is_act o (old.acts + 1)) last ∙ not_later (logged_wait i f.journal) old.acts w.kept);
    })

-- a tick without an act

same_recorded : (first : View) (i : ℕ) (old new : CoreAt) (f g : Fabric) → new.view ≡ old.view → new.acts ≡ old.acts → g ≡ f → IsRecorded first i old f.journal → IsRecorded first i new g.journal
same_recorded first i old new f g v a e k = subst (λ (x : Fabric). IsRecorded first i new x.journal) (sym e) (record {
  asleep = k.asleep ∙ ap (λ (v : View). v.arch.asleep) (sym v);
  stopped = k.stopped ∙ ap (λ (v : View). is_some v.arch.stopped) (sym v);
  waits = k.waits ∙ ap (λ n. is_logged i n f.journal) (sym a);
})

wait_entered : (first : View) (i : ℕ) (s : CoreAt) (on : WaitOn) (f : Fabric) (b : Bool) → IsRecorded first i s f.journal → IsRecorded first i s (cond b f (entered i s.acts (Wait on) f)).journal
wait_entered first i s on f true k = k
wait_entered first i s on f false k =
    let e : Entry = entry_of f.cycle i s.acts (Wait on) in
    let last : logged_wait i (f.journal ++ e ∷ []) ≡ Some s.acts = kept_more i f.journal e ∙ ap (λ t. cond (t && true) (Some s.acts) (logged_wait i f.journal)) (eq-eqb i i refl) in
    record {
      asleep = own_asleep first f.cycle i s.acts f.journal (Wait on) ∙ k.asleep;
      stopped = own_stopped first f.cycle i s.acts f.journal (Wait on) ∙ k.stopped;
      waits = ap is_some (own_wait f.cycle i s.acts f.journal (Wait on)) ∙ sym (ap (λ o. is_act o s.acts) last ∙ eq-eqb s.acts s.acts refl);
    }

tick_recorded : (first : View) (i : ℕ) (d : Due) (old new : CoreAt) (f g : Fabric) → due old.view (shown f i) ≡ d → TickMay i d old f new g → WaitsHold i old f.journal → IsRecorded first i old f.journal → IsRecorded first i new g.journal
tick_recorded first i (Does d) old new f g e (inl h) w k = act_recorded first i d old new f g e h w k
tick_recorded first i (Does d) old new f g e (inr h) w k = same_recorded first i old new f g (ap (λ (s : CoreAt). s.view) h.state) (ap (λ (s : CoreAt). s.acts) h.state) h.fabric k
tick_recorded first i (Waits port full) old new f g e (inl h) w k =
    let on : WaitOn = record { port = port; full = full } in
    same_recorded first i old new (waited i old.acts on f) g (ap (λ (s : CoreAt). s.view) h.state) (ap (λ (s : CoreAt). s.acts) h.state) h.fabric (wait_entered first i old on f (is_logged i old.acts f.journal) k)
tick_recorded first i (Waits port full) old new f g e (inr h) w k = same_recorded first i old new f g (ap (λ (s : CoreAt). s.view) h.state) (ap (λ (s : CoreAt). s.acts) h.state) h.fabric k
tick_recorded first i Sleeps old new f g e h w k = same_recorded first i old new f g (ap (λ (s : CoreAt). s.view) h.state) (ap (λ (s : CoreAt). s.acts) h.state) h.fabric k
tick_recorded first i Ends old new f g e h w k = same_recorded first i old new f g (ap (λ (s : CoreAt). s.view) h.state) (ap (λ (s : CoreAt). s.acts) h.state) h.fabric k
tick_recorded first i (Stops cause) old new f g e h w k = same_recorded first i old new f g (ap (λ (s : CoreAt). s.view) h.state) (ap (λ (s : CoreAt). s.acts) h.state) h.fabric k

-- each step

AllRecorded : List View → World → Type 0
AllRecorded views w = (i : ℕ) (s : CoreAt) (first : View) → slice_get w.cores i ≡ Some s → slice_get views i ≡ Some first → IsRecorded first i s w.fabric.journal

tick_of : Event → ℕ
tick_of (Tick k) = k
tick_of _ = 0

same_tick : (j k : ℕ) → Tick j ≡ Tick k → j ≡ k
unfolding tick_of
same_tick j k e = ap tick_of e

own_recorded : (views : List View) (core : ℕ) (w v : World) (h : TickStep core w v) (i : ℕ) (s : CoreAt) (first : View) → WaitsHold core h.was w.fabric.journal → AllRecorded views w → slice_get views i ≡ Some first → Step w (Tick core) v
    → ((i ≡ core) × (h.is ≡ s)) ⊎ ((i ≡ core → ⊥) × (slice_get w.cores i ≡ Some s)) → IsRecorded first i s v.fabric.journal
unfolding AllRecorded
own_recorded views core w v h i s first hold k r step (inl p) =
    let q : slice_get views core ≡ Some first = ap (slice_get views) (sym p.0) ∙ r in
    let t = tick_recorded first core (due h.was.view (shown w.fabric core)) h.was h.is w.fabric v.fabric refl h.may hold (k core h.was first h.there q) in
    subst (λ i. IsRecorded first i s v.fabric.journal) (sym p.0) (subst (λ (s : CoreAt). IsRecorded first core s v.fabric.journal) p.1 t)
own_recorded views core w v h i s first hold k r step (inr p) = others_recorded first i s w v (Tick core) (λ e. p.0 (sym (same_tick core i e))) step (k i s first p.1 r)

step_recorded : (views : List View) (w v : World) (event : Event) → ((core : ℕ) (s : CoreAt) → slice_get w.cores core ≡ Some s → WaitsHold core s w.fabric.journal) → Step w event v → AllRecorded views w → AllRecorded views v
unfolding AllRecorded
step_recorded views w v (Tick core) hold h k i s first q r = own_recorded views core w v h i s first (hold core h.was h.there) k r h (which core i w v h s (cases_eq i core) q)
step_recorded views w v Devices hold h k i s first q r = others_recorded first i s w v Devices (λ e. cc) h (k i s first (ap (λ (x : World). slice_get x.cores i) (sym h) ∙ q) r)
step_recorded views w v Host hold h k i s first q r = others_recorded first i s w v Host (λ e. cc) h (k i s first (ap (λ (x : World). slice_get x.cores i) (sym h) ∙ q) r)
step_recorded views w v Next hold h k i s first q r = others_recorded first i s w v Next (λ e. cc) h (k i s first (ap (λ (x : World). slice_get x.cores i) (sym h) ∙ q) r)

pub one_more : (b : BoardFile) (views : List View) (inputs : Inputs) (w v : World) (event : Event) → Reached b views inputs w → Step w event v → Reached b views inputs v
one_more b views inputs w v event r h = record { first = r.first; events = r.events ++ event ∷ []; began = r.began; ran = steps_push r.first w v r.events event r.ran h }

steps_recorded : (b : BoardFile) (views : List View) (inputs : Inputs) (w v : World) (es : List Event) → Reached b views inputs w → Steps w es v → AllRecorded views w → AllRecorded views v
steps_recorded b views inputs w v [] r h k = subst (AllRecorded views) (sym h) k
steps_recorded b views inputs w v (e ∷ es) r h k =
    steps_recorded b views inputs h.0 v es (one_more b views inputs w h.0 e r h.1) h.2 (step_recorded views w h.0 e (each_state_holds.holds b views inputs w r).waits h.1 k)

start_recorded : (b : BoardFile) (views : List View) (inputs : Inputs) (w : World) → Start b views inputs w → AllRecorded views w
unfolding AllRecorded
start_recorded b views inputs w s i c first q r =
    let e : Some c.view ≡ Some first = ap (option_map (λ (s : CoreAt). s.view)) (sym q) ∙ sym (slice_get-map (λ (s : CoreAt). s.view) w.cores i) ∙ ap (λ (vs : List View). slice_get vs i) s.has_views ∙ r in
    let v : first ≡ c.view = sym (same_Some _ _ e) in
    subst (IsRecorded first i c) (sym s.journal) (record {
      asleep = ap (λ (v : View). v.arch.asleep) v;
      stopped = ap (λ (v : View). is_some v.arch.stopped) v;
      waits = sym (ap (λ o. is_act o c.acts) (none_kept i));
    })

pub rest_is_recorded : RestIsRecorded
unfolding AllRecorded
rest_is_recorded = record {
  law = λ b views inputs w r. steps_recorded b views inputs r.first w r.events (record { first = r.first; events = []; began = r.began; ran = refl }) r.ran (start_recorded b views inputs r.first r.began);
}
