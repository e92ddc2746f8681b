-- Every tick of the board machine keeps the progress bound.
use Rattle.std.proofs.Common.{◌≡◌, ℕ, ◌+◌, ◌*◌, ◌≤◌, ◌&&◌, ◌||◌, List, [], ◌∷◌, ◌++◌, Option, Some, refl, ap, sym, ◌∙◌, subst, inl, inr, ◌⊎◌, slice_get, Bool, true, false, cond, option_to_list}
use Rattle.std.specs.List.{list_any, AllByRecursion}
use Rattle.std.specs.Option.{is_some}
use Rattle.std.proofs.lemmas.List.{append-nil}
use Rattle.std.proofs.lemmas.Bool.{cases_eq}
use Rattle.core_regs.specs.declared.causes.WaitOn.{WaitOn}
use Rattle.isa_step.specs.declared.acts.Breaks.{Breaks}
use Rattle.isa_step.specs.declared.acts.Hopes.{Hopes}
use Rattle.isa_step.specs.Effects.{View, Effect, Due, Does, Waits, Sleeps, Ends, Stops, after}
use Rattle.isa_step.specs.Due.{due}
use Rattle.board_file.specs.declared.board.EventRow.{EventRow}
use Rattle.board_file.specs.declared.board.LinkRow.{LinkRow}
use Rattle.run_journal.specs.declared.entry.Entry.{Entry}
use Rattle.run_journal.specs.declared.entry.What.{What}
use Rattle.run_journal.specs.declared.entry.What.TheVariants.{Wait}
use Rattle.board_machine.specs.declared.events.Event.TheVariants.{Tick}
use Rattle.board_machine.specs.Bus.{DeviceRows}
use Rattle.board_machine.specs.Fabric.{Fabric, act_leaves, entered, entries_of_action, entry_of_act, hopes_at, is_break, is_logged, is_on, logged_wait, or_none, shown}
use Rattle.board_machine.specs.World.{CoreAt, IsAct, IsFilling, IsIdle, TickMay, TickStep, World}
use Rattle.board_machine.proofs.Staying.{announced}
use Rattle.board_machine.proofs.Tells.{which}
use Rattle.journal_laws.specs.Progress.{ProgressBound, as_one, has, is_rest, is_shut, rests_below, rests_in, ticks_below}
use Rattle.journal_laws.proofs.ActEntries.{TickOut, act_out, all_tick, effect_acts, effect_whats, none_waits, some_out, still_out}
use Rattle.journal_laws.proofs.Asking.{wait_shows}
use Rattle.journal_laws.proofs.Gone.{gone_acts, gone_waits}
use Rattle.journal_laws.proofs.LinkRuns.{IsValidIn, none_stands, step_valid}
use Rattle.journal_laws.proofs.Outcomes.{Gone, SaysRest, act_says, ends_gone, sleeps_asleep, stops_stopped, waits_at}
use Rattle.journal_laws.proofs.Pace.{all_imply, has_other, is_past, past_more}
use Rattle.journal_laws.proofs.Paces.{Pace}
use Rattle.journal_laws.proofs.Recorded.{kept_is}
use Rattle.journal_laws.proofs.PaceTicks.{Acted, AllTick, AtTick, Rested, act_pace, asleep_rests, entry_bound, fill_pace, idle_pace, kept_rests, law_list, made, others_pace, past_list, shut_is, stopped_rests, wait_pace}

-- what can come to a core is told by rows, breaks that are left and its pending ones
hopes_by : (bus bus2 : DeviceRows) (p p2 : Option Breaks) (l l2 : List EventRow) (k : ℕ) → bus2 ≡ bus → p2 ≡ p → l2 ≡ l
    → ◌≡◌ {A = Hopes} (record { interrupt = list_any (is_on k) bus2.intcs; maskable = (or_none p2).maskable || list_any (is_break k false) l2; nonmaskable = (or_none p2).nonmaskable || list_any (is_break k true) l2 })
    (record { interrupt = list_any (is_on k) bus.intcs; maskable = (or_none p).maskable || list_any (is_break k false) l; nonmaskable = (or_none p).nonmaskable || list_any (is_break k true) l })
hopes_by bus bus2 p p2 l l2 k a b c = rw (a, b, c) refl

pub hopes_out : (f g : Fabric) (k : ℕ) → g.bus ≡ f.bus → g.left ≡ f.left → slice_get g.pending k ≡ slice_get f.pending k → hopes_at g k ≡ hopes_at f k
hopes_out f g k d l p = hopes_by f.bus g.bus (slice_get f.pending k) (slice_get g.pending k) f.left g.left k d p l

-- a core's own tick

record OwnTick (order : ℕ → List ℕ) (rows : List LinkRow) (i : ℕ) (done rest : List ℕ) (was : CoreAt) (before : Fabric) (is : CoreAt) (later : Fabric) : Type 0 where
  es : List What
  all_tick : AllTick es
  out : TickOut i was.acts before later es
  own : (first : View) → Pace order rows first i before.cycle done before.journal was (hopes_at before i) → Pace order rows first i before.cycle (done ++ i ∷ []) later.journal is (hopes_at later i)
  bound : (es ≡ []) ⊎ ((first : View) → Pace order rows first i before.cycle done before.journal was (hopes_at before i) → ticks_below order i (before.cycle + 1) ≤ 64 * (was.acts + 1) + rests_below order rows first i before.journal before.cycle)

fills : (order : ℕ → List ℕ) (rows : List LinkRow) (i : ℕ) (done rest : List ℕ) (was : CoreAt) (before : Fabric) (is : CoreAt) (later : Fabric) → AtTick order i before.cycle done rest before.journal → IsFilling was before is later → OwnTick order rows i done rest was before is later
fills order rows i done rest was before is later t f = subst (OwnTick order rows i done rest was before is) (sym f.fabric) (record {
  es = [];
  all_tick = tt;
  out = still_out i was.acts before;
  own = λ first p. fill_pace order rows first i before.cycle done rest before.journal was is (hopes_at before i) t (record { view = ap (λ (s : CoreAt). s.view) f.state; acts = ap (λ (s : CoreAt). s.acts) f.state; ticks = ap (λ (s : CoreAt). s.ticks) f.state }) f.slack p;
  bound = inl refl;
})

rested : (was : CoreAt) (left : Fabric) (is : CoreAt) (later : Fabric) → IsIdle was left is later → Rested was is
rested was left is later f = record { view = ap (λ (s : CoreAt). s.view) f.state; acts = ap (λ (s : CoreAt). s.acts) f.state; ticks = ap (λ (s : CoreAt). s.ticks) f.state }

idles : (order : ℕ → List ℕ) (rows : List LinkRow) (i : ℕ) (done rest : List ℕ) (was : CoreAt) (before : Fabric) (is : CoreAt) (later : Fabric) → AtTick order i before.cycle done rest before.journal → IsIdle was before is later
    → ((first : View) → Pace order rows first i before.cycle done before.journal was (hopes_at before i) → Gone was.view (hopes_at before i) ⊎ (rests_in rows first i before.journal before.journal ≡ true)) → OwnTick order rows i done rest was before is later
idles order rows i done rest was before is later t f w = subst (OwnTick order rows i done rest was before is) (sym f.fabric) (record {
  es = [];
  all_tick = tt;
  out = still_out i was.acts before;
  own = λ first p. idle_pace order rows first i before.cycle done rest before.journal was is (hopes_at before i) t (rested was before is later f) (ap (λ (s : CoreAt). s.slack) f.state) (w first p) p;
  bound = inl refl;
})

acted : (core : ℕ) (effect : Effect) (was : CoreAt) (before : Fabric) (is : CoreAt) (later : Fabric) → IsAct core effect was before is later → SaysRest effect → Acted was is (entry_of_act effect.done.act)
acted core effect was before is later f says =
    let arch : is.view.arch ≡ (after was.view effect).arch = ap (λ (s : CoreAt). s.view.arch) f.state in
    record {
      acts = ap (λ (s : CoreAt). s.acts) f.state;
      ticks = ap (λ (s : CoreAt). s.ticks) f.state;
      slack = f.slack;
      asleep = λ x. ap entry_of_act (says.asleep (ap (λ (a : _). a.asleep) (sym arch) ∙ x));
      stopped = λ x. let h = says.stopped (ap (λ (a : _). is_some a.stopped) (sym arch) ∙ x) in (h.0, ap entry_of_act h.1);
    }

does : (order : ℕ → List ℕ) (rows : List LinkRow) (i : ℕ) (done rest : List ℕ) (was : CoreAt) (before : Fabric) (is : CoreAt) (later : Fabric) (effect : Effect) → AtTick order i before.cycle done rest before.journal → due was.view (shown before i) ≡ Does effect → IsAct i effect was before is later → OwnTick order rows i done rest was before is later
unfolding effect_whats
does order rows i done rest was before is later effect t d f =
    let o = act_out i was.acts effect before in
    let never = gone_acts was.view (shown before i) effect (announced before i) d in
    let kept : logged_wait i (before.journal ++ made before.cycle i was.acts (effect_whats effect)) ≡ logged_wait i before.journal = none_waits i before.cycle was.acts before.journal (effect_whats effect) (effect_acts effect) in
    subst (OwnTick order rows i done rest was before is) (sym f.fabric) (record {
      es = effect_whats effect;
      all_tick = all_tick (effect_whats effect) (effect_acts effect);
      out = o;
      own = λ first p. subst (λ j. Pace order rows first i before.cycle (done ++ i ∷ []) j is (hopes_at (act_leaves i was.acts effect before) i)) (sym o.journal)
          (act_pace order rows first i before.cycle done rest before.journal was is (hopes_at before i) (hopes_at (act_leaves i was.acts effect before) i) (option_to_list (entries_of_action effect.action)) (entry_of_act effect.done.act) t
          (acted i effect was before is later f (act_says was.view (shown before i) effect d)) never kept p);
      bound = inr (λ first p. entry_bound order rows first i before.cycle done rest before.journal was (hopes_at before i) t never p);
    })

waits : (order : ℕ → List ℕ) (rows : List LinkRow) (i : ℕ) (done rest : List ℕ) (was : CoreAt) (before : Fabric) (is : CoreAt) (later : Fabric) (on : WaitOn) (kept : Bool) → AtTick order i before.cycle done rest before.journal → due was.view (shown before i) ≡ Waits on.port on.full
    → is_shut rows before.journal i on.port on.full ≡ true → is_logged i was.acts before.journal ≡ kept → IsIdle was (cond kept before (entered i was.acts (Wait on) before)) is later → OwnTick order rows i done rest was before is later
waits order rows i done rest was before is later on true t d shut k f =
    idles order rows i done rest was before is later t f (λ first p. inr (kept_rests rows first i before.journal was.view on (p.kept (kept_is (logged_wait i before.journal) was.acts k)) (waits_at was.view (shown before i) on.port on.full d) shut))
waits order rows i done rest was before is later on false t d shut k f =
    let never = gone_waits was.view (shown before i) on.port on.full (announced before i) d in
    subst (OwnTick order rows i done rest was before is) (sym f.fabric) (record {
      es = Wait on ∷ [];
      all_tick = (refl, tt);
      out = some_out i was.acts (Some (Wait on)) before;
      own = λ first p. wait_pace order rows first i before.cycle done rest before.journal was is (hopes_at before i) on t (rested was (entered i was.acts (Wait on) before) is later f) (ap (λ (s : CoreAt). s.slack) f.state) never (waits_at was.view (shown before i) on.port on.full d) shut p;
      bound = inr (λ first p. entry_bound order rows first i before.cycle done rest before.journal was (hopes_at before i) t never p);
    })

own_tick : (order : ℕ → List ℕ) (rows : List LinkRow) (i : ℕ) (done rest : List ℕ) (d : Due) (was : CoreAt) (before : Fabric) (is : CoreAt) (later : Fabric) → AtTick order i before.cycle done rest before.journal → IsValidIn before → before.rows ≡ rows → due was.view (shown before i) ≡ d → TickMay i d was before is later → OwnTick order rows i done rest was before is later
own_tick order rows i done rest (Does effect) was before is later t law r d (inl a) = does order rows i done rest was before is later effect t d a
own_tick order rows i done rest (Does effect) was before is later t law r d (inr f) = fills order rows i done rest was before is later t f
own_tick order rows i done rest (Waits port full) was before is later t law r d (inl a) =
    let on : WaitOn = record { port = port; full = full } in
    let shut = shut_is before.rows before.journal i port full (none_stands before i port full law (wait_shows was.view (shown before i) port full d)) in
    waits order rows i done rest was before is later on (is_logged i was.acts before.journal) t d (subst (λ rows. is_shut rows before.journal i port full ≡ true) r shut) refl a
own_tick order rows i done rest (Waits port full) was before is later t law r d (inr f) = fills order rows i done rest was before is later t f
own_tick order rows i done rest Sleeps was before is later t law r d a = idles order rows i done rest was before is later t a (λ first p. inr (asleep_rests rows first i before.journal (p.asleep (sleeps_asleep was.view (shown before i) d))))
own_tick order rows i done rest Ends was before is later t law r d a = idles order rows i done rest was before is later t a (λ first p. inl (ends_gone was.view (shown before i) d))
own_tick order rows i done rest (Stops cause) was before is later t law r d a = idles order rows i done rest was before is later t a (λ first p. inr (stopped_rests rows first i before.journal (p.stopped (ap is_some (stops_stopped was.view (shown before i) cause d)))))

-- what holds between two events of a cycle, where the cores of `done` have ticked
pub record Good (order : ℕ → List ℕ) (rows : List LinkRow) (views : List View) (done : List ℕ) (w : World) : Type 0 where
  pub valid : IsValidIn w.fabric
  pub has_rows : w.fabric.rows ≡ rows
  pub past : AllByRecursion (λ e. is_past w.fabric.cycle done e ≡ true) w.fabric.journal
  pub law : ProgressBound order rows views w.fabric.journal
  pub pace : (i : ℕ) (s : CoreAt) (v : View) → slice_get w.cores i ≡ Some s → slice_get views i ≡ Some v → Pace order rows v i w.fabric.cycle done w.fabric.journal s (hopes_at w.fabric i)

law_with : (order : ℕ → List ℕ) (rows : List LinkRow) (views : List View) (i : ℕ) (done : List ℕ) (w : World) (was : CoreAt) (es : List What) → slice_get w.cores i ≡ Some was → Good order rows views done w
    → (es ≡ []) ⊎ ((first : View) → Pace order rows first i w.fabric.cycle done w.fabric.journal was (hopes_at w.fabric i) → ticks_below order i (w.fabric.cycle + 1) ≤ 64 * (was.acts + 1) + rests_below order rows first i w.fabric.journal w.fabric.cycle)
    → ProgressBound order rows views (w.fabric.journal ++ made w.fabric.cycle i was.acts es)
law_with order rows views i done w was es q g (inl z) = subst (λ (es : List What). ProgressBound order rows views (w.fabric.journal ++ made w.fabric.cycle i was.acts es)) (sym z) (subst (ProgressBound order rows views) (sym (append-nil w.fabric.journal)) g.law)
law_with order rows views i done w was es q g (inr b) =
    law_list order rows views w.fabric.cycle i was.acts done w.fabric.journal es (all_imply (is_past w.fabric.cycle done) (is_past w.fabric.cycle (done ++ i ∷ [])) w.fabric.journal (past_more w.fabric.cycle done i) g.past) (λ first v. b first (g.pace i was first q v)) g.law

other_done : (order : ℕ → List ℕ) (rows : List LinkRow) (first : View) (k i c : ℕ) (done : List ℕ) (journal : List Entry) (s : CoreAt) (hopes : Hopes) → (i ≡ k → ⊥) → Pace order rows first k c done journal s hopes → Pace order rows first k c (done ++ i ∷ []) journal s hopes
other_done order rows first k i c done journal s hopes n p =
    let e = has_other done i k n in
    record {
      ticks = p.ticks ∙ ap (λ t. ticks_below order k c + as_one t) (sym e);
      slack = p.slack;
      bound = elim p.bound [ inl g ↦ inl g | inr b ↦ inr (subst (λ t. s.ticks + s.slack ≤ 64 * s.acts + 63 + rests_below order rows first k journal c + as_one (t && is_rest order rows first k c journal)) (sym e) b) ];
      asleep = p.asleep;
      stopped = p.stopped;
      within = p.within;
      kept = p.kept;
    }

pace_at : (order : ℕ → List ℕ) (rows : List LinkRow) (views : List View) (i : ℕ) (done rest : List ℕ) (w v : World) (h : TickStep i w v) (k : ℕ) (s : CoreAt) (first : View) → AtTick order i w.fabric.cycle done rest w.fabric.journal → OwnTick order rows i done rest h.was w.fabric h.is v.fabric
    → Good order rows views done w → slice_get views k ≡ Some first → ((k ≡ i) × (h.is ≡ s)) ⊎ ((k ≡ i → ⊥) × (slice_get w.cores k ≡ Some s)) → Pace order rows first k w.fabric.cycle (done ++ i ∷ []) v.fabric.journal s (hopes_at v.fabric k)
pace_at order rows views i done rest w v h k s first t o g q (inl p) =
    subst (λ s. Pace order rows first k w.fabric.cycle (done ++ i ∷ []) v.fabric.journal s (hopes_at v.fabric k)) p.1
    (subst (λ k. Pace order rows first k w.fabric.cycle (done ++ i ∷ []) v.fabric.journal h.is (hopes_at v.fabric k)) (sym p.0)
    (o.own first (g.pace i h.was first h.there (ap (slice_get views) (sym p.0) ∙ q))))
pace_at order rows views i done rest w v h k s first t o g q (inr p) =
    let n : i ≡ k → ⊥ = λ z. p.0 (sym z) in
    let x = others_pace order rows first k w.fabric.cycle done rest w.fabric.journal s (hopes_at w.fabric k) i h.was.acts o.es t.cut t.fresh n o.all_tick (g.pace k s first p.1 q) in
    let y = other_done order rows first k i w.fabric.cycle done (w.fabric.journal ++ made w.fabric.cycle i h.was.acts o.es) s (hopes_at w.fabric k) n x in
    subst (λ j. Pace order rows first k w.fabric.cycle (done ++ i ∷ []) j s (hopes_at v.fabric k)) (sym o.out.journal)
    (subst (Pace order rows first k w.fabric.cycle (done ++ i ∷ []) (w.fabric.journal ++ made w.fabric.cycle i h.was.acts o.es) s) (sym (hopes_out w.fabric v.fabric k o.out.bus o.out.left (o.out.pending k n))) y)

pub tick_good : (order : ℕ → List ℕ) (rows : List LinkRow) (views : List View) (i : ℕ) (done rest : List ℕ) (w v : World) → order w.fabric.cycle ≡ done ++ i ∷ rest → has i done ≡ false → TickStep i w v → Good order rows views done w → (v.fabric.cycle ≡ w.fabric.cycle) × Good order rows views (done ++ i ∷ []) v
tick_good order rows views i done rest w v cut fresh h g =
    let t : AtTick order i w.fabric.cycle done rest w.fabric.journal = record { cut = cut; fresh = fresh; past = g.past } in
    let o = own_tick order rows i done rest (due h.was.view (shown w.fabric i)) h.was w.fabric h.is v.fabric t g.valid g.has_rows refl h.may in (
      o.out.cycle,
      record {
        valid = step_valid w v (Tick i) h g.valid;
        has_rows = o.out.rows ∙ g.has_rows;
        past = rw (o.out.cycle, o.out.journal) (past_list w.fabric.cycle i h.was.acts done w.fabric.journal o.es (all_imply (is_past w.fabric.cycle done) (is_past w.fabric.cycle (done ++ i ∷ [])) w.fabric.journal (past_more w.fabric.cycle done i) g.past));
        law = subst (ProgressBound order rows views) (sym o.out.journal) (law_with order rows views i done w h.was o.es h.there g o.bound);
        pace = λ k s first q r. subst (λ c. Pace order rows first k c (done ++ i ∷ []) v.fabric.journal s (hopes_at v.fabric k)) (sym o.out.cycle) (pace_at order rows views i done rest w v h k s first t o g r (which i k w v h s (cases_eq k i) q));
      },
    )
