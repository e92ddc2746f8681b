-- One core's pace: its ticks are at most 64 for each act, and those in which it could not act.
use Rattle.std.proofs.Common.{◌≡◌, ℕ, ◌+◌, ◌*◌, ◌<◌, ◌≤◌, ◌==◌, ◌&&◌, List, [], ◌∷◌, ◌++◌, Option, Some, None, refl, ap, ◌∙◌, sym, inl, inr, ◌⊎◌, Bool, true, false, cond}
use Rattle.std.specs.Option.{is_some}
use Rattle.std.proofs.lemmas.Bool.{ne_eqb}
use Rattle.std.proofs.lemmas.List.Sums.{fold-append}
use Rattle.core_regs.specs.declared.causes.WaitOn.{WaitOn}
use Rattle.isa_step.specs.declared.acts.Hopes.{Hopes}
use Rattle.isa_step.specs.Effects.{View}
use Rattle.board_file.specs.declared.board.LinkRow.{LinkRow}
use Rattle.run_journal.specs.declared.entry.Entry.{Entry}
use Rattle.run_journal.specs.declared.entry.What.{What}
use Rattle.run_journal.specs.declared.entry.What.TheVariants.{LineUp, LineDown, HostSent, HostGot, Left}
use Rattle.board_machine.specs.Fabric.{is_wait, kept_after, logged_wait}
use Rattle.board_machine.specs.World.{CoreAt}
use Rattle.machine_laws.specs.Holding.{request_at}
use Rattle.journal_laws.specs.Progress.{as_one, asleep_by, asleep_recorded, by_tick, has, is_rest, kept_by, rests_below, stopped_by, stopped_recorded, ticks_below, wait_recorded}
use Rattle.journal_laws.proofs.Outcomes.{Gone, access_of}
use Rattle.journal_laws.proofs.Pace.{IsLate, rests_late, tick_late, recorded_more}

-- the wait that a journal tells is the one at which a view waits
pub record WaitsAt (i : ℕ) (v : View) (journal : List Entry) : Type 0 where
  pub on : WaitOn
  pub access : access_of (request_at v) ≡ Some on
  pub entry : wait_recorded i journal ≡ Some on

-- where the cores of `done` have ticked in cycle c
pub record Pace (order : ℕ → List ℕ) (rows : List LinkRow) (first : View) (i c : ℕ) (done : List ℕ) (journal : List Entry) (s : CoreAt) (hopes : Hopes) : Type 0 where
  pub ticks : s.ticks ≡ ticks_below order i c + as_one (has i done)
  pub slack : s.slack < 64
  pub bound : Gone s.view hopes ⊎ (s.ticks + s.slack ≤ 64 * s.acts + 63 + rests_below order rows first i journal c + as_one (has i done && is_rest order rows first i c journal))
  pub asleep : s.view.arch.asleep ≡ true → asleep_recorded first i journal ≡ true
  pub stopped : is_some s.view.arch.stopped ≡ true → stopped_recorded first i journal ≡ true
  pub within : (act : ℕ) → logged_wait i journal ≡ Some act → act ≤ s.acts
  pub kept : logged_wait i journal ≡ Some s.acts → WaitsAt i s.view journal

pub kept_more : (i : ℕ) (journal : List Entry) (e : Entry) → logged_wait i (journal ++ e ∷ []) ≡ kept_after i (logged_wait i journal) e
unfolding logged_wait
kept_more i journal e = fold-append (kept_after i) None journal (e ∷ [])

-- an entry that says nothing of core i
pub record IsOther (i : ℕ) (e : Entry) : Type 0 where
  pub asleep : (b : Bool) → cond (e.core == i) (asleep_by b e.what) b ≡ b
  pub stopped : (b : Bool) → cond (e.core == i) (stopped_by b e.what) b ≡ b
  pub kept : (o : Option WaitOn) → cond (e.core == i) (kept_by o e.what) o ≡ o
  pub wait : (o : Option ℕ) → kept_after i o e ≡ o

pub other_core : (i : ℕ) (e : Entry) → (e.core ≡ i → ⊥) → IsOther i e
other_core i e n = record {
  asleep = λ b. rw (ne_eqb e.core i n) refl;
  stopped = λ b. rw (ne_eqb e.core i n) refl;
  kept = λ o. rw (ne_eqb e.core i n) refl;
  wait = λ o. rw (ne_eqb e.core i n) refl;
}

same_either : {X : Type 0} (t : Bool) (x y : X) → x ≡ y → cond t x y ≡ y
same_either true x y e = e
same_either false x y e = refl

pub no_wait : (i : ℕ) (e : Entry) (o : Option ℕ) (t : Bool) → e.core == i ≡ t → is_wait e.what ≡ false → kept_after i o e ≡ o
no_wait i e o true t h = rw (t, h) refl
no_wait i e o false t h = rw t refl

-- what tells nothing of sleep, stop and waits
record SaysNone (what : What) : Type 0 where
  asleep : (b : Bool) → asleep_by b what ≡ b
  stopped : (b : Bool) → stopped_by b what ≡ b
  kept : (o : Option WaitOn) → kept_by o what ≡ o
  wait : is_wait what ≡ false

off_ticks : (what : What) → by_tick what ≡ false → SaysNone what
off_ticks LineUp h = record { asleep = λ b. refl; stopped = λ b. refl; kept = λ o. refl; wait = refl }
off_ticks LineDown h = record { asleep = λ b. refl; stopped = λ b. refl; kept = λ o. refl; wait = refl }
off_ticks (HostSent link item) h = record { asleep = λ b. refl; stopped = λ b. refl; kept = λ o. refl; wait = refl }
off_ticks (HostGot link item) h = record { asleep = λ b. refl; stopped = λ b. refl; kept = λ o. refl; wait = refl }
off_ticks (Left uart byte) h = record { asleep = λ b. refl; stopped = λ b. refl; kept = λ o. refl; wait = refl }
off_ticks _ h = cc

pub no_tick : (i : ℕ) (e : Entry) → by_tick e.what ≡ false → IsOther i e
no_tick i e h =
    let s = off_ticks e.what h in
    record {
      asleep = λ b. same_either (e.core == i) _ _ (s.asleep b);
      stopped = λ b. same_either (e.core == i) _ _ (s.stopped b);
      kept = λ o. same_either (e.core == i) _ _ (s.kept o);
      wait = λ o. no_wait i e o (e.core == i) refl s.wait;
    }

once_late : (order : ℕ → List ℕ) (rows : List LinkRow) (first : View) (i c : ℕ) (journal : List Entry) (e : Entry) (t : Bool) → (t ≡ true → IsLate order i c e) → as_one (t && is_rest order rows first i c (journal ++ e ∷ [])) ≡ as_one (t && is_rest order rows first i c journal)
once_late order rows first i c journal e false l = refl
once_late order rows first i c journal e true l = ap as_one (tick_late order rows first i c journal e (l refl))

pub other_pace : (order : ℕ → List ℕ) (rows : List LinkRow) (first : View) (i c : ℕ) (done : List ℕ) (journal : List Entry) (s : CoreAt) (hopes : Hopes) (e : Entry) → c ≤ e.cycle → IsOther i e → (has i done ≡ true → IsLate order i c e)
    → Pace order rows first i c done journal s hopes → Pace order rows first i c done (journal ++ e ∷ []) s hopes
other_pace order rows first i c done journal s hopes e le o l p =
    let r = rests_late order rows first i c journal e le in
    let t = once_late order rows first i c journal e (has i done) l in
    let k = kept_more i journal e ∙ o.wait (logged_wait i journal) in
    record {
      ticks = p.ticks;
      slack = p.slack;
      bound = elim p.bound [ inl g ↦ inl g | inr b ↦ inr (rw (r, t) b) ];
      asleep = λ a. recorded_more asleep_by i first.arch.asleep journal e ∙ o.asleep (asleep_recorded first i journal) ∙ p.asleep a;
      stopped = λ a. recorded_more stopped_by i (is_some first.arch.stopped) journal e ∙ o.stopped (stopped_recorded first i journal) ∙ p.stopped a;
      within = λ act q. p.within act (sym k ∙ q);
      kept = λ q.
          let w = p.kept (sym k ∙ q) in
          record { on = w.on; access = w.access; entry = recorded_more kept_by i None journal e ∙ o.kept (wait_recorded i journal) ∙ w.entry };
    }
