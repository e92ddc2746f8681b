-- What a core's own tick leaves of its pace.
use Rattle.std.proofs.Common.{◌≡◌, ℕ, ◌+◌, ◌*◌, ◌<◌, ◌≤◌, ◌&&◌, ◌||◌, List, [], ◌∷◌, ◌++◌, length, map, Option, Some, None, refl, ap, sym, ◌∙◌, subst, inl, inr, ◌⊎◌, arith, slice_get, Bool, true, false, cond, add-one, option_to_list}
use Rattle.std.specs.List.{AllByRecursion}
use Rattle.std.specs.Option.{is_some}
use Rattle.std.proofs.lemmas.List.{append-nil, append_assoc, map-append}
use Rattle.std.proofs.lemmas.Bool.{eq-eqb}
use Rattle.std.proofs.lemmas.Option.{same_Some}
use Rattle.core_regs.specs.declared.causes.StopCause.{StopCause}
use Rattle.core_regs.specs.declared.causes.WaitOn.{WaitOn}
use Rattle.isa_step.specs.declared.acts.Hopes.{Hopes}
use Rattle.isa_step.specs.Effects.{View}
use Rattle.board_file.specs.declared.board.LinkRow.{LinkRow}
use Rattle.run_journal.specs.declared.entry.Entry.{Entry}
use Rattle.run_journal.specs.declared.entry.What.{What}
use Rattle.run_journal.specs.declared.entry.What.TheVariants.{Slept, Stopped, Wait}
use Rattle.board_machine.specs.Fabric.{entry_of, logged_wait}
use Rattle.board_machine.specs.World.{CoreAt}
use Rattle.machine_laws.specs.Holding.{request_at}
use Rattle.journal_laws.specs.LinkLaw.{IsShut}
use Rattle.journal_laws.specs.Progress.{ProgressBound, as_one, asleep_by, asleep_recorded, before_tick, by_tick, comes_before, has, is_own, is_rest, is_shut, kept_by, rests_below, rests_in, stopped_by, stopped_recorded, through_tick, ticks_below, wait_recorded, waits_still}
use Rattle.journal_laws.proofs.Lists.{cons_append, filter_more, filter_skips}
use Rattle.journal_laws.proofs.Outcomes.{Gone, access_of}
use Rattle.journal_laws.proofs.Pace.{all_imply, all_more, filter_all, has_end, has_mid, is_past, law_more, own_is, own_not_before, past_before, past_entry, rests_late, tick_entry_late, recorded_more}
use Rattle.journal_laws.proofs.Paces.{Pace, WaitsAt, kept_more, other_core, other_pace}
use Rattle.journal_laws.proofs.Truths.{and_yes, or_left, or_right}

-- where a core stands before its tick
pub record AtTick (order : ℕ → List ℕ) (i c : ℕ) (done rest : List ℕ) (journal : List Entry) : Type 0 where
  pub cut : order c ≡ done ++ i ∷ rest
  pub fresh : has i done ≡ false
  pub past : AllByRecursion (λ e. is_past c done e ≡ true) journal

before_whole : (order : ℕ → List ℕ) (i c : ℕ) (done rest : List ℕ) (journal : List Entry) → AtTick order i c done rest journal → before_tick order i c journal ≡ journal
before_whole order i c done rest journal t = filter_all (comes_before order i c) journal (all_imply (is_past c done) (comes_before order i c) journal (λ e. past_before order c done rest i e t.cut t.fresh) t.past)

through_whole : (order : ℕ → List ℕ) (i c : ℕ) (done rest : List ℕ) (journal : List Entry) → AtTick order i c done rest journal → through_tick order i c journal ≡ journal
through_whole order i c done rest journal t = filter_all (λ e. comes_before order i c e || is_own i c e) journal (all_imply (is_past c done) (λ e. comes_before order i c e || is_own i c e) journal (λ e p. or_left (comes_before order i c e) (is_own i c e) (past_before order c done rest i e t.cut t.fresh p)) t.past)

-- a tick without an entry rests by the journal before it
rest_by : (order : ℕ → List ℕ) (rows : List LinkRow) (first : View) (i c : ℕ) (done rest : List ℕ) (journal : List Entry) → AtTick order i c done rest journal → rests_in rows first i journal journal ≡ true → is_rest order rows first i c journal ≡ true
rest_by order rows first i c done rest journal t r =
    ap (λ (b : List Entry). rests_in rows first i b (through_tick order i c journal)) (before_whole order i c done rest journal t)
    ∙ ap (rests_in rows first i journal) (through_whole order i c done rest journal t) ∙ r

-- a tick that enters its wait rests by it
own_rest : (order : ℕ → List ℕ) (rows : List LinkRow) (first : View) (i c act : ℕ) (done rest : List ℕ) (journal : List Entry) (on : WaitOn) → AtTick order i c done rest journal → rests_in rows first i journal (journal ++ entry_of c i act (Wait on) ∷ []) ≡ true → is_rest order rows first i c (journal ++ entry_of c i act (Wait on) ∷ []) ≡ true
own_rest order rows first i c act done rest journal on t r =
    let e : Entry = entry_of c i act (Wait on) in
    ap (λ (b : List Entry). rests_in rows first i b (through_tick order i c (journal ++ e ∷ []))) (filter_skips (comes_before order i c) journal e (own_not_before order i c e refl refl refl) ∙ before_whole order i c done rest journal t)
    ∙ ap (rests_in rows first i journal) (filter_more (λ e. comes_before order i c e || is_own i c e) journal e true (or_right (comes_before order i c e) (is_own i c e) (own_is i c e refl refl refl)) ∙ ap (λ xs. xs ++ e ∷ []) (through_whole order i c done rest journal t)) ∙ r

-- why a tick rests

pub asleep_rests : (rows : List LinkRow) (first : View) (i : ℕ) (journal : List Entry) → asleep_recorded first i journal ≡ true → rests_in rows first i journal journal ≡ true
asleep_rests rows first i journal h = or_left (asleep_recorded first i journal && asleep_recorded first i journal) (stopped_recorded first i journal || waits_still rows journal i (wait_recorded i journal)) (and_yes _ _ h h)

pub stopped_rests : (rows : List LinkRow) (first : View) (i : ℕ) (journal : List Entry) → stopped_recorded first i journal ≡ true → rests_in rows first i journal journal ≡ true
stopped_rests rows first i journal h = or_right (asleep_recorded first i journal && asleep_recorded first i journal) (stopped_recorded first i journal || waits_still rows journal i (wait_recorded i journal)) (or_left _ (waits_still rows journal i (wait_recorded i journal)) h)

waits_rest : (rows : List LinkRow) (first : View) (i : ℕ) (before through : List Entry) (on : WaitOn) → wait_recorded i through ≡ Some on → is_shut rows before i on.port on.full ≡ true → rests_in rows first i before through ≡ true
waits_rest rows first i before through on k h =
    or_right (asleep_recorded first i before && asleep_recorded first i through) (stopped_recorded first i before || waits_still rows before i (wait_recorded i through))
    (or_right (stopped_recorded first i before) (waits_still rows before i (wait_recorded i through)) (ap (waits_still rows before i) k ∙ h))

pub shut_is : (rows : List LinkRow) (journal : List Entry) (i port : ℕ) (full : Bool) → IsShut rows journal i port full → is_shut rows journal i port full ≡ true
shut_is rows journal i port true h = eq-eqb _ _ h
shut_is rows journal i port false h = eq-eqb _ _ (ap length h)

-- a tick in a wait that is kept
pub kept_rests : (rows : List LinkRow) (first : View) (i : ℕ) (journal : List Entry) (v : View) (on : WaitOn) → WaitsAt i v journal → access_of (request_at v) ≡ Some on → is_shut rows journal i on.port on.full ≡ true → rests_in rows first i journal journal ≡ true
kept_rests rows first i journal v on k b h =
    let same : k.on ≡ on = same_Some _ _ (sym k.access ∙ b) in
    waits_rest rows first i journal journal on (k.entry ∙ ap Some same) h

-- the count

bound_now : (order : ℕ → List ℕ) (rows : List LinkRow) (first : View) (i c : ℕ) (done : List ℕ) (journal : List Entry) (s : CoreAt) → has i done ≡ false
    → s.ticks + s.slack ≤ 64 * s.acts + 63 + rests_below order rows first i journal c + as_one (has i done && is_rest order rows first i c journal) → s.ticks + s.slack ≤ 64 * s.acts + 63 + rests_below order rows first i journal c
bound_now order rows first i c done journal s f b =
    let z : as_one (has i done && is_rest order rows first i c journal) ≡ 0 = ap (λ t. as_one (t && is_rest order rows first i c journal)) f in
    omega (arith, b, z)

ticks_now : (order : ℕ → List ℕ) (i c : ℕ) (done : List ℕ) (old new : CoreAt) → has i done ≡ false → new.ticks ≡ old.ticks + 1 → old.ticks ≡ ticks_below order i c + as_one (has i done) → new.ticks ≡ ticks_below order i c + as_one (has i (done ++ i ∷ []))
ticks_now order i c done old new f n o =
    let a : as_one (has i done) ≡ 0 = ap as_one f in
    let b : as_one (has i (done ++ i ∷ [])) ≡ 1 = ap as_one (has_end done i) in
    omega (arith, n, o, a, b)

-- what stays of a core that did no act
pub record Rested (old new : CoreAt) : Type 0 where
  pub view : new.view ≡ old.view
  pub acts : new.acts ≡ old.acts
  pub ticks : new.ticks ≡ old.ticks + 1

waits_same : (i : ℕ) (old new : View) (journal : List Entry) → new ≡ old → WaitsAt i old journal → WaitsAt i new journal
waits_same i old new journal e w = subst (λ v. WaitsAt i v journal) (sym e) w

-- a tick of filling
pub fill_pace : (order : ℕ → List ℕ) (rows : List LinkRow) (first : View) (i c : ℕ) (done rest : List ℕ) (journal : List Entry) (s n : CoreAt) (hopes : Hopes) → AtTick order i c done rest journal → Rested s n → n.slack < s.slack
    → Pace order rows first i c done journal s hopes → Pace order rows first i c (done ++ i ∷ []) journal n hopes
fill_pace order rows first i c done rest journal s n hopes t r l p = record {
  ticks = ticks_now order i c done s n t.fresh r.ticks p.ticks;
  slack = (let a = p.slack in omega (arith, a, l));
  bound = elim p.bound [
    | inl g ↦ inl (subst (λ v. Gone v hopes) (sym r.view) g)
    | inr b ↦ inr (let x = bound_now order rows first i c done journal s t.fresh b in let y = r.ticks in let z = r.acts in omega (arith, x, y, z, l))
  ];
  asleep = λ a. p.asleep (ap (λ (v : View). v.arch.asleep) (sym r.view) ∙ a);
  stopped = λ a. p.stopped (ap (λ (v : View). is_some v.arch.stopped) (sym r.view) ∙ a);
  within = λ act q. (let z = r.acts in let m = p.within act q in omega (arith, m, z));
  kept = λ q. waits_same i s.view n.view journal r.view (p.kept (q ∙ ap Some r.acts));
}

-- a tick that rests without an entry
pub idle_pace : (order : ℕ → List ℕ) (rows : List LinkRow) (first : View) (i c : ℕ) (done rest : List ℕ) (journal : List Entry) (s n : CoreAt) (hopes : Hopes) → AtTick order i c done rest journal → Rested s n → n.slack ≡ s.slack
    → Gone s.view hopes ⊎ (rests_in rows first i journal journal ≡ true) → Pace order rows first i c done journal s hopes → Pace order rows first i c (done ++ i ∷ []) journal n hopes
idle_pace order rows first i c done rest journal s n hopes t r l w p = record {
  ticks = ticks_now order i c done s n t.fresh r.ticks p.ticks;
  slack = (let a = p.slack in omega (arith, a, l));
  bound = elim p.bound [
    | inl g ↦ inl (subst (λ v. Gone v hopes) (sym r.view) g)
    | inr b ↦ elim w [
      | inl g ↦ inl (subst (λ v. Gone v hopes) (sym r.view) g)
      | inr q ↦ inr (
          let x = bound_now order rows first i c done journal s t.fresh b in
          let one : as_one (has i (done ++ i ∷ []) && is_rest order rows first i c journal) ≡ 1 = ap as_one (and_yes _ _ (has_end done i) (rest_by order rows first i c done rest journal t q)) in
          let y = r.ticks in let z = r.acts in omega (arith, x, y, z, l, one))
    ]
  ];
  asleep = λ a. p.asleep (ap (λ (v : View). v.arch.asleep) (sym r.view) ∙ a);
  stopped = λ a. p.stopped (ap (λ (v : View). is_some v.arch.stopped) (sym r.view) ∙ a);
  within = λ act q. (let z = r.acts in let m = p.within act q in omega (arith, m, z));
  kept = λ q. waits_same i s.view n.view journal r.view (p.kept (q ∙ ap Some r.acts));
}

-- a tick that enters its wait
pub wait_pace : (order : ℕ → List ℕ) (rows : List LinkRow) (first : View) (i c : ℕ) (done rest : List ℕ) (journal : List Entry) (s n : CoreAt) (hopes : Hopes) (on : WaitOn) → AtTick order i c done rest journal → Rested s n → n.slack ≡ s.slack → (Gone s.view hopes → ⊥)
    → access_of (request_at s.view) ≡ Some on → is_shut rows journal i on.port on.full ≡ true → Pace order rows first i c done journal s hopes → Pace order rows first i c (done ++ i ∷ []) (journal ++ entry_of c i s.acts (Wait on) ∷ []) n hopes
wait_pace order rows first i c done rest journal s n hopes on t r l never b q p =
    let e : Entry = entry_of c i s.acts (Wait on) in
    let same = eq-eqb i i refl in
    let kept : wait_recorded i (journal ++ e ∷ []) ≡ Some on = recorded_more kept_by i None journal e ∙ ap (λ t. cond t (Some on) (wait_recorded i journal)) same in
    let a : asleep_recorded first i (journal ++ e ∷ []) ≡ asleep_recorded first i journal = recorded_more asleep_by i first.arch.asleep journal e ∙ ap (λ t. cond t (asleep_recorded first i journal) (asleep_recorded first i journal)) same in
    let d : stopped_recorded first i (journal ++ e ∷ []) ≡ stopped_recorded first i journal = recorded_more stopped_by i (is_some first.arch.stopped) journal e ∙ ap (λ t. cond t (stopped_recorded first i journal) (stopped_recorded first i journal)) same in
    let last : logged_wait i (journal ++ e ∷ []) ≡ Some s.acts = kept_more i journal e ∙ ap (λ t. cond (t && true) (Some s.acts) (logged_wait i journal)) same in
    record {
      ticks = ticks_now order i c done s n t.fresh r.ticks p.ticks;
      slack = (let x = p.slack in omega (arith, x, l));
      bound = elim p.bound [
        | inl x ↦ absurd (never x)
        | inr x ↦ inr (
            let y = bound_now order rows first i c done journal s t.fresh x in
            let one : as_one (has i (done ++ i ∷ []) && is_rest order rows first i c (journal ++ e ∷ [])) ≡ 1 = ap as_one (and_yes _ _ (has_end done i) (own_rest order rows first i c s.acts done rest journal on t (waits_rest rows first i journal (journal ++ e ∷ []) on kept q))) in
            let z = r.ticks in let u = r.acts in
            let m = rests_late order rows first i c journal e (omega arith) in
            omega (arith, y, z, u, l, one, m))
      ];
      asleep = λ x. a ∙ p.asleep (ap (λ (v : View). v.arch.asleep) (sym r.view) ∙ x);
      stopped = λ x. d ∙ p.stopped (ap (λ (v : View). is_some v.arch.stopped) (sym r.view) ∙ x);
      within = λ act x. (let y : s.acts ≡ act = same_Some _ _ (sym last ∙ x) in let u = r.acts in omega (arith, y, u));
      kept = λ x. record { on = on; access = ap (λ (v : View). access_of (request_at v)) r.view ∙ b; entry = kept };
    }

-- entries of one tick

abbrev pub made : ℕ → ℕ → ℕ → List What → List Entry
made cycle core act = map (entry_of cycle core act)

rests_list : (order : ℕ → List ℕ) (rows : List LinkRow) (first : View) (k c : ℕ) (journal : List Entry) (i act : ℕ) (es : List What) → rests_below order rows first k (journal ++ made c i act es) c ≡ rests_below order rows first k journal c
rests_list order rows first k c journal i act [] = ap (λ j. rests_below order rows first k j c) (append-nil journal)
rests_list order rows first k c journal i act (a ∷ es) =
    ap (λ j. rests_below order rows first k j c) (sym (cons_append journal (made c i act es) (entry_of c i act a)))
    ∙ rests_list order rows first k c (journal ++ entry_of c i act a ∷ []) i act es
    ∙ rests_late order rows first k c journal (entry_of c i act a) (omega arith)

-- an act, whose last entry says that the core sleeps or stops where it does
pub record Acted (old new : CoreAt) (last : Option What) : Type 0 where
  pub acts : new.acts ≡ old.acts + 1
  pub ticks : new.ticks ≡ old.ticks + 1
  pub slack : new.slack < 64
  pub asleep : new.view.arch.asleep ≡ true → last ≡ Some Slept
  pub stopped : is_some new.view.arch.stopped ≡ true → (cause : StopCause) × (last ≡ Some (Stopped cause))

-- the last entry of an act stands at the end
at_end : (c i act : ℕ) (journal : List Entry) (es : List What) (what : What) → journal ++ made c i act (es ++ what ∷ []) ≡ (journal ++ made c i act es) ++ entry_of c i act what ∷ []
at_end c i act journal es what =
    ap (λ ds. journal ++ ds) (map-append (entry_of c i act) es (what ∷ []))
    ∙ sym (append_assoc journal (made c i act es) (entry_of c i act what ∷ []))

sleep_recorded : (first : View) (c i act : ℕ) (journal : List Entry) (es : List What) (last : Option What) → last ≡ Some Slept → asleep_recorded first i (journal ++ made c i act (es ++ option_to_list last)) ≡ true
sleep_recorded first c i act journal es last q =
    ap (λ (o : Option What). asleep_recorded first i (journal ++ made c i act (es ++ option_to_list o))) q
    ∙ ap (asleep_recorded first i) (at_end c i act journal es Slept)
    ∙ recorded_more asleep_by i first.arch.asleep (journal ++ made c i act es) (entry_of c i act Slept)
    ∙ ap (λ t. cond t true (asleep_recorded first i (journal ++ made c i act es))) (eq-eqb i i refl)

stop_recorded : (first : View) (c i act : ℕ) (journal : List Entry) (es : List What) (last : Option What) (cause : StopCause) → last ≡ Some (Stopped cause) → stopped_recorded first i (journal ++ made c i act (es ++ option_to_list last)) ≡ true
stop_recorded first c i act journal es last cause q =
    ap (λ (o : Option What). stopped_recorded first i (journal ++ made c i act (es ++ option_to_list o))) q
    ∙ ap (stopped_recorded first i) (at_end c i act journal es (Stopped cause))
    ∙ recorded_more stopped_by i (is_some first.arch.stopped) (journal ++ made c i act es) (entry_of c i act (Stopped cause))
    ∙ ap (λ t. cond t true (stopped_recorded first i (journal ++ made c i act es))) (eq-eqb i i refl)

pub act_pace : (order : ℕ → List ℕ) (rows : List LinkRow) (first : View) (i c : ℕ) (done rest : List ℕ) (journal : List Entry) (s n : CoreAt) (hopes later : Hopes) (es : List What) (last : Option What) → AtTick order i c done rest journal → Acted s n last → (Gone s.view hopes → ⊥)
    → logged_wait i (journal ++ made c i s.acts (es ++ option_to_list last)) ≡ logged_wait i journal → Pace order rows first i c done journal s hopes → Pace order rows first i c (done ++ i ∷ []) (journal ++ made c i s.acts (es ++ option_to_list last)) n later
act_pace order rows first i c done rest journal s n hopes later es last t r never k p = record {
  ticks = ticks_now order i c done s n t.fresh r.ticks p.ticks;
  slack = r.slack;
  bound = elim p.bound [
    | inl x ↦ absurd (never x)
    | inr x ↦ inr (
        let y = bound_now order rows first i c done journal s t.fresh x in
        let m = rests_list order rows first i c journal i s.acts (es ++ option_to_list last) in
        let a = r.acts in let b = r.ticks in let d = r.slack in
        omega (arith, y, m, a, b, d))
  ];
  asleep = λ x. sleep_recorded first c i s.acts journal es last (r.asleep x);
  stopped = λ x. (let h = r.stopped x in stop_recorded first c i s.acts journal es last h.0 h.1);
  within = λ act q. (let m = p.within act (sym k ∙ q) in let a = r.acts in omega (arith, m, a));
  kept = λ q. absurd (let m = p.within n.acts (sym k ∙ q) in let a = r.acts in omega (arith, m, a));
}

-- the bound at an entry of a tick
pub entry_bound : (order : ℕ → List ℕ) (rows : List LinkRow) (first : View) (i c : ℕ) (done rest : List ℕ) (journal : List Entry) (s : CoreAt) (hopes : Hopes) → AtTick order i c done rest journal → (Gone s.view hopes → ⊥)
    → Pace order rows first i c done journal s hopes → ticks_below order i (c + 1) ≤ 64 * (s.acts + 1) + rests_below order rows first i journal c
entry_bound order rows first i c done rest journal s hopes t never p =
    elim p.bound [
      | inl x ↦ absurd (never x)
      | inr x ↦
          let y = bound_now order rows first i c done journal s t.fresh x in
          let z : as_one (has i done) ≡ 0 = ap as_one t.fresh in
          let u : as_one (has i (order c)) ≡ 1 = ap (λ (xs : List ℕ). as_one (has i xs)) t.cut ∙ ap as_one (has_mid done rest i) in
          let k = p.ticks in
          subst (λ n. ticks_below order i n ≤ 64 * (s.acts + 1) + rests_below order rows first i journal c) (sym (add-one c)) (omega (arith, y, z, u, k))
    ]

-- the entries of a tick, for the other cores, for the law and for what is past

abbrev pub AllTick : List What → Type 0
AllTick es = AllByRecursion (λ what. by_tick what ≡ true) es

pub others_pace : (order : ℕ → List ℕ) (rows : List LinkRow) (first : View) (k c : ℕ) (done rest : List ℕ) (journal : List Entry) (s : CoreAt) (hopes : Hopes) (i act : ℕ) (es : List What) → order c ≡ done ++ i ∷ rest → has i done ≡ false → (i ≡ k → ⊥) → AllTick es
    → Pace order rows first k c done journal s hopes → Pace order rows first k c done (journal ++ made c i act es) s hopes
others_pace order rows first k c done rest journal s hopes i act [] o f n t p = subst (λ j. Pace order rows first k c done j s hopes) (sym (append-nil journal)) p
others_pace order rows first k c done rest journal s hopes i act (a ∷ es) o f n t p =
    let e : Entry = entry_of c i act a in
    subst (λ j. Pace order rows first k c done j s hopes) (cons_append journal (made c i act es) e)
    (others_pace order rows first k c done rest (journal ++ e ∷ []) s hopes i act es o f n t.1
    (other_pace order rows first k c done journal s hopes e (omega arith) (other_core k e n) (tick_entry_late order c done rest i k e o refl refl t.0 n f) p))

pub past_list : (c i act : ℕ) (done : List ℕ) (journal : List Entry) (es : List What) → AllByRecursion (λ e. is_past c (done ++ i ∷ []) e ≡ true) journal → AllByRecursion (λ e. is_past c (done ++ i ∷ []) e ≡ true) (journal ++ made c i act es)
past_list c i act done journal [] p = subst (AllByRecursion (λ e. is_past c (done ++ i ∷ []) e ≡ true)) (sym (append-nil journal)) p
past_list c i act done journal (a ∷ es) p =
    subst (AllByRecursion (λ e. is_past c (done ++ i ∷ []) e ≡ true)) (cons_append journal (made c i act es) (entry_of c i act a))
    (past_list c i act done (journal ++ entry_of c i act a ∷ []) es (all_more (is_past c (done ++ i ∷ [])) journal (entry_of c i act a) p (past_entry c (done ++ i ∷ []) (entry_of c i act a) refl (inr (has_end done i)))))

pub law_list : (order : ℕ → List ℕ) (rows : List LinkRow) (views : List View) (c i act : ℕ) (done : List ℕ) (journal : List Entry) (es : List What) → AllByRecursion (λ e. is_past c (done ++ i ∷ []) e ≡ true) journal
    → ((first : View) → slice_get views i ≡ Some first → ticks_below order i (c + 1) ≤ 64 * (act + 1) + rests_below order rows first i journal c) → ProgressBound order rows views journal → ProgressBound order rows views (journal ++ made c i act es)
law_list order rows views c i act done journal [] past b law = subst (ProgressBound order rows views) (sym (append-nil journal)) law
law_list order rows views c i act done journal (a ∷ es) past b law =
    let e : Entry = entry_of c i act a in
    subst (ProgressBound order rows views) (cons_append journal (made c i act es) e)
    (law_list order rows views c i act done (journal ++ e ∷ []) es (all_more (is_past c (done ++ i ∷ [])) journal e past (past_entry c (done ++ i ∷ []) e refl (inr (has_end done i))))
    (λ first v. subst (λ n. ticks_below order i (c + 1) ≤ 64 * (act + 1) + n) (sym (rests_late order rows first i c journal e (omega arith))) (b first v))
    (law_more order rows views c (done ++ i ∷ []) journal e past refl (λ first t v. b first v) law))
