-- A tick passes no break over, and leaves each that has come pending or taken.
use Rattle.std.proofs.Common.{◌≡◌, ℕ, ◌+◌, ◌==◌, ◌&&◌, not, List, [], ◌∷◌, ◌++◌, Option, Some, None, refl, ap, sym, ◌∙◌, subst, inl, inr, arith, slice_get, Bool, true, false, cond, nat_lt, option_to_list}
use Rattle.std.specs.List.{AllByRecursion}
use Rattle.std.proofs.lemmas.List.{append-nil}
use Rattle.std.proofs.lemmas.List.Folds.{list_any-append}
use Rattle.std.proofs.lemmas.Bool.{eq-eqb, lt-ltb}
use Rattle.core_regs.specs.declared.causes.StopCause.{StopCause}
use Rattle.core_regs.specs.declared.causes.Take.{Take}
use Rattle.core_regs.specs.declared.causes.WaitOn.{WaitOn}
use Rattle.core_regs.specs.declared.registers.Arch.{Arch}
use Rattle.core_regs.specs.State.{bare}
use Rattle.isa_step.specs.declared.acts.Breaks.{Breaks}
use Rattle.isa_step.specs.Shown.{Shown}
use Rattle.isa_step.specs.Effects.{View, Effect, Due, Does, Waits, Sleeps, Ends, Stops}
use Rattle.isa_step.specs.Due.{due, due_by, due_with, here_of, is_masked, pick, take_by, take_due}
use Rattle.isa_step.specs.Requests.{operands_of}
use Rattle.board_file.specs.declared.board.EventRow.{EventRow}
use Rattle.run_journal.specs.declared.entry.Entry.{Entry}
use Rattle.run_journal.specs.declared.entry.What.{What}
use Rattle.run_journal.specs.declared.entry.What.TheVariants.{Took, Wait}
use Rattle.board_machine.specs.Fabric.{Fabric, act_leaves, entered, entered_some, entries_of_action, entry_of, entry_of_act, is_break, is_logged, shown}
use Rattle.board_machine.specs.History.{may_take_at, view_told}
use Rattle.board_machine.specs.World.{CoreAt, IsAct, TickMay}
use Rattle.journal_laws.specs.BreakLaw.{BreakLaw, PassesNone, goes_first, lets_in, takes_it, was_taken}
use Rattle.journal_laws.specs.Progress.{by_tick}
use Rattle.journal_laws.specs.TakeLaw.{may_break, takes_break}
use Rattle.journal_laws.proofs.ActEntries.{TickOut, act_out, effect_whats, some_out, still_out}
use Rattle.journal_laws.proofs.Asking.{act_splits}
use Rattle.journal_laws.proofs.Breaks.{IsServed, Serves, all_map, serves_later, taken_later}
use Rattle.journal_laws.proofs.Lists.{cons_append, split_at_more}
use Rattle.journal_laws.proofs.PaceTicks.{made}
use Rattle.journal_laws.proofs.TakeActs.{IsPlainIf, act_plain, actions_plain, flag_taken, own_tapes}
use Rattle.journal_laws.proofs.Takes.{determined_same, flag_at, flag_of}
use Rattle.journal_laws.proofs.Truths.{and_both, and_yes, or_left, or_right}

-- a break that is pending and let in is taken, but for a take that goes first

first_of : Bool → Option Take → Bool
first_of kind None = false
first_of kind (Some t) = goes_first kind (Took t)

no_nonmaskable : (n m i : Bool) (o : Option Take) → pick n m i ≡ o → first_of true o ≡ false → n ≡ false
unfolding first_of
no_nonmaskable true m i o e f = let z : true ≡ false = ap (first_of true) e ∙ f in cc
no_nonmaskable false m i o e f = refl

no_maskable : (n m i : Bool) (o : Option Take) → pick n m i ≡ o → first_of false o ≡ false → m ≡ false
unfolding first_of
no_maskable true m i o e f = let z : true ≡ false = ap (first_of false) e ∙ f in cc
no_maskable false true i o e f = let z : true ≡ false = ap (first_of false) e ∙ f in cc
no_maskable false false i o e f = refl

falls_left : (a b : Bool) → a && b ≡ false → b ≡ true → a ≡ false
falls_left false b e f = refl
falls_left true b e f = let z : true ≡ false = sym f ∙ e in cc

none_flagged_by : (a : Arch) (s : Shown) (may : Bool) (o : Option Take) (kind : Bool) → take_by a s may ≡ o → first_of kind o ≡ false → cond kind may (may && not (is_masked a)) ≡ true → flag_of kind s.breaks ≡ false
unfolding flag_of
none_flagged_by a s false o true e f l = cc
none_flagged_by a s false o false e f l = cc
none_flagged_by a s true o true e f l = no_nonmaskable _ _ _ o e f
none_flagged_by a s true o false e f l = falls_left s.breaks.maskable (not (is_masked a)) (no_maskable _ _ _ o e f) l

lets : (kind : Bool) (v : View) → lets_in kind v ≡ true → cond kind (may_take_at v) (may_break v) ≡ true
lets true v l = l
lets false v l = l

none_flagged : (v : View) (s : Shown) (o : Option Take) (kind : Bool) → take_due (here_of v) (bare v.arch) s ≡ o → first_of kind o ≡ false → lets_in kind v ≡ true → flag_of kind s.breaks ≡ false
unfolding take_due
none_flagged v s o kind e f l = none_flagged_by (bare v.arch) s (may_take_at v) o kind e f (lets kind v l)

-- what the outcome shows of breaks, whatever entry it makes
record IsFree (v : View) (s : Shown) (what : What) : Type 0 where
  none : (kind : Bool) → lets_in kind v ≡ true → goes_first kind what ≡ false → flag_of kind s.breaks ≡ false

untaken_free : (v : View) (s : Shown) (what : What) → take_due (here_of v) (bare v.arch) s ≡ None → IsFree v s what
unfolding first_of
untaken_free v s what e = record { none = λ kind l g. none_flagged v s None kind e refl l }

all_free : (v : View) (s : Shown) (es : List What) → take_due (here_of v) (bare v.arch) s ≡ None → AllByRecursion (IsFree v s) es
all_free v s [] e = tt
all_free v s (what ∷ es) e = (untaken_free v s what e, all_free v s es e)

take_free : (v : View) (s : Shown) (t : Take) → take_due (here_of v) (bare v.arch) s ≡ Some t → IsFree v s (Took t)
unfolding first_of
take_free v s t e = record { none = λ kind l g. none_flagged v s (Some t) kind e g l }

effect_free : (v : View) (s : Shown) (d : Effect) → due v s ≡ Does d → AllByRecursion (IsFree v s) (effect_whats d)
unfolding effect_whats
effect_free v s d e = elim (act_splits v s d e) [
  | inl t ↦ subst (λ (d : Effect). AllByRecursion (IsFree v s) (option_to_list (entries_of_action d.action) ++ option_to_list (entry_of_act d.done.act))) (sym t.is) (take_free v s t.take t.due, tt)
  | inr i ↦ all_free v s (effect_whats d) i.due
]

waits_untaken_by : (v : View) (s : Shown) (t : Option Take) (c : Option StopCause) (port : ℕ) (full : Bool) → due_by (here_of v) (operands_of (here_of v) v.arch.regs) (bare v.arch) v.memory s t c ≡ Waits port full → t ≡ None
waits_untaken_by v s t (Some cause) port full e = cc
waits_untaken_by v s (Some t) None port full e = cc
waits_untaken_by v s None None port full e = refl

waits_untaken : (v : View) (s : Shown) (port : ℕ) (full : Bool) → due v s ≡ Waits port full → take_due (here_of v) (bare v.arch) s ≡ None
unfolding due_with
waits_untaken v s port full e = waits_untaken_by v s (take_due (here_of v) (bare v.arch) s) v.arch.stopped port full e

-- the law goes on with the entries of a tick

passes_at : (breaks : List EventRow) (first v : View) (i act : ℕ) (f : Fabric) (what : What) → view_told first f.journal i act ≡ Some v → Serves breaks (f.cycle + 1) i act f → IsFree v (shown f i) what → PassesNone breaks first f.journal (entry_of f.cycle i act what)
passes_at breaks first v i act f what t k free = record {
  view = v;
  determined = t;
  none = λ kind l g. all_map _ _ breaks (λ r h c. elim (h c) [
    | inl x ↦ (let z : false ≡ true = sym (free.none kind l g) ∙ x in cc)
    | inr x ↦ x
  ]) (k.each kind);
}

taken_plus : (journal : List Entry) (e : Entry) (i : ℕ) (kind : Bool) (act : ℕ) (r : EventRow) → was_taken journal i kind act r ≡ true → was_taken (journal ++ e ∷ []) i kind act r ≡ true
taken_plus journal e i kind act r h = taken_later journal (e ∷ []) i kind act act r (omega arith) h

-- after another entry of the same act
passes_more : (breaks : List EventRow) (first : View) (before : List Entry) (d e : Entry) → d.act ≡ e.act → PassesNone breaks first before e → PassesNone breaks first (before ++ d ∷ []) e
passes_more breaks first before d e a p = record {
  view = p.view;
  determined = determined_same first before (before ++ d ∷ []) e.core e.act (λ j l. own_tapes before d e.core j (λ z. omega (arith, z, l, a))) ∙ p.determined;
  none = λ kind l g. all_map _ _ breaks (λ r h c. taken_plus before d e.core kind e.act r (h c)) (p.none kind l g);
}

law_one : (breaks : List EventRow) (views : List View) (journal : List Entry) (e : Entry) → ((first : View) → by_tick e.what ≡ true → slice_get views e.core ≡ Some first → PassesNone breaks first journal e) → BreakLaw breaks views journal → BreakLaw breaks views (journal ++ e ∷ [])
law_one breaks views journal e new law = record {
  each = λ before later d first q t v. elim (split_at_more before later journal d e q) [
    | inl p ↦
        subst (λ before. PassesNone breaks first before d) (sym p.0)
        (subst (λ d. PassesNone breaks first journal d) (sym p.1) (new first (ap (λ (d : Entry). by_tick d.what) (sym p.1) ∙ t) (ap (λ (d : Entry). slice_get views d.core) (sym p.1) ∙ v)))
    | inr p ↦ law.each before p.0 d first p.1 t v
  ];
}

pub law_off : (breaks : List EventRow) (views : List View) (journal es : List Entry) → AllByRecursion (λ (e : Entry). by_tick e.what ≡ false) es → BreakLaw breaks views journal → BreakLaw breaks views (journal ++ es)
law_off breaks views journal [] h law = subst (BreakLaw breaks views) (sym (append-nil journal)) law
law_off breaks views journal (e ∷ es) h law =
    subst (BreakLaw breaks views) (cons_append journal es e)
    (law_off breaks views (journal ++ e ∷ []) es h.1 (law_one breaks views journal e (λ first t v. let z : false ≡ true = sym h.0 ∙ t in cc) law))

law_made : (breaks : List EventRow) (views : List View) (c i act : ℕ) (journal : List Entry) (es : List What) → AllByRecursion (λ what. (first : View) → slice_get views i ≡ Some first → PassesNone breaks first journal (entry_of c i act what)) es → BreakLaw breaks views journal → BreakLaw breaks views (journal ++ made c i act es)
law_made breaks views c i act journal [] h law = subst (BreakLaw breaks views) (sym (append-nil journal)) law
law_made breaks views c i act journal (what ∷ es) h law =
    let e : Entry = entry_of c i act what in
    subst (BreakLaw breaks views) (cons_append journal (made c i act es) e)
    (law_made breaks views c i act (journal ++ e ∷ []) es (all_map _ _ es (λ x p first v. passes_more breaks first journal e (entry_of c i act x) refl (p first v)) h.1)
    (law_one breaks views journal e (λ first t v. h.0 first v) law))

-- what a tick leaves

some_pending : (i act : ℕ) (o : Option What) (f : Fabric) → IsPlainIf o → (entered_some i act o f).pending ≡ f.pending
unfolding IsPlainIf
some_pending i act None f p = refl
some_pending i act (Some what) f p = p.pending i f.pending

-- a take serves all breaks of its kind that have come
take_serves : (breaks : List EventRow) (i act : ℕ) (f : Fabric) (t : Take) (kind taken : Bool) → takes_break kind (Took t) ≡ taken
    → AllByRecursion (λ (r : EventRow). is_break i kind r && nat_lt r.cycle (f.cycle + 1) ≡ true → IsServed i kind act f.pending f.journal r) breaks
    → AllByRecursion (λ (r : EventRow). is_break i kind r && nat_lt r.cycle (f.cycle + 1) ≡ true → IsServed i kind (act + 1) (entered i act (Took t) f).pending (entered i act (Took t) f).journal r) breaks
take_serves breaks i act f t kind true k h = all_map _ _ breaks (λ r old c.
    let e : Entry = entry_of f.cycle i act (Took t) in
    let own : takes_it i kind (act + 1) r e ≡ true = and_yes (i == i && takes_break kind (Took t) && nat_lt act (act + 1)) (nat_lt r.cycle (f.cycle + 1)) (and_yes (i == i && takes_break kind (Took t)) (nat_lt act (act + 1)) (and_yes (i == i) (takes_break kind (Took t)) (eq-eqb i i refl) k) (lt-ltb act (act + 1) (omega arith))) (and_both (is_break i kind r) (nat_lt r.cycle (f.cycle + 1)) c).1 in
    inr (list_any-append (takes_it i kind (act + 1) r) f.journal (e ∷ []) ∙ or_right (was_taken f.journal i kind (act + 1) r) (was_taken (e ∷ []) i kind (act + 1) r) (or_left (takes_it i kind (act + 1) r e) false own))) h
take_serves breaks i act f t kind false k h = all_map _ _ breaks (λ r old c. elim (old c) [
  | inl x ↦ inl (flag_taken t kind f.pending i (slice_get f.pending i) refl ∙ and_yes (flag_at f.pending i kind) (not (takes_break kind (Took t))) x (ap not k))
  | inr x ↦ inr (taken_later f.journal (entry_of f.cycle i act (Took t) ∷ []) i kind act (act + 1) r (omega arith) x)
]) h

act_serves : (breaks : List EventRow) (i act : ℕ) (v : View) (f : Fabric) (d : Effect) → due v (shown f i) ≡ Does d → Serves breaks (f.cycle + 1) i act f → Serves breaks (f.cycle + 1) i (act + 1) (act_leaves i act d f)
act_serves breaks i act v f d e k = elim (act_splits v (shown f i) d e) [
  | inl t ↦ subst (λ d. Serves breaks (f.cycle + 1) i (act + 1) (act_leaves i act d f)) (sym t.is) (record { each = λ kind. take_serves breaks i act f t.take kind (takes_break kind (Took t.take)) refl (k.each kind) })
  | inr n ↦
      let half = entered_some i act (entries_of_action d.action) f in
      let same : (act_leaves i act d f).pending ≡ f.pending = some_pending i act (entry_of_act d.done.act) half (act_plain d.done.act) ∙ some_pending i act (entries_of_action d.action) f (actions_plain (shown f i) d.action n.agrees) in
      serves_later breaks (f.cycle + 1) i act (act + 1) f (act_leaves i act d f) (made f.cycle i act (effect_whats d)) (omega arith) (λ kind h. ap (λ (ps : List Breaks). flag_at ps i kind) same ∙ h) (act_out i act d f).journal k
]

-- a core's own tick
pub record OwnBreaks (breaks : List EventRow) (views : List View) (i : ℕ) (was : CoreAt) (before : Fabric) (is : CoreAt) (later : Fabric) : Type 0 where
  pub es : List What
  pub out : TickOut i was.acts before later es
  pub serves : Serves breaks (before.cycle + 1) i is.acts later
  pub law : BreakLaw breaks views later.journal

own_still : (breaks : List EventRow) (views : List View) (i : ℕ) (was : CoreAt) (before : Fabric) (is : CoreAt) (later : Fabric) → later ≡ before → is.acts ≡ was.acts → Serves breaks (before.cycle + 1) i was.acts before → BreakLaw breaks views before.journal → OwnBreaks breaks views i was before is later
own_still breaks views i was before is later e a k law = subst (OwnBreaks breaks views i was before is) (sym e) (record {
  es = [];
  out = still_out i was.acts before;
  serves = subst (λ n. Serves breaks (before.cycle + 1) i n before) (sym a) k;
  law = law;
})

own_act : (breaks : List EventRow) (views : List View) (i : ℕ) (was : CoreAt) (before : Fabric) (is : CoreAt) (later : Fabric) (d : Effect) → due was.view (shown before i) ≡ Does d → IsAct i d was before is later
    → ((first : View) → slice_get views i ≡ Some first → view_told first before.journal i was.acts ≡ Some was.view) → Serves breaks (before.cycle + 1) i was.acts before → BreakLaw breaks views before.journal → OwnBreaks breaks views i was before is later
own_act breaks views i was before is later d e h t k law =
    let o = act_out i was.acts d before in
    subst (OwnBreaks breaks views i was before is) (sym h.fabric) (record {
      es = effect_whats d;
      out = o;
      serves = subst (λ n. Serves breaks (before.cycle + 1) i n (act_leaves i was.acts d before)) (sym (ap (λ (s : CoreAt). s.acts) h.state)) (act_serves breaks i was.acts was.view before d e k);
      law = subst (BreakLaw breaks views) (sym o.journal) (law_made breaks views before.cycle i was.acts before.journal (effect_whats d) (all_map _ _ (effect_whats d) (λ what free first v. passes_at breaks first was.view i was.acts before what (t first v) k free) (effect_free was.view (shown before i) d e)) law);
    })

own_wait : (breaks : List EventRow) (views : List View) (i : ℕ) (was : CoreAt) (before : Fabric) (is : CoreAt) (later : Fabric) (on : WaitOn) (kept : Bool) → later ≡ cond kept before (entered i was.acts (Wait on) before) → is.acts ≡ was.acts → due was.view (shown before i) ≡ Waits on.port on.full
    → ((first : View) → slice_get views i ≡ Some first → view_told first before.journal i was.acts ≡ Some was.view) → Serves breaks (before.cycle + 1) i was.acts before → BreakLaw breaks views before.journal → OwnBreaks breaks views i was before is later
own_wait breaks views i was before is later on true e a d t k law = own_still breaks views i was before is later e a k law
own_wait breaks views i was before is later on false e a d t k law =
    let g = entered i was.acts (Wait on) before in
    let w : Entry = entry_of before.cycle i was.acts (Wait on) in
    subst (OwnBreaks breaks views i was before is) (sym e) (record {
      es = Wait on ∷ [];
      out = some_out i was.acts (Some (Wait on)) before;
      serves = serves_later breaks (before.cycle + 1) i was.acts is.acts before g (w ∷ []) (omega (arith, a)) (λ kind h. h) refl k;
      law = law_one breaks views before.journal w (λ first b v. passes_at breaks first was.view i was.acts before (Wait on) (t first v) k (untaken_free was.view (shown before i) (Wait on) (waits_untaken was.view (shown before i) on.port on.full d))) law;
    })

pub own_breaks : (breaks : List EventRow) (views : List View) (i : ℕ) (d : Due) (was : CoreAt) (before : Fabric) (is : CoreAt) (later : Fabric) → due was.view (shown before i) ≡ d → TickMay i d was before is later
    → ((first : View) → slice_get views i ≡ Some first → view_told first before.journal i was.acts ≡ Some was.view) → Serves breaks (before.cycle + 1) i was.acts before → BreakLaw breaks views before.journal → OwnBreaks breaks views i was before is later
own_breaks breaks views i (Does d) was before is later e (inl h) t k law = own_act breaks views i was before is later d e h t k law
own_breaks breaks views i (Does d) was before is later e (inr h) t k law = own_still breaks views i was before is later h.fabric (ap (λ (s : CoreAt). s.acts) h.state) k law
own_breaks breaks views i (Waits port full) was before is later e (inl h) t k law = own_wait breaks views i was before is later (record { port = port; full = full }) (is_logged i was.acts before.journal) h.fabric (ap (λ (s : CoreAt). s.acts) h.state) e t k law
own_breaks breaks views i (Waits port full) was before is later e (inr h) t k law = own_still breaks views i was before is later h.fabric (ap (λ (s : CoreAt). s.acts) h.state) k law
own_breaks breaks views i Sleeps was before is later e h t k law = own_still breaks views i was before is later h.fabric (ap (λ (s : CoreAt). s.acts) h.state) k law
own_breaks breaks views i Ends was before is later e h t k law = own_still breaks views i was before is later h.fabric (ap (λ (s : CoreAt). s.acts) h.state) k law
own_breaks breaks views i (Stops cause) was before is later e h t k law = own_still breaks views i was before is later h.fabric (ap (λ (s : CoreAt). s.acts) h.state) k law
