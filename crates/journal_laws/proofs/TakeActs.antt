-- An act keeps its core's account.
use Rattle.std.proofs.Common.{◌≡◌, ℕ, ◌+◌, ◌<◌, ◌≤◌, ◌==◌, ◌&&◌, not, List, [], ◌∷◌, ◌++◌, length, filter, Option, Some, None, refl, ap, sym, ◌∙◌, subst, inl, inr, ◌⊎◌, arith, slice_get, Bool, true, false, cond, nat_lt, length-append}
use Rattle.std.specs.List.{AllByRecursion, fold, list_any}
use Rattle.std.proofs.lemmas.Bool.{cases_eq, eq-eqb, ne_eqb}
use Rattle.std.proofs.lemmas.List.Folds.{list_any-append}
use Rattle.core_regs.specs.declared.causes.Take.{Take}
use Rattle.core_regs.specs.declared.causes.Take.TheVariants.{Interrupt, Break, NonMaskable}
use Rattle.core_regs.specs.declared.registers.Arch.{Arch}
use Rattle.core_regs.specs.State.{bare, interrupts_on}
use Rattle.isa_step.specs.declared.acts.Act.{Act}
use Rattle.isa_step.specs.declared.acts.Act.TheVariants as acts
use Rattle.isa_step.specs.declared.acts.Action.{Action}
use Rattle.isa_step.specs.declared.acts.Action.TheVariants as action
use Rattle.isa_step.specs.declared.acts.Breaks.{Breaks}
use Rattle.isa_step.specs.Shown.{Shown}
use Rattle.isa_step.specs.Effects.{View, Effect, Does}
use Rattle.isa_step.specs.Due.{due, here_of, is_masked, pick, take_by, take_due}
use Rattle.board_file.specs.declared.board.EventRow.{EventRow}
use Rattle.run_journal.specs.declared.entry.Entry.{Entry}
use Rattle.run_journal.specs.declared.entry.What.{What}
use Rattle.run_journal.specs.declared.entry.What.TheVariants.{Took}
use Rattle.run_journal.specs.Files.{is_of_act, is_response, tape}
use Rattle.board_machine.specs.Places.{set_some}
use Rattle.board_machine.specs.Fabric.{Fabric, act_leaves, cleared, entered, entered_some, entries_of_action, entry_of, entry_of_act, entry_of_action, has_controller, line_at, line_set, line_told, no_breaks, or_low, or_none, pending_after, shown}
use Rattle.board_machine.specs.History.{is_take, may_take_at, view_told}
use Rattle.board_machine.proofs.Lines.{IsWired}
use Rattle.board_machine.proofs.Lists.{and_false_left, and_false_right, and_left, and_right, slice_get_set_same}
use Rattle.journal_laws.specs.Progress.{as_one}
use Rattle.journal_laws.specs.TakeLaw.{IsRightAct, IsRightTake, breaks_of, breaks_taken, changes_line, has_break, high, is_change, is_rise, may_interrupt, no_take, takes_break}
use Rattle.journal_laws.proofs.Asking.{Agrees, AgreesIf, IsInstruction, act_splits}
use Rattle.journal_laws.proofs.Lists.{filter_more, filter_skips}
use Rattle.journal_laws.proofs.Truths.{or_false}
use Rattle.journal_laws.proofs.Takes.{Account, flag_at, flag_of, right_same, determined_same}

-- an entry of another act is on no tape of this one
pub own_tapes : (journal : List Entry) (e : Entry) (core k : ℕ) → (e.act ≡ k → ⊥) → tape (journal ++ e ∷ []) core k ≡ tape journal core k
own_tapes journal e core k n = filter_skips (is_of_act core k) journal e (and_false_left (e.core == core && e.act == k) (is_response e.what) (and_false_right (e.core == core) (e.act == k) (ne_eqb e.act k n)))

-- an account in the midst of an act
own_account : (breaks : List EventRow) (first : View) (core acts : ℕ) (line : Bool) (f : Fabric) (what : What) → is_change what ≡ false → line_told what ≡ None
    → ((kind : Bool) → breaks_taken (f.journal ++ entry_of f.cycle core acts what ∷ []) core kind + as_one (flag_at (pending_after core what f.pending) core kind) + breaks_of f.left core kind ≤ breaks_of breaks core kind)
    → ((kind : Bool) → flag_at (pending_after core what f.pending) core kind ≡ true → flag_at f.pending core kind ≡ true)
    → Account breaks first core acts line f → Account breaks first core acts line (entered core acts what f)
own_account breaks first core acts line f what x l n c a =
    let e : Entry = entry_of f.cycle core acts what in
    let t : (k : ℕ) → k < acts → tape (f.journal ++ e ∷ []) core k ≡ tape f.journal core k = λ k b. own_tapes f.journal e core k (λ z. omega (arith, z, b)) in
    let h : (k : ℕ) → high (f.journal ++ e ∷ []) core k ≡ high f.journal core k = λ k. ap (λ es. fold (λ b (e : Entry). is_rise e.what) false es) (filter_skips (changes_line core k) f.journal e (and_false_right (core == core && nat_lt acts (k + 1)) (is_change what) x)) in
    record {
      right = λ k b. right_same breaks first f.journal (f.journal ++ e ∷ []) core k (λ j m. t j (omega (arith, m, b))) (h k) (a.right k b);
      has_line = ap (λ o. slice_get (line_set core o f.lines) core) l ∙ a.has_line;
      is_high = λ k m. h k ∙ a.is_high k m;
      enough = n;
      come = λ kind m. a.come kind (c kind m);
      all_from = a.all_from;
    }

right_at : (breaks : List EventRow) (first : View) (core acts : ℕ) (line : Bool) (f : Fabric) (k : ℕ) → Account breaks first core acts line f → IsRightAct breaks first f.journal core acts → k < acts + 1 → (k ≡ acts) ⊎ (k ≡ acts → ⊥) → IsRightAct breaks first f.journal core k
right_at breaks first core acts line f k a r l (inl e) = subst (IsRightAct breaks first f.journal core) (sym e) r
right_at breaks first core acts line f k a r l (inr n) = a.right k (omega (arith, l, n))

-- an act that was right is over
ends : (breaks : List EventRow) (first : View) (core acts : ℕ) (line : Bool) (f : Fabric) → IsRightAct breaks first f.journal core acts → Account breaks first core acts line f → Account breaks first core (acts + 1) line f
ends breaks first core acts line f r a = record {
  right = λ k l. right_at breaks first core acts line f k a r l (cases_eq k acts);
  has_line = a.has_line;
  is_high = λ k l. a.is_high k (omega (arith, l));
  enough = a.enough;
  come = a.come;
  all_from = a.all_from;
}

plus_zero : (n : ℕ) → n ≡ n + 0
plus_zero n = omega arith

taken_more : (journal : List Entry) (core act cycle : ℕ) (kind : Bool) (what : What) (t : Bool) → takes_break kind what ≡ t → breaks_taken (journal ++ entry_of cycle core act what ∷ []) core kind ≡ breaks_taken journal core kind + as_one t
taken_more journal core act cycle kind what true h =
    let p = λ (e : Entry). e.core == core && takes_break kind e.what in
    ap length (filter_more p journal (entry_of cycle core act what) true (rw (eq-eqb core core refl) h)) ∙ length-append (filter p journal) (entry_of cycle core act what ∷ [])
taken_more journal core act cycle kind what false h =
    let p = λ (e : Entry). e.core == core && takes_break kind e.what in
    ap length (filter_skips p journal (entry_of cycle core act what) (and_false_right (core == core) (takes_break kind what) h)) ∙ plus_zero (breaks_taken journal core kind)

-- an instruction

pub record IsPlain (what : What) : Type 0 where
  pub change : is_change what ≡ false
  pub latches : line_told what ≡ None
  pub take : (kind : Bool) → takes_break kind what ≡ false
  pub pending : (core : ℕ) (pending : List Breaks) → pending_after core what pending ≡ pending
  pub untaken : is_take what ≡ false

unfoldable pub IsPlainIf : Option What → Type 0
IsPlainIf None = Unit {0}
IsPlainIf (Some what) = IsPlain what

action_plain : (s : Shown) (a : Action) → Agrees s (entry_of_action a) → IsPlain (entry_of_action a)
action_plain s (action.Took t) h = elim h [ ]
action_plain s (action.Got p x) h = record { change = refl; latches = refl; take = λ k. refl; pending = λ c ps. refl; untaken = refl }
action_plain s (action.Sent p x) h = record { change = refl; latches = refl; take = λ k. refl; pending = λ c ps. refl; untaken = refl }
action_plain s (action.Seen p x) h = record { change = refl; latches = refl; take = λ k. refl; pending = λ c ps. refl; untaken = refl }
action_plain s (action.Room p) h = record { change = refl; latches = refl; take = λ k. refl; pending = λ c ps. refl; untaken = refl }
action_plain s (action.Missed p b) h = record { change = refl; latches = refl; take = λ k. refl; pending = λ c ps. refl; untaken = refl }
action_plain s (action.Read p w) h = record { change = refl; latches = refl; take = λ k. refl; pending = λ c ps. refl; untaken = refl }
action_plain s (action.ReadRefused p) h = record { change = refl; latches = refl; take = λ k. refl; pending = λ c ps. refl; untaken = refl }
action_plain s (action.Wrote p w) h = record { change = refl; latches = refl; take = λ k. refl; pending = λ c ps. refl; untaken = refl }
action_plain s (action.WriteRefused p w) h = record { change = refl; latches = refl; take = λ k. refl; pending = λ c ps. refl; untaken = refl }

pub actions_plain : (s : Shown) (o : Option Action) → AgreesIf s (entries_of_action o) → IsPlainIf (entries_of_action o)
unfolding IsPlainIf
actions_plain s None h = tt
actions_plain s (Some a) h = action_plain s a h

pub act_plain : (a : Act) → IsPlainIf (entry_of_act a)
unfolding IsPlainIf
act_plain acts.Retired = tt
act_plain acts.Slept = record { change = refl; latches = refl; take = λ k. refl; pending = λ c ps. refl; untaken = refl }
act_plain (acts.Took t) = tt
act_plain (acts.Raised esr) = record { change = refl; latches = refl; take = λ k. refl; pending = λ c ps. refl; untaken = refl }
act_plain (acts.Stopped cause) = record { change = refl; latches = refl; take = λ k. refl; pending = λ c ps. refl; untaken = refl }

any_take : List Entry → Bool
any_take es = list_any (λ (e : Entry). is_take e.what) es

-- the entries of the act so far are no takes
record Midst (breaks : List EventRow) (first : View) (core acts : ℕ) (line : Bool) (view : View) (f : Fabric) : Type 0 where
  account : Account breaks first core acts line f
  determined : view_told first f.journal core acts ≡ Some view
  untaken : any_take (tape f.journal core acts) ≡ false

none_with : (xs ys : List Entry) → any_take xs ≡ false → any_take ys ≡ false → any_take (xs ++ ys) ≡ false
unfolding any_take
none_with xs ys a b = list_any-append (λ (e : Entry). is_take e.what) xs ys ∙ rw (a, b) refl

one_or_no_take : (t : Bool) (e : Entry) → is_take e.what ≡ false → any_take (cond t (e ∷ []) []) ≡ false
unfolding any_take
one_or_no_take true e h = rw h refl
one_or_no_take false e h = refl

plain_midst : (breaks : List EventRow) (first : View) (core acts : ℕ) (line : Bool) (view : View) (f : Fabric) (what : What) → IsPlain what → Midst breaks first core acts line view f → Midst breaks first core acts line view (entered core acts what f)
plain_midst breaks first core acts line view f what p m =
    let e : Entry = entry_of f.cycle core acts what in
    record {
      account = own_account breaks first core acts line f what p.change p.latches
          (λ kind. rw (taken_more f.journal core acts f.cycle kind what false (p.take kind), p.pending core f.pending) (omega (arith, m.account.enough kind)))
          (λ kind h. ap (λ (ps : List Breaks). flag_at ps core kind) (sym (p.pending core f.pending)) ∙ h)
          m.account;
      determined = determined_same first f.journal (f.journal ++ e ∷ []) core acts (λ j l. own_tapes f.journal e core j (λ z. omega (arith, z, l))) ∙ m.determined;
      untaken = ap any_take (filter_more (is_of_act core acts) f.journal e (is_of_act core acts e) refl) ∙ none_with (tape f.journal core acts) (cond (is_of_act core acts e) (e ∷ []) []) m.untaken (one_or_no_take (is_of_act core acts e) e p.untaken);
    }

some_midst : (breaks : List EventRow) (first : View) (core acts : ℕ) (line : Bool) (view : View) (f : Fabric) (o : Option What) → IsPlainIf o → Midst breaks first core acts line view f → Midst breaks first core acts line view (entered_some core acts o f)
unfolding IsPlainIf
some_midst breaks first core acts line view f None p m = m
some_midst breaks first core acts line view f (Some what) p m = plain_midst breaks first core acts line view f what p m

no_take_right : (breaks : List EventRow) (core : ℕ) (line : Bool) (view : View) (cycle : ℕ) (what : What) → is_take what ≡ false → IsRightTake breaks core line view cycle what
no_take_right breaks core line view cycle (Took t) h = cc
no_take_right breaks core line view cycle _ h = tt

untaken_right : (breaks : List EventRow) (core : ℕ) (line : Bool) (view : View) (es : List Entry) → any_take es ≡ false → AllByRecursion (λ (e : Entry). IsRightTake breaks core line view e.cycle e.what) es
unfolding any_take
untaken_right breaks core line view [] h = tt
untaken_right breaks core line view (e ∷ es) h =
    let s = or_false (is_take e.what) (list_any (λ (e : Entry). is_take e.what) es) h in
    (no_take_right breaks core line view e.cycle e.what s.0, untaken_right breaks core line view es s.1)

-- the line that the core is shown is the one that was latched
line_is : (f : Fabric) (core : ℕ) (line : Bool) → IsWired f → slice_get f.lines core ≡ Some line → line_at f core ≡ line
line_is f core true w q =
    let l : or_low (slice_get f.lines core) ≡ true = ap or_low q in
    rw (w.line core l, l) refl
line_is f core false w q = and_false_right (has_controller f core) (or_low (slice_get f.lines core)) (ap or_low q)

none_picked : (n m l i k : Bool) → pick n m (l && i && k) ≡ None → l && (i && k) ≡ false
none_picked true m l i k h = cc
none_picked false true l i k h = cc
none_picked false false false i k h = refl
none_picked false false true false k h = refl
none_picked false false true true true h = cc
none_picked false false true true false h = refl

none_due : (a : Arch) (s : Shown) (may : Bool) → take_by a s may ≡ None → s.line && (may && (interrupts_on a && not (is_masked a))) ≡ false
none_due a s false h = and_false_right s.line false refl
none_due a s true h = none_picked s.breaks.nonmaskable (s.breaks.maskable && not (is_masked a)) s.line (interrupts_on a) (not (is_masked a)) h

none_passed : (view : View) (s : Shown) → take_due (here_of view) (bare view.arch) s ≡ None → s.line && may_interrupt view ≡ false
unfolding take_due
none_passed view s h = none_due (bare view.arch) s (may_take_at view) h

instruction_account : (breaks : List EventRow) (first : View) (core acts : ℕ) (line : Bool) (view : View) (f : Fabric) (effect : Effect) → IsWired f → IsInstruction view (shown f core) effect
    → tape f.journal core acts ≡ [] → view_told first f.journal core acts ≡ Some view → Account breaks first core acts line f → Account breaks first core (acts + 1) line (act_leaves core acts effect f)
unfolding any_take
instruction_account breaks first core acts line view f effect w i n t a =
    let m : Midst breaks first core acts line view f = record { account = a; determined = t; untaken = ap any_take n } in
    let half = some_midst breaks first core acts line view f (entries_of_action effect.action) (actions_plain (shown f core) effect.action i.agrees) m in
    let all = some_midst breaks first core acts line view (entered_some core acts (entries_of_action effect.action) f) (entry_of_act effect.done.act) (act_plain effect.done.act) half in
    let g = act_leaves core acts effect f in
    ends breaks first core acts line g (record {
      view = view;
      determined = all.determined;
      takes = untaken_right breaks core (high g.journal core acts) view (tape g.journal core acts) all.untaken;
      passes = λ h. ap (λ b. b && may_interrupt view) (all.account.is_high acts (omega arith) ∙ sym (line_is f core line w a.has_line)) ∙ none_passed view (shown f core) i.due;
    }) all.account

-- a take

and_true : (b : Bool) → b ≡ b && true
and_true true = refl
and_true false = refl

and_nothing : (b : Bool) → false ≡ b && false
and_nothing true = refl
and_nothing false = refl

-- a take clears its flag, and no other
cleared_flag : (t : Take) (kind : Bool) (b : Breaks) → flag_of kind (cleared t b) ≡ flag_of kind b && not (takes_break kind (Took t))
unfolding flag_of
cleared_flag Interrupt true b = and_true b.nonmaskable
cleared_flag Interrupt false b = and_true b.maskable
cleared_flag Break true b = and_true b.nonmaskable
cleared_flag Break false b = and_nothing b.maskable
cleared_flag NonMaskable true b = and_nothing b.nonmaskable
cleared_flag NonMaskable false b = and_true b.maskable

pub none_flagged : (kind : Bool) → flag_of kind no_breaks ≡ false
unfolding flag_of
none_flagged true = refl
none_flagged false = refl

pub flag_taken : (t : Take) (kind : Bool) (pending : List Breaks) (core : ℕ) (o : Option Breaks) → slice_get pending core ≡ o → flag_at (set_some pending core (cleared t) o) core kind ≡ flag_at pending core kind && not (takes_break kind (Took t))
flag_taken t kind pending core None e =
    let z : flag_at pending core kind ≡ false = ap (λ (o : Option Breaks). flag_of kind (or_none o)) e ∙ none_flagged kind in
    z ∙ ap (λ b. b && not (takes_break kind (Took t))) (sym z)
flag_taken t kind pending core (Some b) e =
    ap (λ (o : Option Breaks). flag_of kind (or_none o)) (slice_get_set_same pending core b (cleared t b) e)
    ∙ cleared_flag t kind b
    ∙ ap (λ (o : Option Breaks). flag_of kind (or_none o) && not (takes_break kind (Took t))) (sym e)

counted : (taken left all : ℕ) (flag now : Bool) → (now ≡ true → flag ≡ true) → taken + as_one flag + left ≤ all → taken + as_one now + as_one (flag && not now) + left ≤ all
counted taken left all true true h n = omega (arith, n)
counted taken left all true false h n = omega (arith, n)
counted taken left all false true h n = let z : false ≡ true = h refl in cc
counted taken left all false false h n = omega (arith, n)

-- what the pick of a take tells

picked_break : (n m i : Bool) → pick n m i ≡ Some Break → m ≡ true
picked_break true m i h = cc
picked_break false true i h = refl
picked_break false false true h = cc
picked_break false false false h = cc

picked_nonmaskable : (n m i : Bool) → pick n m i ≡ Some NonMaskable → n ≡ true
picked_nonmaskable true m i h = refl
picked_nonmaskable false true i h = cc
picked_nonmaskable false false true h = cc
picked_nonmaskable false false false h = cc

picked_interrupt : (n m l i k : Bool) → pick n m (l && i && k) ≡ Some Interrupt → l && (i && k) ≡ true
picked_interrupt true m l i k h = cc
picked_interrupt false true l i k h = cc
picked_interrupt false false true true true h = refl
picked_interrupt false false true true false h = cc
picked_interrupt false false true false k h = cc
picked_interrupt false false false i k h = cc

due_flag : (a : Arch) (s : Shown) (may : Bool) (t : Take) (kind : Bool) → take_by a s may ≡ Some t → takes_break kind (Took t) ≡ true → flag_of kind s.breaks ≡ true
unfolding flag_of
due_flag a s false t kind h k = cc
due_flag a s true Interrupt kind h k = cc
due_flag a s true Break true h k = cc
due_flag a s true Break false h k = and_left s.breaks.maskable (not (is_masked a)) (picked_break _ _ _ h)
due_flag a s true NonMaskable true h k = picked_nonmaskable _ _ _ h
due_flag a s true NonMaskable false h k = cc

take_flag : (view : View) (s : Shown) (t : Take) (kind : Bool) → take_due (here_of view) (bare view.arch) s ≡ Some t → takes_break kind (Took t) ≡ true → flag_of kind s.breaks ≡ true
unfolding take_due
take_flag view s t kind h k = due_flag (bare view.arch) s (may_take_at view) t kind h k

due_interrupt : (a : Arch) (s : Shown) (may : Bool) → take_by a s may ≡ Some Interrupt → s.line && (may && (interrupts_on a && not (is_masked a))) ≡ true
due_interrupt a s false h = cc
due_interrupt a s true h = picked_interrupt s.breaks.nonmaskable (s.breaks.maskable && not (is_masked a)) s.line (interrupts_on a) (not (is_masked a)) h

due_break : (a : Arch) (s : Shown) (may : Bool) → take_by a s may ≡ Some Break → may && not (is_masked a) ≡ true
due_break a s false h = cc
due_break a s true h = and_right s.breaks.maskable (not (is_masked a)) (picked_break _ _ _ h)

due_nonmaskable : (a : Arch) (s : Shown) (may : Bool) → take_by a s may ≡ Some NonMaskable → may ≡ true
due_nonmaskable a s false h = cc
due_nonmaskable a s true h = refl

-- a take that is due is right
due_right : (breaks : List EventRow) (core : ℕ) (view : View) (s : Shown) (t : Take) (cycle : ℕ) → ((kind : Bool) → flag_of kind s.breaks ≡ true → has_break breaks core kind cycle ≡ true) → take_due (here_of view) (bare view.arch) s ≡ Some t → IsRightTake breaks core s.line view cycle (Took t)
unfolding take_due
due_right breaks core view s Interrupt cycle c h = due_interrupt (bare view.arch) s (may_take_at view) h
due_right breaks core view s Break cycle c h = (due_break (bare view.arch) s (may_take_at view) h, c false (take_flag view s Break false h refl))
due_right breaks core view s NonMaskable cycle c h = (due_nonmaskable (bare view.arch) s (may_take_at view) h, c true (take_flag view s NonMaskable true h refl))

take_account : (breaks : List EventRow) (first : View) (core acts : ℕ) (line : Bool) (view : View) (f : Fabric) (t : Take) → IsWired f → take_due (here_of view) (bare view.arch) (shown f core) ≡ Some t
    → tape f.journal core acts ≡ [] → view_told first f.journal core acts ≡ Some view → Account breaks first core acts line f → Account breaks first core (acts + 1) line (entered core acts (Took t) f)
take_account breaks first core acts line view f t w d n v a =
    let e : Entry = entry_of f.cycle core acts (Took t) in
    let g = entered core acts (Took t) f in
    let all = own_account breaks first core acts line f (Took t) refl refl
    (λ kind. rw (taken_more f.journal core acts f.cycle kind (Took t) (takes_break kind (Took t)) refl, flag_taken t kind f.pending core (slice_get f.pending core) refl)
    (counted (breaks_taken f.journal core kind) (breaks_of f.left core kind) (breaks_of breaks core kind) (flag_at f.pending core kind) (takes_break kind (Took t)) (take_flag view (shown f core) t kind d) (a.enough kind)))
    (λ kind h. and_left (flag_at f.pending core kind) (not (takes_break kind (Took t))) (sym (flag_taken t kind f.pending core (slice_get f.pending core) refl) ∙ h))
    a in
    let own : tape g.journal core acts ≡ e ∷ [] = filter_more (is_of_act core acts) f.journal e true (rw (eq-eqb core core refl, eq-eqb acts acts refl) refl) ∙ ap (λ es. es ++ e ∷ []) n in
    let line_now : high g.journal core acts ≡ line_at f core = all.is_high acts (omega arith) ∙ sym (line_is f core line w a.has_line) in
    ends breaks first core acts line g (record {
      view = view;
      determined = determined_same first f.journal g.journal core acts (λ j l. own_tapes f.journal e core j (λ z. omega (arith, z, l))) ∙ v;
      takes = subst (AllByRecursion (λ (e : Entry). IsRightTake breaks core (high g.journal core acts) view e.cycle e.what)) (sym own) (subst (λ line. IsRightTake breaks core line view f.cycle (Took t)) (sym line_now) (due_right breaks core view (shown f core) t f.cycle a.come d), tt);
      passes = λ h. let z : false ≡ true = ap no_take (sym own) ∙ h in cc;
    }) all

pub act_account : (breaks : List EventRow) (first : View) (core acts : ℕ) (line : Bool) (view : View) (f : Fabric) (effect : Effect) → IsWired f → due view (shown f core) ≡ Does effect
    → tape f.journal core acts ≡ [] → view_told first f.journal core acts ≡ Some view → Account breaks first core acts line f → Account breaks first core (acts + 1) line (act_leaves core acts effect f)
act_account breaks first core acts line view f effect w d n v a = elim (act_splits view (shown f core) effect d) [
  | inl t ↦ subst (λ effect. Account breaks first core (acts + 1) line (act_leaves core acts effect f)) (sym t.is) (take_account breaks first core acts line view f t.take w t.due n v a)
  | inr i ↦ instruction_account breaks first core acts line view f effect w i n v a
]
