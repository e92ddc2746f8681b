-- Every step of the board machine keeps each core's account.
use Rattle.std.proofs.Common.{◌≡◌, ℕ, zero, suc, ◌+◌, ◌≤◌, List, [], ◌∷◌, length, map, Option, Some, None, refl, ap, sym, ◌∙◌, subst, inl, inr, ◌⊎◌, arith, slice_get, Bool, true, false, cond}
use Rattle.std.specs.List.{list_any}
use Rattle.std.specs.Option.{option_map}
use Rattle.std.proofs.lemmas.Bool.{cases_eq}
use Rattle.std.proofs.lemmas.Option.{slice_get-map}
use Rattle.core_regs.specs.declared.causes.WaitOn.{WaitOn}
use Rattle.isa_step.specs.declared.acts.Breaks.{Breaks}
use Rattle.isa_step.specs.Effects.{View, Effect, Due, Does, Waits, Sleeps, Ends, Stops}
use Rattle.isa_step.specs.Due.{due}
use Rattle.board_file.specs.declared.board.BoardFile.{BoardFile}
use Rattle.board_file.specs.declared.board.EventRow.{EventRow}
use Rattle.run_journal.specs.declared.entry.What.{What}
use Rattle.run_journal.specs.declared.entry.What.TheVariants.{Wait, LineUp, LineDown, HostSent, HostGot, Left}
use Rattle.run_journal.specs.Files.{tape}
use Rattle.board_machine.specs.declared.events.Event.{Event}
use Rattle.board_machine.specs.declared.events.Event.TheVariants.{Devices, Host, Tick, Next}
use Rattle.board_machine.specs.DeviceMoves.{line_change, line_driven}
use Rattle.board_machine.specs.Fabric.{Fabric, act_leaves, breaks_come, entered, entered_some, entries_of_action, entry_of_act, host_moves, is_logged, no_breaks, no_core, or_low, shown, waited}
use Rattle.board_machine.specs.History.{Tells, view_told}
use Rattle.board_machine.specs.World.{CoreAt, Inputs, IsAct, Reached, Start, Step, Steps, TickMay, TickStep, World, acts_of, line_latched}
use Rattle.board_machine.proofs.Keeping.{keeps_runs, wired}
use Rattle.board_machine.proofs.Lines.{IsWired, steps_wired}
use Rattle.board_machine.proofs.Tells.{step_tells, which}
use Rattle.journal_laws.specs.Progress.{as_one}
use Rattle.journal_laws.specs.Laws.{TakeLawHolds}
use Rattle.journal_laws.specs.TakeLaw.{breaks_of, breaks_taken}
use Rattle.journal_laws.proofs.BreaksCome.{come_account, next_account}
use Rattle.journal_laws.proofs.Moves.{Joins, KeepsParts, devices_keep, host_keeps}
use Rattle.journal_laws.proofs.TakeActs.{act_account, none_flagged}
use Rattle.journal_laws.proofs.Takes.{Account, IsEdge, SaysNothing, edge_account, flag_at, nothing_account, other_account}

-- some line, with the account
record HasAccount (breaks : List EventRow) (first : View) (core acts : ℕ) (f : Fabric) : Type 0 where
  line : Bool
  account : Account breaks first core acts line f

-- the account of a core that did not act stays
KeepsAccount : List EventRow → View → ℕ → ℕ → Fabric → Fabric → Type 0
KeepsAccount breaks first core acts f g = HasAccount breaks first core acts f → HasAccount breaks first core acts g

account_joins : (breaks : List EventRow) (first : View) (core acts : ℕ) → Joins (KeepsAccount breaks first core acts)
unfolding KeepsAccount
account_joins breaks first core acts = record { itself = λ f k. k; then = λ f g h a b k. b (a k) }

keeps_itself : (breaks : List EventRow) (first : View) (core acts : ℕ) (f : Fabric) → KeepsAccount breaks first core acts f f
keeps_itself breaks first core acts f = (account_joins breaks first core acts).itself f

keeps_then : (breaks : List EventRow) (first : View) (core acts : ℕ) (f g h : Fabric) → KeepsAccount breaks first core acts f g → KeepsAccount breaks first core acts g h → KeepsAccount breaks first core acts f h
keeps_then breaks first core acts f g h a b = (account_joins breaks first core acts).then f g h a b

-- entries that say nothing of acts and lines

nothing_keeps : (breaks : List EventRow) (first : View) (core acts by act : ℕ) (what : What) (f : Fabric) → SaysNothing what → KeepsAccount breaks first core acts f (entered by act what f)
unfolding KeepsAccount
nothing_keeps breaks first core acts by act what f s a = record { line = a.line; account = nothing_account breaks first core acts a.line f by act what s a.account }

wait_says : (on : WaitOn) → SaysNothing (Wait on)
wait_says on = record { response = refl; change = refl; take = λ k. refl; latches = refl; pending = λ c ps. refl }

-- the lines

up_edge : IsEdge LineUp true
up_edge = record { response = refl; change = refl; rise = refl; take = λ k. refl; latches = refl; pending = λ c ps. refl }

down_edge : IsEdge LineDown false
down_edge = record { response = refl; change = refl; rise = refl; take = λ k. refl; latches = refl; pending = λ c ps. refl }

own_latch : (breaks : List EventRow) (first : View) (core acts : ℕ) (new old : Bool) (f : Fabric) → KeepsAccount breaks first core acts f (entered_some core acts (line_change new old) f)
unfolding KeepsAccount
own_latch breaks first core acts true true f a = a
own_latch breaks first core acts false false f a = a
own_latch breaks first core acts true false f a = record { line = true; account = edge_account breaks first core acts a.line f LineUp true up_edge a.account }
own_latch breaks first core acts false true f a = record { line = false; account = edge_account breaks first core acts a.line f LineDown false down_edge a.account }

some_other : (breaks : List EventRow) (first : View) (core acts by act : ℕ) (o : Option What) (f : Fabric) → (by ≡ core → ⊥) → KeepsAccount breaks first core acts f (entered_some by act o f)
unfolding KeepsAccount
some_other breaks first core acts by act None f n a = a
some_other breaks first core acts by act (Some what) f n a = record { line = a.line; account = other_account breaks first core acts a.line f by act what n a.account }

latch_by : (breaks : List EventRow) (first : View) (cores : List CoreAt) (core : ℕ) (s : CoreAt) (by : ℕ) (new old : Bool) (f : Fabric) → slice_get cores core ≡ Some s → (by ≡ core) ⊎ (by ≡ core → ⊥) → KeepsAccount breaks first core s.acts f (entered_some by (acts_of (slice_get cores by)) (line_change new old) f)
latch_by breaks first cores core s by new old f q (inr n) = some_other breaks first core s.acts by (acts_of (slice_get cores by)) (line_change new old) f n
latch_by breaks first cores core s by new old f q (inl e) =
    subst (λ k. KeepsAccount breaks first core s.acts f (entered_some k (acts_of (slice_get cores k)) (line_change new old) f)) (sym e)
    (subst (λ act. KeepsAccount breaks first core s.acts f (entered_some core act (line_change new old) f)) (sym (ap acts_of q)) (own_latch breaks first core s.acts new old f))

latch_keeps : (breaks : List EventRow) (first : View) (cores : List CoreAt) (core : ℕ) (s : CoreAt) → slice_get cores core ≡ Some s → (by : ℕ) (f : Fabric) → KeepsAccount breaks first core s.acts f (line_latched cores by f)
latch_keeps breaks first cores core s q by f = latch_by breaks first cores core s by (line_driven f by) (or_low (slice_get f.lines by)) f q (cases_eq by core)

account_come : (breaks : List EventRow) (first : View) (core acts : ℕ) (f : Fabric) → KeepsAccount breaks first core acts f (breaks_come f)
unfolding KeepsAccount
account_come breaks first core acts f a = record { line = a.line; account = come_account breaks first core acts a.line f a.account }

account_parts : (breaks : List EventRow) (first : View) (cores : List CoreAt) (core : ℕ) (s : CoreAt) → slice_get cores core ≡ Some s → KeepsParts (KeepsAccount breaks first core s.acts) cores
unfolding KeepsAccount
account_parts breaks first cores core s q = record {
  devices = λ f d a. record { line = a.line; account = record { right = a.account.right; has_line = a.account.has_line; is_high = a.account.is_high; enough = a.account.enough; come = a.account.come; all_from = a.account.all_from } };
  byte = λ f uart byte. nothing_keeps breaks first core s.acts no_core 0 (Left uart byte) f (record { response = refl; change = refl; take = λ k. refl; latches = refl; pending = λ c ps. refl });
  latch = latch_keeps breaks first cores core s q;
}

host_account : (breaks : List EventRow) (first : View) (core acts : ℕ) (f : Fabric) (n : ℕ) → KeepsAccount breaks first core acts f (host_moves f n)
host_account breaks first core acts f n =
    host_keeps (KeepsAccount breaks first core acts) (account_joins breaks first core acts)
    (λ f link item. nothing_keeps breaks first core acts no_core 0 (HostSent link item) f (record { response = refl; change = refl; take = λ k. refl; latches = refl; pending = λ c ps. refl }))
    (λ f link item. nothing_keeps breaks first core acts no_core 0 (HostGot link item) f (record { response = refl; change = refl; take = λ k. refl; latches = refl; pending = λ c ps. refl })) f n

-- a tick of another core

others_keep : (breaks : List EventRow) (first : View) (core acts by act : ℕ) (effect : Effect) (f : Fabric) → (by ≡ core → ⊥) → KeepsAccount breaks first core acts f (act_leaves by act effect f)
others_keep breaks first core acts by act effect f n =
    let g = entered_some by act (entries_of_action effect.action) f in
    keeps_then breaks first core acts f g (act_leaves by act effect f) (some_other breaks first core acts by act (entries_of_action effect.action) f n) (some_other breaks first core acts by act (entry_of_act effect.done.act) g n)

waited_keeps : (breaks : List EventRow) (first : View) (core acts by act : ℕ) (on : WaitOn) (f : Fabric) (kept : Bool) → KeepsAccount breaks first core acts f (cond kept f (entered by act (Wait on) f))
waited_keeps breaks first core acts by act on f true = keeps_itself breaks first core acts f
waited_keeps breaks first core acts by act on f false = nothing_keeps breaks first core acts by act (Wait on) f (wait_says on)

later_keeps : (breaks : List EventRow) (first : View) (core acts : ℕ) (f g later : Fabric) → later ≡ g → KeepsAccount breaks first core acts f g → KeepsAccount breaks first core acts f later
later_keeps breaks first core acts f g later e k = subst (KeepsAccount breaks first core acts f) (sym e) k

other_keeps : (breaks : List EventRow) (first : View) (core acts by : ℕ) (d : Due) (old : CoreAt) (before : Fabric) (new : CoreAt) (later : Fabric) → (by ≡ core → ⊥) → TickMay by d old before new later → KeepsAccount breaks first core acts before later
other_keeps breaks first core acts by (Does effect) old before new later n (inl h) = later_keeps breaks first core acts before _ later h.fabric (others_keep breaks first core acts by old.acts effect before n)
other_keeps breaks first core acts by (Does effect) old before new later n (inr h) = later_keeps breaks first core acts before before later h.fabric (keeps_itself breaks first core acts before)
other_keeps breaks first core acts by (Waits port full) old before new later n (inl h) = later_keeps breaks first core acts before _ later h.fabric (waited_keeps breaks first core acts by old.acts (record { port = port; full = full }) before (is_logged by old.acts before.journal))
other_keeps breaks first core acts by (Waits port full) old before new later n (inr h) = later_keeps breaks first core acts before before later h.fabric (keeps_itself breaks first core acts before)
other_keeps breaks first core acts by Sleeps old before new later n h = later_keeps breaks first core acts before before later h.fabric (keeps_itself breaks first core acts before)
other_keeps breaks first core acts by Ends old before new later n h = later_keeps breaks first core acts before before later h.fabric (keeps_itself breaks first core acts before)
other_keeps breaks first core acts by (Stops cause) old before new later n h = later_keeps breaks first core acts before before later h.fabric (keeps_itself breaks first core acts before)

-- a tick of the core itself

idle_account : (breaks : List EventRow) (first : View) (core : ℕ) (old new : CoreAt) (before left later : Fabric) → later ≡ left → new.acts ≡ old.acts → KeepsAccount breaks first core old.acts before left → HasAccount breaks first core old.acts before → HasAccount breaks first core new.acts later
unfolding KeepsAccount
idle_account breaks first core old new before left later f a k x = rw (f, a) (k x)

act_done : (breaks : List EventRow) (first : View) (core : ℕ) (effect : Effect) (old : CoreAt) (before : Fabric) (new : CoreAt) (later : Fabric) → IsWired before → due old.view (shown before core) ≡ Does effect
    → tape before.journal core old.acts ≡ [] → view_told first before.journal core old.acts ≡ Some old.view → IsAct core effect old before new later → HasAccount breaks first core old.acts before → HasAccount breaks first core new.acts later
act_done breaks first core effect old before new later w d n t h x =
    rw (h.fabric, ap (λ (s : CoreAt). s.acts) h.state) (record { line = x.line; account = act_account breaks first core old.acts x.line old.view before effect w d n t x.account })

own_ticked : (breaks : List EventRow) (first : View) (core : ℕ) (d : Due) (old : CoreAt) (before : Fabric) (new : CoreAt) (later : Fabric) → IsWired before → due old.view (shown before core) ≡ d
    → tape before.journal core old.acts ≡ [] → view_told first before.journal core old.acts ≡ Some old.view → TickMay core d old before new later → HasAccount breaks first core old.acts before → HasAccount breaks first core new.acts later
own_ticked breaks first core (Does effect) old before new later w e n t (inl h) x = act_done breaks first core effect old before new later w e n t h x
own_ticked breaks first core (Does effect) old before new later w e n t (inr h) x = idle_account breaks first core old new before before later h.fabric (ap (λ (s : CoreAt). s.acts) h.state) (keeps_itself breaks first core old.acts before) x
own_ticked breaks first core (Waits port full) old before new later w e n t (inl h) x =
    let on : WaitOn = record { port = port; full = full } in
    idle_account breaks first core old new before (waited core old.acts on before) later h.fabric (ap (λ (s : CoreAt). s.acts) h.state) (waited_keeps breaks first core old.acts core old.acts on before (is_logged core old.acts before.journal)) x
own_ticked breaks first core (Waits port full) old before new later w e n t (inr h) x = idle_account breaks first core old new before before later h.fabric (ap (λ (s : CoreAt). s.acts) h.state) (keeps_itself breaks first core old.acts before) x
own_ticked breaks first core Sleeps old before new later w e n t h x = idle_account breaks first core old new before before later h.fabric (ap (λ (s : CoreAt). s.acts) h.state) (keeps_itself breaks first core old.acts before) x
own_ticked breaks first core Ends old before new later w e n t h x = idle_account breaks first core old new before before later h.fabric (ap (λ (s : CoreAt). s.acts) h.state) (keeps_itself breaks first core old.acts before) x
own_ticked breaks first core (Stops cause) old before new later w e n t h x = idle_account breaks first core old new before before later h.fabric (ap (λ (s : CoreAt). s.acts) h.state) (keeps_itself breaks first core old.acts before) x

-- each step

record Accounts (breaks : List EventRow) (views : List View) (w : World) : Type 0 where
  wired : IsWired w.fabric
  tells : Tells views w.cores w.fabric.journal
  each : (core : ℕ) (s : CoreAt) (first : View) → slice_get w.cores core ≡ Some s → slice_get views core ≡ Some first → HasAccount breaks first core s.acts w.fabric

ticked_at : (breaks : List EventRow) (views : List View) (core : ℕ) (w v : World) (h : TickStep core w v) (k : ℕ) (s : CoreAt) (first : View) → Accounts breaks views w → slice_get views k ≡ Some first
    → ((k ≡ core) × (h.is ≡ s)) ⊎ ((k ≡ core → ⊥) × (slice_get w.cores k ≡ Some s)) → HasAccount breaks first k s.acts v.fabric
unfolding KeepsAccount
ticked_at breaks views core w v h k s first a r (inl p) =
    let q : slice_get views core ≡ Some first = ap (slice_get views) (sym p.0) ∙ r in
    let t = own_ticked breaks first core (due h.was.view (shown w.fabric core)) h.was w.fabric h.is v.fabric a.wired refl (a.tells.none_ahead core h.was.acts h.was h.there (omega arith)) (a.tells.each core h.was first h.there q) h.may (a.each core h.was first h.there q) in
    subst (λ k. HasAccount breaks first k s.acts v.fabric) (sym p.0) (subst (λ (s : CoreAt). HasAccount breaks first core s.acts v.fabric) p.1 t)
ticked_at breaks views core w v h k s first a r (inr p) = other_keeps breaks first k s.acts core (due h.was.view (shown w.fabric core)) h.was w.fabric h.is v.fabric (λ z. p.0 (sym z)) h.may (a.each k s first p.1 r)

step_each : (breaks : List EventRow) (views : List View) (w v : World) (e : Event) → Step w e v → Accounts breaks views w → (core : ℕ) (s : CoreAt) (first : View) → slice_get v.cores core ≡ Some s → slice_get views core ≡ Some first → HasAccount breaks first core s.acts v.fabric
unfolding KeepsAccount
step_each breaks views w v (Tick core) h a k s first q r = ticked_at breaks views core w v h k s first a r (which core k w v h s (cases_eq k core) q)
step_each breaks views w v Devices h a core s first q r =
    let there : slice_get w.cores core ≡ Some s = ap (λ (x : World). slice_get x.cores core) (sym h) ∙ q in
    subst (λ (x : World). HasAccount breaks first core s.acts x.fabric) (sym h) (devices_keep (KeepsAccount breaks first core s.acts) w.cores (account_joins breaks first core s.acts) (account_parts breaks first w.cores core s there) (account_come breaks first core s.acts) w.fabric (a.each core s first there r))
step_each breaks views w v Host h a core s first q r =
    subst (λ (x : World). HasAccount breaks first core s.acts x.fabric) (sym h) (host_account breaks first core s.acts w.fabric (length w.fabric.rows) (a.each core s first (ap (λ (x : World). slice_get x.cores core) (sym h) ∙ q) r))
step_each breaks views w v Next h a core s first q r =
    let x = a.each core s first (ap (λ (x : World). slice_get x.cores core) (sym h) ∙ q) r in
    subst (λ (x : World). HasAccount breaks first core s.acts x.fabric) (sym h) (record { line = x.line; account = next_account breaks first core s.acts x.line w.fabric x.account })

step_accounts : (breaks : List EventRow) (views : List View) (w v : World) (e : Event) → Step w e v → Accounts breaks views w → Accounts breaks views v
step_accounts breaks views w v e h a = record {
  wired = steps_wired w v (e ∷ []) (v, h, refl) a.wired;
  tells = step_tells views w v e h a.tells;
  each = step_each breaks views w v e h a;
}

steps_accounts : (breaks : List EventRow) (views : List View) (w v : World) (es : List Event) → Steps w es v → Accounts breaks views w → Accounts breaks views v
steps_accounts breaks views w v [] h a = subst (Accounts breaks views) (sym h) a
steps_accounts breaks views w v (e ∷ es) h a = steps_accounts breaks views h.0 v es h.2 (step_accounts breaks views w h.0 e h.1 a)

-- the beginning

no_flag : (cores : List CoreAt) (core : ℕ) (kind : Bool) → flag_at (map (λ (s : CoreAt). no_breaks) cores) core kind ≡ false
no_flag [] core kind = none_flagged kind
no_flag (s ∷ cores) zero kind = none_flagged kind
no_flag (s ∷ cores) (suc core) kind = no_flag cores core kind

start_has : (breaks : List EventRow) (cores : List CoreAt) (core : ℕ) (s : CoreAt) (first : View) (f : Fabric) → slice_get cores core ≡ Some s → s.acts ≡ 0 → f.lines ≡ map (λ s. false) cores → f.pending ≡ map (λ s. no_breaks) cores → f.left ≡ breaks → f.journal ≡ [] → HasAccount breaks first core s.acts f
start_has breaks cores core s first f q z l p b j = record {
  line = false;
  account = record {
    right = λ k i. absurd (omega (arith, i, z));
    has_line = ap (λ (ls : List Bool). slice_get ls core) l ∙ slice_get-map (λ (s : CoreAt). false) cores core ∙ ap (option_map (λ (s : CoreAt). false)) q;
    is_high = λ k i. rw j refl;
    enough = λ kind. rw (j, p, b, no_flag cores core kind) (omega arith);
    come = λ kind h. let n : false ≡ true = sym (no_flag cores core kind) ∙ ap (λ (ps : List Breaks). flag_at ps core kind) (sym p) ∙ h in cc;
    all_from = λ test h. ap (list_any test) (sym b) ∙ h;
  };
}

start_accounts : (b : BoardFile) (views : List View) (inputs : Inputs) (w : World) → Start b views inputs w → Accounts b.events views w
start_accounts b views inputs w s =
    let r : Reached b views inputs w = record { first = w; events = []; began = s; ran = refl } in
    record {
      wired = record { line = wired b views inputs w r };
      tells = (keeps_runs w w [] refl b views inputs r).told;
      each = λ core c first q p. start_has b.events w.cores core c first w.fabric q (s.fresh core c q).0 s.lines s.pending s.left s.journal;
    }

less : (a b c d : ℕ) → a + b + c ≤ d → a ≤ d
less a b c d h = omega (arith, h)

-- the journal of every run has the take law
pub take_law_holds : TakeLawHolds
take_law_holds = record {
  law = λ b views inputs w r core s first q p.
      let all = steps_accounts b.events views r.first w r.events r.ran (start_accounts b views inputs r.first r.began) in
      let a = all.each core s first q p in
      record {
        right = a.account.right;
        no_more = λ act l. all.tells.none_ahead core act s q l;
        enough = λ kind. less (breaks_taken w.fabric.journal core kind) (as_one (flag_at w.fabric.pending core kind)) (breaks_of w.fabric.left core kind) (breaks_of b.events core kind) (a.account.enough kind);
      };
}
