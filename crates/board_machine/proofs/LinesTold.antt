-- A latched line is what the last change of it in the journal says, whatever the events.
use Rattle.std.proofs.Common.{◌≡◌, ℕ, zero, suc, List, [], ◌∷◌, ◌++◌, Option, Some, None, refl, ap, sym, ◌∙◌, subst, slice_get, slice_set, length, inl, inr, ◌⊎◌, Bool, true, false, cond, ◌==◌, if◌then◌else◌}
use Rattle.std.specs.List.{fold}
use Rattle.std.proofs.lemmas.Bool.{cases_eq, eq-eqb, ne_eqb}
use Rattle.std.proofs.lemmas.List.Sums.{fold-append}
use Rattle.std.proofs.lemmas.Option.{same_Some}
use Rattle.core_regs.specs.declared.causes.WaitOn.{WaitOn}
use Rattle.isa_step.specs.Effects.{Effect, Due, Does, Waits, Sleeps, Ends, Stops}
use Rattle.isa_step.specs.Due.{due}
use Rattle.run_journal.specs.declared.entry.Entry.{Entry}
use Rattle.run_journal.specs.declared.entry.What.{What}
use Rattle.run_journal.specs.declared.entry.What.TheVariants.{Wait}
use Rattle.board_machine.specs.declared.events.Event.{Event}
use Rattle.board_machine.specs.declared.events.Event.TheVariants.{Devices, Host, Tick, Next}
use Rattle.board_machine.specs.Fabric.{Fabric, act_leaves, breaks_come, entered, entered_some, entries_of_action, entry_of, entry_of_act, host_moves, is_logged, line_set, line_told, move_of, no_core, or_low, shown}
use Rattle.board_machine.specs.DeviceMoves.{devices_moved, in_order, is_turn, left_at, line_driven, line_change, timers_moved, uart_cycled, uart_moved, with_devices}
use Rattle.board_machine.specs.World.{World, CoreAt, Step, TickMay, acts_of, devices_done, line_latched}
use Rattle.board_machine.proofs.DeviceSteps.{order_keeps}
use Rattle.board_machine.proofs.Lists.{slice_get_set_other}

told_or : Bool → Option Bool → Bool
told_or high None = high
told_or high (Some now) = now

high_after : ℕ → Bool → Entry → Bool
high_after core high e = if e.core == core then told_or high (line_told e.what) else high

-- whether the last LineUp or LineDown of a core is a LineUp
pub high_told : ℕ → List Entry → Bool
high_told core journal = fold (high_after core) false journal

pub record TellsLines (f : Fabric) : Type 0 where
  pub each : (core : ℕ) (high : Bool) → slice_get f.lines core ≡ Some high → high ≡ high_told core f.journal

KeepsLines : Fabric → Fabric → Type 0
KeepsLines f g = TellsLines f → TellsLines g

told_push : (core : ℕ) (journal : List Entry) (e : Entry) → high_told core (journal ++ e ∷ []) ≡ high_after core (high_told core journal) e
unfolding high_told
told_push core journal e = fold-append (high_after core) false journal (e ∷ [])

set_is : (xs : List Bool) (k : ℕ) (y z : Bool) → slice_get (slice_set xs k y) k ≡ Some z → z ≡ y
set_is [] k y z e = cc
set_is (x ∷ xs) zero y z e = sym (same_Some y z e)
set_is (x ∷ xs) (suc k) y z e = set_is xs k y z e

own_line : (lines : List Bool) (core : ℕ) (t : Option Bool) (old high : Bool) → (slice_get lines core ≡ Some high → high ≡ old) → slice_get (line_set core t lines) core ≡ Some high → high ≡ told_or old t
unfolding told_or
own_line lines core None old high was q = was q
own_line lines core (Some now) old high was q = set_is lines core now high q

other_line : (lines : List Bool) (core k : ℕ) (t : Option Bool) → (k ≡ core → ⊥) → slice_get (line_set core t lines) k ≡ slice_get lines k
other_line lines core k None ne = refl
other_line lines core k (Some now) ne = slice_get_set_other lines k core now ne

line_of : (f : Fabric) (core act k : ℕ) (what : What) (high : Bool) → TellsLines f → (k ≡ core) ⊎ (k ≡ core → ⊥) → slice_get (line_set core (line_told what) f.lines) k ≡ Some high → high ≡ high_after k (high_told k f.journal) (entry_of f.cycle core act what)
unfolding high_after
line_of f core act k what high h (inl s) q =
    let now = own_line f.lines core (line_told what) (high_told core f.journal) high (h.each core high) (subst (λ k. slice_get (line_set core (line_told what) f.lines) k ≡ Some high) s q) in
    let own : high ≡ told_or (high_told k f.journal) (line_told what) = subst (λ k. high ≡ told_or (high_told k f.journal) (line_told what)) (sym s) now in
    own ∙ sym (ap (λ b. cond b (told_or (high_told k f.journal) (line_told what)) (high_told k f.journal)) (eq-eqb core k (sym s)))
line_of f core act k what high h (inr ne) q =
    h.each k high (sym (other_line f.lines core k (line_told what) ne) ∙ q)
    ∙ sym (ap (λ b. cond b (told_or (high_told k f.journal) (line_told what)) (high_told k f.journal)) (ne_eqb core k (λ z. ne (sym z))))

entered_keeps : (core act : ℕ) (what : What) (f : Fabric) → KeepsLines f (entered core act what f)
unfolding KeepsLines
entered_keeps core act what f h = record { each = λ k high q. line_of f core act k what high h (cases_eq k core) q ∙ sym (told_push k f.journal (entry_of f.cycle core act what)) }

some_keeps : (core act : ℕ) (o : Option What) (f : Fabric) → KeepsLines f (entered_some core act o f)
unfolding KeepsLines
some_keeps core act None f h = h
some_keeps core act (Some what) f h = entered_keeps core act what f h

-- neither lines nor journal changed
same_keeps : (f g : Fabric) → g.lines ≡ f.lines → g.journal ≡ f.journal → KeepsLines f g
unfolding KeepsLines
same_keeps f g l j h = record { each = λ k high q. h.each k high (sym (ap (λ (ls : List Bool). slice_get ls k) l) ∙ q) ∙ ap (high_told k) (sym j) }

waited_keeps : (core act : ℕ) (on : WaitOn) (f : Fabric) (kept : Bool) → KeepsLines f (cond kept f (entered core act (Wait on) f))
unfolding KeepsLines
waited_keeps core act on f true h = h
waited_keeps core act on f false h = entered_keeps core act (Wait on) f h

later_keeps : (f g later : Fabric) → later ≡ g → KeepsLines f g → KeepsLines f later
later_keeps f g later e k = subst (KeepsLines f) (sym e) k

effect_keeps : (core act : ℕ) (effect : Effect) (f : Fabric) → KeepsLines f (act_leaves core act effect f)
unfolding KeepsLines
effect_keeps core act effect f h = some_keeps core act (entry_of_act effect.done.act) (entered_some core act (entries_of_action effect.action) f) (some_keeps core act (entries_of_action effect.action) f h)

itself_keeps : (f : Fabric) → KeepsLines f f
unfolding KeepsLines
itself_keeps f h = h

then_keeps : (f g k : Fabric) → KeepsLines f g → KeepsLines g k → KeepsLines f k
unfolding KeepsLines
then_keeps f g k a b h = b (a h)

tick_keeps : (core : ℕ) (d : Due) (old : CoreAt) (before : Fabric) (new : CoreAt) (later : Fabric) → TickMay core d old before new later → KeepsLines before later
tick_keeps core (Does effect) old before new later (inl h) = later_keeps before _ later h.fabric (effect_keeps core old.acts effect before)
tick_keeps core (Does effect) old before new later (inr h) = later_keeps before before later h.fabric (itself_keeps before)
tick_keeps core (Waits port full) old before new later (inl h) = later_keeps before _ later h.fabric (waited_keeps core old.acts (record { port = port; full = full }) before (is_logged core old.acts before.journal))
tick_keeps core (Waits port full) old before new later (inr h) = later_keeps before before later h.fabric (itself_keeps before)
tick_keeps core Sleeps old before new later h = later_keeps before before later h.fabric (itself_keeps before)
tick_keeps core Ends old before new later h = later_keeps before before later h.fabric (itself_keeps before)
tick_keeps core (Stops cause) old before new later h = later_keeps before before later h.fabric (itself_keeps before)

moves_keep : (f : Fabric) (n : ℕ) → KeepsLines f (host_moves f n)
moves_keep f zero = itself_keeps f
moves_keep f (suc n) = let g = host_moves f n in then_keeps f g (host_moves f (suc n)) (moves_keep f n) (some_keeps no_core 0 (move_of g n) g)

uart_keeps : (k : ℕ) (f : Fabric) (turn : Bool) → KeepsLines f (cond turn (entered_some no_core 0 (left_at k (slice_get f.devices.uarts k)) (with_devices (uart_cycled k f.devices) f)) f)
uart_keeps k f false = itself_keeps f
uart_keeps k f true = then_keeps f (with_devices (uart_cycled k f.devices) f) _ (same_keeps f _ refl refl) (some_keeps no_core 0 (left_at k (slice_get f.devices.uarts k)) (with_devices (uart_cycled k f.devices) f))

moved_keeps : (f : Fabric) → KeepsLines f (devices_moved f)
moved_keeps f =
    let t = timers_moved f in
    let u = in_order uart_moved (length f.bus.uarts) t in
    then_keeps f u (devices_moved f)
    (then_keeps f t u (same_keeps f t refl refl) (order_keeps KeepsLines uart_moved itself_keeps then_keeps (λ k f. uart_keeps k f (is_turn f.cycle (slice_get f.bus.uarts k))) (length f.bus.uarts) t))
    (same_keeps u (devices_moved f) refl refl)

latch_keeps : (cores : List CoreAt) (core : ℕ) (f : Fabric) → KeepsLines f (line_latched cores core f)
latch_keeps cores core f = some_keeps core (acts_of (slice_get cores core)) (line_change (line_driven f core) (or_low (slice_get f.lines core))) f

done_keeps : (cores : List CoreAt) (f : Fabric) → KeepsLines f (devices_done cores f)
unfolding devices_done
done_keeps cores f =
    let g = devices_moved (breaks_come f) in
    then_keeps f g (devices_done cores f) (then_keeps f (breaks_come f) g (same_keeps f (breaks_come f) refl refl) (moved_keeps (breaks_come f))) (order_keeps KeepsLines (line_latched cores) itself_keeps then_keeps (latch_keeps cores) (length cores) g)

pub step_lines_told : (w v : World) (e : Event) → Step w e v → TellsLines w.fabric → TellsLines v.fabric
unfolding KeepsLines
step_lines_told w v (Tick core) h r = tick_keeps core (due h.was.view (shown w.fabric core)) h.was w.fabric h.is v.fabric h.may r
step_lines_told w v Devices h r = subst (λ (v : World). TellsLines v.fabric) (sym h) (done_keeps w.cores w.fabric r)
step_lines_told w v Host h r = subst (λ (v : World). TellsLines v.fabric) (sym h) (moves_keep w.fabric (length w.fabric.rows) r)
step_lines_told w v Next h r = subst (λ (v : World). TellsLines v.fabric) (sym h) (same_keeps w.fabric _ refl refl r)
