-- A line is high only where its core has a controller, whatever the events.
use Rattle.std.proofs.Common.{◌≡◌, ℕ, zero, suc, ◌<◌, List, [], ◌∷◌, length, length-set, Option, Some, None, refl, ap, sym, ◌∙◌, subst, inl, inr, ◌⊎◌, slice_get, slice_set, position, get_or, Bool, true, false, cond, ◌||◌, arith}
use Rattle.std.specs.List.{list_any}
use Rattle.std.proofs.lemmas.List.Quantifiers.{position-Some}
use Rattle.axi_link.specs.declared.item.Item.{Item}
use Rattle.axi_intc.specs.declared.intc.Intc.{Intc}
use Rattle.core_regs.specs.declared.causes.WaitOn.{WaitOn}
use Rattle.isa_step.specs.declared.acts.Act.{Act}
use Rattle.isa_step.specs.declared.acts.Act.TheVariants as acts
use Rattle.isa_step.specs.declared.acts.Action.{Action}
use Rattle.isa_step.specs.declared.acts.Action.TheVariants as action
use Rattle.isa_step.specs.Effects.{Effect, Due, Does, Waits, Sleeps, Ends, Stops}
use Rattle.isa_step.specs.Due.{due}
use Rattle.run_journal.specs.declared.entry.What.{What}
use Rattle.run_journal.specs.declared.entry.What.TheVariants.{Wait}
use Rattle.board_file.specs.declared.board.IntcRow.{IntcRow}
use Rattle.board_machine.specs.declared.events.Event.{Event}
use Rattle.board_machine.specs.declared.events.Event.TheVariants.{Devices, Host, Tick, Next}
use Rattle.board_machine.specs.declared.events.HostPart.{HostPart}
use Rattle.board_machine.specs.declared.events.HostPart.TheVariants.{Sends, Takes, Nothing}
use Rattle.board_machine.specs.Bus.{DeviceRows, Serial}
use Rattle.board_machine.specs.Fabric.{Fabric, act_leaves, breaks_come, entered, entered_some, entries_of_action, entry_of_act, entry_of_action, first_in, got_of, hopes_at, host_moves, is_logged, is_on, line_set, line_told, move_by, move_of, next_sent, no_core, or_low, part_at, sent_of, shown}
use Rattle.board_machine.specs.DeviceMoves.{controller, devices_moved, in_order, is_turn, latched, left_at, left_of, line_driven, line_change, output_of, timers_moved, uart_cycled, uart_moved, with_devices}
use Rattle.board_machine.specs.World.{World, CoreAt, Step, Steps, TickMay, acts_of, devices_done, line_latched}
use Rattle.board_machine.proofs.Steps.{moves_enter, tick_kept}
use Rattle.board_machine.proofs.DeviceSteps.{moved_enter, order_keeps}
use Rattle.uart_lite.specs.Machine.{leaving}

-- a line is high only where the core has a controller
pub record IsWired (f : Fabric) : Type 0 where
  pub line : (core : ℕ) → or_low (slice_get f.lines core) ≡ true → (hopes_at f core).interrupt ≡ true

pub wired_same : (f g : Fabric) → g.lines ≡ f.lines → g.bus ≡ f.bus → IsWired f → IsWired g
wired_same f g l b h = record {
  line = λ core e.
      ap (λ (bus : DeviceRows). list_any (is_on core) bus.intcs) b
      ∙ h.line core (sym (ap (λ (ls : List Bool). or_low (slice_get ls core)) l) ∙ e);
}

-- entries that leave the lines

abbrev pub SameLines : Fabric → Fabric → Type 0
SameLines f g = g.lines ≡ f.lines

pub NoLine : Option What → Type 0
NoLine None = Unit {0}
NoLine (Some what) = line_told what ≡ None

pub some_lines : (core act : ℕ) (o : Option What) (f : Fabric) → NoLine o → SameLines f (entered_some core act o f)
unfolding NoLine
some_lines core act None f h = refl
some_lines core act (Some what) f h = ap (λ t. line_set core t f.lines) h

pub action_line : (a : Action) → line_told (entry_of_action a) ≡ None
action_line (action.Took t) = refl
action_line (action.Got port item) = refl
action_line (action.Sent port item) = refl
action_line (action.Seen port item) = refl
action_line (action.Room port) = refl
action_line (action.Missed port full) = refl
action_line (action.Read addr word) = refl
action_line (action.ReadRefused addr) = refl
action_line (action.Wrote addr word) = refl
action_line (action.WriteRefused addr word) = refl

actions_line : (o : Option Action) → NoLine (entries_of_action o)
unfolding NoLine
actions_line None = tt
actions_line (Some a) = action_line a

pub act_line : (a : Act) → NoLine (entry_of_act a)
unfolding NoLine
act_line acts.Retired = tt
act_line acts.Slept = refl
act_line (acts.Took t) = tt
act_line (acts.Raised esr) = refl
act_line (acts.Stopped cause) = refl

effect_lines : (core act : ℕ) (effect : Effect) (f : Fabric) → SameLines f (act_leaves core act effect f)
effect_lines core act effect f = some_lines core act (entry_of_act effect.done.act) (entered_some core act (entries_of_action effect.action) f) (act_line effect.done.act) ∙ some_lines core act (entries_of_action effect.action) f (actions_line effect.action)

pub waited_by : (core act : ℕ) (on : WaitOn) (f : Fabric) (kept : Bool) → SameLines f (cond kept f (entered core act (Wait on) f))
waited_by core act on f true = refl
waited_by core act on f false = refl

tick_lines : (core : ℕ) (d : Due) (old : CoreAt) (before : Fabric) (new : CoreAt) (later : Fabric) → TickMay core d old before new later → SameLines before later
tick_lines core (Does effect) old before new later (inl h) = ap (λ (f : Fabric). f.lines) h.fabric ∙ effect_lines core old.acts effect before
tick_lines core (Does effect) old before new later (inr h) = ap (λ (f : Fabric). f.lines) h.fabric
tick_lines core (Waits port full) old before new later (inl h) = ap (λ (f : Fabric). f.lines) h.fabric ∙ waited_by core old.acts (record { port = port; full = full }) before (is_logged core old.acts before.journal)
tick_lines core (Waits port full) old before new later (inr h) = ap (λ (f : Fabric). f.lines) h.fabric
tick_lines core Sleeps old before new later h = ap (λ (f : Fabric). f.lines) h.fabric
tick_lines core Ends old before new later h = ap (λ (f : Fabric). f.lines) h.fabric
tick_lines core (Stops cause) old before new later h = ap (λ (f : Fabric). f.lines) h.fabric

sent_line : (link : ℕ) (o : Option Item) → NoLine (sent_of link o)
unfolding NoLine
sent_line link None = tt
sent_line link (Some item) = refl

got_line : (link : ℕ) (o : Option Item) → NoLine (got_of link o)
unfolding NoLine
got_line link None = tt
got_line link (Some item) = refl

part_line : (f : Fabric) (link : ℕ) (part : HostPart) → NoLine (move_by f link part)
unfolding NoLine
part_line f link Sends = sent_line link (next_sent f link)
part_line f link Takes = got_line link (first_in (slice_get f.links link))
part_line f link Nothing = tt

-- the host leaves the interrupt lines
pub moves_lines : (f : Fabric) (n : ℕ) → SameLines f (host_moves f n)
moves_lines f zero = refl
moves_lines f (suc n) =
    let g = host_moves f n in
    some_lines no_core 0 (move_of g n) g (part_line g n (part_at (slice_get g.rows n))) ∙ moves_lines f n

-- the moves of devices leave them

order_lines : (move : ℕ → Fabric → Fabric) → ((k : ℕ) (f : Fabric) → SameLines f (move k f)) → (n : ℕ) (f : Fabric) → SameLines f (in_order move n f)
order_lines move each n f = order_keeps SameLines move (λ f. refl) (λ f g h a b. b ∙ a) each n f

byte_line : (k : ℕ) (o : Option ℕ) → NoLine (left_of k o)
unfolding NoLine
byte_line k None = tt
byte_line k (Some byte) = refl

left_line : (k : ℕ) (o : Option Serial) → NoLine (left_at k o)
unfolding NoLine
left_line k None = tt
left_line k (Some u) = byte_line k (leaving u.port)

uart_lines : (k : ℕ) (f : Fabric) (turn : Bool) → SameLines f (cond turn (entered_some no_core 0 (left_at k (slice_get f.devices.uarts k)) (with_devices (uart_cycled k f.devices) f)) f)
uart_lines k f false = refl
uart_lines k f true = some_lines no_core 0 (left_at k (slice_get f.devices.uarts k)) (with_devices (uart_cycled k f.devices) f) (left_line k (slice_get f.devices.uarts k))

pub moved_lines : (f : Fabric) → SameLines f (devices_moved f)
moved_lines f = order_lines uart_moved (λ k f. uart_lines k f (is_turn f.cycle (slice_get f.bus.uarts k))) (length f.bus.uarts) (timers_moved f)

-- latching

change_length : (core act : ℕ) (new old : Bool) (f : Fabric) → length (entered_some core act (line_change new old) f).lines ≡ length f.lines
change_length core act true true f = refl
change_length core act false false f = refl
change_length core act true false f = length-set f.lines core true
change_length core act false true f = length-set f.lines core false

-- latching keeps a line for each core
pub latched_length : (core act : ℕ) (f : Fabric) → length (latched core act f).lines ≡ length f.lines
latched_length core act f = change_length core act (line_driven f core) (or_low (slice_get f.lines core)) f

or_right : (a b : Bool) → b ≡ true → a || b ≡ true
or_right true b e = refl
or_right false b e = e

get_passes : {X : Type 0} (p : X → Bool) (xs : List X) (k : ℕ) (d : X) → k < length xs → p (get_or xs k d) ≡ true → list_any p xs ≡ true
get_passes p [] k d l e = absurd (omega (arith, l))
get_passes p (x ∷ xs) zero d l e = rw e refl
get_passes p (x ∷ xs) (suc k) d l e = or_right (p x) (list_any p xs) (get_passes p xs k d (omega (arith, l)) e)

position_any : {X : Type 0} (p : X → Bool) (xs : List X) (k : ℕ) → position p xs ≡ Some k → list_any p xs ≡ true
position_any p [] k e = cc
position_any p (x ∷ xs) k e = let h = position-Some p (x ∷ xs) k x e in get_passes p (x ∷ xs) k x h.0 h.1

line_has : (intcs : List Intc) (rows : List IntcRow) (core : ℕ) (o : Option ℕ) → position (is_on core) rows ≡ o → output_of (controller intcs o) ≡ true → list_any (is_on core) rows ≡ true
line_has intcs rows core None e h = cc
line_has intcs rows core (Some k) e h = position_any (is_on core) rows k e

-- one line is set: what was high is, or this one is
set_line : (lines : List Bool) (core k : ℕ) (high : Bool) → or_low (slice_get (slice_set lines core high) k) ≡ true → ((k ≡ core) × (high ≡ true)) ⊎ (or_low (slice_get lines k) ≡ true)
set_line [] core k high e = inr e
set_line (l ∷ lines) zero zero high e = inl (refl, e)
set_line (l ∷ lines) zero (suc k) high e = inr e
set_line (l ∷ lines) (suc core) zero high e = inr e
set_line (l ∷ lines) (suc core) (suc k) high e = elim (set_line lines core k high e) [
  | inl p ↦ inl (ap suc p.0, p.1)
  | inr p ↦ inr p
]

latched_by : (core act : ℕ) (new old : Bool) (f : Fabric) → (new ≡ true → (hopes_at f core).interrupt ≡ true) → IsWired f → IsWired (entered_some core act (line_change new old) f)
latched_by core act true true f has h = h
latched_by core act false false f has h = h
latched_by core act true false f has h = record {
  line = λ k e. elim (set_line f.lines core k true e) [
    | inl p ↦ ap (λ k. (hopes_at f k).interrupt) p.0 ∙ has refl
    | inr p ↦ h.line k p
  ];
}
latched_by core act false true f has h = record {
  line = λ k e. elim (set_line f.lines core k false e) [
    | inl p ↦ cc
    | inr p ↦ h.line k p
  ];
}

latch_wired : (cores : List CoreAt) (core : ℕ) (f : Fabric) → IsWired f → IsWired (line_latched cores core f)
latch_wired cores core f h = latched_by core (acts_of (slice_get cores core)) (line_driven f core) (or_low (slice_get f.lines core)) f (line_has f.devices.intcs f.bus.intcs core (position (is_on core) f.bus.intcs) refl) h

pub done_wired : (cores : List CoreAt) (f : Fabric) → IsWired f → IsWired (devices_done cores f)
unfolding devices_done
done_wired cores f h =
    let b = breaks_come f in
    let g = devices_moved b in
    order_keeps (λ f g. IsWired f → IsWired g) (line_latched cores) (λ f h. h) (λ f g k a b h. b (a h)) (latch_wired cores) (length cores) g
    (wired_same b g (moved_lines b) (moved_enter b).bus (wired_same f b refl refl h))

pub step_wired : (w v : World) (e : Event) → Step w e v → IsWired w.fabric → IsWired v.fabric
step_wired w v (Tick core) h r = wired_same w.fabric v.fabric (tick_lines core (due h.was.view (shown w.fabric core)) h.was w.fabric h.is v.fabric h.may) (tick_kept core w v h).bus r
step_wired w v Devices h r = subst (λ (v : World). IsWired v.fabric) (sym h) (done_wired w.cores w.fabric r)
step_wired w v Host h r = subst (λ (v : World). IsWired v.fabric) (sym h) (wired_same w.fabric (host_moves w.fabric (length w.fabric.rows)) (moves_lines w.fabric (length w.fabric.rows)) (moves_enter w.fabric (length w.fabric.rows)).bus r)
step_wired w v Next h r = subst (λ (v : World). IsWired v.fabric) (sym h) (wired_same w.fabric _ refl refl r)

pub steps_wired : (w v : World) (es : List Event) → Steps w es v → IsWired w.fabric → IsWired v.fabric
steps_wired w v [] h r = subst (λ (v : World). IsWired v.fabric) (sym h) r
steps_wired w v (e ∷ es) h r = steps_wired h.0 v es h.2 (step_wired w h.0 e h.1 r)
