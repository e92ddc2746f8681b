-- A board that is still stays as it is, but for waits that are entered; and the test of rest is the definition of still.
use Rattle.std.proofs.Common.{◌≡◌, ℕ, zero, suc, ◌+◌, ◌<◌, ◌≤◌, ◌↔◌, IsSome, List, [], ◌∷◌, ◌++◌, length, map, Option, Some, None, refl, ap, sym, ◌∙◌, subst, inl, inr, ◌⊎◌, arith, slice_get, slice_set, Bool, true, false, cond, ◌&&◌, ◌||◌, ◌==◌, nat_lt, drop}
use Rattle.std.specs.Option.{option_map, option_and_then, is_none, is_some}
use Rattle.std.specs.List.{AllByRecursion, list_all}
use Rattle.std.proofs.lemmas.Bool.Decides.{nat_tests}
use Rattle.std.proofs.lemmas.List.{append-nil, append_assoc, map-set}
use Rattle.std.proofs.lemmas.Option.{same_Some, slice_get-map, slice_get_past, slice_get_within}
use Rattle.core_regs.specs.declared.causes.WaitOn.{WaitOn}
use Rattle.isa_step.specs.declared.acts.Idle.{Idle}
use Rattle.isa_step.specs.Effects.{View, Due, Does, Waits, Sleeps, Ends, Stops}
use Rattle.isa_step.specs.Due.{due}
use Rattle.isa_step.specs.Resting.{IsAnnounced, idle_due, idle_view}
use Rattle.isa_step.proofs.RestLaws.{idle_lasts}
use Rattle.run_journal.specs.declared.entry.Entry.{Entry}
use Rattle.run_journal.specs.declared.entry.What.TheVariants.{Wait, LineUp, LineDown}
use Rattle.board_file.specs.declared.board.EventRow.{EventRow}
use Rattle.board_machine.specs.declared.events.Event.{Event}
use Rattle.board_machine.specs.declared.events.Event.TheVariants.{Devices, Host, Tick, Next}
use Rattle.board_machine.specs.declared.events.Rest.{Rest}
use Rattle.board_machine.specs.declared.events.RunEnd.TheVariants.{Rest as AtRest, CyclesSpent, JournalFull}
use Rattle.uart_lite.specs.Machine.{SerialPort, cycled, sent}
use Rattle.board_file.specs.declared.board.IntcRow.{IntcRow}
use Rattle.board_file.specs.declared.board.TimerRow.{TimerRow}
use Rattle.board_machine.specs.Places.{set_some, touch}
use Rattle.board_machine.specs.Bus.{DeviceRows, Devices as DeviceSet, Serial, is_done, next_byte, place_after, serial_asked, serial_cycled}
use Rattle.board_machine.specs.DeviceMoves.{devices_moved, divides, edge_used, in_order, inputs_taken, intc_moved, intc_moved_by, intcs_moved, is_of, is_turn, left_at, left_of, line_driven, line_change, timer_cycled, timer_moved, timer_moved_by, timers_moved, uart_asked, uart_cycled, uart_moved, with_devices}
use Rattle.board_machine.proofs.DeviceSteps.{order_keeps}
use Rattle.board_machine.proofs.Alike.{rest_alike}
use Rattle.board_machine.specs.Fabric.{Fabric, entered, entered_some, entry_of, breaks_come, host_moves, hopes_at, is_logged, move_by, move_of, part_at, moved, no_core, or_low, shown}
use Rattle.board_machine.specs.World.{World, CoreAt, acts_of, devices_done, line_latched, Step, Steps, TickStep, TickMay, IsIdle, need}
use Rattle.board_machine.specs.Resting.{Still, Rests, and_idle, idle_at, idle_here, is_note, is_outside_still, is_quiet_to, joined, rest_of, rest_to}
use Rattle.board_machine.specs.Cycles.{end_at, end_of}
use Rattle.board_machine.proofs.Lists.{all_append, and_left, and_right, inside_or_past, last_or_before, none_is, set_itself, slice_get_in, some_of}

-- all but the cycle number, the devices, the lines and the journal are as before
abbrev pub Same : Fabric → Fabric → Type 0
Same f g = g ≡ record f { cycle = g.cycle; devices = g.devices; lines = g.lines; journal = g.journal; spare = g.spare }

-- rest is told of what can come, not of the line or the bus
rest_same : (v : View) (f g : Fabric) (core : ℕ) → Same f g → idle_view v (shown g core) ≡ idle_view v (shown f core)
rest_same v f g core s = rest_alike v (shown f core) (shown g core) (record { hopes = ap (λ x. hopes_at x core) s; first = ap (λ x. (shown x core).first) s; room = ap (λ x. (shown x core).room) s })

move_same : (f g : Fabric) (link : ℕ) → Same f g → move_of g link ≡ move_of f link
move_same f g link s = ap (λ x. move_of x link) s

same_fabric : (f g : Fabric) → g ≡ f → Same f g
same_fabric f g e = subst (λ g. Same f g) (sym e) refl

same_then : (f g h : Fabric) → Same f g → Same g h → Same f h
same_then f g h a b = b ∙ ap (λ (x : Fabric). record x { cycle = h.cycle; devices = h.devices; lines = h.lines; journal = h.journal; spare = h.spare }) a

or_left : (a b : Bool) → a ≡ true → a || b ≡ true
or_left a b e = rw e refl

-- what has come to a core was announced for
pub announced : (f : Fabric) (core : ℕ) → IsAnnounced (shown f core)
announced f core = record {
  interrupt = λ e. and_left _ _ e;
  maskable = λ e. or_left _ _ e;
  nonmaskable = λ e. or_left _ _ e;
}

-- nothing moved
record Unmoved (w v : World) : Type 0 where
  same : Same w.fabric v.fabric
  uarts : list_all is_done v.fabric.devices.uarts ≡ true
  views : map (λ s. s.view) v.cores ≡ map (λ s. s.view) w.cores
  acts : map (λ s. s.acts) v.cores ≡ map (λ s. s.acts) w.cores
  added : List Entry
  journal : v.fabric.journal ≡ w.fabric.journal ++ added
  notes : AllByRecursion (λ (e : Entry). is_note e.what ≡ true) added

map_some : {X Y : Type 0} (f : X → Y) (o : Option X) (y : Y) → option_map f o ≡ Some y → (x : X) × (o ≡ Some x) × (f x ≡ y)
map_some f None y e = cc
map_some f (Some x) y e = (x, refl, same_Some _ _ e)

view_was : (w v : World) (k : ℕ) (s : CoreAt) → map (λ s. s.view) v.cores ≡ map (λ s. s.view) w.cores → slice_get v.cores k ≡ Some s → (r : CoreAt) × (slice_get w.cores k ≡ Some r) × (r.view ≡ s.view)
view_was w v k s e q = map_some (λ (s : CoreAt). s.view) (slice_get w.cores k) s.view
    (sym (slice_get-map (λ (s : CoreAt). s.view) w.cores k) ∙ ap (λ (vs : List View). slice_get vs k) (sym e) ∙ slice_get-map (λ (s : CoreAt). s.view) v.cores k ∙ ap (option_map (λ (s : CoreAt). s.view)) q)

idle_kept : (w v : World) (k : ℕ) (s r : CoreAt) → Same w.fabric v.fabric → slice_get v.cores k ≡ Some s → slice_get w.cores k ≡ Some r → r.view ≡ s.view → idle_at v k ≡ idle_at w k
idle_kept w v k s r same q p e =
    ap (idle_here v.fabric k) q ∙ rest_same s.view w.fabric v.fabric k same ∙ ap (λ x. idle_view x (shown w.fabric k)) (sym e) ∙ sym (ap (idle_here w.fabric k) p)

still_kept : (w v : World) → Still w → Unmoved w v → Still v
still_kept w v h u = record {
  cores = λ k s q.
      let r = view_was w v k s u.views q in
      ap is_some (idle_kept w v k s r.0 u.same q r.1 r.2) ∙ h.cores k r.0 r.1;
  links = λ link. move_same w.fabric v.fabric link u.same ∙ h.links link;
  breaks = ap (λ (f : Fabric). f.left) u.same ∙ h.breaks;
  uarts = u.uarts;
}

same_part : {X : Type 0} (part : CoreAt → X) (w v : World) (core : ℕ) (h : TickStep core w v) → part h.is ≡ part h.was → map part v.cores ≡ map part w.cores
same_part part w v core h e =
    ap (map part) h.cores ∙ map-set part w.cores core h.is ∙ ap (slice_set (map part w.cores) core) e
    ∙ set_itself (map part w.cores) core (part h.was) (slice_get-map part w.cores core ∙ ap (option_map part) h.there)

same_unmoved : (w v : World) → list_all is_done w.fabric.devices.uarts ≡ true → v.fabric ≡ w.fabric → map (λ s. s.view) v.cores ≡ map (λ s. s.view) w.cores → map (λ s. s.acts) v.cores ≡ map (λ s. s.acts) w.cores → Unmoved w v
same_unmoved w v d f e a = record { same = same_fabric w.fabric v.fabric f; uarts = ap (λ (g : Fabric). list_all is_done g.devices.uarts) f ∙ d; views = e; acts = a; added = []; journal = ap (λ (g : Fabric). g.journal) f ∙ sym (append-nil _); notes = tt }

wait_unmoved : (w v : World) → list_all is_done w.fabric.devices.uarts ≡ true → (core act : ℕ) (on : WaitOn) (kept : Bool) → v.fabric ≡ cond kept w.fabric (entered core act (Wait on) w.fabric) → map (λ s. s.view) v.cores ≡ map (λ s. s.view) w.cores → map (λ s. s.acts) v.cores ≡ map (λ s. s.acts) w.cores → Unmoved w v
wait_unmoved w v d core act on true f e a = same_unmoved w v d f e a
wait_unmoved w v d core act on false f e a = record {
  uarts = ap (λ (g : Fabric). list_all is_done g.devices.uarts) f ∙ d;
  same = subst (λ g. Same w.fabric g) (sym f) refl;
  views = e;
  acts = a;
  added = entry_of w.fabric.cycle core act (Wait on) ∷ [];
  journal = ap (λ (g : Fabric). g.journal) f;
  notes = (refl, tt);
}

idle_unmoved : (w v : World) → list_all is_done w.fabric.devices.uarts ≡ true → (core : ℕ) (h : TickStep core w v) → IsIdle h.was w.fabric h.is v.fabric → Unmoved w v
idle_unmoved w v d core h i = same_unmoved w v d i.fabric (same_part (λ (s : CoreAt). s.view) w v core h (ap (λ (s : CoreAt). s.view) i.state)) (same_part (λ (s : CoreAt). s.acts) w v core h (ap (λ (s : CoreAt). s.acts) i.state))

tick_unmoved : (w v : World) → list_all is_done w.fabric.devices.uarts ≡ true → (core : ℕ) (h : TickStep core w v) (d : Due) (why : Idle) → idle_due d ≡ Some why → TickMay core d h.was w.fabric h.is v.fabric → Unmoved w v
tick_unmoved w v u core h (Does effect) why n m = cc
tick_unmoved w v u core h (Waits port full) why n (inl i) =
    let on : WaitOn = record { port = port; full = full } in
    wait_unmoved w v u core h.was.acts on (is_logged core h.was.acts w.fabric.journal) i.fabric
    (same_part (λ (s : CoreAt). s.view) w v core h (ap (λ (s : CoreAt). s.view) i.state)) (same_part (λ (s : CoreAt). s.acts) w v core h (ap (λ (s : CoreAt). s.acts) i.state))
tick_unmoved w v u core h (Waits port full) why n (inr i) = same_unmoved w v u i.fabric (same_part (λ (s : CoreAt). s.view) w v core h (ap (λ (s : CoreAt). s.view) i.state)) (same_part (λ (s : CoreAt). s.acts) w v core h (ap (λ (s : CoreAt). s.acts) i.state))
tick_unmoved w v u core h Sleeps why n i = idle_unmoved w v u core h i
tick_unmoved w v u core h Ends why n i = idle_unmoved w v u core h i
tick_unmoved w v u core h (Stops cause) why n i = idle_unmoved w v u core h i

no_moves : (f : Fabric) (k : ℕ) → ((link : ℕ) → move_of f link ≡ None) → host_moves f k ≡ f
no_moves f zero a = refl
no_moves f (suc k) a = ap (moved k) (no_moves f k a) ∙ ap (λ o. entered_some no_core 0 o f) (a k)

no_breaks_come : (f : Fabric) (left : List EventRow) → f.left ≡ left → left ≡ [] → breaks_come f ≡ f
no_breaks_come f left e n = rw (e ∙ n) refl

-- the devices of a still board

both_true : (a b : Bool) → a ≡ true → b ≡ true → a && b ≡ true
both_true a b e f = rw (e, f) refl

none_in : (xs : List ℕ) → length xs == 0 ≡ true → xs ≡ []
none_in [] e = refl
none_in (x ∷ xs) e = absurd (grind (arith, nat_tests, e))

-- nothing but timers, controllers and lines changed, and nothing but changes of lines was entered
record Rested (f g : Fabric) : Type 0 where
  same : Same f g
  uarts : list_all is_done g.devices.uarts ≡ true
  added : List Entry
  journal : g.journal ≡ f.journal ++ added
  notes : AllByRecursion (λ (e : Entry). is_note e.what ≡ true) added

KeepsDone : Fabric → Fabric → Type 0
KeepsDone f g = list_all is_done f.devices.uarts ≡ true → Rested f g

keep_same : (f : Fabric) → KeepsDone f f
unfolding KeepsDone
keep_same f d = record { same = refl; uarts = d; added = []; journal = sym (append-nil _); notes = tt }

keep_then : (f g h : Fabric) → KeepsDone f g → KeepsDone g h → KeepsDone f h
unfolding KeepsDone
keep_then f g h a b d =
    let p = a d in
    let q = b p.uarts in
    record {
      same = same_then f g h p.same q.same;
      uarts = q.uarts;
      added = p.added ++ q.added;
      journal = q.journal ∙ ap (λ j. j ++ q.added) p.journal ∙ append_assoc f.journal p.added q.added;
      notes = all_append (λ (e : Entry). is_note e.what ≡ true) p.added q.added p.notes q.notes;
    }

get_done : (us : List Serial) (k : ℕ) (u : Serial) → slice_get us k ≡ Some u → list_all is_done us ≡ true → is_done u ≡ true
get_done [] k u e d = cc
get_done (x ∷ us) zero u e d = subst (λ u. is_done u ≡ true) (same_Some x u e) (and_left (is_done x) (list_all is_done us) d)
get_done (x ∷ us) (suc k) u e d = get_done us k u e (and_right (is_done x) (list_all is_done us) d)

set_done : (us : List Serial) (k : ℕ) (u : Serial) → is_done u ≡ true → list_all is_done us ≡ true → list_all is_done (slice_set us k u) ≡ true
set_done [] k u h d = d
set_done (x ∷ us) zero u h d = both_true (is_done u) (list_all is_done us) h (and_right (is_done x) (list_all is_done us) d)
set_done (x ∷ us) (suc k) u h d = both_true (is_done x) (list_all is_done (slice_set us k u)) (and_left (is_done x) (list_all is_done us) d) (set_done us k u h (and_right (is_done x) (list_all is_done us) d))

touch_by : (us : List Serial) (k : ℕ) (change : Serial → Serial) (o : Option Serial) → slice_get us k ≡ o → ((u : Serial) → is_done u ≡ true → is_done (change u) ≡ true) → list_all is_done us ≡ true → list_all is_done (set_some us k change o) ≡ true
touch_by us k change None e each d = d
touch_by us k change (Some u) e each d = set_done us k (change u) (each u (get_done us k u e d)) d

-- a UART that is done has no byte to take and none to give
pub is_drained : (u : Serial) → is_done u ≡ true → u.port.tx ≡ []
is_drained u d = none_in u.port.tx (and_right (is_none (next_byte u)) (length u.port.tx == 0) d)

-- so a cycle of it changes nothing
no_edge : (edge enabled : Bool) → edge || (enabled && false) ≡ edge
no_edge true enabled = refl
no_edge false true = refl
no_edge false false = refl

sent_none : (p : SerialPort) → p.tx ≡ [] → sent p ≡ p
sent_none p e =
    ap (λ (tx : List ℕ). record p { tx = drop 1 tx; edge = p.edge || (p.enabled && length tx == 1) }) e
    ∙ ap (λ (edge : Bool). record p { tx = []; edge = edge }) (no_edge p.edge p.enabled)
    ∙ ap (λ (tx : List ℕ). record p { tx = tx }) (sym e)

pub cycled_same : (u : Serial) → is_done u ≡ true → serial_cycled u ≡ u
cycled_same u d =
    let n : next_byte u ≡ None = none_is (next_byte u) (and_left (is_none (next_byte u)) (length u.port.tx == 0) d) in
    ap (λ o. record u { port = cycled o u.port; place = place_after o u.place }) n ∙ ap (λ (p : SerialPort). record u { port = p }) (sent_none u.port (is_drained u d))

cycled_done : (u : Serial) → is_done u ≡ true → is_done (serial_cycled u) ≡ true
cycled_done u d = ap is_done (cycled_same u d) ∙ d

none_left_by : (us : List Serial) (k : ℕ) (o : Option Serial) → slice_get us k ≡ o → list_all is_done us ≡ true → left_at k o ≡ None
none_left_by us k None e d = refl
none_left_by us k (Some u) e d = ap (λ (tx : List ℕ). left_of k (slice_get tx 0)) (is_drained u (get_done us k u e d))

-- the devices alone change, and the UARTs stay done
devices_rested : (f : Fabric) (d : DeviceSet) → (list_all is_done f.devices.uarts ≡ true → list_all is_done d.uarts ≡ true) → KeepsDone f (with_devices d f)
unfolding KeepsDone
devices_rested f d keeps h = record { same = refl; uarts = keeps h; added = []; journal = sym (append-nil _); notes = tt }

serials_rested : (k : ℕ) (f : Fabric) (change : Serial → Serial) → ((u : Serial) → is_done u ≡ true → is_done (change u) ≡ true) → KeepsDone f (with_devices (record f.devices { uarts = touch change k f.devices.uarts }) f)
serials_rested k f change each = devices_rested f _ (touch_by f.devices.uarts k change (slice_get f.devices.uarts k) refl each)

uart_rested : (k : ℕ) (f : Fabric) (turn : Bool) → KeepsDone f (cond turn (entered_some no_core 0 (left_at k (slice_get f.devices.uarts k)) (with_devices (uart_cycled k f.devices) f)) f)
unfolding KeepsDone
uart_rested k f false d = keep_same f d
uart_rested k f true d = subst (λ o. Rested f (entered_some no_core 0 o (with_devices (uart_cycled k f.devices) f))) (sym (none_left_by f.devices.uarts k (slice_get f.devices.uarts k) refl d)) (serials_rested k f serial_cycled cycled_done d)

-- the moves of timers and controllers leave the UARTs done
abbrev pub StaysDone : DeviceSet → DeviceSet → Type 0
StaysDone d e = list_all is_done d.uarts ≡ true → list_all is_done e.uarts ≡ true

order_done : (move : ℕ → DeviceSet → DeviceSet) → ((k : ℕ) (d : DeviceSet) → StaysDone d (move k d)) → (n : ℕ) (d : DeviceSet) → StaysDone d (in_order move n d)
order_done move each n d = order_keeps StaysDone move (λ d h. h) (λ d e g a b h. b (a h)) each n d

asked_done : (k : ℕ) (d : DeviceSet) (own : Bool) → StaysDone d (cond own (edge_used k d) d)
asked_done k d false h = h
asked_done k d true h = touch_by d.uarts k serial_asked (slice_get d.uarts k) refl (λ u h. h) h

timer_turn_done : (k : ℕ) (turn : Bool) (d : DeviceSet) → StaysDone d (cond turn (timer_cycled k d) d)
timer_turn_done k false d h = h
timer_turn_done k true d h = h

timer_done : (cycle k : ℕ) (o : Option TimerRow) (d : DeviceSet) → StaysDone d (timer_moved_by cycle k o d)
timer_done cycle k None d h = h
timer_done cycle k (Some r) d h = timer_turn_done k (divides r.clock cycle) d h

intc_turn_done : (bus : DeviceRows) (core k : ℕ) (turn : Bool) (d : DeviceSet) → StaysDone d (cond turn (inputs_taken bus core k d) d)
intc_turn_done bus core k false d h = h
intc_turn_done bus core k true d h = order_done (uart_asked bus core) (λ k d. asked_done k d (is_of core (slice_get bus.uarts k))) (length bus.uarts) d h

intc_done : (bus : DeviceRows) (cycle k : ℕ) (o : Option IntcRow) (d : DeviceSet) → StaysDone d (intc_moved_by bus cycle k o d)
intc_done bus cycle k None d h = h
intc_done bus cycle k (Some r) d h = intc_turn_done bus r.core k (divides r.clock cycle) d h

order_rested : (move : ℕ → Fabric → Fabric) → ((k : ℕ) (f : Fabric) → KeepsDone f (move k f)) → (n : ℕ) (f : Fabric) → KeepsDone f (in_order move n f)
order_rested move each n f = order_keeps KeepsDone move keep_same keep_then each n f

latched_rested : (core act : ℕ) (new old : Bool) (f : Fabric) → KeepsDone f (entered_some core act (line_change new old) f)
unfolding KeepsDone
latched_rested core act true true f d = keep_same f d
latched_rested core act false false f d = keep_same f d
latched_rested core act true false f d = record { same = refl; uarts = d; added = entry_of f.cycle core act LineUp ∷ []; journal = refl; notes = (refl, tt) }
latched_rested core act false true f d = record { same = refl; uarts = d; added = entry_of f.cycle core act LineDown ∷ []; journal = refl; notes = (refl, tt) }

latch_rested : (cores : List CoreAt) (core : ℕ) (f : Fabric) → KeepsDone f (line_latched cores core f)
latch_rested cores core f = latched_rested core (acts_of (slice_get cores core)) (line_driven f core) (or_low (slice_get f.lines core)) f

moved_rested : (f : Fabric) → KeepsDone f (devices_moved f)
moved_rested f =
    let t = timers_moved f in
    let u = in_order uart_moved (length f.bus.uarts) t in
    keep_then f u (devices_moved f)
    (keep_then f t u (devices_rested f t.devices (order_done (timer_moved f.bus f.cycle) (λ k d. timer_done f.cycle k (slice_get f.bus.timers k) d) (length f.bus.timers) f.devices)) (order_rested uart_moved (λ k f. uart_rested k f (is_turn f.cycle (slice_get f.bus.uarts k))) (length f.bus.uarts) t))
    (devices_rested u (intcs_moved u).devices (order_done (intc_moved u.bus u.cycle) (λ k d. intc_done u.bus u.cycle k (slice_get u.bus.intcs k) d) (length u.bus.intcs) u.devices))

done_rested : (cores : List CoreAt) (f : Fabric) → f.left ≡ [] → list_all is_done f.devices.uarts ≡ true → Rested f (devices_done cores f)
unfolding devices_done KeepsDone
done_rested cores f none d =
    let all : Rested f (in_order (line_latched cores) (length cores) (devices_moved f)) =
    keep_then f (devices_moved f) (in_order (line_latched cores) (length cores) (devices_moved f)) (moved_rested f) (order_rested (line_latched cores) (latch_rested cores) (length cores) (devices_moved f)) d in
    subst (λ x. Rested f (in_order (line_latched cores) (length cores) (devices_moved x))) (sym (no_breaks_come f f.left refl none)) all

step_unmoved : (w v : World) (e : Event) → Still w → Step w e v → Unmoved w v
step_unmoved w v Devices s h =
    let d = done_rested w.cores w.fabric s.breaks s.uarts in
    subst (Unmoved w) (sym h) (record { same = d.same; uarts = d.uarts; views = refl; acts = refl; added = d.added; journal = d.journal; notes = d.notes })
step_unmoved w v Host s h = same_unmoved w v s.uarts (ap (λ (w : World). w.fabric) h ∙ no_moves w.fabric (length w.fabric.rows) s.links) (ap (λ (w : World). map (λ s. s.view) w.cores) h) (ap (λ (w : World). map (λ s. s.acts) w.cores) h)
step_unmoved w v (Tick core) s h =
    let i = some_of (idle_at w core) (s.cores core h.was h.there) in
    tick_unmoved w v s.uarts core h (due h.was.view (shown w.fabric core)) i.0
    (idle_lasts h.was.view (shown w.fabric core) i.0 (announced w.fabric core) (sym (ap (idle_here w.fabric core) h.there) ∙ i.1)) h.may
step_unmoved w v Next s h = subst (Unmoved w) (sym h) (record { same = refl; uarts = s.uarts; views = refl; acts = refl; added = []; journal = sym (append-nil _); notes = tt })

-- from a still board, whatever the events
pub steps_rest : (w v : World) (es : List Event) → Steps w es v → Still w → Rests w v
steps_rest w v [] h s = subst (Rests w) (sym h) (record { views = refl; acts = refl; links = refl; feeds = refl; added = []; journal = sym (append-nil _); notes = tt; still = s })
steps_rest w v (e ∷ es) h s =
    let u = step_unmoved w h.0 e s h.1 in
    let r = steps_rest h.0 v es h.2 (still_kept w h.0 s u) in
    record {
      views = r.views ∙ u.views;
      acts = r.acts ∙ u.acts;
      links = r.links ∙ ap (λ (f : Fabric). f.links) u.same;
      feeds = r.feeds ∙ ap (λ (f : Fabric). f.feeds) u.same;
      added = u.added ++ r.added;
      journal = r.journal ∙ ap (λ j. j ++ r.added) u.journal ∙ append_assoc w.fabric.journal u.added r.added;
      notes = all_append (λ (e : Entry). is_note e.what ≡ true) u.added r.added u.notes r.notes;
      still = r.still;
    }

-- the test of the board is the definition of being still

false_right : (b : Bool) → b && false ≡ false
false_right true = refl
false_right false = refl

move_past : (f : Fabric) (k : ℕ) → length f.rows ≤ k → move_of f k ≡ None
move_past f k l = ap (λ o. move_by f k (part_at o)) (slice_get_past f.rows k l)

quiet_last : (f : Fabric) (n k : ℕ) → ((j : ℕ) → j < n → move_of f j ≡ None) → is_none (move_of f n) ≡ true → (k ≡ n) ⊎ (k < n) → move_of f k ≡ None
quiet_last f n k before e (inr q) = before k q
quiet_last f n k before e (inl q) = ap (move_of f) q ∙ none_is _ e

pub quiet_at : (f : Fabric) (n k : ℕ) → is_quiet_to f n ≡ true → k < n → move_of f k ≡ None
quiet_at f zero k e l = absurd (omega (arith, l))
quiet_at f (suc n) k e l = quiet_last f n k (λ j q. quiet_at f n j (and_left _ _ e) q) (and_right (is_quiet_to f n) _ e) (last_or_before k n l)

pub quiet_if : (f : Fabric) (n : ℕ) → ((k : ℕ) → move_of f k ≡ None) → is_quiet_to f n ≡ true
quiet_if f zero a = refl
quiet_if f (suc n) a = rw (quiet_if f n a, a n) refl

-- a link at which an item can move
pub loud_at : (f : Fabric) (n k : ℕ) → k < n → is_none (move_of f k) ≡ false → is_quiet_to f n ≡ false
loud_at f zero k l e = absurd (omega (arith, l))
loud_at f (suc n) k l e = elim (last_or_before k n l) [
  | inl q ↦ ap (λ b. is_quiet_to f n && b) (ap (λ k. is_none (move_of f k)) (sym q) ∙ e) ∙ false_right (is_quiet_to f n)
  | inr q ↦ ap (λ b. b && is_none (move_of f n)) (loud_at f n k q e)
]

and_idle_inv : (o : Option Idle) (p : Option Rest) (r : Rest) → option_and_then (and_idle o) p ≡ Some r → (is_some o ≡ true) × (is_some p ≡ true)
and_idle_inv None None r e = cc
and_idle_inv None (Some q) r e = cc
and_idle_inv (Some i) None r e = cc
and_idle_inv (Some i) (Some q) r e = (refl, refl)

pub rest_at : (w : World) (n k : ℕ) → is_some (rest_to w n) ≡ true → k < n → is_some (idle_at w k) ≡ true
rest_at w zero k e l = absurd (omega (arith, l))
rest_at w (suc n) k e l =
    let r = some_of (rest_to w (suc n)) e in
    let i = and_idle_inv (idle_at w n) (rest_to w n) r.0 r.1 in
    elim (last_or_before k n l) [
      | inl q ↦ subst (λ k. is_some (idle_at w k) ≡ true) (sym q) i.0
      | inr q ↦ rest_at w n k i.1 q
    ]

pub rest_if : (w : World) (n : ℕ) → ((k : ℕ) → k < n → is_some (idle_at w k) ≡ true) → is_some (rest_to w n) ≡ true
rest_if w zero h = refl
rest_if w (suc n) h =
    let i = some_of (idle_at w n) (h n (omega arith)) in
    let r = some_of (rest_to w n) (rest_if w n (λ k l. h k (omega (arith, l)))) in
    rw (i.1, r.1) refl

none_left : (left : List EventRow) → length left == 0 ≡ true → left ≡ []
none_left [] e = refl
none_left (x ∷ xs) e = absurd (grind (arith, nat_tests, e))

still_by : (w : World) (q : Bool) → is_outside_still w.fabric ≡ q → is_some (cond q (rest_to w (length w.cores)) None) ≡ true → Still w
still_by w false e h = cc
still_by w true e h = record {
  cores = λ k s q. rest_at w (length w.cores) k h (slice_get_within w.cores k s q);
  links = λ k. elim (inside_or_past k (length w.fabric.rows)) [
    | inl l ↦ quiet_at w.fabric (length w.fabric.rows) k (and_left _ (length w.fabric.left == 0) (and_left _ (list_all is_done w.fabric.devices.uarts) e)) l
    | inr l ↦ move_past w.fabric k l
  ];
  breaks = none_left w.fabric.left (and_right (is_quiet_to w.fabric (length w.fabric.rows)) _ (and_left _ (list_all is_done w.fabric.devices.uarts) e));
  uarts = and_right (is_quiet_to w.fabric (length w.fabric.rows) && length w.fabric.left == 0) _ e;
}

pub still_from_rest : (w : World) → is_some (rest_of w) ≡ true → Still w
still_from_rest w h = still_by w (is_outside_still w.fabric) refl h

nothing_left : (left : List EventRow) → left ≡ [] → length left == 0 ≡ true
nothing_left left e = rw e refl

pub rest_from_still : (w : World) → Still w → is_some (rest_of w) ≡ true
rest_from_still w s =
    let q = both_true _ _ (both_true _ _ (quiet_if w.fabric (length w.fabric.rows) s.links) (nothing_left w.fabric.left s.breaks)) s.uarts in
    let r = rest_if w (length w.cores) (λ k l. let c = slice_get_in w.cores k l in s.cores k c.0 c.1) in
    ap (λ b. is_some (cond b (rest_to w (length w.cores)) None)) q ∙ r

pub still_rest : (w : World) → IsSome (rest_of w) ↔ Still w
still_rest w = (still_from_rest w, rest_from_still w)

none_unless : {X : Type 0} (o : Option X) → (is_some o ≡ true → ⊥) → o ≡ None
none_unless None h = refl
none_unless (Some x) h = absurd (h refl)

rest_none : (w : World) (q : Bool) (k : ℕ) → k < length w.cores → idle_at w k ≡ None → cond q (rest_to w (length w.cores)) None ≡ None
rest_none w false k l e = refl
rest_none w true k l e = none_unless (rest_to w (length w.cores)) (λ h. let i = rest_at w (length w.cores) k h l in let z : is_some {T = Idle} None ≡ true = subst (λ (o : Option Idle). is_some o ≡ true) e i in cc)

-- a core that is not idle
pub busy_at : (w : World) (k : ℕ) → k < length w.cores → idle_at w k ≡ None → rest_of w ≡ None
busy_at w k l e = rest_none w (is_outside_still w.fabric) k l e

spent_or_full : (spent full : Bool) (r : Rest) → cond spent (Some CyclesSpent) (cond full (Some JournalFull) None) ≡ Some (AtRest r) → is_some {T = Rest} None ≡ true
spent_or_full true full r e = cc
spent_or_full false true r e = cc
spent_or_full false false r e = cc

at_rest_is : (limit : ℕ) (w : World) (o : Option Rest) (r : Rest) → end_of limit w o ≡ Some (AtRest r) → is_some o ≡ true
at_rest_is limit w (Some q) r e = refl
at_rest_is limit w None r e = spent_or_full (w.fabric.cycle == limit) (nat_lt w.fabric.spare (need w)) r e

-- a run that ends at rest ends still
pub ends_still : (limit : ℕ) (w : World) (r : Rest) → end_at limit w ≡ Some (AtRest r) → Still w
ends_still limit w r e = still_from_rest w (at_rest_is limit w (rest_of w) r e)

-- one core more
pub rest_more : (w : World) (k : ℕ) (r : Rest) (i : Idle) → rest_to w k ≡ Some r → idle_at w k ≡ Some i → rest_to w (k + 1) ≡ Some (joined r i)
rest_more w k r i e h =
    let one : suc k ≡ k + 1 = omega arith in
    let all : rest_to w (suc k) ≡ Some (joined r i) = rw (e, h) refl in
    subst (λ n. rest_to w n ≡ Some (joined r i)) one all
