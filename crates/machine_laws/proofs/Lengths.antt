-- Each list of the fabric keeps its length.
use Rattle.std.proofs.Common.{◌≡◌, ℕ, zero, suc, List, [], ◌∷◌, length, length-set, Option, Some, None, refl, ap, sym, ◌∙◌, subst, inl, inr, slice_get, Bool, true, false, cond, filter}
use Rattle.std.specs.List.{fold}
use Rattle.core_regs.specs.declared.causes.WaitOn.{WaitOn}
use Rattle.axi_link.specs.Channel.{Channel}
use Rattle.bus_map.specs.declared.device.Access.{Access}
use Rattle.bus_map.specs.declared.device.Access.TheVariants.{Read as ReadAt, Write as WriteAt}
use Rattle.isa_step.specs.declared.acts.Breaks.{Breaks}
use Rattle.isa_step.specs.Effects.{Effect, Due, Does, Waits, Sleeps, Ends, Stops}
use Rattle.isa_step.specs.Due.{due}
use Rattle.board_file.specs.declared.board.EventRow.{EventRow}
use Rattle.board_file.specs.declared.board.IntcRow.{IntcRow}
use Rattle.board_file.specs.declared.board.TimerRow.{TimerRow}
use Rattle.board_file.specs.declared.board.LinkRow.{LinkRow}
use Rattle.run_journal.specs.declared.entry.What.{What}
use Rattle.run_journal.specs.declared.entry.What.TheVariants.{Got, Sent, HostSent, HostGot, Read, Took, Wait, Wrote}
use Rattle.board_machine.specs.declared.events.Event.{Event}
use Rattle.board_machine.specs.declared.events.Event.TheVariants.{Devices, Host, Tick, Next}
use Rattle.board_machine.specs.declared.parts.Spot.{Spot}
use Rattle.board_machine.specs.declared.parts.Spot.TheVariants.{Timer as AtTimer, Intc as AtIntc, Uart as AtUart}
use Rattle.board_machine.specs.Places.{set_some, touch}
use Rattle.board_machine.specs.Bus.{DeviceRows, Devices as DeviceSet, accessed_at, offset_in, spot_at}
use Rattle.board_machine.specs.DeviceMoves.{devices_moved, divides, edge_used, in_order, inputs_taken, intc_moved, intc_moved_by, intcs_moved, is_of, is_turn, left_at, line_change, line_driven, timer_cycled, timer_moved, timer_moved_by, timers_moved, uart_asked, uart_cycled, uart_moved, with_devices}
use Rattle.board_machine.specs.Fabric.{Fabric, Feed, act_leaves, breaks_come, changed, devices_after, entered, entered_some, entries_of_action, entry_of_act, feeds_after, given, has_come, host_moves, is_logged, line_set, line_told, links_after, move_of, moved, no_core, or_low, pending_after, shown, waited}
use Rattle.board_machine.specs.World.{CoreAt, Step, TickMay, World, acts_of, devices_done, line_latched}
use Rattle.board_machine.proofs.DeviceSteps.{order_keeps}

-- as many devices of each kind
pub record SameCounts (d e : DeviceSet) : Type 0 where
  pub timers : length e.timers ≡ length d.timers
  pub intcs : length e.intcs ≡ length d.intcs
  pub uarts : length e.uarts ≡ length d.uarts

pub record SameLengths (f g : Fabric) : Type 0 where
  pub lines : length g.lines ≡ length f.lines
  pub pending : length g.pending ≡ length f.pending
  pub links : length g.links ≡ length f.links
  pub feeds : length g.feeds ≡ length f.feeds
  pub devices : SameCounts f.devices g.devices

set_length : {X : Type 0} (xs : List X) (k : ℕ) (f : X → X) (o : Option X) → length (set_some xs k f o) ≡ length xs
set_length xs k f None = refl
set_length xs k f (Some x) = length-set xs k (f x)

touch_length : {X : Type 0} (f : X → X) (k : ℕ) (xs : List X) → length (touch f k xs) ≡ length xs
touch_length f k xs = set_length xs k f (slice_get xs k)

changed_length : (f : Channel → Channel) (links : List Channel) (o : Option ℕ) → length (changed f links o) ≡ length links
changed_length f links None = refl
changed_length f links (Some k) = touch_length f k links

links_length : (rows : List LinkRow) (core : ℕ) (what : What) (links : List Channel) → length (links_after rows core what links) ≡ length links
links_length rows core (Got port item) links = changed_length _ links _
links_length rows core (Sent port item) links = changed_length _ links _
links_length rows core (HostSent link item) links = touch_length _ link links
links_length rows core (HostGot link item) links = touch_length _ link links
links_length rows core _ links = refl

feeds_length : (what : What) (feeds : List Feed) → length (feeds_after what feeds) ≡ length feeds
feeds_length (HostSent link item) feeds = touch_length _ link feeds
feeds_length _ feeds = refl

pending_length : (core : ℕ) (what : What) (pending : List Breaks) → length (pending_after core what pending) ≡ length pending
pending_length core (Took t) pending = touch_length _ core pending
pending_length core _ pending = refl

lines_length : (core : ℕ) (told : Option Bool) (lines : List Bool) → length (line_set core told lines) ≡ length lines
lines_length core None lines = refl
lines_length core (Some high) lines = length-set lines core high

-- devices

same_counts : (d : DeviceSet) → SameCounts d d
same_counts d = record { timers = refl; intcs = refl; uarts = refl }

counts_then : (d e g : DeviceSet) → SameCounts d e → SameCounts e g → SameCounts d g
counts_then d e g a b = record { timers = b.timers ∙ a.timers; intcs = b.intcs ∙ a.intcs; uarts = b.uarts ∙ a.uarts }

access_counts : (d : DeviceSet) (a : Access) (spot : Option Spot) → SameCounts d (accessed_at d a spot)
unfolding accessed_at
access_counts d a None = same_counts d
access_counts d a (Some (AtTimer k)) = record { timers = touch_length _ k d.timers; intcs = refl; uarts = refl }
access_counts d a (Some (AtIntc k)) = record { timers = refl; intcs = touch_length _ k d.intcs; uarts = refl }
access_counts d a (Some (AtUart k)) = record { timers = refl; intcs = refl; uarts = touch_length _ k d.uarts }

after_counts : (bus : DeviceRows) (core : ℕ) (what : What) (d : DeviceSet) → SameCounts d (devices_after bus core what d)
after_counts bus core (Read addr word) d = access_counts d (ReadAt (offset_in addr)) (spot_at bus core addr)
after_counts bus core (Wrote addr word) d = access_counts d (WriteAt (offset_in addr) word) (spot_at bus core addr)
after_counts bus core _ d = same_counts d

order_counts : (move : ℕ → DeviceSet → DeviceSet) → ((k : ℕ) (d : DeviceSet) → SameCounts d (move k d)) → (n : ℕ) (d : DeviceSet) → SameCounts d (in_order move n d)
order_counts move each n d = order_keeps SameCounts move same_counts counts_then each n d

timer_turn_counts : (k : ℕ) (turn : Bool) (d : DeviceSet) → SameCounts d (cond turn (timer_cycled k d) d)
timer_turn_counts k false d = same_counts d
timer_turn_counts k true d = record { timers = touch_length _ k d.timers; intcs = refl; uarts = refl }

timer_counts : (cycle k : ℕ) (o : Option TimerRow) (d : DeviceSet) → SameCounts d (timer_moved_by cycle k o d)
timer_counts cycle k None d = same_counts d
timer_counts cycle k (Some r) d = timer_turn_counts k (divides r.clock cycle) d

asked_counts : (k : ℕ) (d : DeviceSet) (own : Bool) → SameCounts d (cond own (edge_used k d) d)
asked_counts k d true = record { timers = refl; intcs = refl; uarts = touch_length _ k d.uarts }
asked_counts k d false = same_counts d

intc_turn_counts : (bus : DeviceRows) (core k : ℕ) (turn : Bool) (d : DeviceSet) → SameCounts d (cond turn (inputs_taken bus core k d) d)
intc_turn_counts bus core k false d = same_counts d
intc_turn_counts bus core k true d =
    let e = in_order (uart_asked bus core) (length bus.uarts) d in
    counts_then d e (inputs_taken bus core k d)
    (order_counts (uart_asked bus core) (λ j d. asked_counts j d (is_of core (slice_get bus.uarts j))) (length bus.uarts) d)
    (record { timers = refl; intcs = touch_length _ k e.intcs; uarts = refl })

intc_counts : (bus : DeviceRows) (cycle k : ℕ) (o : Option IntcRow) (d : DeviceSet) → SameCounts d (intc_moved_by bus cycle k o d)
intc_counts bus cycle k None d = same_counts d
intc_counts bus cycle k (Some r) d = intc_turn_counts bus r.core k (divides r.clock cycle) d

-- fabrics

same : (f g : Fabric) → g ≡ f → SameLengths f g
same f g e = subst (SameLengths f) (sym e) (record { lines = refl; pending = refl; links = refl; feeds = refl; devices = same_counts f.devices })

twice : (f g h : Fabric) → SameLengths f g → SameLengths g h → SameLengths f h
twice f g h a b = record {
  lines = b.lines ∙ a.lines;
  pending = b.pending ∙ a.pending;
  links = b.links ∙ a.links;
  feeds = b.feeds ∙ a.feeds;
  devices = counts_then f.devices g.devices h.devices a.devices b.devices;
}

left_as : (f g h : Fabric) → h ≡ g → SameLengths f g → SameLengths f h
left_as f g h e a = subst (SameLengths f) (sym e) a

one_length : (core act : ℕ) (what : What) (f : Fabric) → SameLengths f (entered core act what f)
one_length core act what f = record {
  lines = lines_length core (line_told what) f.lines;
  pending = pending_length core what f.pending;
  links = links_length f.rows core what f.links;
  feeds = feeds_length what f.feeds;
  devices = after_counts f.bus core what f.devices;
}

some_length : (core act : ℕ) (o : Option What) (f : Fabric) → SameLengths f (entered_some core act o f)
some_length core act None f = same f f refl
some_length core act (Some what) f = one_length core act what f

act_length : (core act : ℕ) (effect : Effect) (f : Fabric) → SameLengths f (act_leaves core act effect f)
act_length core act effect f =
    let g = entered_some core act (entries_of_action effect.action) f in
    twice f g (act_leaves core act effect f) (some_length core act (entries_of_action effect.action) f) (some_length core act (entry_of_act effect.done.act) g)

wait_length : (core act : ℕ) (on : WaitOn) (f : Fabric) (b : Bool) → SameLengths f (cond b f (entered core act (Wait on) f))
wait_length core act on f true = same f f refl
wait_length core act on f false = one_length core act (Wait on) f

moves_length : (f : Fabric) (n : ℕ) → SameLengths f (host_moves f n)
moves_length f zero = same f f refl
moves_length f (suc n) = let g = host_moves f n in twice f g (moved n g) (moves_length f n) (some_length no_core 0 (move_of g n) g)

given_length : (pending : List Breaks) (rows : List EventRow) → length (fold given pending rows) ≡ length pending
given_length pending [] = refl
given_length pending (r ∷ rs) = given_length (given pending r) rs ∙ touch_length _ r.core pending

breaks_length : (f : Fabric) → SameLengths f (breaks_come f)
breaks_length f = record { lines = refl; pending = given_length f.pending (filter (has_come f.cycle) f.left); links = refl; feeds = refl; devices = same_counts f.devices }

order_length : (move : ℕ → Fabric → Fabric) → ((k : ℕ) (f : Fabric) → SameLengths f (move k f)) → (n : ℕ) (f : Fabric) → SameLengths f (in_order move n f)
order_length move each n f = order_keeps SameLengths move (λ f. same f f refl) twice each n f

-- the devices alone change
devices_length : (f : Fabric) (d : DeviceSet) → SameCounts f.devices d → SameLengths f (with_devices d f)
devices_length f d c = record { lines = refl; pending = refl; links = refl; feeds = refl; devices = c }

uart_length : (k : ℕ) (f : Fabric) (turn : Bool) → SameLengths f (cond turn (entered_some no_core 0 (left_at k (slice_get f.devices.uarts k)) (with_devices (uart_cycled k f.devices) f)) f)
uart_length k f false = same f f refl
uart_length k f true =
    let d = uart_cycled k f.devices in
    twice f (with_devices d f) _
    (devices_length f d (record { timers = refl; intcs = refl; uarts = touch_length _ k f.devices.uarts }))
    (some_length no_core 0 (left_at k (slice_get f.devices.uarts k)) (with_devices d f))

moved_length : (f : Fabric) → SameLengths f (devices_moved f)
moved_length f =
    let t = timers_moved f in
    let u = in_order uart_moved (length f.bus.uarts) t in
    twice f u (devices_moved f)
    (twice f t u
    (devices_length f t.devices (order_counts (timer_moved f.bus f.cycle) (λ k d. timer_counts f.cycle k (slice_get f.bus.timers k) d) (length f.bus.timers) f.devices))
    (order_length uart_moved (λ k f. uart_length k f (is_turn f.cycle (slice_get f.bus.uarts k))) (length f.bus.uarts) t))
    (devices_length u (intcs_moved u).devices (order_counts (intc_moved u.bus u.cycle) (λ k d. intc_counts u.bus u.cycle k (slice_get u.bus.intcs k) d) (length u.bus.intcs) u.devices))

latch_length : (cores : List CoreAt) (core : ℕ) (f : Fabric) → SameLengths f (line_latched cores core f)
latch_length cores core f = some_length core (acts_of (slice_get cores core)) (line_change (line_driven f core) (or_low (slice_get f.lines core))) f

done_length : (cores : List CoreAt) (f : Fabric) → SameLengths f (devices_done cores f)
unfolding devices_done
done_length cores f =
    let b = breaks_come f in
    let g = devices_moved b in
    twice f b (devices_done cores f) (breaks_length f)
    (twice b g (devices_done cores f) (moved_length b) (order_length (line_latched cores) (latch_length cores) (length cores) g))

tick_length : (core : ℕ) (d : Due) (s n : CoreAt) (f g : Fabric) → TickMay core d s f n g → SameLengths f g
tick_length core (Does effect) s n f g (inl h) = left_as f (act_leaves core s.acts effect f) g h.fabric (act_length core s.acts effect f)
tick_length core (Does effect) s n f g (inr h) = same f g h.fabric
tick_length core (Waits port full) s n f g (inl h) =
    let on : WaitOn = record { port = port; full = full } in
    left_as f (waited core s.acts on f) g h.fabric (wait_length core s.acts on f (is_logged core s.acts f.journal))
tick_length core (Waits port full) s n f g (inr h) = same f g h.fabric
tick_length core Sleeps s n f g h = same f g h.fabric
tick_length core Ends s n f g h = same f g h.fabric
tick_length core (Stops cause) s n f g h = same f g h.fabric

pub step_length : (w v : World) (e : Event) → Step w e v → SameLengths w.fabric v.fabric
step_length w v (Tick core) h = tick_length core (due h.was.view (shown w.fabric core)) h.was h.is w.fabric v.fabric h.may
step_length w v Devices h = left_as w.fabric (devices_done w.cores w.fabric) v.fabric (ap (λ (x : World). x.fabric) h) (done_length w.cores w.fabric)
step_length w v Host h = left_as w.fabric (host_moves w.fabric (length w.fabric.rows)) v.fabric (ap (λ (x : World). x.fabric) h) (moves_length w.fabric (length w.fabric.rows))
step_length w v Next h = subst (λ (x : World). SameLengths w.fabric x.fabric) (sym h) (record { lines = refl; pending = refl; links = refl; feeds = refl; devices = same_counts w.fabric.devices })
