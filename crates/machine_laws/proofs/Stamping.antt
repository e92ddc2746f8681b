-- Each event makes entries that bear its stamp.
use Rattle.std.proofs.Common.{◌≡◌, ℕ, zero, suc, List, [], ◌∷◌, ◌++◌, length, Option, Some, None, refl, ap, sym, ◌∙◌, subst, inl, inr, slice_get, Bool, true, false, cond}
use Rattle.std.specs.List.{AllByRecursion}
use Rattle.std.proofs.lemmas.List.{append-nil, append_assoc}
use Rattle.axi_link.specs.declared.item.Item.{Item}
use Rattle.core_regs.specs.declared.causes.WaitOn.{WaitOn}
use Rattle.isa_step.specs.declared.acts.Act.{Act}
use Rattle.isa_step.specs.declared.acts.Act.TheVariants as acts
use Rattle.isa_step.specs.declared.acts.Action.{Action}
use Rattle.isa_step.specs.declared.acts.Action.TheVariants as action
use Rattle.isa_step.specs.Effects.{Effect, Due, Does, Waits, Sleeps, Ends, Stops}
use Rattle.isa_step.specs.Due.{due}
use Rattle.run_journal.specs.declared.entry.Entry.{Entry}
use Rattle.run_journal.specs.declared.entry.What.{What}
use Rattle.run_journal.specs.declared.entry.What.TheVariants.{Wait}
use Rattle.board_machine.specs.declared.events.Event.{Event}
use Rattle.board_machine.specs.declared.events.Event.TheVariants.{Devices, Host, Tick, Next}
use Rattle.board_machine.specs.declared.events.HostPart.{HostPart}
use Rattle.board_machine.specs.declared.events.HostPart.TheVariants.{Sends, Takes, Nothing}
use Rattle.uart_lite.specs.Machine.{leaving}
use Rattle.board_machine.specs.Bus.{Serial}
use Rattle.board_machine.specs.DeviceMoves.{devices_moved, in_order, intcs_moved, is_turn, left_at, left_of, line_change, line_driven, timers_moved, uart_cycled, uart_moved, with_devices}
use Rattle.board_machine.specs.Fabric.{Fabric, act_leaves, breaks_come, entered, entered_some, entries_of_action, entry_of, entry_of_act, first_in, got_of, host_moves, is_logged, move_by, move_of, moved, next_sent, no_core, or_low, part_at, sent_of, shown, waited}
use Rattle.board_machine.specs.World.{CoreAt, Step, TickMay, World, acts_of, devices_done, line_latched}
use Rattle.board_machine.proofs.DeviceSteps.{order_keeps}
use Rattle.board_machine.proofs.Lists.{all_append}
use Rattle.board_machine.proofs.Steps.{moves_enter}
use Rattle.machine_laws.specs.Stamps.{EntriesAreStamped, IsStamped, maker}

-- entries that were added, each with a property
pub record AddedAll (P : Entry → Type 0) (f g : Fabric) : Type 0 where
  pub added : List Entry
  pub journal : g.journal ≡ f.journal ++ added
  pub each : AllByRecursion P added

pub no_more : (P : Entry → Type 0) (f g : Fabric) → g.journal ≡ f.journal → AddedAll P f g
no_more P f g e = record { added = []; journal = e ∙ sym (append-nil f.journal); each = tt }

pub and_more : (P : Entry → Type 0) (f g h : Fabric) → AddedAll P f g → AddedAll P g h → AddedAll P f h
and_more P f g h a b = record {
  added = a.added ++ b.added;
  journal = b.journal ∙ ap (λ es. es ++ b.added) a.journal ∙ append_assoc f.journal a.added b.added;
  each = all_append P a.added b.added a.each b.each;
}

-- what makes an entry
IsMadeBy : Event → ℕ → Option What → Type 0
IsMadeBy event core None = Unit {0}
IsMadeBy event core (Some what) = maker core what ≡ event

some_stamped : (event : Event) (core act : ℕ) (o : Option What) (f : Fabric) → IsMadeBy event core o → AddedAll (IsStamped f.cycle event) f (entered_some core act o f)
unfolding IsMadeBy
some_stamped event core act None f h = no_more (IsStamped f.cycle event) f f refl
some_stamped event core act (Some what) f h = record { added = entry_of f.cycle core act what ∷ []; journal = refl; each = (record { in_cycle = refl; made = h }, tt) }

some_cycle : (core act : ℕ) (o : Option What) (f : Fabric) → (entered_some core act o f).cycle ≡ f.cycle
some_cycle core act None f = refl
some_cycle core act (Some what) f = refl

action_made : (core : ℕ) (a : Option Action) → IsMadeBy (Tick core) core (entries_of_action a)
unfolding IsMadeBy
action_made core None = tt
action_made core (Some (action.Took t)) = refl
action_made core (Some (action.Got p x)) = refl
action_made core (Some (action.Sent p x)) = refl
action_made core (Some (action.Seen p x)) = refl
action_made core (Some (action.Room p)) = refl
action_made core (Some (action.Missed p b)) = refl
action_made core (Some (action.Read a w)) = refl
action_made core (Some (action.ReadRefused a)) = refl
action_made core (Some (action.Wrote a w)) = refl
action_made core (Some (action.WriteRefused a w)) = refl

act_made : (core : ℕ) (a : Act) → IsMadeBy (Tick core) core (entry_of_act a)
unfolding IsMadeBy
act_made core acts.Retired = tt
act_made core acts.Slept = refl
act_made core (acts.Took t) = tt
act_made core (acts.Raised esr) = refl
act_made core (acts.Stopped cause) = refl

act_stamped : (core act : ℕ) (effect : Effect) (f : Fabric) → AddedAll (IsStamped f.cycle (Tick core)) f (act_leaves core act effect f)
act_stamped core act effect f =
    let g = entered_some core act (entries_of_action effect.action) f in
    and_more (IsStamped f.cycle (Tick core)) f g (act_leaves core act effect f)
    (some_stamped (Tick core) core act (entries_of_action effect.action) f (action_made core effect.action))
    (subst (λ c. AddedAll (IsStamped c (Tick core)) g (act_leaves core act effect f)) (some_cycle core act (entries_of_action effect.action) f)
    (some_stamped (Tick core) core act (entry_of_act effect.done.act) g (act_made core effect.done.act)))

wait_stamped : (core act : ℕ) (on : WaitOn) (f : Fabric) (b : Bool) → AddedAll (IsStamped f.cycle (Tick core)) f (cond b f (entered core act (Wait on) f))
wait_stamped core act on f true = no_more _ f f refl
wait_stamped core act on f false = record { added = entry_of f.cycle core act (Wait on) ∷ []; journal = refl; each = (record { in_cycle = refl; made = refl }, tt) }

left_as : (P : Entry → Type 0) (f g h : Fabric) → h ≡ g → AddedAll P f g → AddedAll P f h
left_as P f g h e a = subst (AddedAll P f) (sym e) a

tick_stamped : (core : ℕ) (d : Due) (s n : CoreAt) (f g : Fabric) → TickMay core d s f n g → AddedAll (IsStamped f.cycle (Tick core)) f g
tick_stamped core (Does effect) s n f g (inl h) = left_as _ f (act_leaves core s.acts effect f) g h.fabric (act_stamped core s.acts effect f)
tick_stamped core (Does effect) s n f g (inr h) = left_as _ f f g h.fabric (no_more _ f f refl)
tick_stamped core (Waits port full) s n f g (inl h) =
    let on : WaitOn = record { port = port; full = full } in
    left_as _ f (waited core s.acts on f) g h.fabric (wait_stamped core s.acts on f (is_logged core s.acts f.journal))
tick_stamped core (Waits port full) s n f g (inr h) = left_as _ f f g h.fabric (no_more _ f f refl)
tick_stamped core Sleeps s n f g h = left_as _ f f g h.fabric (no_more _ f f refl)
tick_stamped core Ends s n f g h = left_as _ f f g h.fabric (no_more _ f f refl)
tick_stamped core (Stops cause) s n f g h = left_as _ f f g h.fabric (no_more _ f f refl)

sent_made : (link : ℕ) (o : Option Item) → IsMadeBy Host no_core (sent_of link o)
unfolding IsMadeBy
sent_made link None = tt
sent_made link (Some item) = refl

got_made : (link : ℕ) (o : Option Item) → IsMadeBy Host no_core (got_of link o)
unfolding IsMadeBy
got_made link None = tt
got_made link (Some item) = refl

part_made : (f : Fabric) (link : ℕ) (part : HostPart) → IsMadeBy Host no_core (move_by f link part)
unfolding IsMadeBy
part_made f link Sends = sent_made link (next_sent f link)
part_made f link Takes = got_made link (first_in (slice_get f.links link))
part_made f link Nothing = tt

host_stamped : (f : Fabric) (n : ℕ) → AddedAll (IsStamped f.cycle Host) f (host_moves f n)
host_stamped f zero = no_more _ f f refl
host_stamped f (suc n) =
    let g = host_moves f n in
    and_more (IsStamped f.cycle Host) f g (moved n g) (host_stamped f n)
    (subst (λ c. AddedAll (IsStamped c Host) g (moved n g)) (moves_enter f n).cycle (some_stamped Host no_core 0 (move_of g n) g (part_made g n (part_at (slice_get g.rows n)))))

-- the step of the devices

-- in the same cycle, and what was entered bears its stamp and that of the devices
record DevicesStamp (f g : Fabric) : Type 0 where
  cycle : g.cycle ≡ f.cycle
  added : AddedAll (IsStamped f.cycle Devices) f g

nothing_stamped : (f g : Fabric) → g.cycle ≡ f.cycle → g.journal ≡ f.journal → DevicesStamp f g
nothing_stamped f g c j = record { cycle = c; added = no_more (IsStamped f.cycle Devices) f g j }

stamps_then : (f g h : Fabric) → DevicesStamp f g → DevicesStamp g h → DevicesStamp f h
stamps_then f g h a b = record {
  cycle = b.cycle ∙ a.cycle;
  added = and_more (IsStamped f.cycle Devices) f g h a.added (subst (λ c. AddedAll (IsStamped c Devices) g h) a.cycle b.added);
}

order_stamps : (move : ℕ → Fabric → Fabric) → ((k : ℕ) (f : Fabric) → DevicesStamp f (move k f)) → (n : ℕ) (f : Fabric) → DevicesStamp f (in_order move n f)
order_stamps move each n f = order_keeps DevicesStamp move (λ f. nothing_stamped f f refl refl) stamps_then each n f

entry_stamps : (core act : ℕ) (o : Option What) (f : Fabric) → IsMadeBy Devices core o → DevicesStamp f (entered_some core act o f)
entry_stamps core act o f h = record { cycle = some_cycle core act o f; added = some_stamped Devices core act o f h }

byte_made : (k : ℕ) (o : Option ℕ) → IsMadeBy Devices no_core (left_of k o)
unfolding IsMadeBy
byte_made k None = tt
byte_made k (Some byte) = refl

left_made : (k : ℕ) (o : Option Serial) → IsMadeBy Devices no_core (left_at k o)
unfolding IsMadeBy
left_made k None = tt
left_made k (Some u) = byte_made k (leaving u.port)

change_made : (core : ℕ) (new old : Bool) → IsMadeBy Devices core (line_change new old)
unfolding IsMadeBy
change_made core true true = tt
change_made core true false = refl
change_made core false true = refl
change_made core false false = tt

uart_stamps : (k : ℕ) (f : Fabric) (turn : Bool) → DevicesStamp f (cond turn (entered_some no_core 0 (left_at k (slice_get f.devices.uarts k)) (with_devices (uart_cycled k f.devices) f)) f)
uart_stamps k f false = nothing_stamped f f refl refl
uart_stamps k f true =
    let g = with_devices (uart_cycled k f.devices) f in
    stamps_then f g _ (nothing_stamped f g refl refl) (entry_stamps no_core 0 (left_at k (slice_get f.devices.uarts k)) g (left_made k (slice_get f.devices.uarts k)))

moved_stamps : (f : Fabric) → DevicesStamp f (devices_moved f)
moved_stamps f =
    let t = timers_moved f in
    let u = in_order uart_moved (length f.bus.uarts) t in
    stamps_then f u (devices_moved f)
    (stamps_then f t u (nothing_stamped f t refl refl) (order_stamps uart_moved (λ k f. uart_stamps k f (is_turn f.cycle (slice_get f.bus.uarts k))) (length f.bus.uarts) t))
    (nothing_stamped u (intcs_moved u) refl refl)

latch_stamps : (cores : List CoreAt) (core : ℕ) (f : Fabric) → DevicesStamp f (line_latched cores core f)
latch_stamps cores core f =
    let new = line_driven f core in
    let old = or_low (slice_get f.lines core) in
    entry_stamps core (acts_of (slice_get cores core)) (line_change new old) f (change_made core new old)

done_stamps : (cores : List CoreAt) (f : Fabric) → DevicesStamp f (devices_done cores f)
unfolding devices_done
done_stamps cores f =
    let b = breaks_come f in
    let g = devices_moved b in
    stamps_then f g (devices_done cores f) (stamps_then f b g (nothing_stamped f b refl refl) (moved_stamps b)) (order_stamps (line_latched cores) (latch_stamps cores) (length cores) g)

pub step_stamped : (w v : World) (e : Event) → Step w e v → AddedAll (IsStamped w.fabric.cycle e) w.fabric v.fabric
step_stamped w v (Tick core) h = tick_stamped core (due h.was.view (shown w.fabric core)) h.was h.is w.fabric v.fabric h.may
step_stamped w v Devices h = left_as _ w.fabric (devices_done w.cores w.fabric) v.fabric (ap (λ (x : World). x.fabric) h) (done_stamps w.cores w.fabric).added
step_stamped w v Host h = left_as _ w.fabric (host_moves w.fabric (length w.fabric.rows)) v.fabric (ap (λ (x : World). x.fabric) h) (host_stamped w.fabric (length w.fabric.rows))
step_stamped w v Next h = no_more _ w.fabric v.fabric (ap (λ (x : World). x.fabric.journal) h)

pub entries_are_stamped : EntriesAreStamped
entries_are_stamped = record {
  stamped = λ old new event h.
      let s = step_stamped old new event h in
      record { added = s.added; journal = s.journal; each = s.each };
}
