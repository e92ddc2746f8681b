-- Nothing but its links reaches a core of a network board, whatever the events.
use Rattle.std.proofs.Common.{◌≡◌, ℕ, zero, suc, List, [], ◌∷◌, length, map, None, refl, ap, ◌∙◌, slice_get, position, Bool, true, false, ◌&&◌, ◌||◌}
use Rattle.std.specs.Option.{is_some}
use Rattle.std.specs.List.{list_any}
use Rattle.axi_link.specs.Channel.{Channel}
use Rattle.isa_step.specs.declared.acts.Breaks.{Breaks}
use Rattle.isa_step.specs.Shown.{Shown}
use Rattle.bus_map.specs.declared.device.Access.{Access}
use Rattle.bus_map.specs.declared.device.Access.TheVariants.{Read as ReadAt, Write as WriteAt}
use Rattle.board_file.specs.declared.board.EventRow.{EventRow}
use Rattle.board_file.specs.declared.board.LinkRow.{LinkRow}
use Rattle.board_machine.specs.Bus.{DeviceRows, Devices, answer_at, offset_in, spot_at}
use Rattle.board_machine.specs.DeviceMoves.{controller, devices_moved, in_order, intc_moved, intcs_moved, line_change, line_driven, output_of, timer_moved, timers_moved, uart_moved, with_devices}
use Rattle.board_machine.specs.Fabric.{Fabric, breaks_at, breaks_come, channel_at, entered_some, first_in, is_break, is_on, link_from, link_to, no_breaks, or_low, or_none, room_in, shown}
use Rattle.board_machine.specs.World.{CoreAt, acts_of, devices_done, line_latched}
use Rattle.net_law.specs.Network.{ports_of}

-- no device and no break
abbrev pub no_rows : DeviceRows
no_rows = record { timers = []; intcs = []; uarts = [] }

-- nothing but the links reaches a core
pub record Calm (f : Fabric) : Type 0 where
  pub line : (core : ℕ) → or_low (slice_get f.lines core) ≡ false
  pub breaks : (core : ℕ) → breaks_at f core ≡ no_breaks
  pub left : f.left ≡ []
  pub bus : f.bus ≡ no_rows

-- what is the same keeps it
pub same_calm : (f g : Fabric) → g.lines ≡ f.lines → g.pending ≡ f.pending → g.left ≡ f.left → g.bus ≡ f.bus → Calm f → Calm g
same_calm f g l p e d c = record {
  line = λ k. rw l (c.line k);
  breaks = λ k. rw p (c.breaks k);
  left = e ∙ c.left;
  bus = d ∙ c.bus;
}

-- the beginning

pub all_low : {X : Type 0} (xs : List X) (k : ℕ) → or_low (slice_get (map (λ (x : X). false) xs) k) ≡ false
all_low [] k = refl
all_low (x ∷ xs) zero = refl
all_low (x ∷ xs) (suc k) = all_low xs k

pub none_pending : {X : Type 0} (xs : List X) (k : ℕ) → or_none (slice_get (map (λ (x : X). no_breaks) xs) k) ≡ no_breaks
none_pending [] k = refl
none_pending (x ∷ xs) zero = refl
none_pending (x ∷ xs) (suc k) = none_pending xs k

-- what the ports show

silent : (d : Devices) (core addr : ℕ) (access : Access) → answer_at d access (spot_at no_rows core addr) ≡ None
unfolding answer_at spot_at
silent d core addr access = refl

abbrev shows : Devices → Bool → Breaks → DeviceRows → List EventRow → List LinkRow → List Channel → ℕ → Shown
shows d line breaks bus left rows links core = record {
  line = list_any (is_on core) bus.intcs && line;
  breaks = breaks;
  hopes = record {
    interrupt = list_any (is_on core) bus.intcs;
    maskable = breaks.maskable || list_any (is_break core false) left;
    nonmaskable = breaks.nonmaskable || list_any (is_break core true) left;
  };
  first = λ port. first_in (channel_at links (link_to rows core port));
  room = λ port. room_in (channel_at links (link_from rows core port));
  bus_word = λ addr. answer_at d (ReadAt (offset_in addr)) (spot_at bus core addr);
  bus_takes = λ addr word. is_some (answer_at d (WriteAt (offset_in addr) word) (spot_at bus core addr));
}

no_bus : (d : Devices) (line : Bool) (rows : List LinkRow) (links : List Channel) (core : ℕ) → shows d line no_breaks no_rows [] rows links core ≡ ports_of rows links core
no_bus d line rows links core = λ i. record {
  line = false;
  breaks = no_breaks;
  hopes = record { interrupt = false; maskable = false; nonmaskable = false };
  first = λ port. first_in (channel_at links (link_to rows core port));
  room = λ port. room_in (channel_at links (link_from rows core port));
  bus_word = λ addr. silent d core addr (ReadAt (offset_in addr)) i;
  bus_takes = λ addr word. is_some (silent d core addr (WriteAt (offset_in addr) word) i);
}

pub shown_calm : (f : Fabric) (core : ℕ) → Calm f → shown f core ≡ ports_of f.rows f.links core
shown_calm f core c =
    let line = or_low (slice_get f.lines core) in
    let d = f.devices in
    ap (λ x. shows d line x f.bus f.left f.rows f.links core) (c.breaks core)
    ∙ ap (λ x. shows d line no_breaks x f.left f.rows f.links core) c.bus
    ∙ ap (λ x. shows d line no_breaks no_rows x f.rows f.links core) c.left
    ∙ no_bus d line f.rows f.links core

-- where there is no device and no break, the step of the devices changes nothing

no_breaks_come : (f : Fabric) (left : List EventRow) → f.left ≡ left → left ≡ [] → breaks_come f ≡ f
no_breaks_come f left e n = rw (e ∙ n) refl

none_moved : (f : Fabric) → f.bus ≡ no_rows → devices_moved f ≡ f
none_moved f e =
    let timers : timers_moved f ≡ f = ap (λ (bus : DeviceRows). with_devices (in_order (timer_moved bus f.cycle) (length bus.timers) f.devices) f) e in
    let uarts : in_order uart_moved (length f.bus.uarts) f ≡ f = ap (λ (bus : DeviceRows). in_order uart_moved (length bus.uarts) f) e in
    let intcs : intcs_moved f ≡ f = ap (λ (bus : DeviceRows). with_devices (in_order (intc_moved bus f.cycle) (length bus.intcs) f.devices) f) e in
    ap (λ (g : Fabric). intcs_moved (in_order uart_moved (length f.bus.uarts) g)) timers ∙ ap intcs_moved uarts ∙ intcs

latch_calm : (cores : List CoreAt) (core : ℕ) (f : Fabric) → Calm f → line_latched cores core f ≡ f
latch_calm cores core f c =
    let act = acts_of (slice_get cores core) in
    let low : line_driven f core ≡ false = ap (λ (bus : DeviceRows). output_of (controller f.devices.intcs (position (is_on core) bus.intcs))) c.bus in
    ap (λ high. entered_some core act (line_change high (or_low (slice_get f.lines core))) f) low ∙ ap (λ high. entered_some core act (line_change false high) f) (c.line core)

none_latched : (cores : List CoreAt) (n : ℕ) (f : Fabric) → Calm f → in_order (line_latched cores) n f ≡ f
none_latched cores zero f c = refl
none_latched cores (suc n) f c = ap (line_latched cores n) (none_latched cores n f c) ∙ latch_calm cores n f c

pub devices_calm : (cores : List CoreAt) (f : Fabric) → Calm f → devices_done cores f ≡ f
unfolding devices_done
devices_calm cores f c =
    let latched = in_order (line_latched cores) (length cores) in
    ap (λ (g : Fabric). latched (devices_moved g)) (no_breaks_come f f.left refl c.left) ∙ ap latched (none_moved f c.bus) ∙ none_latched cores (length cores) f c
