-- What the host and the devices do in a cycle keeps each relation that its parts keep.
use Rattle.std.proofs.Common.{ℕ, zero, suc, List, length, Option, Some, None, slice_get, Bool, true, false, cond}
use Rattle.axi_link.specs.declared.item.Item.{Item}
use Rattle.uart_lite.specs.Machine.{leaving}
use Rattle.run_journal.specs.declared.entry.What.TheVariants.{HostSent, HostGot, Left}
use Rattle.board_machine.specs.declared.events.HostPart.{HostPart}
use Rattle.board_machine.specs.declared.events.HostPart.TheVariants.{Sends, Takes, Nothing}
use Rattle.board_machine.specs.Bus.{Devices, Serial}
use Rattle.board_machine.specs.DeviceMoves.{devices_moved, in_order, is_turn, left_at, left_of, timers_moved, uart_cycled, uart_moved, with_devices}
use Rattle.board_machine.specs.Fabric.{Fabric, breaks_come, entered, entered_some, first_in, got_of, host_moves, move_by, next_sent, no_core, part_at, sent_of}
use Rattle.board_machine.specs.World.{CoreAt, devices_done, line_latched}
use Rattle.board_machine.proofs.DeviceSteps.{order_keeps}

-- a relation that holds of a fabric and itself, and that joins
pub record Joins (R : Fabric → Fabric → Type 0) : Type 0 where
  pub itself : (f : Fabric) → R f f
  pub then : (f g h : Fabric) → R f g → R g h → R f h

-- the host

sent_keeps : (R : Fabric → Fabric → Type 0) (j : Joins R) (link : ℕ) (o : Option Item) (f : Fabric) → ((f : Fabric) (link : ℕ) (item : Item) → R f (entered no_core 0 (HostSent link item) f)) → R f (entered_some no_core 0 (sent_of link o) f)
sent_keeps R j link None f sent = j.itself f
sent_keeps R j link (Some item) f sent = sent f link item

got_keeps : (R : Fabric → Fabric → Type 0) (j : Joins R) (link : ℕ) (o : Option Item) (f : Fabric) → ((f : Fabric) (link : ℕ) (item : Item) → R f (entered no_core 0 (HostGot link item) f)) → R f (entered_some no_core 0 (got_of link o) f)
got_keeps R j link None f got = j.itself f
got_keeps R j link (Some item) f got = got f link item

part_keeps : (R : Fabric → Fabric → Type 0) (j : Joins R) (link : ℕ) (part : HostPart) (f : Fabric) → ((f : Fabric) (link : ℕ) (item : Item) → R f (entered no_core 0 (HostSent link item) f)) → ((f : Fabric) (link : ℕ) (item : Item) → R f (entered no_core 0 (HostGot link item) f))
    → R f (entered_some no_core 0 (move_by f link part) f)
part_keeps R j link Sends f sent got = sent_keeps R j link (next_sent f link) f sent
part_keeps R j link Takes f sent got = got_keeps R j link (first_in (slice_get f.links link)) f got
part_keeps R j link Nothing f sent got = j.itself f

pub host_keeps : (R : Fabric → Fabric → Type 0) (j : Joins R) → ((f : Fabric) (link : ℕ) (item : Item) → R f (entered no_core 0 (HostSent link item) f)) → ((f : Fabric) (link : ℕ) (item : Item) → R f (entered no_core 0 (HostGot link item) f))
    → (f : Fabric) (n : ℕ) → R f (host_moves f n)
host_keeps R j sent got f zero = j.itself f
host_keeps R j sent got f (suc n) =
    let g = host_moves f n in
    j.then f g (host_moves f (suc n)) (host_keeps R j sent got f n) (part_keeps R j n (part_at (slice_get g.rows n)) g sent got)

-- the step of the devices

pub record KeepsParts (R : Fabric → Fabric → Type 0) (cores : List CoreAt) : Type 0 where
  pub devices : (f : Fabric) (d : Devices) → R f (with_devices d f)
  pub byte : (f : Fabric) (uart byte : ℕ) → R f (entered no_core 0 (Left uart byte) f)
  pub latch : (core : ℕ) (f : Fabric) → R f (line_latched cores core f)

byte_keeps : (R : Fabric → Fabric → Type 0) (cores : List CoreAt) (j : Joins R) (p : KeepsParts R cores) (k : ℕ) (o : Option ℕ) (f : Fabric) → R f (entered_some no_core 0 (left_of k o) f)
byte_keeps R cores j p k None f = j.itself f
byte_keeps R cores j p k (Some byte) f = p.byte f k byte

left_keeps : (R : Fabric → Fabric → Type 0) (cores : List CoreAt) (j : Joins R) (p : KeepsParts R cores) (k : ℕ) (o : Option Serial) (f : Fabric) → R f (entered_some no_core 0 (left_at k o) f)
left_keeps R cores j p k None f = j.itself f
left_keeps R cores j p k (Some u) f = byte_keeps R cores j p k (leaving u.port) f

uart_keeps : (R : Fabric → Fabric → Type 0) (cores : List CoreAt) (j : Joins R) (p : KeepsParts R cores) (k : ℕ) (f : Fabric) (turn : Bool) → R f (cond turn (entered_some no_core 0 (left_at k (slice_get f.devices.uarts k)) (with_devices (uart_cycled k f.devices) f)) f)
uart_keeps R cores j p k f false = j.itself f
uart_keeps R cores j p k f true =
    let g = with_devices (uart_cycled k f.devices) f in
    j.then f g _ (p.devices f (uart_cycled k f.devices)) (left_keeps R cores j p k (slice_get f.devices.uarts k) g)

moved_keeps : (R : Fabric → Fabric → Type 0) (cores : List CoreAt) (j : Joins R) (p : KeepsParts R cores) (f : Fabric) → R f (devices_moved f)
moved_keeps R cores j p f =
    let t = timers_moved f in
    let u = in_order uart_moved (length f.bus.uarts) t in
    j.then f u (devices_moved f)
    (j.then f t u (p.devices f t.devices) (order_keeps R uart_moved j.itself j.then (λ k f. uart_keeps R cores j p k f (is_turn f.cycle (slice_get f.bus.uarts k))) (length f.bus.uarts) t))
    (p.devices u (devices_moved f).devices)

-- after the breaks have come
pub later_keeps : (R : Fabric → Fabric → Type 0) (cores : List CoreAt) (j : Joins R) → KeepsParts R cores → (f : Fabric) → R (breaks_come f) (devices_done cores f)
unfolding devices_done
later_keeps R cores j p f =
    let b = breaks_come f in
    let g = devices_moved b in
    j.then b g (devices_done cores f) (moved_keeps R cores j p b) (order_keeps R (line_latched cores) j.itself j.then p.latch (length cores) g)

pub devices_keep : (R : Fabric → Fabric → Type 0) (cores : List CoreAt) (j : Joins R) → KeepsParts R cores → ((f : Fabric) → R f (breaks_come f)) → (f : Fabric) → R f (devices_done cores f)
devices_keep R cores j p come f = j.then f (breaks_come f) (devices_done cores f) (come f) (later_keeps R cores j p f)
