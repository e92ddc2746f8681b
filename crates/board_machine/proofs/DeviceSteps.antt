-- What the step of the devices leaves: how much it enters, that no act is told by it, and that a line is high only where
-- the core has a controller.
use Rattle.std.proofs.Common.{◌≡◌, ℕ, zero, suc, ◌+◌, ◌≤◌, List, length, Option, Some, None, refl, ◌∙◌, subst, arith, slice_get, Bool, true, false, cond}
use Rattle.run_journal.specs.declared.entry.What.{What}
use Rattle.run_journal.specs.Files.{tape, is_response}
use Rattle.board_machine.specs.Bus.{Devices, Serial}
use Rattle.board_machine.specs.Fabric.{Fabric, breaks_come, entered_some, entry_of, no_core, or_low}
use Rattle.board_machine.specs.DeviceMoves.{devices_moved, in_order, intcs_moved, is_turn, left_at, left_of, line_driven, line_change, timers_moved, uart_cycled, uart_moved, with_devices}
use Rattle.board_machine.specs.World.{CoreAt, acts_of, devices_done, line_latched}
use Rattle.uart_lite.specs.Machine.{leaving}
use Rattle.board_machine.proofs.Journals.{note_tapes}
use Rattle.board_machine.proofs.Steps.{Enters, both_enter, same_enters, some_enters}

-- moves in order, each of which keeps a relation
pub order_keeps : {X : Type 0} (R : X → X → Type 0) (move : ℕ → X → X) → ((f : X) → R f f) → ((f g h : X) → R f g → R g h → R f h) → ((k : ℕ) (f : X) → R f (move k f)) → (n : ℕ) (f : X) → R f (in_order move n f)
order_keeps R move same then each zero f = same f
order_keeps R move same then each (suc n) f = then f (in_order move n f) (in_order move (suc n) f) (order_keeps R move same then each n f) (each n (in_order move n f))

-- how much is entered

one_each : (move : ℕ → Fabric → Fabric) → ((k : ℕ) (f : Fabric) → Enters f (move k f) 1) → (n : ℕ) (f : Fabric) → Enters f (in_order move n f) n
one_each move each zero f = same_enters f f 0 refl
one_each move each (suc n) f =
    let g = in_order move n f in
    let e : n + 1 ≡ suc n = omega arith in
    subst (Enters f (in_order move (suc n) f)) e (both_enter f g (move n g) n 1 (one_each move each n f) (each n g))

-- the devices alone change
devices_enter : (f : Fabric) (d : Devices) → Enters f (record f { devices = d }) 0
devices_enter f d = record { rows = refl; bus = refl; cycle = refl; left = refl; spare = omega arith; less = omega arith; places = λ l. refl }

uart_by : (k : ℕ) (f : Fabric) (turn : Bool) (o : Option What) → Enters f (cond turn (entered_some no_core 0 o (with_devices (uart_cycled k f.devices) f)) f) 1
uart_by k f false o = same_enters f f 1 refl
uart_by k f true o = both_enter f (with_devices (uart_cycled k f.devices) f) (entered_some no_core 0 o (with_devices (uart_cycled k f.devices) f)) 0 1 (devices_enter f _) (some_enters no_core 0 o (with_devices (uart_cycled k f.devices) f))

pub uart_enters : (k : ℕ) (f : Fabric) → Enters f (uart_moved k f) 1
uart_enters k f = uart_by k f (is_turn f.cycle (slice_get f.bus.uarts k)) (left_at k (slice_get f.devices.uarts k))

both_less : (f g h : Fabric) (m n k : ℕ) → m + n ≤ k → Enters f g m → Enters g h n → Enters f h k
both_less f g h m n k l a b =
    let e = both_enter f g h m n a b in
    record { rows = e.rows; bus = e.bus; cycle = e.cycle; left = e.left; spare = omega (arith, l, e.spare); less = e.less; places = λ j. e.places (omega (arith, l, j)) }

pub moved_enter : (f : Fabric) → Enters f (devices_moved f) (length f.bus.uarts)
moved_enter f =
    let t = timers_moved f in
    let u = in_order uart_moved (length f.bus.uarts) t in
    both_less f u (devices_moved f) (length f.bus.uarts) 0 (length f.bus.uarts) (omega arith)
    (both_less f t u 0 (length f.bus.uarts) (length f.bus.uarts) (omega arith) (devices_enter f t.devices) (one_each uart_moved uart_enters (length f.bus.uarts) t))
    (devices_enter u (intcs_moved u).devices)

pub latch_enters : (cores : List CoreAt) (core : ℕ) (f : Fabric) → Enters f (line_latched cores core f) 1
latch_enters cores core f = some_enters core (acts_of (slice_get cores core)) (line_change (line_driven f core) (or_low (slice_get f.lines core))) f

pub done_enters : (cores : List CoreAt) (f : Fabric) → Enters (breaks_come f) (devices_done cores f) (length f.bus.uarts + length cores)
unfolding devices_done
done_enters cores f =
    let g = devices_moved (breaks_come f) in
    both_enter (breaks_come f) g (devices_done cores f) (length f.bus.uarts) (length cores) (moved_enter (breaks_come f)) (one_each (line_latched cores) (latch_enters cores) (length cores) g)

-- no act is told by it

abbrev pub SameTapes : Fabric → Fabric → Type 0
SameTapes f g = (core k : ℕ) → tape g.journal core k ≡ tape f.journal core k

Quiet : Option What → Type 0
Quiet None = Unit {0}
Quiet (Some what) = is_response what ≡ false

quiet_tapes : (core act : ℕ) (o : Option What) (f : Fabric) → Quiet o → SameTapes f (entered_some core act o f)
unfolding Quiet
quiet_tapes core act None f h c k = refl
quiet_tapes core act (Some what) f h c k = note_tapes f.journal (entry_of f.cycle core act what) h c k

order_tapes : (move : ℕ → Fabric → Fabric) → ((k : ℕ) (f : Fabric) → SameTapes f (move k f)) → (n : ℕ) (f : Fabric) → SameTapes f (in_order move n f)
order_tapes move each n f = order_keeps SameTapes move (λ f c k. refl) (λ f g h a b c k. b c k ∙ a c k) each n f

byte_quiet : (k : ℕ) (o : Option ℕ) → Quiet (left_of k o)
unfolding Quiet
byte_quiet k None = tt
byte_quiet k (Some byte) = refl

left_quiet : (k : ℕ) (o : Option Serial) → Quiet (left_at k o)
unfolding Quiet
left_quiet k None = tt
left_quiet k (Some u) = byte_quiet k (leaving u.port)

uart_tapes_by : (k : ℕ) (f : Fabric) (turn : Bool) → SameTapes f (cond turn (entered_some no_core 0 (left_at k (slice_get f.devices.uarts k)) (with_devices (uart_cycled k f.devices) f)) f)
uart_tapes_by k f false c j = refl
uart_tapes_by k f true c j = quiet_tapes no_core 0 (left_at k (slice_get f.devices.uarts k)) (with_devices (uart_cycled k f.devices) f) (left_quiet k (slice_get f.devices.uarts k)) c j

change_quiet : (new old : Bool) → Quiet (line_change new old)
unfolding Quiet
change_quiet true true = tt
change_quiet true false = refl
change_quiet false true = refl
change_quiet false false = tt

moved_tapes : (f : Fabric) → SameTapes f (devices_moved f)
moved_tapes f c j = order_tapes uart_moved (λ k f. uart_tapes_by k f (is_turn f.cycle (slice_get f.bus.uarts k))) (length f.bus.uarts) (timers_moved f) c j

pub done_tapes : (cores : List CoreAt) (f : Fabric) → SameTapes f (devices_done cores f)
unfolding devices_done
done_tapes cores f c j =
    let g = devices_moved (breaks_come f) in
    order_tapes (line_latched cores) (λ k f. quiet_tapes k (acts_of (slice_get cores k)) (line_change (line_driven f k) (or_low (slice_get f.lines k))) f (change_quiet (line_driven f k) (or_low (slice_get f.lines k)))) (length cores) g c j
    ∙ moved_tapes (breaks_come f) c j
