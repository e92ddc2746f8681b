-- The step of the devices: breaks come, timers, UARTs and controllers move, and each core's line is latched.
use Rattle.std.specs.Prelude.{ℕ, zero, suc, ◌^◌, ◌*◌, ◌%◌, ◌==◌, ◌&&◌, Bool, true, false, if◌then◌else◌, List, length, Option, Some, None, slice_get, position, bit_or}
use Rattle.board_file.specs.declared.board.IntcRow.{IntcRow}
use Rattle.board_file.specs.declared.board.TimerRow.{TimerRow}
use Rattle.board_file.specs.declared.board.UartRow.{UartRow}
use Rattle.run_journal.specs.declared.entry.What.{What}
use Rattle.run_journal.specs.declared.entry.What.TheVariants.{Left, LineUp, LineDown}
use Rattle.axi_timer.specs.declared.timer.Timer.{Timer}
use Rattle.axi_timer.specs.Machine as timer
use Rattle.axi_intc.specs.declared.intc.Intc.{Intc}
use Rattle.axi_intc.specs.Machine as intc
use Rattle.uart_lite.specs.Machine as uart
use Rattle.board_machine.specs.Places.{touch}
use Rattle.board_machine.specs.Bus.{DeviceRows, Devices, Serial, serial_asked, serial_cycled}
use Rattle.board_machine.specs.Fabric.{Fabric, entered_some, is_on, no_core, or_low}

-- the moves at the first places, in order
abbrev pub in_order : {X : Type 0} → (ℕ → X → X) → ℕ → X → X
in_order move zero x = x
in_order move (suc k) x = move k (in_order move k x)

abbrev pub with_devices : Devices → Fabric → Fabric
with_devices d f = record f { devices = d }

-- a device moves in the cycles that its clock divides
abbrev pub divides : ℕ → ℕ → Bool
divides clock cycle = cycle % clock == 0

-- timers

abbrev pub timer_cycled : ℕ → Devices → Devices
timer_cycled k d = record d { timers = touch timer.cycled k d.timers }

abbrev pub timer_moved_by : ℕ → ℕ → Option TimerRow → Devices → Devices
timer_moved_by cycle k None d = d
timer_moved_by cycle k (Some r) d = if divides r.clock cycle then timer_cycled k d else d

abbrev pub timer_moved : DeviceRows → ℕ → ℕ → Devices → Devices
timer_moved bus cycle k d = timer_moved_by cycle k (slice_get bus.timers k) d

abbrev pub timers_moved : Fabric → Fabric
timers_moved f = with_devices (in_order (timer_moved f.bus f.cycle) (length f.bus.timers) f.devices) f

-- UARTs

abbrev pub left_of : ℕ → Option ℕ → Option What
left_of k None = None
left_of k (Some byte) = Some (Left k byte)

abbrev pub left_at : ℕ → Option Serial → Option What
left_at k None = None
left_at k (Some u) = left_of k (uart.leaving u.port)

abbrev pub uart_cycled : ℕ → Devices → Devices
uart_cycled k d = record d { uarts = touch serial_cycled k d.uarts }

abbrev pub is_turn : ℕ → Option UartRow → Bool
is_turn cycle None = false
is_turn cycle (Some r) = divides (r.every * r.clock) cycle

-- a UART moves in each cycle that its row's `every` times its clock divides, and a byte that leaves is entered
abbrev pub uart_moved : ℕ → Fabric → Fabric
uart_moved k f = if is_turn f.cycle (slice_get f.bus.uarts k) then entered_some no_core 0 (left_at k (slice_get f.devices.uarts k)) (with_devices (uart_cycled k f.devices) f) else f

-- controllers

abbrev pub input_bit : Bool → Option ℕ → ℕ
input_bit false irq = 0
input_bit true None = 0
input_bit true (Some n) = 2 ^ n

abbrev pub timer_input : ℕ → Option TimerRow → Option Timer → ℕ
timer_input core (Some r) (Some t) = input_bit (r.core == core && timer.output t) r.irq
timer_input core _ _ = 0

abbrev pub uart_input : ℕ → Option UartRow → Option Serial → ℕ
uart_input core (Some r) (Some u) = input_bit (r.core == core && uart.output u.port) r.irq
uart_input core _ _ = 0

-- the inputs of a core's controller that the first timers and the first UARTs hold high
abbrev pub timer_inputs : DeviceRows → Devices → ℕ → ℕ → ℕ
timer_inputs bus d core zero = 0
timer_inputs bus d core (suc k) = bit_or (timer_inputs bus d core k) (timer_input core (slice_get bus.timers k) (slice_get d.timers k))

abbrev pub uart_inputs : DeviceRows → Devices → ℕ → ℕ → ℕ
uart_inputs bus d core zero = 0
uart_inputs bus d core (suc k) = bit_or (uart_inputs bus d core k) (uart_input core (slice_get bus.uarts k) (slice_get d.uarts k))

unfoldable pub inputs_of : DeviceRows → Devices → ℕ → ℕ
inputs_of bus d core = bit_or (timer_inputs bus d core (length bus.timers)) (uart_inputs bus d core (length bus.uarts))

abbrev pub is_of : ℕ → Option UartRow → Bool
is_of core None = false
is_of core (Some r) = r.core == core

abbrev pub edge_used : ℕ → Devices → Devices
edge_used k d = record d { uarts = touch serial_asked k d.uarts }

abbrev pub uart_asked : DeviceRows → ℕ → ℕ → Devices → Devices
uart_asked bus core k d = if is_of core (slice_get bus.uarts k) then edge_used k d else d

abbrev pub intc_cycled : ℕ → ℕ → Devices → Devices
intc_cycled inputs k d = record d { intcs = touch (intc.cycled inputs) k d.intcs }

-- a controller takes its inputs in, and the edges of its core's UARTs are used up
abbrev pub inputs_taken : DeviceRows → ℕ → ℕ → Devices → Devices
inputs_taken bus core k d = intc_cycled (inputs_of bus d core) k (in_order (uart_asked bus core) (length bus.uarts) d)

-- so an edge of a UART is held up to the next move of its core's controller
abbrev pub intc_moved_by : DeviceRows → ℕ → ℕ → Option IntcRow → Devices → Devices
intc_moved_by bus cycle k None d = d
intc_moved_by bus cycle k (Some r) d = if divides r.clock cycle then inputs_taken bus r.core k d else d

abbrev pub intc_moved : DeviceRows → ℕ → ℕ → Devices → Devices
intc_moved bus cycle k d = intc_moved_by bus cycle k (slice_get bus.intcs k) d

abbrev pub intcs_moved : Fabric → Fabric
intcs_moved f = with_devices (in_order (intc_moved f.bus f.cycle) (length f.bus.intcs) f.devices) f

-- lines

abbrev pub controller : List Intc → Option ℕ → Option Intc
controller intcs None = None
controller intcs (Some k) = slice_get intcs k

abbrev pub output_of : Option Intc → Bool
output_of None = false
output_of (Some c) = intc.output c

-- the line of a core's controller, low where it has none
abbrev pub line_driven : Fabric → ℕ → Bool
line_driven f core = output_of (controller f.devices.intcs (position (is_on core) f.bus.intcs))

abbrev pub line_change : Bool → Bool → Option What
line_change true false = Some LineUp
line_change false true = Some LineDown
line_change _ _ = None

abbrev pub latched : ℕ → ℕ → Fabric → Fabric
latched core act f = entered_some core act (line_change (line_driven f core) (or_low (slice_get f.lines core))) f

abbrev pub devices_moved : Fabric → Fabric
devices_moved f = intcs_moved (in_order uart_moved (length f.bus.uarts) (timers_moved f))
