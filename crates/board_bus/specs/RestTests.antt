-- Tests by which each device tells that a cycle leaves it as it is.
use Rattle.std.specs.Prelude.{ℕ, zero, suc, ◌==◌, ◌&&◌, ◌||◌, not, Bool, true, Option, Some, None, bit_or, slice_get}
use Rattle.axi_intc.specs.declared.intc.Intc.{Intc}
use Rattle.axi_intc.specs.Machine.{hie}
use Rattle.axi_timer.specs.declared.counter.Counter.{Counter}
use Rattle.axi_timer.specs.declared.timer.Timer.{Timer}
use Rattle.axi_timer.specs.Machine.{arht, ent, load}
use Rattle.bus_map.specs.Bits.{has}
use Rattle.board_file.specs.declared.board.IntcRow.{IntcRow}
use Rattle.board_machine.specs.Bus.{DeviceRows, Devices, Serial, is_done}
use Rattle.board_machine.specs.DeviceMoves.{inputs_of}

-- it isn't loaded, and isn't enabled or is over for good
abbrev pub counter_rests : Counter → Bool
counter_rests c = not (has load c.tcsr.0) && (not (has ent c.tcsr.0) || (c.over && not (has arht c.tcsr.0)))

abbrev pub timer_rests : Timer → Bool
timer_rests t = counter_rests t.first && counter_rests t.second

abbrev pub serial_rests : Serial → Bool
serial_rests u = is_done u && not u.port.edge

-- it takes no inputs in, or has them all in ISR
abbrev pub intc_rests : ℕ → Intc → Bool
intc_rests inputs c = not (has hie c.mer.0) || (bit_or c.isr inputs == c.isr)

abbrev pub intc_rests_at : DeviceRows → Devices → Option IntcRow → Option Intc → Bool
intc_rests_at bus d (Some r) (Some c) = intc_rests (inputs_of bus d r.core) c
intc_rests_at bus d _ _ = true

-- the first controllers
abbrev pub intcs_rest : DeviceRows → Devices → ℕ → Bool
intcs_rest bus d zero = true
intcs_rest bus d (suc k) = intcs_rest bus d k && intc_rests_at bus d (slice_get bus.intcs k) (slice_get d.intcs k)
