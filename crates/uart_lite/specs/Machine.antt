-- The UART of PG142 as a machine: what each register reads, what a read and a write of it leave, a cycle, and the edge.
use Rattle.std.specs.Prelude.{ℕ, ◌%◌, ◌==◌, ◌&&◌, ◌||◌, not, Bool, true, false, if◌then◌else◌, List, [], ◌∷◌, ◌++◌, drop, length, slice_get, Option, Some, None, bit_or}
use Rattle.std.specs.Option.{option_and_then}
use Rattle.bus_map.specs.Bits.{has}
use Rattle.bus_map.specs.declared.device.Access.{Access}
use Rattle.bus_map.specs.declared.device.Access.TheVariants.{Read, Write}
use Rattle.uart_lite.specs.declared.registers.Register.{Register}
use Rattle.uart_lite.specs.declared.registers.Register.TheVariants.{Rx, Tx, Stat, Ctrl}

-- the bytes that arrived and those that are to leave, the oldest first; whether interrupts are enabled; whether a byte was
-- lost; whether an edge of the output is held
pub record SerialPort : Type 0 where
  pub rx : List ℕ
  pub tx : List ℕ
  pub enabled : Bool
  pub overrun : Bool
  pub edge : Bool

-- both queues are empty
abbrev pub fresh : SerialPort
fresh = record { rx = []; tx = []; enabled = false; overrun = false; edge = false }

-- the registers by their offsets
abbrev pub register_at : ℕ → Option Register
register_at offset =
    if offset == 0x0 then Some Rx
    else if offset == 0x4 then Some Tx
    else if offset == 0x8 then Some Stat
    else if offset == 0xC then Some Ctrl
    else None

abbrev pub is_empty : List ℕ → Bool
is_empty queue = length queue == 0

abbrev pub is_full : List ℕ → Bool
is_full queue = length queue == 16

-- STAT

abbrev pub bit_if : Bool → ℕ → ℕ
bit_if on bit = if on then bit else 0

abbrev pub receive_status : SerialPort → ℕ
receive_status u = bit_or (bit_if (not (is_empty u.rx)) 0x1) (bit_if (is_full u.rx) 0x2)

abbrev pub send_status : SerialPort → ℕ
send_status u = bit_or (bit_if (is_empty u.tx) 0x4) (bit_if (is_full u.tx) 0x8)

abbrev pub mode_status : SerialPort → ℕ
mode_status u = bit_or (bit_if u.enabled 0x10) (bit_if u.overrun 0x20)

abbrev pub status : SerialPort → ℕ
status u = bit_or (bit_or (receive_status u) (send_status u)) (mode_status u)

-- what a register reads, None where it refuses, and what the read leaves

abbrev pub value_of : SerialPort → Register → Option ℕ
value_of u Rx = slice_get u.rx 0
value_of u Tx = Some 0
value_of u Stat = Some (status u)
value_of u Ctrl = Some 0

abbrev pub was_read : SerialPort → Register → SerialPort
was_read u Rx = record u { rx = drop 1 u.rx }
was_read u Tx = u
was_read u Stat = record u { overrun = false }
was_read u Ctrl = u

-- what a write of a register answers, None where it refuses, and what the write leaves

abbrev pub taken_by : SerialPort → Register → Option ℕ
taken_by u Rx = Some 0
taken_by u Tx = if is_full u.tx then None else Some 0
taken_by u Stat = Some 0
taken_by u Ctrl = Some 0

abbrev pub cleared : Bool → List ℕ → List ℕ
cleared clear queue = if clear then [] else queue

abbrev pub written : SerialPort → Register → ℕ → SerialPort
written u Rx word = u
written u Tx word = if is_full u.tx then u else record u { tx = u.tx ++ word % 256 ∷ [] }
written u Stat word = u
written u Ctrl word = record u { tx = cleared (has 0x1 word) u.tx; rx = cleared (has 0x2 word) u.rx; enabled = has 0x10 word }

-- an access: what it answers, None where it is refused, and what it leaves

abbrev pub read_at : SerialPort → Option Register → SerialPort
read_at u None = u
read_at u (Some r) = was_read u r

abbrev pub written_at : SerialPort → Option Register → ℕ → SerialPort
written_at u None word = u
written_at u (Some r) word = written u r word

abbrev pub answer : SerialPort → Access → Option ℕ
answer u (Read offset) = option_and_then (value_of u) (register_at offset)
answer u (Write offset word) = option_and_then (taken_by u) (register_at offset)

abbrev pub accessed : SerialPort → Access → SerialPort
accessed u (Read offset) = read_at u (register_at offset)
accessed u (Write offset word) = written_at u (register_at offset) word

-- a cycle: a byte leaves, and then a byte arrives; an edge comes where TX became empty or RX became non-empty

abbrev pub leaving : SerialPort → Option ℕ
leaving u = slice_get u.tx 0

abbrev pub sent : SerialPort → SerialPort
sent u = record u { tx = drop 1 u.tx; edge = u.edge || (u.enabled && length u.tx == 1) }

abbrev pub arrived : Option ℕ → SerialPort → SerialPort
arrived None u = u
arrived (Some byte) u =
    if is_full u.rx then record u { overrun = true }
    else record u { rx = u.rx ++ byte ∷ []; edge = u.edge || (u.enabled && is_empty u.rx) }

abbrev pub cycled : Option ℕ → SerialPort → SerialPort
cycled next u = arrived next (sent u)

-- the output is the edge, which is used up when it is asked for

abbrev pub output : SerialPort → Bool
output u = u.edge

abbrev pub asked : SerialPort → SerialPort
asked u = record u { edge = false }
