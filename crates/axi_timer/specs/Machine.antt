-- The AXI timer of PG079 as a machine: what each register reads, what a write of it leaves, a cycle, and the output.
use Rattle.std.specs.Prelude.{ℕ, ◌+◌, ◌-◌, ◌^◌, ◌%◌, ◌==◌, ◌&&◌, ◌||◌, not, Bool, true, false, if◌then◌else◌, Option, Some, None, bit_and, bit_or}
use Rattle.std.specs.Option.{option_map, option_and_then}
use Rattle.bus_map.specs.Bits.{has, without}
use Rattle.bus_map.specs.declared.device.Access.{Access}
use Rattle.bus_map.specs.declared.device.Access.TheVariants.{Read, Write}
use Rattle.axi_timer.specs.declared.counter.Counter.{Counter}
use Rattle.axi_timer.specs.declared.timer.Timer.{Timer}
use Rattle.axi_timer.specs.declared.registers.Register.{Register}
use Rattle.axi_timer.specs.declared.registers.Register.TheVariants.{Tcsr0, Tlr0, Tcr0, Tcsr1, Tlr1, Tcr1}

-- bits of TCSR

abbrev pub udt : ℕ
udt = 0x2

abbrev pub arht : ℕ
arht = 0x10

abbrev pub load : ℕ
load = 0x20

abbrev pub enit : ℕ
enit = 0x40

abbrev pub ent : ℕ
ent = 0x80

abbrev pub tint : ℕ
tint = 0x100

abbrev pub enall : ℕ
enall = 0x400

-- UDT, GENT, ARHT, LOAD, ENIT and ENT: a write takes them as they are
abbrev pub plain_bits : ℕ
plain_bits = 0xF6

-- MDT, CAPT, PWMA, CASC and all bits above CASC: a write that sets one of them is refused
abbrev pub barred_bits : ℕ
barred_bits = 0xFFFFFA09

-- all registers are 0
abbrev pub fresh_counter : Counter
fresh_counter = record { tcsr = record { 0 = 0 }; tlr = 0; tcr = 0; over = false }

abbrev pub fresh : Timer
fresh = record { first = fresh_counter; second = fresh_counter }

-- the registers by their offsets
abbrev pub register_at : ℕ → Option Register
register_at offset =
    if offset == 0x00 then Some Tcsr0
    else if offset == 0x04 then Some Tlr0
    else if offset == 0x08 then Some Tcr0
    else if offset == 0x10 then Some Tcsr1
    else if offset == 0x14 then Some Tlr1
    else if offset == 0x18 then Some Tcr1
    else None

-- what a register reads
abbrev pub value_of : Timer → Register → ℕ
value_of t Tcsr0 = t.first.tcsr.0
value_of t Tlr0 = t.first.tlr
value_of t Tcr0 = t.first.tcr
value_of t Tcsr1 = t.second.tcsr.0
value_of t Tlr1 = t.second.tlr
value_of t Tcr1 = t.second.tcr

-- a write of TCSR

-- the plain bits are those of the word, and TINT stays where the word has no 1 for it
abbrev pub stored : ℕ → ℕ → ℕ
stored word old = bit_or (bit_and word plain_bits) (without word (bit_and old tint))

-- ENALL in the word sets ENALL and ENT, and its absence clears ENALL
abbrev pub joined : ℕ → ℕ → ℕ
joined word tcsr = if has enall word then bit_or tcsr 0x480 else without enall tcsr

-- a counter without ENT isn't over
abbrev pub with_tcsr : ℕ → Counter → Counter
with_tcsr tcsr c = record c { tcsr = record { 0 = tcsr }; over = c.over && has ent tcsr }

-- the counter whose TCSR is written, and the other, of which only ENALL and ENT may change
abbrev pub controlled : ℕ → Counter → Counter
controlled word c = with_tcsr (joined word (stored word c.tcsr.0)) c

abbrev pub followed : ℕ → Counter → Counter
followed word c = with_tcsr (joined word c.tcsr.0) c

-- whether a write is taken
abbrev pub is_taken : Register → ℕ → Bool
is_taken Tcsr0 word = not (has barred_bits word)
is_taken Tlr0 word = true
is_taken Tcr0 word = true
is_taken Tcsr1 word = not (has barred_bits word)
is_taken Tlr1 word = true
is_taken Tcr1 word = true

-- what a write that is taken leaves
abbrev pub written : Timer → Register → ℕ → Timer
written t Tcsr0 word = record { first = controlled word t.first; second = followed word t.second }
written t Tlr0 word = record t { first = record t.first { tlr = word } }
written t Tcr0 word = t
written t Tcsr1 word = record { first = followed word t.first; second = controlled word t.second }
written t Tlr1 word = record t { second = record t.second { tlr = word } }
written t Tcr1 word = t

-- an access: what it answers, None where it is refused, and what it leaves

abbrev pub write_answer : ℕ → Register → Option ℕ
write_answer word r = if is_taken r word then Some 0 else None

abbrev pub written_at : Timer → Option Register → ℕ → Timer
written_at t None word = t
written_at t (Some r) word = if is_taken r word then written t r word else t

abbrev pub answer : Timer → Access → Option ℕ
answer t (Read offset) = option_map (value_of t) (register_at offset)
answer t (Write offset word) = option_and_then (write_answer word) (register_at offset)

abbrev pub accessed : Timer → Access → Timer
accessed t (Read offset) = t
accessed t (Write offset word) = written_at t (register_at offset) word

-- a cycle

abbrev pub loaded : Counter → Counter
loaded c = record c { tcr = c.tlr; over = false }

abbrev pub next_count : Bool → ℕ → ℕ
next_count true n = (n + 2 ^ 32 - 1) % 2 ^ 32
next_count false n = (n + 1) % 2 ^ 32

-- the count from which the next one passes the end
abbrev pub last_count : Bool → ℕ
last_count true = 0
last_count false = 0xFFFFFFFF

abbrev pub passed : Bool → Counter → Counter
passed true c = record c { tcsr = record { 0 = bit_or c.tcsr.0 tint }; over = true }
passed false c = c

abbrev pub counted : Bool → Counter → Counter
counted down c = passed (c.tcr == last_count down) (record c { tcr = next_count down c.tcr })

abbrev pub cycled_counter : Counter → Counter
cycled_counter c =
    if has load c.tcsr.0 then loaded c
    else if not (has ent c.tcsr.0) then c
    else if c.over then (if has arht c.tcsr.0 then loaded c else c)
    else counted (has udt c.tcsr.0) c

abbrev pub cycled : Timer → Timer
cycled t = record { first = cycled_counter t.first; second = cycled_counter t.second }

-- the output is high where a counter has TINT and ENIT
abbrev pub asks : Counter → Bool
asks c = has tint c.tcsr.0 && has enit c.tcsr.0

abbrev pub output : Timer → Bool
output t = asks t.first || asks t.second
