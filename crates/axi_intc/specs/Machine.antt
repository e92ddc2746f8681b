-- The interrupt controller of PG099 as a machine: what each register reads, what a write of it leaves, a cycle, and the
-- output.
use Rattle.std.specs.Prelude.{ℕ, ◌==◌, ◌&&◌, not, Bool, if◌then◌else◌, Option, Some, None, bit_and, bit_or}
use Rattle.std.specs.Option.{option_map}
use Rattle.std.specs.Int.Count.{count_trailing_zeros}
use Rattle.bus_map.specs.Bits.{has, without}
use Rattle.bus_map.specs.declared.device.Access.{Access}
use Rattle.bus_map.specs.declared.device.Access.TheVariants.{Read, Write}
use Rattle.axi_intc.specs.declared.intc.Intc.{Intc}
use Rattle.axi_intc.specs.declared.registers.Register.{Register}
use Rattle.axi_intc.specs.declared.registers.Register.TheVariants.{Isr, Ipr, Ier, Iar, Sie, Cie, Ivr, Mer as MerRegister}

-- bits of MER

abbrev pub me : ℕ
me = 0x1

abbrev pub hie : ℕ
hie = 0x2

-- all registers are 0
abbrev pub fresh : Intc
fresh = record { isr = 0; ier = 0; mer = record { 0 = 0 } }

-- the registers by their offsets
abbrev pub register_at : ℕ → Option Register
register_at offset =
    if offset == 0x00 then Some Isr
    else if offset == 0x04 then Some Ipr
    else if offset == 0x08 then Some Ier
    else if offset == 0x0C then Some Iar
    else if offset == 0x10 then Some Sie
    else if offset == 0x14 then Some Cie
    else if offset == 0x18 then Some Ivr
    else if offset == 0x1C then Some MerRegister
    else None

-- IPR: the inputs that asked and are enabled
abbrev pub pending : Intc → ℕ
pending c = bit_and c.isr c.ier

-- the lowest number of a bit that is set, all ones where none is
abbrev pub lowest : ℕ → ℕ
lowest word = if word == 0 then 0xFFFFFFFF else count_trailing_zeros 32 word

-- what a register reads
abbrev pub value_of : Intc → Register → ℕ
value_of c Isr = c.isr
value_of c Ipr = pending c
value_of c Ier = c.ier
value_of c Iar = 0
value_of c Sie = 0
value_of c Cie = 0
value_of c Ivr = lowest (pending c)
value_of c MerRegister = c.mer.0

-- ME is the word's, and HIE stays once it is set
abbrev pub enabled : ℕ → ℕ → ℕ
enabled word old = bit_or (bit_and word me) (bit_and (bit_or old word) hie)

-- what a write of a register leaves
abbrev pub written : Intc → Register → ℕ → Intc
written c Isr word = if has hie c.mer.0 then c else record c { isr = word }
written c Ipr word = c
written c Ier word = record c { ier = word }
written c Iar word = record c { isr = without word c.isr }
written c Sie word = record c { ier = bit_or c.ier word }
written c Cie word = record c { ier = without word c.ier }
written c Ivr word = c
written c MerRegister word = record c { mer = record { 0 = enabled word c.mer.0 } }

abbrev pub written_at : Intc → Option Register → ℕ → Intc
written_at c None word = c
written_at c (Some r) word = written c r word

-- an access: what it answers, None where it is refused, and what it leaves

abbrev pub answer : Intc → Access → Option ℕ
answer c (Read offset) = option_map (value_of c) (register_at offset)
answer c (Write offset word) = option_map (λ r. 0) (register_at offset)

abbrev pub accessed : Intc → Access → Intc
accessed c (Read offset) = c
accessed c (Write offset word) = written_at c (register_at offset) word

-- a cycle: with HIE, each input that is high is set in ISR
abbrev pub cycled : ℕ → Intc → Intc
cycled inputs c = if has hie c.mer.0 then record c { isr = bit_or c.isr inputs } else c

-- the output is high with ME where an input is pending
abbrev pub output : Intc → Bool
output c = has me c.mer.0 && not (pending c == 0)
