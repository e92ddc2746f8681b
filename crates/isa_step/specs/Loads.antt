-- UG984's loads and stores.
use Rattle.std.specs.Prelude.{ℕ, ◌+◌, ◌-◌, ◌%◌, ◌^◌, ◌==◌, ◌&&◌, not, Bool, true, false, List, Option, Some, None, if◌then◌else◌}
use Rattle.core_regs.specs.declared.registers.Arch.{Arch}
use Rattle.core_regs.specs.declared.causes.Size.{Size}
use Rattle.core_regs.specs.declared.causes.Size.TheVariants.{Byte, Half, Word}
use Rattle.core_regs.specs.declared.causes.StopCause.TheVariants as stop
use Rattle.core_regs.specs.State.{exceptions_on, write_of}
use Rattle.byte_mem.specs.Access.{bytes_of, fits, loaded}
use Rattle.delay_imm.specs.Slots.{advanced}
use Rattle.trap_entry.specs.declared.cause.Cause.TheVariants.{Unaligned, DataBus}
use Rattle.isa_step.specs.declared.acts.Act.TheVariants as acts
use Rattle.isa_step.specs.declared.acts.Action.{Action}
use Rattle.isa_step.specs.declared.acts.Action.TheVariants.{Read, ReadRefused, Wrote, WriteRefused}
use Rattle.isa_step.specs.declared.operands.Given.{Given}
use Rattle.isa_step.specs.Effects.{Effect, Request, Goes, Reads, Writes, retires, yields, raises, faults}

-- the address of an access
abbrev pub address : Given → ℕ
address g = (g.a + g.b) % 2 ^ 32

abbrev pub is_aligned : Size → ℕ → Bool
is_aligned size addr = addr % bytes_of size == 0

-- an address without the low bits that an access of this size has not
abbrev pub lowered : Size → ℕ → ℕ
lowered size addr = addr - addr % bytes_of size

abbrev pub is_word : Size → Bool
is_word Byte = false
is_word Half = false
is_word Word = true

-- an unaligned address is a fault where exceptions are on, and loses its low bits else
abbrev pub unaligned : Given → Arch → Size → Bool → Request
unaligned g a size store =
    Goes (raises a (Unaligned (address g) (is_word size) store g.rd) None)

-- an address that is neither in memory nor on the bus
abbrev pub no_data : Arch → ℕ → Option Action → Effect
no_data a addr action = faults a (DataBus addr) (stop.DataBus addr) action

-- the bus answers a read
abbrev pub read_from_bus : Given → Arch → ℕ → Option ℕ → Effect
read_from_bus g a addr None = no_data a addr (Some (ReadRefused addr))
read_from_bus g a addr (Some word) = retires g (advanced a false) (Some (Read addr word)) (write_of g.rd word)

-- past the memory's end a word is the bus's, and smaller sizes are refused
abbrev pub loads_past : Given → Arch → ℕ → Size → Request
loads_past g a addr Byte = Goes (no_data a addr None)
loads_past g a addr Half = Goes (no_data a addr None)
loads_past g a addr Word = Reads addr (read_from_bus g a addr)

abbrev pub loads_from : Given → Arch → Size → ℕ → Option ℕ → Request
loads_from g a size addr (Some value) = Goes (yields g a value)
loads_from g a size addr None = loads_past g a addr size

abbrev pub loads_at : Given → Arch → List ℕ → Size → ℕ → Request
loads_at g a m size addr = loads_from g a size addr (loaded m size a.order addr)

-- lbu, lhu, lw: rD = the byte, half or word at a + b
abbrev pub loads : Given → Arch → List ℕ → Size → Request
loads g a m size =
    if not (is_aligned size (address g)) && exceptions_on a then unaligned g a size false
    else loads_at g a m size (lowered size (address g))

-- a store retires
abbrev pub keeps : Given → Arch → Size → ℕ → Option Action → Effect
keeps g a size addr action = record {
  arch = advanced a false;
  action = action;
  done = record {
    act = acts.Retired;
    write = None;
    store = Some (record { addr = addr; size = size; word = g.d });
    late = g.late;
    jumped = false;
  };
}

-- the bus answers a write
abbrev pub written_to_bus : Given → Arch → ℕ → Bool → Effect
written_to_bus g a addr false = no_data a addr (Some (WriteRefused addr g.d))
written_to_bus g a addr true = keeps g a Word addr (Some (Wrote addr g.d))

abbrev pub stores_past : Given → Arch → ℕ → Size → Request
stores_past g a addr Byte = Goes (no_data a addr None)
stores_past g a addr Half = Goes (no_data a addr None)
stores_past g a addr Word = Writes addr g.d (written_to_bus g a addr)

abbrev pub stores_at : Given → Arch → List ℕ → Size → ℕ → Request
stores_at g a m size addr = if fits m addr (bytes_of size) then Goes (keeps g a size addr None) else stores_past g a addr size

-- sb, sh, sw: the byte, half or word at a + b = rD
abbrev pub stores : Given → Arch → List ℕ → Size → Request
stores g a m size =
    if not (is_aligned size (address g)) && exceptions_on a then unaligned g a size true
    else stores_at g a m size (lowered size (address g))
