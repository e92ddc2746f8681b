-- The state of a core: its registers by number, and its machine status register by the names of UG984.
use Rattle.std.specs.Prelude.{ℕ, ◌+◌, ◌-◌, ◌%◌, ◌^◌, Option, Some, None, Bool, false, ◌&&◌, not, ◌==◌, if◌then◌else◌, List, [], replicate, bit_and, bit_or, slice_index, slice_set}
use Rattle.core_regs.specs.declared.causes.Order.{Order}
use Rattle.core_regs.specs.declared.registers.Arch.{Arch}
use Rattle.core_regs.specs.declared.registers.Write.{Write}

-- the value of register n: register 0 reads 0
abbrev pub reg : List ℕ → ℕ → ℕ
reg regs n = if n == 0 then 0 else slice_index regs n

-- the write of a value to register n: none for register 0
abbrev pub write_of : ℕ → ℕ → Option Write
write_of n value = if n == 0 then None else Some (record { reg = n; value = value })

-- the registers after a write, if there is one
abbrev pub written : Option Write → List ℕ → List ℕ
written None regs = regs
written (Some w) regs = slice_set regs w.reg w.value

-- the registers with a value in register n: register 0 keeps its own
abbrev pub with_reg : List ℕ → ℕ → ℕ → List ℕ
with_reg regs n value = written (write_of n value) regs

-- all of a core but its registers
abbrev pub bare : Arch → Arch
bare a = record a { regs = [] }

-- a core that begins at its entry
abbrev pub fresh : ℕ → Order → Bool → Arch
fresh entry order network = record {
  regs = replicate 32 0;
  pc = entry;
  msr = record { 0 = 0 };
  ear = 0;
  esr = 0;
  btr = 0;
  edr = 0;
  prefix = None;
  slot = None;
  atomic = false;
  asleep = false;
  stopped = None;
  order = order;
  network = network;
}

-- bits of MSR: interrupt enable, carry, break in progress, stream error, divide error, exception enable, exception in progress
abbrev pub msr_ie : ℕ
msr_ie = 0x2

abbrev pub msr_c : ℕ
msr_c = 0x4

abbrev pub msr_bip : ℕ
msr_bip = 0x8

abbrev pub msr_fsl : ℕ
msr_fsl = 0x10

abbrev pub msr_dzo : ℕ
msr_dzo = 0x40

abbrev pub msr_ee : ℕ
msr_ee = 0x100

abbrev pub msr_eip : ℕ
msr_eip = 0x200

-- the bits of MSR that an instruction can write
abbrev pub msr_writable : ℕ
msr_writable = 0x3FE

-- a word without the bits of a mask
abbrev pub without : ℕ → ℕ → ℕ
without mask word = bit_and word (2 ^ 32 - 1 - mask)

-- whether a bit of MSR is set
abbrev pub has : ℕ → Arch → Bool
has mask a = not (bit_and a.msr.0 mask == 0)

abbrev pub carry : Arch → Bool
carry a = has msr_c a

abbrev pub interrupts_on : Arch → Bool
interrupts_on a = has msr_ie a

abbrev pub break_running : Arch → Bool
break_running a = has msr_bip a

abbrev pub exception_running : Arch → Bool
exception_running a = has msr_eip a

-- whether a fault is raised
abbrev pub exceptions_on : Arch → Bool
exceptions_on a = has msr_ee a && not (exception_running a)

-- with a bit of MSR set or cleared
abbrev pub with_flag : Arch → ℕ → Bool → Arch
with_flag a mask on = record a { msr = record { 0 = if on then bit_or a.msr.0 mask else without mask a.msr.0 } }

-- MSR as instructions read it: the highest bit copies the carry
abbrev pub status_word : Arch → ℕ
status_word a = a.msr.0 % 2 ^ 31 + (if carry a then 2 ^ 31 else 0)

-- with the writable bits of MSR as in a word, the others as they were
abbrev pub with_status : Arch → ℕ → Arch
with_status a word = record a { msr = record { 0 = bit_or (without msr_writable a.msr.0) (bit_and word msr_writable) } }
