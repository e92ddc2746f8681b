-- The states after an interrupt or a break is taken, after a fault is raised, and after a return (UG984, Reset,
-- Interrupts, Exceptions, and Break).
use Rattle.std.specs.Prelude.{ℕ, ◌+◌, ◌*◌, ◌%◌, ◌^◌, Option, Some, None, unwrap_or, is_some, Bool, true, false, if◌then◌else◌, bit_or}
use Rattle.core_regs.specs.State.{msr_bip, msr_ee, msr_eip, msr_ie, without, written}
use Rattle.core_regs.specs.declared.causes.Take.{Take}
use Rattle.core_regs.specs.declared.causes.Take.TheVariants.{Interrupt, Break, NonMaskable}
use Rattle.core_regs.specs.declared.registers.Arch.{Arch}
use Rattle.core_regs.specs.declared.registers.Write.{Write}
use Rattle.op_table.specs.declared.op.Op.{Op}
use Rattle.op_table.specs.declared.op.Op.TheVariants.{Rtsd, Rtid, Rtbd, Rted}
use Rattle.trap_entry.specs.declared.cause.Cause.{Cause}
use Rattle.trap_entry.specs.declared.cause.Cause.TheVariants.{Stream, Unaligned, Illegal, InstrBus, DataBus, DivideZero, DivideOverflow}

-- the cause in ESR, with what is specific to it
abbrev pub cause_bits : Cause → ℕ
cause_bits (Stream port word) = 0 + port * 2 ^ 5
cause_bits (Unaligned addr word store reg) = 1 + (if word then 0x800 else 0) + (if store then 0x400 else 0) + reg * 2 ^ 5
cause_bits Illegal = 2
cause_bits InstrBus = 3
cause_bits (DataBus addr) = 4
cause_bits DivideZero = 5
cause_bits DivideOverflow = 5 + 0x800

-- ESR: DS tells that the fault stood in a slot
abbrev pub esr_of : Cause → Bool → ℕ
esr_of c in_slot = cause_bits c + (if in_slot then 0x1000 else 0)

-- the address that a fault puts into EAR
abbrev pub address_of : Cause → Option ℕ
address_of (Unaligned addr word store reg) = Some addr
address_of (DataBus addr) = Some addr
address_of _ = None

-- the word that a fault puts into EDR
abbrev pub word_of : Cause → Option ℕ
word_of (Stream port word) = Some word
word_of _ = None

-- where a take goes on
abbrev pub entry_of : Take → ℕ
entry_of Interrupt = 0x10
entry_of Break = 0x18
entry_of NonMaskable = 0x18

-- MSR after a take: an interrupt clears IE, a break sets BIP
abbrev pub msr_of_take : Take → ℕ → ℕ
msr_of_take Interrupt msr = without msr_ie msr
msr_of_take Break msr = bit_or msr msr_bip
msr_of_take NonMaskable msr = bit_or msr msr_bip

-- the register that keeps the pc of a take
abbrev pub link_register : Take → ℕ
link_register Interrupt = 14
link_register Break = 16
link_register NonMaskable = 16

abbrev pub link_of_take : Arch → Take → Write
link_of_take a t = record { reg = link_register t; value = a.pc }

-- a core after a take, but for its registers
abbrev pub diverted : Arch → Take → Arch
diverted a t = record a { pc = entry_of t; msr = record { 0 = msr_of_take t a.msr.0 }; asleep = false }

-- a core after a take
abbrev pub entered : Arch → Take → Arch
entered a t = record (diverted a t) { regs = written (Some (link_of_take a t)) a.regs }

-- r17 keeps the address after the fault; in a slot it stays, as BTR has the address to go on at
abbrev pub link_of_raise : Arch → Option Write
link_of_raise a = if is_some a.slot then None else Some (record { reg = 17; value = (a.pc + 4) % 2 ^ 32 })

-- a core after a raised fault, but for its registers
abbrev pub trapped : Arch → Cause → Arch
trapped a c = record a {
  pc = 0x20;
  msr = record { 0 = without msr_ee (bit_or a.msr.0 msr_eip) };
  ear = unwrap_or (address_of c) a.ear;
  esr = esr_of c (is_some a.slot);
  btr = unwrap_or a.slot a.btr;
  edr = unwrap_or (word_of c) a.edr;
  prefix = None;
  slot = None;
  atomic = false;
}

-- a core after a raised fault
abbrev pub raised : Arch → Cause → Arch
raised a c = record (trapped a c) { regs = written (link_of_raise a) a.regs }

abbrev pub is_return : Op → Bool
is_return Rtsd = true
is_return Rtid = true
is_return Rtbd = true
is_return Rted = true
is_return _ = false

-- MSR after a return: that from an interrupt sets IE, from a break clears BIP, from an exception sets EE and clears EIP
abbrev pub msr_of_return : Op → ℕ → ℕ
msr_of_return Rtid msr = bit_or msr msr_ie
msr_of_return Rtbd msr = without msr_bip msr
msr_of_return Rted msr = without msr_eip (bit_or msr msr_ee)
msr_of_return _ msr = msr

-- ESR after a return: that from an exception clears it
abbrev pub esr_of_return : Op → ℕ → ℕ
esr_of_return Rted esr = 0
esr_of_return _ esr = esr

-- a core with MSR and ESR as a return leaves them
abbrev pub left_by : Arch → Op → Arch
left_by a op = record a { msr = record { 0 = msr_of_return op a.msr.0 }; esr = esr_of_return op a.esr }
