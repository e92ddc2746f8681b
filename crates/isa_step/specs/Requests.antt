-- What each instruction asks of the outside: the one place that knows instructions.
use Rattle.std.specs.Prelude.{ℕ, ◌%◌, ◌&&◌, ◌==◌, Bool, true, false, List, Option, Some, None, is_some, is_none, not, if◌then◌else◌}
use Rattle.core_regs.specs.declared.registers.Arch.{Arch}
use Rattle.core_regs.specs.declared.causes.StopCause.TheVariants as stop
use Rattle.core_regs.specs.State.{reg}
use Rattle.alu_units.specs.Units.{compared, first_equal_byte, logic_of, product_of, shifted, unary_of}
use Rattle.delay_imm.specs.Slots.{advanced, branched, immediate_of}
use Rattle.trap_entry.specs.declared.cause.Cause.TheVariants.{InstrBus, Illegal as IllegalWord}
use Rattle.mb_decode.specs.declared.instruction.Instr.{Instr}
use Rattle.isa_step.specs.declared.acts.Act.TheVariants as acts
use Rattle.isa_step.specs.declared.acts.Here.{Here}
use Rattle.isa_step.specs.declared.acts.Late.{Late}
use Rattle.op_table.specs.declared.kinds.Latency.{Latency}
use Rattle.isa_step.specs.declared.acts.Operands.{Operands}
use Rattle.isa_step.specs.declared.operands.Given.{Given}
use Rattle.op_table.specs.declared.kinds.Kind.{Kind}
use Rattle.op_table.specs.declared.kinds.Kind.TheVariants.{Add, Rsub, Compare, Multiply, Shift, Divide, Logic, FirstEqualByte, IsEqual, ShiftByOne, Unary, Cache, MoveFrom, MoveToMsr, SetMsr, ClearMsr, Branch, Break, BranchIf, Return, Prefix, Barrier, Load, Store, Get, Put}
use Rattle.op_table.specs.declared.kinds.Second.{Second}
use Rattle.op_table.specs.declared.kinds.Second.TheVariants.{Register, Immediate, Count}
use Rattle.op_table.specs.Table.{kind_of, second_of}
pub use Rattle.op_table.specs.Kinds.{belongs_into_slot, latency_of}
use Rattle.isa_step.specs.Effects.{Effect, Request, Goes, HaltLoop, retires, yields, stops, faults}
use Rattle.isa_step.specs.Arithmetic.{adds, subtracts, divides, equality, shifts_by_one}
use Rattle.isa_step.specs.Special.{special_value, moves_to_msr, sets_msr, clears_msr, holds_prefix, barrier}
use Rattle.isa_step.specs.Branches.{branches, breaks_off, branches_if, holds, returns}
use Rattle.isa_step.specs.Loads.{loads, stores}
use Rattle.isa_step.specs.Links.{gets, puts, is_nonblocking, is_atomic}

-- the act of an instruction that asks nothing of the outside
unfoldable pub effect_of : Kind → Given → Arch → Effect
effect_of (Add with_carry keep) g a = adds g a with_carry keep
effect_of (Rsub with_carry keep) g a = subtracts g a with_carry keep
effect_of (Compare signed) g a = yields g a (compared g.a g.b signed)
effect_of (Multiply k) g a = yields g a (product_of k g.a g.b)
effect_of (Shift k) g a = yields g a (shifted k g.a (g.b % 32))
effect_of (Divide signed) g a = divides g a signed
effect_of (Logic k) g a = yields g a (logic_of k g.a g.b)
effect_of FirstEqualByte g a = yields g a (first_equal_byte g.a g.b)
effect_of (IsEqual wanted) g a = yields g a (equality g wanted)
effect_of (ShiftByOne top) g a = shifts_by_one g a top
effect_of (Unary k) g a = yields g a (unary_of k g.a)
effect_of (MoveFrom special) g a = yields g a (special_value a special)
effect_of MoveToMsr g a = moves_to_msr g a
effect_of SetMsr g a = sets_msr g a
effect_of ClearMsr g a = clears_msr g a
effect_of (Branch absolute delayed linked) g a = branches g a absolute delayed linked
effect_of Break g a = breaks_off g a
effect_of (BranchIf condition delayed) g a = branches_if g a delayed (holds condition g.a)
effect_of (Return from) g a = returns g a from
effect_of Prefix g a = holds_prefix g a
effect_of Barrier g a = barrier g a
-- the cache instructions do nothing; loads, stores and links stand below
effect_of _ g a = retires g (advanced a false) None None

-- rules 8 and 9: what an instruction asks; what asks nothing is done
unfoldable pub request_of : Kind → Given → Arch → List ℕ → Request
request_of (Load size) g a m = loads g a m size
request_of (Store size) g a m = stores g a m size
request_of (Get dynamic) g a m = gets g a dynamic
request_of (Put dynamic) g a m = puts g a dynamic
request_of kind g a m = Goes (effect_of kind g a)

-- the register that is late
abbrev pub late_at : ℕ → Option Latency → Option Late
late_at rd None = None
late_at rd (Some l) = if rd == 0 then None else Some (record { reg = rd; latency = l })

-- the second operand
abbrev pub second_value : Second → Arch → Instr → Operands → ℕ
second_value Register a i o = o.b
second_value Immediate a i o = immediate_of a.prefix i.imm
second_value Count a i o = i.imm

-- an instruction with the values of its operands
unfoldable pub given : Instr → Operands → Arch → Given
given i o a = record {
  rd = i.rd;
  a = o.a;
  b = second_value (second_of i.op) a i o;
  d = o.d;
  imm = i.imm;
  flags = i.flags;
  late = late_at i.rd (latency_of (kind_of i.op));
}

abbrev pub is_link : Kind → Bool
is_link (Get dynamic) = true
is_link (Put dynamic) = true
is_link _ = false

-- rule 6, on a network board: a link access that does not wait is an illegal word
abbrev pub is_banned : Instr → Kind → Bool → Bool
is_banned i kind network = network && is_link kind && is_nonblocking i.flags

abbrev pub illegal : Arch → ℕ → Request
illegal a word = Goes (faults a IllegalWord (stop.Illegal word) None)

-- rule 6; rule 7: an instruction in a slot that it does not belong into stops the core; else rules 8 and 9
abbrev pub requested_kind : Kind → Instr → ℕ → Operands → Arch → List ℕ → Request
requested_kind kind i word o a m =
    if is_banned i kind a.network then illegal a word
    else if is_some a.slot && not (belongs_into_slot kind) then Goes (stops a (stop.Slot word) None)
    else request_of kind (given i o a) a m

-- rule 6: a word that means no instruction is illegal
abbrev pub requested_instr : Option Instr → ℕ → Operands → Arch → List ℕ → Request
requested_instr None word o a m = illegal a word
requested_instr (Some i) word o a m = requested_kind (kind_of i.op) i word o a m

-- rule 5: the branch to itself, with which a program ends
abbrev pub end_word : ℕ
end_word = 0xB800_0000

abbrev pub is_end : ℕ → Arch → Bool
is_end word a = (word == end_word) && is_none a.prefix && is_none a.slot

-- that word done as the branch that it is
abbrev pub halt_loop : Arch → Effect
halt_loop a = record {
  arch = branched a a.pc false;
  action = None;
  done = record { act = acts.Retired; write = None; store = None; late = None; jumped = true };
}

-- what the word at pc asks; rule 4: where there is none, the fault is that of the instruction bus
unfoldable pub requested : Option Here → Operands → Arch → List ℕ → Request
requested None o a m = Goes (faults a InstrBus (stop.InstrBus a.pc) None)
requested (Some here) o a m = if is_end here.word a then HaltLoop (halt_loop a) else requested_instr here.instr here.word o a m

-- a link access with the letter a holds takes off
abbrev pub is_atomic_instr : Option Instr → Bool
is_atomic_instr None = false
is_atomic_instr (Some i) = is_link (kind_of i.op) && is_atomic i.flags

abbrev pub is_atomic_here : Option Here → Bool
is_atomic_here None = false
is_atomic_here (Some here) = is_atomic_instr here.instr

-- the values of the registers that an instruction names
abbrev pub operands_by : Option Instr → List ℕ → Operands
operands_by None regs = record { a = 0; b = 0; d = 0 }
operands_by (Some i) regs = record { a = reg regs i.ra; b = reg regs i.rb; d = reg regs i.rd }

abbrev pub operands_of : Option Here → List ℕ → Operands
operands_of None regs = record { a = 0; b = 0; d = 0 }
operands_of (Some here) regs = operands_by here.instr regs
