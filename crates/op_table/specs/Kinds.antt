-- What follows from what an instruction does.
use Rattle.std.specs.Prelude.{Bool, true, false, Option, Some, None}
use Rattle.op_table.specs.declared.kinds.Kind.{Kind}
use Rattle.op_table.specs.declared.kinds.Kind.TheVariants.{Multiply, Shift, Cache, MoveToMsr, Branch, Break, BranchIf, Return, Prefix, Barrier, Load, Store, Get, Put}
use Rattle.op_table.specs.declared.kinds.Latency.{Latency}
use Rattle.op_table.specs.declared.kinds.Latency.TheVariants as latency

-- branches, returns, breaks, imm and mbar do not belong into a slot
abbrev pub belongs_into_slot : Kind → Bool
belongs_into_slot (Branch absolute delayed linked) = false
belongs_into_slot Break = false
belongs_into_slot (BranchIf condition delayed) = false
belongs_into_slot (Return from) = false
belongs_into_slot Prefix = false
belongs_into_slot Barrier = false
belongs_into_slot _ = true

-- how soon the register of an instruction can be used; some write none
unfoldable pub latency_of : Kind → Option Latency
latency_of (Multiply k) = Some latency.Multiply
latency_of (Shift k) = Some latency.Multiply
latency_of (Load size) = Some latency.Load
latency_of (Get dynamic) = Some latency.Load
latency_of (Store size) = None
latency_of (Put dynamic) = None
latency_of Cache = None
latency_of MoveToMsr = None
latency_of (BranchIf condition delayed) = None
latency_of (Return from) = None
latency_of Prefix = None
latency_of Barrier = None
latency_of _ = Some latency.Single

-- it stores to memory
abbrev pub stores : Kind → Bool
stores (Store size) = true
stores _ = false
