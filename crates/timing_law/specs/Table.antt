-- The table of time: for each pipeline the ticks that it needs.
use Rattle.std.specs.Prelude.{ℕ, ◌+◌, Bool, true, false, if◌then◌else◌, Option, Some, None}
use Rattle.mb_decode.specs.declared.instruction.Instr.{Instr}
use Rattle.isa_step.specs.declared.acts.Late.{Late}
use Rattle.op_table.specs.declared.kinds.Latency.{Latency}
use Rattle.op_table.specs.declared.kinds.Latency.TheVariants.{Single, Multiply, Load}
use Rattle.op_table.specs.declared.kinds.Kind.{Kind}
use Rattle.op_table.specs.declared.kinds.Kind.TheVariants as kind
use Rattle.op_table.specs.Table.{kind_of}
use Rattle.isa_step.specs.Requests.{late_at, latency_of}
use Rattle.timing_law.specs.declared.pipe.Pipe.{Pipe}
use Rattle.timing_law.specs.declared.pipe.Pipe.TheVariants.{Plain, Three, Five, Eight}
use Rattle.timing_law.specs.declared.pipe.Jump.{Jump}
use Rattle.timing_law.specs.declared.pipe.Jump.TheVariants.{On, Taken, Struck}

-- for how many ticks a result is in flight
abbrev pub depth_of : Pipe → ℕ
depth_of Plain = 0
depth_of Three = 1
depth_of Five = 2
depth_of Eight = 5

-- the first tick in which an instruction can act
abbrev pub first_of : Pipe → ℕ
first_of Plain = 0
first_of Three = 2
first_of Five = 3
first_of Eight = 3

-- from a load or a store, and from any other act, to the next act
abbrev pub memory_hold : Pipe → ℕ
memory_hold Plain = 1
memory_hold Three = 2
memory_hold Five = 1
memory_hold Eight = 1

abbrev pub is_memory : Kind → Bool
is_memory (kind.Load size) = true
is_memory (kind.Store size) = true
is_memory _ = false

abbrev pub hold_of : Pipe → Kind → ℕ
hold_of p kind = if is_memory kind then memory_hold p else 1

-- from an instruction to the first act that can use its register
abbrev pub load_ready : Pipe → ℕ
load_ready Plain = 1
load_ready Three = 2
load_ready Five = 2
load_ready Eight = 5

abbrev pub multiply_ready : Pipe → ℕ
multiply_ready Plain = 1
multiply_ready Three = 2
multiply_ready Five = 2
multiply_ready Eight = 4

abbrev pub ready_of : Pipe → Latency → ℕ
ready_of p Single = 1
ready_of p Multiply = multiply_ready p
ready_of p Load = load_ready p

-- the further ticks of a divide
abbrev pub divide_extra : Pipe → ℕ
divide_extra Plain = 0
divide_extra Three = 33
divide_extra Five = 33
divide_extra Eight = 33

abbrev pub is_divide : Kind → Bool
is_divide (kind.Divide signed) = true
is_divide _ = false

abbrev pub extra_of : Pipe → Kind → ℕ
extra_of p kind = if is_divide kind then divide_extra p else 0

abbrev pub extra_for : Pipe → Option Instr → ℕ
extra_for p None = 0
extra_for p (Some i) = extra_of p (kind_of i.op)

-- from an instruction that leads elsewhere, and from what empties the whole pipeline, to the first act at the target
abbrev pub branch_of : Pipe → ℕ
branch_of Plain = 1
branch_of Three = 3
branch_of Five = 3
branch_of Eight = 3

abbrev pub turn_of : Pipe → ℕ
turn_of Plain = 1
turn_of Three = 3
turn_of Five = 4
turn_of Eight = 4

abbrev pub redirected : Pipe → Jump → ℕ → ℕ → ℕ
redirected p On at before = before
redirected p Taken at before = at + branch_of p
redirected p Struck at before = at + turn_of p

-- the register that an instruction makes late, also where a missed get does not write it
abbrev pub late_of : Instr → Option Late
late_of i = late_at i.rd (latency_of (kind_of i.op))
