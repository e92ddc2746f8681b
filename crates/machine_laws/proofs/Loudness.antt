-- An act with an entry leaves the memory: what stores to memory enters nothing, and what the bus takes lies past the memory's end.
use Rattle.std.proofs.Common.{◌≡◌, ℕ, List, Option, Some, None, refl, subst, Bool, true, false, ◌&&◌}
use Rattle.std.specs.Prelude.{if◌then◌else◌, not, is_some}
use Rattle.std.proofs.lemmas.Bool.{cond-false}
use Rattle.std.proofs.lemmas.Option.{same_Some}
use Rattle.axi_link.specs.declared.item.Item.{Item}
use Rattle.core_regs.specs.declared.causes.Order.{Order}
use Rattle.core_regs.specs.declared.causes.Order.TheVariants.{Big, Little}
use Rattle.core_regs.specs.declared.causes.Size.{Size}
use Rattle.core_regs.specs.declared.causes.Size.TheVariants.{Byte, Half, Word}
use Rattle.core_regs.specs.declared.causes.StopCause.{StopCause}
use Rattle.core_regs.specs.declared.causes.StopCause.TheVariants as stop
use Rattle.core_regs.specs.declared.causes.Take.{Take}
use Rattle.core_regs.specs.declared.registers.Arch.{Arch}
use Rattle.core_regs.specs.State.{bare, exceptions_on}
use Rattle.byte_mem.specs.Access.{bytes_of, fits, loaded, stored}
use Rattle.alu_units.specs.Division.{fault_of, quotient_of}
use Rattle.alu_units.specs.declared.faults.DivFault.{DivFault}
use Rattle.trap_entry.specs.declared.cause.Cause.{Cause}
use Rattle.trap_entry.specs.declared.cause.Cause.TheVariants.{DataBus, Illegal as IllegalWord, InstrBus}
use Rattle.mb_decode.specs.declared.instruction.Instr.{Instr}
use Rattle.isa_step.specs.declared.acts.Action.{Action}
use Rattle.isa_step.specs.declared.acts.Action.TheVariants.{ReadRefused, WriteRefused}
use Rattle.isa_step.specs.declared.acts.Here.{Here}
use Rattle.isa_step.specs.declared.acts.Operands.{Operands}
use Rattle.isa_step.specs.declared.operands.Given.{Given}
use Rattle.op_table.specs.declared.kinds.Kind.{Kind}
use Rattle.op_table.specs.declared.kinds.Kind.TheVariants.{Divide, BranchIf, Barrier, Load, Store, Get, Put}
use Rattle.op_table.specs.Table.{kind_of}
use Rattle.isa_step.specs.Effects.{View, Effect, Due, Does, Ends, Request, Goes, HaltLoop, Gets, Puts, Reads, Writes, after_store, faults, raises, stops}
use Rattle.isa_step.specs.Due.{awake, by_item, by_room, due, due_by, due_with, here_of, is_closed, reply, take_due}
use Rattle.isa_step.specs.Arithmetic.{divided}
use Rattle.isa_step.specs.Branches.{branches_if, holds}
use Rattle.isa_step.specs.Special.{is_sleep}
use Rattle.isa_step.specs.Links.{gets_from, is_nonblocking, is_raised, port_of, puts_to}
use Rattle.isa_step.specs.Loads.{address, is_aligned, keeps, loads, loads_at, loads_from, loads_past, lowered, no_data, read_from_bus, stores, stores_at, stores_past, unaligned, written_to_bus}
use Rattle.isa_step.specs.Shown.{Shown}
use Rattle.isa_step.specs.Requests.{halt_loop, effect_of, request_of, given, illegal, is_banned, is_end, operands_of, requested, requested_instr, requested_kind}
use Rattle.op_table.specs.Kinds.{belongs_into_slot}
use Rattle.machine_laws.specs.Silence.{LoudActsKeepMemory, is_silent}

-- the effect leaves a memory as it was
abbrev Leaves : Order → List ℕ → Effect → Type 0
Leaves order m d = after_store order d.done.store m ≡ m

-- it does where it enters something
abbrev LoudLeaves : Order → List ℕ → Effect → Type 0
LoudLeaves order m d = is_silent d ≡ false → Leaves order m d

abbrev RequestLeaves : Order → List ℕ → Request → Type 0
RequestLeaves order m (Goes d) = LoudLeaves order m d
RequestLeaves order m (HaltLoop d) = LoudLeaves order m d
RequestLeaves order m (Gets port item empty) = ((x : Item) → Leaves order m (item x)) × ((d : Effect) → empty ≡ Some d → Leaves order m d)
RequestLeaves order m (Puts port room full) = Leaves order m room × ((d : Effect) → full ≡ Some d → Leaves order m d)
RequestLeaves order m (Reads addr answer) = (o : Option ℕ) → Leaves order m (answer o)
RequestLeaves order m (Writes addr word answer) = (b : Bool) → Leaves order m (answer b)

either : (order : Order) (m : List ℕ) (b : Bool) (x y : Request) → RequestLeaves order m x → RequestLeaves order m y → RequestLeaves order m (if b then x else y)
either order m true x y p q = p
either order m false x y p q = q

one_of : (order : Order) (m : List ℕ) (b : Bool) (x y : Effect) → Leaves order m x → Leaves order m y → Leaves order m (if b then x else y)
one_of order m true x y p q = p
one_of order m false x y p q = q

fault_leaves : (order : Order) (m : List ℕ) (a : Arch) (c : Cause) (s : StopCause) (o : Option Action) → Leaves order m (faults a c s o)
fault_leaves order m a c s o = one_of order m (exceptions_on a) (raises a c o) (stops a s o) refl refl

divided_leaves : (order : Order) (m : List ℕ) (g : Given) (a : Arch) (value : ℕ) (f : Option DivFault) → Leaves order m (divided g a value f)
divided_leaves order m g a value None = refl
divided_leaves order m g a value (Some f) = one_of order m (exceptions_on a) _ _ refl refl

branch_leaves : (order : Order) (m : List ℕ) (g : Given) (a : Arch) (delayed taken : Bool) → Leaves order m (branches_if g a delayed taken)
branch_leaves order m g a delayed true = refl
branch_leaves order m g a delayed false = refl

effect_leaves : (order : Order) (m : List ℕ) (kind : Kind) (g : Given) (a : Arch) → Leaves order m (effect_of kind g a)
unfolding effect_of
effect_leaves order m (Divide signed) g a = divided_leaves order m g a (quotient_of g.b g.a signed) (fault_of g.b g.a signed)
effect_leaves order m (BranchIf condition delayed) g a = branch_leaves order m g a delayed (holds condition g.a)
effect_leaves order m Barrier g a = one_of order m (is_sleep g.imm) _ _ refl refl
effect_leaves order m _ g a = refl

data_leaves : (order : Order) (m : List ℕ) (a : Arch) (addr : ℕ) (o : Option Action) → Leaves order m (no_data a addr o)
data_leaves order m a addr o = fault_leaves order m a (DataBus addr) (stop.DataBus addr) o

word_leaves : (order : Order) (m : List ℕ) (g : Given) (a : Arch) (addr : ℕ) (o : Option ℕ) → Leaves order m (read_from_bus g a addr o)
word_leaves order m g a addr (Some word) = refl
word_leaves order m g a addr None = data_leaves order m a addr (Some (ReadRefused addr))

load_past : (order : Order) (m : List ℕ) (g : Given) (a : Arch) (addr : ℕ) (size : Size) → RequestLeaves order m (loads_past g a addr size)
load_past order m g a addr Byte = λ h. data_leaves order m a addr None
load_past order m g a addr Half = λ h. data_leaves order m a addr None
load_past order m g a addr Word = λ o. word_leaves order m g a addr o

load_from : (order : Order) (m : List ℕ) (g : Given) (a : Arch) (size : Size) (addr : ℕ) (o : Option ℕ) → RequestLeaves order m (loads_from g a size addr o)
load_from order m g a size addr (Some value) = λ h. refl
load_from order m g a size addr None = load_past order m g a addr size

load_leaves : (g : Given) (a : Arch) (m : List ℕ) (size : Size) → RequestLeaves a.order m (loads g a m size)
load_leaves g a m size =
    let addr = lowered size (address g) in
    either a.order m (not (is_aligned size (address g)) && exceptions_on a) (unaligned g a size false) (loads_at g a m size addr) (λ h. refl)
    (load_from a.order m g a size addr (loaded m size a.order addr))

-- a word past the memory's end changes nothing of it
past_end : (order : Order) (m : List ℕ) (addr word : ℕ) → fits m addr 4 ≡ false → stored m Word order addr word ≡ m
unfolding stored
past_end Big m addr word e = cond-false (fits m addr 4) _ _ e
past_end Little m addr word e = cond-false (fits m addr 4) _ _ e

taken_leaves : (g : Given) (a : Arch) (m : List ℕ) (addr : ℕ) (b : Bool) → fits m addr 4 ≡ false → Leaves a.order m (written_to_bus g a addr b)
taken_leaves g a m addr true e = past_end a.order m addr g.d e
taken_leaves g a m addr false e = data_leaves a.order m a addr (Some (WriteRefused addr g.d))

store_past : (g : Given) (a : Arch) (m : List ℕ) (addr : ℕ) (size : Size) → fits m addr (bytes_of size) ≡ false → RequestLeaves a.order m (stores_past g a addr size)
store_past g a m addr Byte e = λ h. data_leaves a.order m a addr None
store_past g a m addr Half e = λ h. data_leaves a.order m a addr None
store_past g a m addr Word e = λ b. taken_leaves g a m addr b e

-- what stores to memory enters nothing
kept_silent : (g : Given) (a : Arch) (m : List ℕ) (size : Size) (addr : ℕ) → LoudLeaves a.order m (keeps g a size addr None)
kept_silent g a m size addr h = cc

store_by : (g : Given) (a : Arch) (m : List ℕ) (size : Size) (addr : ℕ) (b : Bool) → fits m addr (bytes_of size) ≡ b → RequestLeaves a.order m (if b then Goes (keeps g a size addr None) else stores_past g a addr size)
store_by g a m size addr true e = kept_silent g a m size addr
store_by g a m size addr false e = store_past g a m addr size e

store_leaves : (g : Given) (a : Arch) (m : List ℕ) (size : Size) → RequestLeaves a.order m (stores g a m size)
store_leaves g a m size =
    let addr = lowered size (address g) in
    either a.order m (not (is_aligned size (address g)) && exceptions_on a) (unaligned g a size true) (stores_at g a m size addr) (λ h. refl)
    (store_by g a m size addr (fits m addr (bytes_of size)) refl)

missed_leaves : (order : Order) (m : List ℕ) (b : Bool) (missed d : Effect) → Leaves order m missed → (if b then Some missed else None) ≡ Some d → Leaves order m d
missed_leaves order m true missed d h e = subst (Leaves order m) (same_Some _ _ e) h
missed_leaves order m false missed d h e = cc

get_leaves : (order : Order) (m : List ℕ) (g : Given) (a : Arch) (port : ℕ) → RequestLeaves order m (gets_from g a port)
get_leaves order m g a port = (
  λ x. one_of order m (is_raised g.flags x a) _ _ refl refl,
  λ d e. missed_leaves order m (is_nonblocking g.flags) _ d refl e,
)

put_leaves : (order : Order) (m : List ℕ) (g : Given) (a : Arch) (port : ℕ) → RequestLeaves order m (puts_to g a port)
put_leaves order m g a port = (refl, λ d e. missed_leaves order m (is_nonblocking g.flags) _ d refl e)

request_of_leaves : (kind : Kind) (g : Given) (a : Arch) (m : List ℕ) → RequestLeaves a.order m (request_of kind g a m)
unfolding request_of
request_of_leaves (Load size) g a m = load_leaves g a m size
request_of_leaves (Store size) g a m = store_leaves g a m size
request_of_leaves (Get dynamic) g a m = get_leaves a.order m g a (port_of g dynamic)
request_of_leaves (Put dynamic) g a m = put_leaves a.order m g a (port_of g dynamic)
request_of_leaves kind g a m = λ h. effect_leaves a.order m kind g a

kind_leaves : (kind : Kind) (i : Instr) (word : ℕ) (o : Operands) (a : Arch) (m : List ℕ) → RequestLeaves a.order m (requested_kind kind i word o a m)
kind_leaves kind i word o a m =
    let placed = if is_some a.slot && not (belongs_into_slot kind) then Goes (stops a (stop.Slot word) None) else request_of kind (given i o a) a m in
    either a.order m (is_banned i kind a.network) (illegal a word) placed (λ h. fault_leaves a.order m a IllegalWord (stop.Illegal word) None)
    (either a.order m (is_some a.slot && not (belongs_into_slot kind)) (Goes (stops a (stop.Slot word) None)) (request_of kind (given i o a) a m) (λ h. refl) (request_of_leaves kind (given i o a) a m))

instr_leaves : (i : Option Instr) (word : ℕ) (o : Operands) (a : Arch) (m : List ℕ) → RequestLeaves a.order m (requested_instr i word o a m)
instr_leaves None word o a m = λ h. fault_leaves a.order m a IllegalWord (stop.Illegal word) None
instr_leaves (Some i) word o a m = kind_leaves (kind_of i.op) i word o a m

request_leaves : (here : Option Here) (o : Operands) (a : Arch) (m : List ℕ) → RequestLeaves a.order m (requested here o a m)
unfolding requested
request_leaves None o a m = λ h. fault_leaves a.order m a InstrBus (stop.InstrBus a.pc) None
request_leaves (Some here) o a m =
    either a.order m (is_end here.word a) (HaltLoop (halt_loop a)) (requested_instr here.instr here.word o a m) (λ h. refl) (instr_leaves here.instr here.word o a m)

-- and the act that is due

abbrev DueLeaves : Order → List ℕ → Due → Type 0
DueLeaves order m (Does d) = LoudLeaves order m d
DueLeaves order m _ = Unit {0}

item_leaves : (order : Order) (m : List ℕ) (port : ℕ) (item : Item → Effect) (empty : Option Effect) (o : Option Item) → RequestLeaves order m (Gets port item empty) → DueLeaves order m (by_item port item empty o)
item_leaves order m port item empty (Some x) w = λ h. w.0 x
item_leaves order m port item (Some d) None w = λ h. w.1 d refl
item_leaves order m port item None None w = tt

room_leaves : (order : Order) (m : List ℕ) (port : ℕ) (room : Effect) (full : Option Effect) (b : Bool) → RequestLeaves order m (Puts port room full) → DueLeaves order m (by_room port room full b)
room_leaves order m port room full true w = λ h. w.0
room_leaves order m port room (Some d) false w = λ h. w.1 d refl
room_leaves order m port room None false w = tt

halt_loop_leaves : (order : Order) (m : List ℕ) (d : Effect) (b : Bool) → LoudLeaves order m d → DueLeaves order m (if b then Ends else Does d)
halt_loop_leaves order m d true w = tt
halt_loop_leaves order m d false w = w

reply_leaves : (order : Order) (m : List ℕ) (a : Arch) (w : Request) (s : Shown) → RequestLeaves order m w → DueLeaves order m (reply a w s)
reply_leaves order m a (Goes d) s w = w
reply_leaves order m a (HaltLoop d) s w = halt_loop_leaves order m d (is_closed a s.hopes) w
reply_leaves order m a (Gets port item empty) s w = item_leaves order m port item empty (s.first port) w
reply_leaves order m a (Puts port room full) s w = room_leaves order m port room full (s.room port) w
reply_leaves order m a (Reads addr answer) s w = λ h. w (s.bus_word addr)
reply_leaves order m a (Writes addr word answer) s w = λ h. w (s.bus_takes addr word)

awake_leaves : (here : Option Here) (o : Operands) (a : Arch) (m : List ℕ) (s : Shown) (asleep : Bool) → DueLeaves a.order m (awake here o a m s asleep)
awake_leaves here o a m s true = tt
awake_leaves here o a m s false = reply_leaves a.order m a (requested here o a m) s (request_leaves here o a m)

by_leaves : (here : Option Here) (o : Operands) (a : Arch) (m : List ℕ) (s : Shown) (t : Option Take) (c : Option StopCause) → DueLeaves a.order m (due_by here o a m s t c)
by_leaves here o a m s t (Some cause) = tt
by_leaves here o a m s (Some t) None = λ h. refl
by_leaves here o a m s None None = awake_leaves here o a m s a.asleep

due_leaves : (v : View) (s : Shown) (d : Effect) → due v s ≡ Does d → LoudLeaves v.arch.order v.memory d
unfolding due_with
due_leaves v s d e = subst (DueLeaves v.arch.order v.memory) e (by_leaves (here_of v) (operands_of (here_of v) v.arch.regs) (bare v.arch) v.memory s (take_due (here_of v) (bare v.arch) s) v.arch.stopped)

pub loud_keeps : LoudActsKeepMemory
loud_keeps = record { memory = λ v s d e h. due_leaves v s d e h }
