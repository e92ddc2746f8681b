-- What an instruction of a network core asks: it waits at one port where it cannot go on, it takes and sends at that port
-- alone, and the network mark stays.
use Rattle.std.specs.Prelude.{◌≡◌, ℕ, ◌&&◌, not, Bool, true, false, List, Option, Some, None, is_some, if◌then◌else◌}
use Rattle.std.proofs.Common.{refl, ◌∙◌}
use Rattle.axi_link.specs.declared.item.Item.{Item}
use Rattle.core_regs.specs.declared.registers.Arch.{Arch}
use Rattle.core_regs.specs.declared.causes.Size.{Size}
use Rattle.core_regs.specs.declared.causes.Size.TheVariants.{Byte, Half, Word}
use Rattle.core_regs.specs.declared.causes.StopCause.{StopCause}
use Rattle.core_regs.specs.declared.causes.StopCause.TheVariants as stop
use Rattle.core_regs.specs.State.{exceptions_on}
use Rattle.byte_mem.specs.Access.{bytes_of, fits, loaded}
use Rattle.alu_units.specs.Division.{fault_of, quotient_of}
use Rattle.alu_units.specs.declared.faults.DivFault.{DivFault}
use Rattle.delay_imm.specs.Slots.{advanced, branched}
use Rattle.trap_entry.specs.declared.cause.Cause.{Cause}
use Rattle.trap_entry.specs.declared.cause.Cause.TheVariants.{DataBus, Illegal as IllegalWord, InstrBus}
use Rattle.mb_decode.specs.declared.instruction.Instr.{Instr}
use Rattle.isa_step.specs.declared.acts.Action.{Action}
use Rattle.isa_step.specs.declared.acts.Action.TheVariants.{Got, Sent, Seen, Room, ReadRefused, WriteRefused}
use Rattle.isa_step.specs.declared.acts.Here.{Here}
use Rattle.isa_step.specs.declared.acts.Operands.{Operands}
use Rattle.isa_step.specs.declared.operands.Given.{Given}
use Rattle.op_table.specs.declared.kinds.Kind.{Kind}
use Rattle.op_table.specs.declared.kinds.Kind.TheVariants.{Add, Rsub, Divide, BranchIf, Barrier, Load, Store, Get, Put}
use Rattle.op_table.specs.Table.{kind_of}
use Rattle.isa_step.specs.Effects.{Effect, Request, Goes, HaltLoop, Gets, Puts, Reads, Writes, faults, raises, stops}
use Rattle.isa_step.specs.Arithmetic.{divided, sums}
use Rattle.isa_step.specs.Branches.{ahead, branches_if, holds}
use Rattle.isa_step.specs.Special.{is_sleep}
use Rattle.isa_step.specs.Loads.{address, is_aligned, keeps, loads, loads_at, loads_from, loads_past, lowered, no_data, stores, stores_at, stores_past, unaligned}
use Rattle.isa_step.specs.Links.{checked, gets_from, is_expected, is_nonblocking, is_raised, is_test, marked, passed, port_of, puts_to, receives}
use Rattle.isa_step.specs.Requests.{effect_of, request_of, given, requested, requested_instr, requested_kind, is_banned, is_end, belongs_into_slot, illegal, halt_loop}

abbrev pub GotFrom : ℕ → Item → Option Action → Type 0
GotFrom port x (Some (Got p y)) = (p ≡ port) × (y ≡ x)
GotFrom port x (Some (Seen p y)) = Unit {0}
GotFrom port x _ = ⊥

abbrev pub SentTo : ℕ → Option Action → Type 0
SentTo port (Some (Sent p y)) = p ≡ port
SentTo port (Some (Room p)) = Unit {0}
SentTo port _ = ⊥

-- a effect that leaves the mark, and does this action at the ports
abbrev pub Leaves : Bool → Option Action → Effect → Type 0
Leaves mark action effect = (effect.arch.network ≡ mark) × (effect.action ≡ action)

-- a want of a network core with its mark: an access to the bus is refused
abbrev pub Steady : Bool → Request → Type 0
Steady mark (Goes effect) = Leaves mark None effect
Steady mark (HaltLoop effect) = Leaves mark None effect
Steady mark (Gets port item empty) = ((x : Item) → (item x).arch.network ≡ mark) × ((x : Item) → GotFrom port x (item x).action) × (empty ≡ None)
Steady mark (Puts port room full) = (room.arch.network ≡ mark) × SentTo port room.action × (full ≡ None)
Steady mark (Reads addr answer) = Leaves mark (Some (ReadRefused addr)) (answer None)
Steady mark (Writes addr word answer) = Leaves mark (Some (WriteRefused addr word)) (answer false)

either : (mark b : Bool) (x y : Request) → Steady mark x → Steady mark y → Steady mark (if b then x else y)
either mark true x y p q = p
either mark false x y p q = q

effect_if : (mark : Bool) (o : Option Action) (b : Bool) (x y : Effect) → Leaves mark o x → Leaves mark o y → Leaves mark o (if b then x else y)
effect_if mark o true x y p q = p
effect_if mark o false x y p q = q

arch_if : (mark b : Bool) (x y : Arch) → x.network ≡ mark → y.network ≡ mark → (if b then x else y).network ≡ mark
arch_if mark true x y p q = p
arch_if mark false x y p q = q

fault_leaves : (a : Arch) (c : Cause) (s : StopCause) (o : Option Action) → Leaves a.network o (faults a c s o)
fault_leaves a c s o = effect_if a.network o (exceptions_on a) (raises a c o) (stops a s o) (refl, refl) (refl, refl)

divided_leaves : (g : Given) (a : Arch) (value : ℕ) (f : Option DivFault) → Leaves a.network None (divided g a value f)
divided_leaves g a value None = (refl, refl)
divided_leaves g a value (Some f) = effect_if a.network None (exceptions_on a) _ _ (refl, refl) (refl, refl)

branch_leaves : (g : Given) (a : Arch) (delayed taken : Bool) → Leaves a.network None (branches_if g a delayed taken)
branch_leaves g a delayed true = (refl, refl)
branch_leaves g a delayed false = (arch_if a.network delayed (branched a (ahead a 8) true) (advanced a false) refl refl, refl)

sum_leaves : (g : Given) (a : Arch) (keep : Bool) (total : ℕ) → Leaves a.network None (sums g a keep total)
sum_leaves g a true total = (refl, refl)
sum_leaves g a false total = (refl, refl)

-- an instruction that asks nothing does no action
computes_quietly : (kind : Kind) (g : Given) (a : Arch) → Leaves a.network None (effect_of kind g a)
unfolding effect_of
computes_quietly (Add with_carry keep) g a = sum_leaves g a keep _
computes_quietly (Rsub with_carry keep) g a = sum_leaves g a keep _
computes_quietly (Divide signed) g a = divided_leaves g a (quotient_of g.b g.a signed) (fault_of g.b g.a signed)
computes_quietly (BranchIf condition delayed) g a = branch_leaves g a delayed (holds condition g.a)
computes_quietly Barrier g a = effect_if a.network None (is_sleep g.imm) _ _ (refl, refl) (refl, refl)
computes_quietly _ g a = (refl, refl)

data_leaves : (a : Arch) (addr : ℕ) (o : Option Action) → Leaves a.network o (no_data a addr o)
data_leaves a addr o = fault_leaves a (DataBus addr) (stop.DataBus addr) o

loads_past_steady : (g : Given) (a : Arch) (addr : ℕ) (size : Size) → Steady a.network (loads_past g a addr size)
loads_past_steady g a addr Byte = data_leaves a addr None
loads_past_steady g a addr Half = data_leaves a addr None
loads_past_steady g a addr Word = data_leaves a addr (Some (ReadRefused addr))

loads_from_steady : (g : Given) (a : Arch) (size : Size) (addr : ℕ) (o : Option ℕ) → Steady a.network (loads_from g a size addr o)
loads_from_steady g a size addr (Some value) = (refl, refl)
loads_from_steady g a size addr None = loads_past_steady g a addr size

loads_steady : (g : Given) (a : Arch) (m : List ℕ) (size : Size) → Steady a.network (loads g a m size)
loads_steady g a m size =
    let addr = lowered size (address g) in
    either a.network (not (is_aligned size (address g)) && exceptions_on a) (unaligned g a size false) (loads_at g a m size addr) (refl, refl)
    (loads_from_steady g a size addr (loaded m size a.order addr))

stores_past_steady : (g : Given) (a : Arch) (addr : ℕ) (size : Size) → Steady a.network (stores_past g a addr size)
stores_past_steady g a addr Byte = data_leaves a addr None
stores_past_steady g a addr Half = data_leaves a addr None
stores_past_steady g a addr Word = data_leaves a addr (Some (WriteRefused addr g.d))

stores_steady : (g : Given) (a : Arch) (m : List ℕ) (size : Size) → Steady a.network (stores g a m size)
stores_steady g a m size =
    let addr = lowered size (address g) in
    either a.network (not (is_aligned size (address g)) && exceptions_on a) (unaligned g a size true) (stores_at g a m size addr) (refl, refl)
    (either a.network (fits m addr (bytes_of size)) (Goes (keeps g a size addr None)) (stores_past g a addr size) (refl, refl) (stores_past_steady g a addr size))

marked_marked : (flags : ℕ) (missed : Bool) (a : Arch) → (marked flags missed a).network ≡ a.network
marked_marked flags missed a = arch_if a.network (is_nonblocking flags) _ a refl refl

checked_marked : (flags : ℕ) (x : Item) (a : Arch) → (checked flags x a).network ≡ a.network
checked_marked flags x a = arch_if a.network (is_expected flags x) a _ refl refl

mark_if : (mark b : Bool) (x y : Effect) → x.arch.network ≡ mark → y.arch.network ≡ mark → (if b then x else y).arch.network ≡ mark
mark_if mark true x y p q = p
mark_if mark false x y p q = q

receives_marked : (g : Given) (a : Arch) (port : ℕ) (x : Item) → (receives g a port x).arch.network ≡ a.network
receives_marked g a port x = mark_if a.network (is_raised g.flags x a) _ _
    (checked_marked g.flags x (marked g.flags false a) ∙ marked_marked g.flags false a)
    (checked_marked g.flags x (marked g.flags false (passed g a)) ∙ marked_marked g.flags false (passed g a))

got_if : (b : Bool) (port : ℕ) (x : Item) → GotFrom port x (Some (if b then Seen port x else Got port x))
got_if true port x = tt
got_if false port x = (refl, refl)

effect_got : (b : Bool) (x y : Effect) (port : ℕ) (i : Item) → GotFrom port i x.action → GotFrom port i y.action → GotFrom port i (if b then x else y).action
effect_got true x y port i p q = p
effect_got false x y port i p q = q

sent_if : (b : Bool) (port : ℕ) (x : Item) → SentTo port (Some (if b then Room port else Sent port x))
sent_if true port x = tt
sent_if false port x = refl

none_if : {X : Type 0} (b : Bool) (x : X) → b ≡ false → (if b then Some x else None) ≡ None
none_if true x e = cc
none_if false x e = refl

gets_steady : (g : Given) (a : Arch) (port : ℕ) → is_nonblocking g.flags ≡ false → Steady a.network (gets_from g a port)
gets_steady g a port e = (
  receives_marked g a port,
  λ x. effect_got (is_raised g.flags x a) _ _ port x (got_if (is_test g.flags) port x) (got_if (is_test g.flags) port x),
  none_if (is_nonblocking g.flags) _ e,
)

puts_steady : (g : Given) (a : Arch) (port : ℕ) → is_nonblocking g.flags ≡ false → Steady a.network (puts_to g a port)
puts_steady g a port e = (marked_marked g.flags false (passed g a), sent_if (is_test g.flags) port _, none_if (is_nonblocking g.flags) _ e)

-- on a network board an instruction that is not banned waits
and_last : (a c : Bool) → a ≡ true → a && true && c ≡ false → c ≡ false
and_last true c e h = h
and_last false c e h = cc

request_of_steady : (kind : Kind) (i : Instr) (o : Operands) (a : Arch) (m : List ℕ) → a.network ≡ true → is_banned i kind a.network ≡ false → Steady a.network (request_of kind (given i o a) a m)
unfolding request_of given
request_of_steady (Load size) i o a m h e = loads_steady (given i o a) a m size
request_of_steady (Store size) i o a m h e = stores_steady (given i o a) a m size
request_of_steady (Get dynamic) i o a m h e = gets_steady (given i o a) a (port_of (given i o a) dynamic) (and_last a.network (is_nonblocking i.flags) h e)
request_of_steady (Put dynamic) i o a m h e = puts_steady (given i o a) a (port_of (given i o a) dynamic) (and_last a.network (is_nonblocking i.flags) h e)
request_of_steady kind i o a m h e = computes_quietly kind (given i o a) a

either_by : (mark b : Bool) (x y : Request) → Steady mark x → (b ≡ false → Steady mark y) → Steady mark (if b then x else y)
either_by mark true x y p q = p
either_by mark false x y p q = q refl

kind_steady : (kind : Kind) (i : Instr) (word : ℕ) (o : Operands) (a : Arch) (m : List ℕ) → a.network ≡ true → Steady a.network (requested_kind kind i word o a m)
kind_steady kind i word o a m h =
    let slotted = Goes (stops a (stop.Slot word) None) in
    either_by a.network (is_banned i kind a.network) (illegal a word) (if is_some a.slot && not (belongs_into_slot kind) then slotted else request_of kind (given i o a) a m)
    (fault_leaves a IllegalWord (stop.Illegal word) None)
    (λ e. either a.network (is_some a.slot && not (belongs_into_slot kind)) slotted (request_of kind (given i o a) a m) (refl, refl) (request_of_steady kind i o a m h e))

instr_steady : (i : Option Instr) (word : ℕ) (o : Operands) (a : Arch) (m : List ℕ) → a.network ≡ true → Steady a.network (requested_instr i word o a m)
instr_steady None word o a m h = fault_leaves a IllegalWord (stop.Illegal word) None
instr_steady (Some i) word o a m h = kind_steady (kind_of i.op) i word o a m h

pub requested_steady : (here : Option Here) (o : Operands) (a : Arch) (m : List ℕ) → a.network ≡ true → Steady a.network (requested here o a m)
unfolding requested
requested_steady None o a m h = fault_leaves a InstrBus (stop.InstrBus a.pc) None
requested_steady (Some here) o a m h =
    either a.network (is_end here.word a) (HaltLoop (halt_loop a)) (requested_instr here.instr here.word o a m) (refl, refl) (instr_steady here.instr here.word o a m h)
