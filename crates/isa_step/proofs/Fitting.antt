-- What an instruction asks fits the actions of its answers.
use Rattle.std.specs.Prelude.{◌≡◌, ℕ, ◌&&◌, not, Bool, true, false, List, Option, Some, None, is_some, if◌then◌else◌}
use Rattle.std.proofs.Common.{refl}
use Rattle.axi_link.specs.declared.item.Item.{Item}
use Rattle.core_regs.specs.declared.registers.Arch.{Arch}
use Rattle.core_regs.specs.declared.causes.Size.{Size}
use Rattle.core_regs.specs.declared.causes.Size.TheVariants.{Byte, Half, Word}
use Rattle.core_regs.specs.declared.causes.StopCause.{StopCause}
use Rattle.core_regs.specs.State.{exceptions_on}
use Rattle.byte_mem.specs.Access.{bytes_of, fits, loaded}
use Rattle.alu_units.specs.Division.{fault_of, quotient_of}
use Rattle.alu_units.specs.declared.faults.DivFault.{DivFault}
use Rattle.core_regs.specs.declared.causes.StopCause.TheVariants as stop
use Rattle.trap_entry.specs.declared.cause.Cause.{Cause}
use Rattle.trap_entry.specs.declared.cause.Cause.TheVariants.{DataBus, Illegal as IllegalWord, InstrBus}
use Rattle.mb_decode.specs.declared.instruction.Instr.{Instr}
use Rattle.isa_step.specs.declared.acts.Action.{Action}
use Rattle.isa_step.specs.declared.acts.Action.TheVariants.{Got, Sent, Seen, Room, Missed, Read, ReadRefused, Wrote, WriteRefused}
use Rattle.isa_step.specs.declared.acts.Here.{Here}
use Rattle.isa_step.specs.declared.acts.Operands.{Operands}
use Rattle.isa_step.specs.declared.operands.Given.{Given}
use Rattle.op_table.specs.declared.kinds.Kind.{Kind}
use Rattle.op_table.specs.declared.kinds.Kind.TheVariants.{Divide, BranchIf, Barrier, Load, Store, Get, Put}
use Rattle.op_table.specs.Table.{kind_of}
use Rattle.isa_step.specs.Effects.{Effect, Request, Goes, HaltLoop, Gets, Puts, Reads, Writes, faults, raises, stops}
use Rattle.isa_step.specs.Arithmetic.{divided}
use Rattle.isa_step.specs.Branches.{branches_if, holds}
use Rattle.isa_step.specs.Special.{is_sleep}
use Rattle.isa_step.specs.Loads.{address, is_aligned, keeps, loads, loads_at, loads_from, loads_past, lowered, no_data, stores, stores_at, stores_past, unaligned}
use Rattle.isa_step.specs.Links.{gets_from, is_nonblocking, is_raised, is_test, port_of, puts_to}
use Rattle.isa_step.specs.Requests.{effect_of, request_of, given, requested, requested_instr, requested_kind, is_banned, is_end, belongs_into_slot, illegal, halt_loop}

-- an action that holds this item, or that shows room
abbrev pub HasItem : Item → Option Action → Type 0
HasItem x (Some (Got port y)) = y ≡ x
HasItem x (Some (Seen port y)) = y ≡ x
HasItem x _ = ⊥

abbrev pub HasRoom : Option Action → Type 0
HasRoom (Some (Sent port y)) = Unit {0}
HasRoom (Some (Room port)) = Unit {0}
HasRoom _ = ⊥

abbrev pub MissedBy : Option Action → Type 0
MissedBy (Some (Missed port full)) = Unit {0}
MissedBy _ = ⊥

abbrev pub HasMissed : Option Effect → Type 0
HasMissed None = Unit {0}
HasMissed (Some d) = MissedBy d.action

-- a want whose effects do the actions of their answers
abbrev pub IsFit : Request → Type 0
IsFit (Goes effect) = effect.action ≡ None
IsFit (HaltLoop effect) = effect.action ≡ None
IsFit (Gets port item empty) = ((x : Item) → HasItem x (item x).action) × HasMissed empty
IsFit (Puts port room full) = HasRoom room.action × HasMissed full
IsFit (Reads addr answer) = ((w : ℕ) → (answer (Some w)).action ≡ Some (Read addr w)) × ((answer None).action ≡ Some (ReadRefused addr))
IsFit (Writes addr word answer) = ((answer true).action ≡ Some (Wrote addr word)) × ((answer false).action ≡ Some (WriteRefused addr word))

either : (b : Bool) (x y : Request) → IsFit x → IsFit y → IsFit (if b then x else y)
either true x y p q = p
either false x y p q = q

act_of : (b : Bool) (x y : Effect) (o : Option Action) → x.action ≡ o → y.action ≡ o → (if b then x else y).action ≡ o
act_of true x y o p q = p
act_of false x y o p q = q

fault_action : (a : Arch) (c : Cause) (s : StopCause) (o : Option Action) → (faults a c s o).action ≡ o
fault_action a c s o = act_of (exceptions_on a) (raises a c o) (stops a s o) o refl refl

divided_quiet : (g : Given) (a : Arch) (value : ℕ) (f : Option DivFault) → (divided g a value f).action ≡ None
divided_quiet g a value None = refl
divided_quiet g a value (Some f) = act_of (exceptions_on a) _ _ None refl refl

branch_quiet : (g : Given) (a : Arch) (delayed taken : Bool) → (branches_if g a delayed taken).action ≡ None
branch_quiet g a delayed true = refl
branch_quiet g a delayed false = refl

-- an instruction that asks nothing does no action
computes_quietly : (kind : Kind) (g : Given) (a : Arch) → (effect_of kind g a).action ≡ None
unfolding effect_of
computes_quietly (Divide signed) g a = divided_quiet g a (quotient_of g.b g.a signed) (fault_of g.b g.a signed)
computes_quietly (BranchIf condition delayed) g a = branch_quiet g a delayed (holds condition g.a)
computes_quietly Barrier g a = act_of (is_sleep g.imm) _ _ None refl refl
computes_quietly _ g a = refl

data_action : (a : Arch) (addr : ℕ) (o : Option Action) → (no_data a addr o).action ≡ o
data_action a addr o = fault_action a (DataBus addr) (stop.DataBus addr) o

loads_past_fit : (g : Given) (a : Arch) (addr : ℕ) (size : Size) → IsFit (loads_past g a addr size)
loads_past_fit g a addr Byte = data_action a addr None
loads_past_fit g a addr Half = data_action a addr None
loads_past_fit g a addr Word = (λ w. refl, data_action a addr (Some (ReadRefused addr)))

loads_from_fit : (g : Given) (a : Arch) (size : Size) (addr : ℕ) (o : Option ℕ) → IsFit (loads_from g a size addr o)
loads_from_fit g a size addr (Some value) = refl
loads_from_fit g a size addr None = loads_past_fit g a addr size

loads_fit : (g : Given) (a : Arch) (m : List ℕ) (size : Size) → IsFit (loads g a m size)
loads_fit g a m size =
    let addr = lowered size (address g) in
    either (not (is_aligned size (address g)) && exceptions_on a) (unaligned g a size false) (loads_at g a m size addr) refl
    (loads_from_fit g a size addr (loaded m size a.order addr))

stores_past_fit : (g : Given) (a : Arch) (addr : ℕ) (size : Size) → IsFit (stores_past g a addr size)
stores_past_fit g a addr Byte = data_action a addr None
stores_past_fit g a addr Half = data_action a addr None
stores_past_fit g a addr Word = (refl, data_action a addr (Some (WriteRefused addr g.d)))

stores_fit : (g : Given) (a : Arch) (m : List ℕ) (size : Size) → IsFit (stores g a m size)
stores_fit g a m size =
    let addr = lowered size (address g) in
    either (not (is_aligned size (address g)) && exceptions_on a) (unaligned g a size true) (stores_at g a m size addr) refl
    (either (fits m addr (bytes_of size)) (Goes (keeps g a size addr None)) (stores_past g a addr size) refl (stores_past_fit g a addr size))

item_kept : (b : Bool) (port : ℕ) (x : Item) → HasItem x (Some (if b then Seen port x else Got port x))
item_kept true port x = refl
item_kept false port x = refl

room_kept : (b : Bool) (port : ℕ) (x : Item) → HasRoom (Some (if b then Room port else Sent port x))
room_kept true port x = tt
room_kept false port x = tt

effect_item : (b : Bool) (x y : Effect) (i : Item) → HasItem i x.action → HasItem i y.action → HasItem i (if b then x else y).action
effect_item true x y i p q = p
effect_item false x y i p q = q

missed_fit : (b : Bool) (d : Effect) → MissedBy d.action → HasMissed (if b then Some d else None)
missed_fit true d p = p
missed_fit false d p = tt

gets_fit : (g : Given) (a : Arch) (port : ℕ) → IsFit (gets_from g a port)
gets_fit g a port = (
  λ x. effect_item (is_raised g.flags x a) _ _ x (item_kept (is_test g.flags) port x) (item_kept (is_test g.flags) port x),
  missed_fit (is_nonblocking g.flags) _ tt,
)

puts_fit : (g : Given) (a : Arch) (port : ℕ) → IsFit (puts_to g a port)
puts_fit g a port = (room_kept (is_test g.flags) port _, missed_fit (is_nonblocking g.flags) _ tt)

request_of_fits : (kind : Kind) (g : Given) (a : Arch) (m : List ℕ) → IsFit (request_of kind g a m)
unfolding request_of
request_of_fits (Load size) g a m = loads_fit g a m size
request_of_fits (Store size) g a m = stores_fit g a m size
request_of_fits (Get dynamic) g a m = gets_fit g a (port_of g dynamic)
request_of_fits (Put dynamic) g a m = puts_fit g a (port_of g dynamic)
request_of_fits kind g a m = computes_quietly kind g a

kind_fits : (kind : Kind) (i : Instr) (word : ℕ) (o : Operands) (a : Arch) (m : List ℕ) → IsFit (requested_kind kind i word o a m)
kind_fits kind i word o a m =
    let placed = if is_some a.slot && not (belongs_into_slot kind) then Goes (stops a (stop.Slot word) None) else request_of kind (given i o a) a m in
    either (is_banned i kind a.network) (illegal a word) placed (fault_action a IllegalWord (stop.Illegal word) None)
    (either (is_some a.slot && not (belongs_into_slot kind)) (Goes (stops a (stop.Slot word) None)) (request_of kind (given i o a) a m) refl (request_of_fits kind (given i o a) a m))

instr_fits : (i : Option Instr) (word : ℕ) (o : Operands) (a : Arch) (m : List ℕ) → IsFit (requested_instr i word o a m)
instr_fits None word o a m = fault_action a IllegalWord (stop.Illegal word) None
instr_fits (Some i) word o a m = kind_fits (kind_of i.op) i word o a m

pub requested_fit : (here : Option Here) (o : Operands) (a : Arch) (m : List ℕ) → IsFit (requested here o a m)
unfolding requested
requested_fit None o a m = fault_action a InstrBus (stop.InstrBus a.pc) None
requested_fit (Some here) o a m =
    either (is_end here.word a) (HaltLoop (halt_loop a)) (requested_instr here.instr here.word o a m) refl (instr_fits here.instr here.word o a m)
