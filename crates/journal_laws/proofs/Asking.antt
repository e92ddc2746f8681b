-- What an act says of links is what its core was shown.
use Rattle.std.proofs.Common.{inl, inr, ◌⊎◌, ◌≡◌, ℕ, List, Option, Some, None, refl, sym, subst, Bool, true, false, ◌&&◌}
use Rattle.std.specs.Prelude.{if◌then◌else◌, not, is_some}
use Rattle.std.proofs.lemmas.Option.{same_Some}
use Rattle.axi_link.specs.declared.item.Item.{Item}
use Rattle.core_regs.specs.declared.causes.Size.{Size}
use Rattle.core_regs.specs.declared.causes.Size.TheVariants.{Byte, Half, Word}
use Rattle.core_regs.specs.declared.causes.StopCause.{StopCause}
use Rattle.core_regs.specs.declared.causes.StopCause.TheVariants as stop
use Rattle.core_regs.specs.declared.causes.Take.{Take}
use Rattle.core_regs.specs.declared.registers.Arch.{Arch}
use Rattle.core_regs.specs.State.{bare, exceptions_on}
use Rattle.byte_mem.specs.Access.{bytes_of, fits, loaded}
use Rattle.alu_units.specs.Division.{fault_of, quotient_of}
use Rattle.alu_units.specs.declared.faults.DivFault.{DivFault}
use Rattle.trap_entry.specs.declared.cause.Cause.{Cause}
use Rattle.trap_entry.specs.declared.cause.Cause.TheVariants.{DataBus, Illegal as IllegalWord, InstrBus}
use Rattle.mb_decode.specs.declared.instruction.Instr.{Instr}
use Rattle.isa_step.specs.declared.acts.Action.{Action}
use Rattle.isa_step.specs.declared.acts.Action.TheVariants as action
use Rattle.isa_step.specs.declared.acts.Here.{Here}
use Rattle.isa_step.specs.declared.acts.Operands.{Operands}
use Rattle.isa_step.specs.declared.operands.Given.{Given}
use Rattle.op_table.specs.declared.kinds.Kind.{Kind}
use Rattle.op_table.specs.declared.kinds.Kind.TheVariants.{Divide, BranchIf, Barrier, Load, Store, Get, Put}
use Rattle.op_table.specs.Kinds.{belongs_into_slot}
use Rattle.op_table.specs.Table.{kind_of}
use Rattle.isa_step.specs.Effects.{View, Effect, Due, Does, Waits, Ends, Request, Goes, HaltLoop, Gets, Puts, Reads, Writes, faults, raises, stops}
use Rattle.isa_step.specs.Due.{awake, by_item, by_room, due, due_by, due_with, here_of, is_closed, reply, take_due, takes}
use Rattle.isa_step.specs.Arithmetic.{divided}
use Rattle.isa_step.specs.Branches.{branches_if, holds}
use Rattle.isa_step.specs.Special.{is_sleep}
use Rattle.isa_step.specs.Links.{gets_from, is_nonblocking, is_raised, is_test, port_of, puts_to}
use Rattle.isa_step.specs.Loads.{address, is_aligned, keeps, loads, loads_at, loads_from, loads_past, lowered, no_data, read_from_bus, stores, stores_at, stores_past, unaligned, written_to_bus}
use Rattle.isa_step.specs.Shown.{Shown}
use Rattle.isa_step.specs.Requests.{halt_loop, effect_of, request_of, given, illegal, is_banned, is_end, operands_of, requested, requested_instr, requested_kind}
use Rattle.run_journal.specs.declared.entry.What.{What}
use Rattle.run_journal.specs.declared.entry.What.TheVariants.{Got, Sent, Seen, Room, Missed, Took, Wait, HostSent, HostGot}
use Rattle.board_machine.specs.Fabric.{entries_of_action, entry_of_action}
use Rattle.machine_laws.specs.Silence.{IsAwake}

-- a port showed no item, or no room
abbrev pub ShowsNone : Shown → ℕ → Bool → Type 0
ShowsNone s port true = s.room port ≡ false
ShowsNone s port false = s.first port ≡ None

-- an entry of an instruction says of links what the core was shown
abbrev pub Agrees : Shown → What → Type 0
Agrees s (Got port item) = s.first port ≡ Some item
Agrees s (Seen port item) = s.first port ≡ Some item
Agrees s (Sent port item) = s.room port ≡ true
Agrees s (Room port) = s.room port ≡ true
Agrees s (Missed port full) = ShowsNone s port full
Agrees s (Wait on) = ShowsNone s on.port on.full
Agrees s (Took t) = ⊥
Agrees s (HostSent link item) = ⊥
Agrees s (HostGot link item) = ⊥
Agrees s _ = Unit {0}

abbrev pub AgreesIf : Shown → Option What → Type 0
AgreesIf s None = Unit {0}
AgreesIf s (Some what) = Agrees s what

abbrev EffectAgrees : Shown → Effect → Type 0
EffectAgrees s d = AgreesIf s (entries_of_action d.action)

abbrev DueAgrees : Shown → Due → Type 0
DueAgrees s (Does effect) = EffectAgrees s effect
DueAgrees s (Waits port full) = ShowsNone s port full
DueAgrees s _ = Unit {0}

-- the effects of a want, by what was shown; what asks nothing does nothing at a port
abbrev RequestAgrees : Request → Type 0
RequestAgrees (Goes effect) = effect.action ≡ None
RequestAgrees (HaltLoop effect) = effect.action ≡ None
RequestAgrees (Gets port item empty) = (s : Shown) → ((x : Item) → s.first port ≡ Some x → EffectAgrees s (item x)) × ((d : Effect) → empty ≡ Some d → s.first port ≡ None → EffectAgrees s d)
RequestAgrees (Puts port room full) = (s : Shown) → (s.room port ≡ true → EffectAgrees s room) × ((d : Effect) → full ≡ Some d → s.room port ≡ false → EffectAgrees s d)
RequestAgrees (Reads addr answer) = (s : Shown) (o : Option ℕ) → EffectAgrees s (answer o)
RequestAgrees (Writes addr word answer) = (s : Shown) (b : Bool) → EffectAgrees s (answer b)

either : (b : Bool) (x y : Request) → RequestAgrees x → RequestAgrees y → RequestAgrees (if b then x else y)
either true x y p q = p
either false x y p q = q

one_of : (s : Shown) (b : Bool) (x y : Effect) → EffectAgrees s x → EffectAgrees s y → EffectAgrees s (if b then x else y)
one_of s true x y p q = p
one_of s false x y p q = q

-- what asks nothing

act_of : (b : Bool) (x y : Effect) (o : Option Action) → x.action ≡ o → y.action ≡ o → (if b then x else y).action ≡ o
act_of true x y o p q = p
act_of false x y o p q = q

fault_action : (a : Arch) (c : Cause) (s : StopCause) (o : Option Action) → (faults a c s o).action ≡ o
fault_action a c s o = act_of (exceptions_on a) (raises a c o) (stops a s o) o refl refl

divided_quiet : (g : Given) (a : Arch) (value : ℕ) (f : Option DivFault) → (divided g a value f).action ≡ None
divided_quiet g a value None = refl
divided_quiet g a value (Some f) = act_of (exceptions_on a) _ _ None refl refl

branch_quiet : (g : Given) (a : Arch) (delayed taken : Bool) → (branches_if g a delayed taken).action ≡ None
branch_quiet g a delayed true = refl
branch_quiet g a delayed false = refl

effect_quiet : (kind : Kind) (g : Given) (a : Arch) → (effect_of kind g a).action ≡ None
unfolding effect_of
effect_quiet (Divide signed) g a = divided_quiet g a (quotient_of g.b g.a signed) (fault_of g.b g.a signed)
effect_quiet (BranchIf condition delayed) g a = branch_quiet g a delayed (holds condition g.a)
effect_quiet Barrier g a = act_of (is_sleep g.imm) _ _ None refl refl
effect_quiet _ g a = refl

data_action : (a : Arch) (addr : ℕ) (o : Option Action) → (no_data a addr o).action ≡ o
data_action a addr o = fault_action a (DataBus addr) (stop.DataBus addr) o

-- loads and stores

bus_agrees : (s : Shown) (d : Effect) (a : Action) → d.action ≡ Some a → Agrees s (entry_of_action a) → EffectAgrees s d
bus_agrees s d a e h = subst (λ o. AgreesIf s (entries_of_action o)) (sym e) h

word_agrees : (g : Given) (a : Arch) (addr : ℕ) (s : Shown) (o : Option ℕ) → EffectAgrees s (read_from_bus g a addr o)
word_agrees g a addr s (Some word) = tt
word_agrees g a addr s None = bus_agrees s (no_data a addr (Some (action.ReadRefused addr))) (action.ReadRefused addr) (data_action a addr (Some (action.ReadRefused addr))) tt

write_agrees : (g : Given) (a : Arch) (addr : ℕ) (s : Shown) (b : Bool) → EffectAgrees s (written_to_bus g a addr b)
write_agrees g a addr s true = tt
write_agrees g a addr s false = bus_agrees s (no_data a addr (Some (action.WriteRefused addr g.d))) (action.WriteRefused addr g.d) (data_action a addr (Some (action.WriteRefused addr g.d))) tt

load_past : (g : Given) (a : Arch) (addr : ℕ) (size : Size) → RequestAgrees (loads_past g a addr size)
load_past g a addr Byte = data_action a addr None
load_past g a addr Half = data_action a addr None
load_past g a addr Word = word_agrees g a addr

load_from : (g : Given) (a : Arch) (size : Size) (addr : ℕ) (o : Option ℕ) → RequestAgrees (loads_from g a size addr o)
load_from g a size addr (Some value) = refl
load_from g a size addr None = load_past g a addr size

load_agrees : (g : Given) (a : Arch) (m : List ℕ) (size : Size) → RequestAgrees (loads g a m size)
load_agrees g a m size =
    let addr = lowered size (address g) in
    either (not (is_aligned size (address g)) && exceptions_on a) (unaligned g a size false) (loads_at g a m size addr) refl
    (load_from g a size addr (loaded m size a.order addr))

store_past : (g : Given) (a : Arch) (addr : ℕ) (size : Size) → RequestAgrees (stores_past g a addr size)
store_past g a addr Byte = data_action a addr None
store_past g a addr Half = data_action a addr None
store_past g a addr Word = write_agrees g a addr

store_agrees : (g : Given) (a : Arch) (m : List ℕ) (size : Size) → RequestAgrees (stores g a m size)
store_agrees g a m size =
    let addr = lowered size (address g) in
    either (not (is_aligned size (address g)) && exceptions_on a) (unaligned g a size true) (stores_at g a m size addr) refl
    (either (fits m addr (bytes_of size)) (Goes (keeps g a size addr None)) (stores_past g a addr size) refl (store_past g a addr size))

-- get and put

item_agrees : (s : Shown) (b : Bool) (port : ℕ) (x : Item) → s.first port ≡ Some x → Agrees s (entry_of_action (if b then action.Seen port x else action.Got port x))
item_agrees s true port x h = h
item_agrees s false port x h = h

room_agrees : (s : Shown) (b : Bool) (port : ℕ) (x : Item) → s.room port ≡ true → Agrees s (entry_of_action (if b then action.Room port else action.Sent port x))
room_agrees s true port x h = h
room_agrees s false port x h = h

missed_agrees : (s : Shown) (b : Bool) (missed d : Effect) → EffectAgrees s missed → (if b then Some missed else None) ≡ Some d → EffectAgrees s d
missed_agrees s true missed d h e = subst (EffectAgrees s) (same_Some _ _ e) h
missed_agrees s false missed d h e = cc

get_agrees : (g : Given) (a : Arch) (port : ℕ) → RequestAgrees (gets_from g a port)
get_agrees g a port s = (
  λ x h. one_of s (is_raised g.flags x a) _ _ (item_agrees s (is_test g.flags) port x h) (item_agrees s (is_test g.flags) port x h),
  λ d e h. missed_agrees s (is_nonblocking g.flags) _ d h e,
)

put_agrees : (g : Given) (a : Arch) (port : ℕ) → RequestAgrees (puts_to g a port)
put_agrees g a port s = (
  λ h. room_agrees s (is_test g.flags) port _ h,
  λ d e h. missed_agrees s (is_nonblocking g.flags) _ d h e,
)

request_of_agrees : (kind : Kind) (g : Given) (a : Arch) (m : List ℕ) → RequestAgrees (request_of kind g a m)
unfolding request_of
request_of_agrees (Load size) g a m = load_agrees g a m size
request_of_agrees (Store size) g a m = store_agrees g a m size
request_of_agrees (Get dynamic) g a m = get_agrees g a (port_of g dynamic)
request_of_agrees (Put dynamic) g a m = put_agrees g a (port_of g dynamic)
request_of_agrees kind g a m = effect_quiet kind g a

kind_agrees : (kind : Kind) (i : Instr) (word : ℕ) (o : Operands) (a : Arch) (m : List ℕ) → RequestAgrees (requested_kind kind i word o a m)
kind_agrees kind i word o a m =
    let placed = if is_some a.slot && not (belongs_into_slot kind) then Goes (stops a (stop.Slot word) None) else request_of kind (given i o a) a m in
    either (is_banned i kind a.network) (illegal a word) placed (fault_action a IllegalWord (stop.Illegal word) None)
    (either (is_some a.slot && not (belongs_into_slot kind)) (Goes (stops a (stop.Slot word) None)) (request_of kind (given i o a) a m) refl (request_of_agrees kind (given i o a) a m))

instr_agrees : (i : Option Instr) (word : ℕ) (o : Operands) (a : Arch) (m : List ℕ) → RequestAgrees (requested_instr i word o a m)
instr_agrees None word o a m = fault_action a IllegalWord (stop.Illegal word) None
instr_agrees (Some i) word o a m = kind_agrees (kind_of i.op) i word o a m

request_agrees : (here : Option Here) (o : Operands) (a : Arch) (m : List ℕ) → RequestAgrees (requested here o a m)
unfolding requested
request_agrees None o a m = fault_action a InstrBus (stop.InstrBus a.pc) None
request_agrees (Some here) o a m =
    either (is_end here.word a) (HaltLoop (halt_loop a)) (requested_instr here.instr here.word o a m) refl (instr_agrees here.instr here.word o a m)

-- the outcome that is due

quiet_agrees : (s : Shown) (o : Option Action) → o ≡ None → AgreesIf s (entries_of_action o)
quiet_agrees s None e = tt
quiet_agrees s (Some a) e = cc

by_item_agrees : (s : Shown) (port : ℕ) (item : Item → Effect) (empty : Option Effect) (o : Option Item) → s.first port ≡ o → RequestAgrees (Gets port item empty) → DueAgrees s (by_item port item empty o)
by_item_agrees s port item empty (Some x) e w = (w s).0 x e
by_item_agrees s port item (Some d) None e w = (w s).1 d refl e
by_item_agrees s port item None None e w = e

by_room_agrees : (s : Shown) (port : ℕ) (room : Effect) (full : Option Effect) (b : Bool) → s.room port ≡ b → RequestAgrees (Puts port room full) → DueAgrees s (by_room port room full b)
by_room_agrees s port room full true e w = (w s).0 e
by_room_agrees s port room (Some d) false e w = (w s).1 d refl e
by_room_agrees s port room None false e w = e

halt_loop_agrees : (s : Shown) (d : Effect) (b : Bool) → d.action ≡ None → DueAgrees s (if b then Ends else Does d)
halt_loop_agrees s d true h = tt
halt_loop_agrees s d false h = quiet_agrees s d.action h

reply_agrees : (a : Arch) (w : Request) (s : Shown) → RequestAgrees w → DueAgrees s (reply a w s)
reply_agrees a (Goes d) s h = quiet_agrees s d.action h
reply_agrees a (HaltLoop d) s h = halt_loop_agrees s d (is_closed a s.hopes) h
reply_agrees a (Gets port item empty) s h = by_item_agrees s port item empty (s.first port) refl h
reply_agrees a (Puts port room full) s h = by_room_agrees s port room full (s.room port) refl h
reply_agrees a (Reads addr answer) s h = h s (s.bus_word addr)
reply_agrees a (Writes addr word answer) s h = h s (s.bus_takes addr word)

awake_agrees : (here : Option Here) (o : Operands) (a : Arch) (m : List ℕ) (s : Shown) (asleep : Bool) → DueAgrees s (awake here o a m s asleep)
awake_agrees here o a m s true = tt
awake_agrees here o a m s false = reply_agrees a (requested here o a m) s (request_agrees here o a m)

-- an act is a take that is due, or an instruction's where none is
pub record IsTake (v : View) (s : Shown) (effect : Effect) : Type 0 where
  pub take : Take
  pub due : take_due (here_of v) (bare v.arch) s ≡ Some take
  pub runs : v.arch.stopped ≡ None
  pub is : effect ≡ takes (bare v.arch) take

pub record IsInstruction (v : View) (s : Shown) (effect : Effect) : Type 0 where
  pub due : take_due (here_of v) (bare v.arch) s ≡ None
  pub awake : IsAwake v
  pub agrees : AgreesIf s (entries_of_action effect.action)

instruction_by : (v : View) (s : Shown) (effect : Effect) (asleep : Bool) → take_due (here_of v) (bare v.arch) s ≡ None → v.arch.stopped ≡ None → v.arch.asleep ≡ asleep → awake (here_of v) (operands_of (here_of v) v.arch.regs) (bare v.arch) v.memory s asleep ≡ Does effect → IsInstruction v s effect
instruction_by v s effect true e c a h = cc
instruction_by v s effect false e c a h = record {
  due = e;
  awake = record { asleep = a; stopped = c };
  agrees = subst (DueAgrees s) h (awake_agrees (here_of v) (operands_of (here_of v) v.arch.regs) (bare v.arch) v.memory s false);
}

split_by : (v : View) (s : Shown) (effect : Effect) (t : Option Take) (c : Option StopCause) → take_due (here_of v) (bare v.arch) s ≡ t → v.arch.stopped ≡ c → due_by (here_of v) (operands_of (here_of v) v.arch.regs) (bare v.arch) v.memory s t c ≡ Does effect → IsTake v s effect ⊎ IsInstruction v s effect
split_by v s effect t (Some cause) e c h = cc
split_by v s effect (Some t) None e c h = inl (record { take = t; due = e; runs = c; is = cc })
split_by v s effect None None e c h = inr (instruction_by v s effect v.arch.asleep e c refl h)

pub act_splits : (v : View) (s : Shown) (effect : Effect) → due v s ≡ Does effect → IsTake v s effect ⊎ IsInstruction v s effect
unfolding due_with
act_splits v s effect h = split_by v s effect (take_due (here_of v) (bare v.arch) s) v.arch.stopped refl refl h

-- a wait is at a port that showed nothing
wait_by : (v : View) (s : Shown) (port : ℕ) (full : Bool) (t : Option Take) (c : Option StopCause) → due_by (here_of v) (operands_of (here_of v) v.arch.regs) (bare v.arch) v.memory s t c ≡ Waits port full → ShowsNone s port full
wait_by v s port full t (Some cause) h = cc
wait_by v s port full (Some t) None h = cc
wait_by v s port full None None h = subst (DueAgrees s) h (awake_agrees (here_of v) (operands_of (here_of v) v.arch.regs) (bare v.arch) v.memory s v.arch.asleep)

pub wait_shows : (v : View) (s : Shown) (port : ℕ) (full : Bool) → due v s ≡ Waits port full → ShowsNone s port full
unfolding due_with
wait_shows v s port full h = wait_by v s port full (take_due (here_of v) (bare v.arch) s) v.arch.stopped h
