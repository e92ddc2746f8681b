-- What the outcome that is due tells of a view: what an act leaves of sleep and stop, where a core waits, and why it does
-- nothing.
use Rattle.std.proofs.Common.{◌≡◌, ℕ, List, Option, Some, None, refl, ap, sym, ◌∙◌, subst, Bool, true, false, ◌&&◌}
use Rattle.std.specs.Prelude.{if◌then◌else◌, not, is_some}
use Rattle.std.proofs.lemmas.Option.{same_Some}
use Rattle.axi_link.specs.declared.item.Item.{Item}
use Rattle.core_regs.specs.declared.causes.Size.{Size}
use Rattle.core_regs.specs.declared.causes.Size.TheVariants.{Byte, Half, Word}
use Rattle.core_regs.specs.declared.causes.StopCause.{StopCause}
use Rattle.core_regs.specs.declared.causes.StopCause.TheVariants as stop
use Rattle.core_regs.specs.declared.causes.Take.{Take}
use Rattle.core_regs.specs.declared.causes.WaitOn.{WaitOn}
use Rattle.core_regs.specs.declared.registers.Arch.{Arch}
use Rattle.core_regs.specs.State.{bare, exceptions_on, msr_c, msr_dzo, msr_fsl, with_flag, write_of}
use Rattle.byte_mem.specs.Access.{bytes_of, fits, loaded}
use Rattle.alu_units.specs.Division.{fault_of, quotient_of}
use Rattle.alu_units.specs.declared.faults.DivFault.{DivFault}
use Rattle.delay_imm.specs.Slots.{advanced}
use Rattle.trap_entry.specs.declared.cause.Cause.{Cause}
use Rattle.trap_entry.specs.declared.cause.Cause.TheVariants.{DataBus, Illegal as IllegalWord, InstrBus, Stream}
use Rattle.mb_decode.specs.declared.instruction.Instr.{Instr}
use Rattle.isa_step.specs.declared.acts.Act.{Act}
use Rattle.isa_step.specs.declared.acts.Act.TheVariants as acts
use Rattle.isa_step.specs.declared.acts.Action.{Action}
use Rattle.isa_step.specs.declared.acts.Action.TheVariants.{Missed, ReadRefused, WriteRefused}
use Rattle.isa_step.specs.declared.acts.Here.{Here}
use Rattle.isa_step.specs.declared.acts.Hopes.{Hopes}
use Rattle.isa_step.specs.declared.acts.Operands.{Operands}
use Rattle.isa_step.specs.declared.operands.Given.{Given}
use Rattle.op_table.specs.declared.kinds.Kind.{Kind}
use Rattle.op_table.specs.declared.kinds.Kind.TheVariants.{Add, Rsub, Divide, BranchIf, Barrier, Load, Store, Get, Put}
use Rattle.op_table.specs.Kinds.{belongs_into_slot}
use Rattle.op_table.specs.Table.{kind_of}
use Rattle.isa_step.specs.Effects.{View, Effect, Due, Does, Waits, Sleeps, Ends, Stops, Request, Goes, HaltLoop, Gets, Puts, Reads, Writes, faults, raises, retires, stops}
use Rattle.isa_step.specs.Due.{awake, by_item, by_room, due, due_by, due_with, here_of, is_closed, reply, take_due, takes}
use Rattle.isa_step.specs.Arithmetic.{cause_of, divided}
use Rattle.isa_step.specs.Branches.{branches_if, holds}
use Rattle.isa_step.specs.Special.{barrier, is_sleep}
use Rattle.isa_step.specs.Links.{checked, got_or_seen, gets_from, is_expected, is_nonblocking, is_raised, marked, passed, port_of, puts_to, receives}
use Rattle.isa_step.specs.Loads.{address, is_aligned, keeps, loads, loads_at, loads_from, loads_past, lowered, no_data, read_from_bus, stores, stores_at, stores_past, unaligned, written_to_bus}
use Rattle.isa_step.specs.Shown.{Shown}
use Rattle.isa_step.specs.Requests.{halt_loop, effect_of, request_of, given, illegal, is_banned, is_end, operands_of, requested, requested_instr, requested_kind}
use Rattle.machine_laws.specs.Holding.{request_at}
use Rattle.machine_laws.specs.Silence.{IsAwake}

-- a core as awake and as stopped as another
record IsAlike (a b : Arch) : Type 0 where
  asleep : b.asleep ≡ a.asleep
  stopped : b.stopped ≡ a.stopped

-- an act that says of itself that the core sleeps or stops
abbrev says_rest : Act → Bool
says_rest acts.Slept = true
says_rest (acts.Stopped cause) = true
says_rest _ = false

-- a effect leaves sleep and stop as they were, or it goes to sleep, or stops
data Leaves (a : Arch) (d : Effect) : Type 0 where
  stays : IsAlike a d.arch → says_rest d.done.act ≡ false → Leaves a d
  sleeps : d.done.act ≡ acts.Slept → d.arch.asleep ≡ true → d.arch.stopped ≡ a.stopped → Leaves a d
  halts : (cause : StopCause) → d.done.act ≡ acts.Stopped cause → d.arch.stopped ≡ Some cause → d.arch.asleep ≡ a.asleep → Leaves a d

abbrev RequestLeaves : Arch → Request → Type 0
RequestLeaves a (Goes d) = Leaves a d
RequestLeaves a (HaltLoop d) = Leaves a d
RequestLeaves a (Gets port item empty) = ((x : Item) → Leaves a (item x)) × ((d : Effect) → empty ≡ Some d → Leaves a d)
RequestLeaves a (Puts port room full) = Leaves a room × ((d : Effect) → full ≡ Some d → Leaves a d)
RequestLeaves a (Reads addr answer) = (o : Option ℕ) → Leaves a (answer o)
RequestLeaves a (Writes addr word answer) = (b : Bool) → Leaves a (answer b)

either : (a : Arch) (b : Bool) (x y : Request) → RequestLeaves a x → RequestLeaves a y → RequestLeaves a (if b then x else y)
either a true x y p q = p
either a false x y p q = q

one_of : (a : Arch) (b : Bool) (x y : Effect) → Leaves a x → Leaves a y → Leaves a (if b then x else y)
one_of a true x y p q = p
one_of a false x y p q = q

-- states that are alike

same : (a : Arch) → IsAlike a a
same a = record { asleep = refl; stopped = refl }

alike_of : (a x y : Arch) (b : Bool) → IsAlike a x → IsAlike a y → IsAlike a (if b then x else y)
alike_of a x y true p q = p
alike_of a x y false p q = q

flag_alike : (a x : Arch) (mask : ℕ) (value : Bool) → IsAlike a x → IsAlike a (with_flag x mask value)
flag_alike a x mask value h = record { asleep = h.asleep; stopped = h.stopped }

passed_alike : (g : Given) (a : Arch) → IsAlike a (passed g a)
passed_alike g a = record { asleep = refl; stopped = refl }

marked_alike : (a x : Arch) (flags : ℕ) (missed : Bool) → IsAlike a x → IsAlike a (marked flags missed x)
marked_alike a x flags missed h = alike_of a (with_flag x msr_c missed) x (is_nonblocking flags) (flag_alike a x msr_c missed h) h

checked_alike : (a x : Arch) (flags : ℕ) (item : Item) → IsAlike a x → IsAlike a (checked flags item x)
checked_alike a x flags item h = alike_of a x (with_flag x msr_fsl true) (is_expected flags item) h (flag_alike a x msr_fsl true h)

raised_leaves : (a x : Arch) (c : Cause) (o : Option Action) → IsAlike a x → Leaves a (raises x c o)
raised_leaves a x c o h = stays (record { asleep = h.asleep; stopped = h.stopped }) refl

-- the table

fault_leaves : (a : Arch) (c : Cause) (s : StopCause) (o : Option Action) → Leaves a (faults a c s o)
fault_leaves a c s o = one_of a (exceptions_on a) (raises a c o) (stops a s o) (raised_leaves a a c o (same a)) (halts s refl refl refl)

divided_leaves : (g : Given) (a : Arch) (value : ℕ) (f : Option DivFault) → Leaves a (divided g a value f)
divided_leaves g a value None = stays (record { asleep = refl; stopped = refl }) refl
divided_leaves g a value (Some f) =
    one_of a (exceptions_on a) (raises (with_flag a msr_dzo true) (cause_of f) None) (retires g (with_flag (advanced a false) msr_dzo true) None (write_of g.rd value))
    (raised_leaves a (with_flag a msr_dzo true) (cause_of f) None (flag_alike a a msr_dzo true (same a))) (stays (record { asleep = refl; stopped = refl }) refl)

branch_leaves : (g : Given) (a : Arch) (delayed taken : Bool) → Leaves a (branches_if g a delayed taken)
branch_leaves g a delayed true = stays (record { asleep = refl; stopped = refl }) refl
branch_leaves g a true false = stays (record { asleep = refl; stopped = refl }) refl
branch_leaves g a false false = stays (record { asleep = refl; stopped = refl }) refl

barrier_leaves : (g : Given) (a : Arch) → Leaves a (barrier g a)
barrier_leaves g a = one_of a (is_sleep g.imm) _ _ (sleeps refl refl refl) (stays (record { asleep = refl; stopped = refl }) refl)

effect_leaves : (kind : Kind) (g : Given) (a : Arch) → Leaves a (effect_of kind g a)
unfolding effect_of
effect_leaves (Add with_carry true) g a = stays (record { asleep = refl; stopped = refl }) refl
effect_leaves (Add with_carry false) g a = stays (record { asleep = refl; stopped = refl }) refl
effect_leaves (Rsub with_carry true) g a = stays (record { asleep = refl; stopped = refl }) refl
effect_leaves (Rsub with_carry false) g a = stays (record { asleep = refl; stopped = refl }) refl
effect_leaves (Divide signed) g a = divided_leaves g a (quotient_of g.b g.a signed) (fault_of g.b g.a signed)
effect_leaves (BranchIf condition delayed) g a = branch_leaves g a delayed (holds condition g.a)
effect_leaves Barrier g a = barrier_leaves g a
effect_leaves _ g a = stays (record { asleep = refl; stopped = refl }) refl

data_leaves : (a : Arch) (addr : ℕ) (o : Option Action) → Leaves a (no_data a addr o)
data_leaves a addr o = fault_leaves a (DataBus addr) (stop.DataBus addr) o

word_leaves : (g : Given) (a : Arch) (addr : ℕ) (o : Option ℕ) → Leaves a (read_from_bus g a addr o)
word_leaves g a addr (Some word) = stays (record { asleep = refl; stopped = refl }) refl
word_leaves g a addr None = data_leaves a addr (Some (ReadRefused addr))

write_leaves : (g : Given) (a : Arch) (addr : ℕ) (b : Bool) → Leaves a (written_to_bus g a addr b)
write_leaves g a addr true = stays (record { asleep = refl; stopped = refl }) refl
write_leaves g a addr false = data_leaves a addr (Some (WriteRefused addr g.d))

load_past : (g : Given) (a : Arch) (addr : ℕ) (size : Size) → RequestLeaves a (loads_past g a addr size)
load_past g a addr Byte = data_leaves a addr None
load_past g a addr Half = data_leaves a addr None
load_past g a addr Word = word_leaves g a addr

load_from : (g : Given) (a : Arch) (size : Size) (addr : ℕ) (o : Option ℕ) → RequestLeaves a (loads_from g a size addr o)
load_from g a size addr (Some value) = stays (record { asleep = refl; stopped = refl }) refl
load_from g a size addr None = load_past g a addr size

load_leaves : (g : Given) (a : Arch) (m : List ℕ) (size : Size) → RequestLeaves a (loads g a m size)
load_leaves g a m size =
    let addr = lowered size (address g) in
    either a (not (is_aligned size (address g)) && exceptions_on a) (unaligned g a size false) (loads_at g a m size addr) (stays (record { asleep = refl; stopped = refl }) refl)
    (load_from g a size addr (loaded m size a.order addr))

store_past : (g : Given) (a : Arch) (addr : ℕ) (size : Size) → RequestLeaves a (stores_past g a addr size)
store_past g a addr Byte = data_leaves a addr None
store_past g a addr Half = data_leaves a addr None
store_past g a addr Word = write_leaves g a addr

store_leaves : (g : Given) (a : Arch) (m : List ℕ) (size : Size) → RequestLeaves a (stores g a m size)
store_leaves g a m size =
    let addr = lowered size (address g) in
    either a (not (is_aligned size (address g)) && exceptions_on a) (unaligned g a size true) (stores_at g a m size addr) (stays (record { asleep = refl; stopped = refl }) refl)
    (either a (fits m addr (bytes_of size)) (Goes (keeps g a size addr None)) (stores_past g a addr size) (stays (record { asleep = refl; stopped = refl }) refl) (store_past g a addr size))

missed_leaves : (a : Arch) (b : Bool) (missed d : Effect) → Leaves a missed → (if b then Some missed else None) ≡ Some d → Leaves a d
missed_leaves a true missed d h e = subst (Leaves a) (same_Some _ _ e) h
missed_leaves a false missed d h e = cc

miss_stays : (g : Given) (a : Arch) (port : ℕ) (full : Bool) → Leaves a (retires g (with_flag (passed g a) msr_c true) (Some (Missed port full)) None)
miss_stays g a port full = stays (record { asleep = refl; stopped = refl }) refl

receive_leaves : (g : Given) (a : Arch) (port : ℕ) (x : Item) → Leaves a (receives g a port x)
receive_leaves g a port x =
    let h = checked_alike a (marked g.flags false (passed g a)) g.flags x (marked_alike a (passed g a) g.flags false (passed_alike g a)) in
    one_of a (is_raised g.flags x a)
    (raises (checked g.flags x (marked g.flags false a)) (Stream port x.word) (Some (got_or_seen g.flags port x)))
    (retires g (checked g.flags x (marked g.flags false (passed g a))) (Some (got_or_seen g.flags port x)) (write_of g.rd x.word))
    (raised_leaves a (checked g.flags x (marked g.flags false a)) (Stream port x.word) (Some (got_or_seen g.flags port x)) (checked_alike a (marked g.flags false a) g.flags x (marked_alike a a g.flags false (same a))))
    (stays (record { asleep = h.asleep; stopped = h.stopped }) refl)

get_leaves : (g : Given) (a : Arch) (port : ℕ) → RequestLeaves a (gets_from g a port)
get_leaves g a port = (receive_leaves g a port, λ d e. missed_leaves a (is_nonblocking g.flags) _ d (miss_stays g a port false) e)

put_leaves : (g : Given) (a : Arch) (port : ℕ) → RequestLeaves a (puts_to g a port)
put_leaves g a port =
    let h = marked_alike a (passed g a) g.flags false (passed_alike g a) in
    (stays (record { asleep = h.asleep; stopped = h.stopped }) refl, λ d e. missed_leaves a (is_nonblocking g.flags) _ d (miss_stays g a port true) e)

request_of_leaves : (kind : Kind) (g : Given) (a : Arch) (m : List ℕ) → RequestLeaves a (request_of kind g a m)
unfolding request_of
request_of_leaves (Load size) g a m = load_leaves g a m size
request_of_leaves (Store size) g a m = store_leaves g a m size
request_of_leaves (Get dynamic) g a m = get_leaves g a (port_of g dynamic)
request_of_leaves (Put dynamic) g a m = put_leaves g a (port_of g dynamic)
request_of_leaves kind g a m = effect_leaves kind g a

kind_leaves : (kind : Kind) (i : Instr) (word : ℕ) (o : Operands) (a : Arch) (m : List ℕ) → RequestLeaves a (requested_kind kind i word o a m)
kind_leaves kind i word o a m =
    let placed = if is_some a.slot && not (belongs_into_slot kind) then Goes (stops a (stop.Slot word) None) else request_of kind (given i o a) a m in
    either a (is_banned i kind a.network) (illegal a word) placed (fault_leaves a IllegalWord (stop.Illegal word) None)
    (either a (is_some a.slot && not (belongs_into_slot kind)) (Goes (stops a (stop.Slot word) None)) (request_of kind (given i o a) a m) (halts (stop.Slot word) refl refl refl) (request_of_leaves kind (given i o a) a m))

instr_leaves : (i : Option Instr) (word : ℕ) (o : Operands) (a : Arch) (m : List ℕ) → RequestLeaves a (requested_instr i word o a m)
instr_leaves None word o a m = fault_leaves a IllegalWord (stop.Illegal word) None
instr_leaves (Some i) word o a m = kind_leaves (kind_of i.op) i word o a m

request_leaves : (here : Option Here) (o : Operands) (a : Arch) (m : List ℕ) → RequestLeaves a (requested here o a m)
unfolding requested
request_leaves None o a m = fault_leaves a InstrBus (stop.InstrBus a.pc) None
request_leaves (Some here) o a m =
    either a (is_end here.word a) (HaltLoop (halt_loop a)) (requested_instr here.instr here.word o a m) (stays (record { asleep = refl; stopped = refl }) refl) (instr_leaves here.instr here.word o a m)

-- the outcome that is due

-- a view sleeps or is stopped after an act exactly where the act says so
pub record SaysRest (d : Effect) : Type 0 where
  pub asleep : d.arch.asleep ≡ true → d.done.act ≡ acts.Slept
  pub stopped : is_some d.arch.stopped ≡ true → (cause : StopCause) × (d.done.act ≡ acts.Stopped cause)
  pub sleeps : d.done.act ≡ acts.Slept → d.arch.asleep ≡ true
  pub halts : (cause : StopCause) → d.done.act ≡ acts.Stopped cause → is_some d.arch.stopped ≡ true

-- the access at which a view waits
abbrev pub access_of : Request → Option WaitOn
access_of (Gets port item empty) = Some (record { port = port; full = false })
access_of (Puts port room full) = Some (record { port = port; full = true })
access_of _ = None

abbrev pub is_halt_loop : Request → Bool
is_halt_loop (HaltLoop effect) = true
is_halt_loop _ = false

-- a core at its end, where no take can come
pub record Gone (v : View) (hopes : Hopes) : Type 0 where
  pub awake : IsAwake v
  pub halting : is_halt_loop (request_at v) ≡ true
  pub shut : is_closed (bare v.arch) hopes ≡ true

abbrev Determines : View → Shown → Due → Type 0
Determines v s (Does d) = SaysRest d
Determines v s (Waits port full) = access_of (request_at v) ≡ Some (record { port = port; full = full })
Determines v s Sleeps = v.arch.asleep ≡ true
Determines v s Ends = Gone v s.hopes
Determines v s (Stops cause) = v.arch.stopped ≡ Some cause

leaves_says : (v : View) (d : Effect) → IsAwake v → Leaves (bare v.arch) d → SaysRest d
leaves_says v d w (stays h n) = record {
  asleep = λ x. let z : false ≡ true = sym (h.asleep ∙ w.asleep) ∙ x in cc;
  stopped = λ x. let z : false ≡ true = ap is_some (sym (h.stopped ∙ w.stopped)) ∙ x in cc;
  sleeps = λ x. let z : false ≡ true = sym n ∙ ap says_rest x in cc;
  halts = λ cause x. let z : false ≡ true = sym n ∙ ap says_rest x in cc;
}
leaves_says v d w (sleeps h t k) = record {
  asleep = λ x. h;
  stopped = λ x. let z : false ≡ true = ap is_some (sym (k ∙ w.stopped)) ∙ x in cc;
  sleeps = λ x. t;
  halts = λ cause x. let z : acts.Slept ≡ acts.Stopped cause = sym h ∙ x in cc;
}
leaves_says v d w (halts cause h t k) = record {
  asleep = λ x. let z : false ≡ true = sym (k ∙ w.asleep) ∙ x in cc;
  stopped = λ x. (cause, h);
  sleeps = λ x. let z : acts.Stopped cause ≡ acts.Slept = sym h ∙ x in cc;
  halts = λ other x. ap is_some t;
}

item_determines : (v : View) (s : Shown) (port : ℕ) (item : Item → Effect) (empty : Option Effect) (o : Option Item) → IsAwake v → request_at v ≡ Gets port item empty → RequestLeaves (bare v.arch) (Gets port item empty) → Determines v s (by_item port item empty o)
item_determines v s port item empty (Some x) w e h = leaves_says v (item x) w (h.0 x)
item_determines v s port item (Some d) None w e h = leaves_says v d w (h.1 d refl)
item_determines v s port item None None w e h = ap access_of e

room_determines : (v : View) (s : Shown) (port : ℕ) (room : Effect) (full : Option Effect) (b : Bool) → IsAwake v → request_at v ≡ Puts port room full → RequestLeaves (bare v.arch) (Puts port room full) → Determines v s (by_room port room full b)
room_determines v s port room full true w e h = leaves_says v room w h.0
room_determines v s port room (Some d) false w e h = leaves_says v d w (h.1 d refl)
room_determines v s port room None false w e h = ap access_of e

halt_loop_determines : (v : View) (s : Shown) (d : Effect) (b : Bool) → IsAwake v → request_at v ≡ HaltLoop d → Leaves (bare v.arch) d → is_closed (bare v.arch) s.hopes ≡ b → Determines v s (if b then Ends else Does d)
halt_loop_determines v s d true w e h c = record { awake = w; halting = ap is_halt_loop e; shut = c }
halt_loop_determines v s d false w e h c = leaves_says v d w h

reply_determines : (v : View) (s : Shown) (x : Request) → IsAwake v → request_at v ≡ x → RequestLeaves (bare v.arch) x → Determines v s (reply (bare v.arch) x s)
reply_determines v s (Goes d) w e h = leaves_says v d w h
reply_determines v s (HaltLoop d) w e h = halt_loop_determines v s d (is_closed (bare v.arch) s.hopes) w e h refl
reply_determines v s (Gets port item empty) w e h = item_determines v s port item empty (s.first port) w e h
reply_determines v s (Puts port room full) w e h = room_determines v s port room full (s.room port) w e h
reply_determines v s (Reads addr answer) w e h = leaves_says v (answer (s.bus_word addr)) w (h (s.bus_word addr))
reply_determines v s (Writes addr word answer) w e h = leaves_says v (answer (s.bus_takes addr word)) w (h (s.bus_takes addr word))

awake_determines : (v : View) (s : Shown) (asleep : Bool) → v.arch.asleep ≡ asleep → v.arch.stopped ≡ None → Determines v s (awake (here_of v) (operands_of (here_of v) v.arch.regs) (bare v.arch) v.memory s asleep)
awake_determines v s true a c = a
awake_determines v s false a c = reply_determines v s (request_at v) (record { asleep = a; stopped = c }) refl (request_leaves (here_of v) (operands_of (here_of v) v.arch.regs) (bare v.arch) v.memory)

take_says : (v : View) (t : Take) → v.arch.stopped ≡ None → SaysRest (takes (bare v.arch) t)
take_says v t c = record {
  asleep = λ x. cc;
  stopped = λ x. let z : false ≡ true = ap is_some (sym c) ∙ x in cc;
  sleeps = λ x. cc;
  halts = λ cause x. cc;
}

by_determines : (v : View) (s : Shown) (t : Option Take) (c : Option StopCause) → v.arch.stopped ≡ c → Determines v s (due_by (here_of v) (operands_of (here_of v) v.arch.regs) (bare v.arch) v.memory s t c)
by_determines v s t (Some cause) c = c
by_determines v s (Some t) None c = take_says v t c
by_determines v s None None c = awake_determines v s v.arch.asleep refl c

due_determines : (v : View) (s : Shown) → Determines v s (due v s)
unfolding due_with
due_determines v s = by_determines v s (take_due (here_of v) (bare v.arch) s) v.arch.stopped refl

pub act_says : (v : View) (s : Shown) (effect : Effect) → due v s ≡ Does effect → SaysRest effect
act_says v s effect e = subst (Determines v s) e (due_determines v s)

pub waits_at : (v : View) (s : Shown) (port : ℕ) (full : Bool) → due v s ≡ Waits port full → access_of (request_at v) ≡ Some (record { port = port; full = full })
waits_at v s port full e = subst (Determines v s) e (due_determines v s)

pub sleeps_asleep : (v : View) (s : Shown) → due v s ≡ Sleeps → v.arch.asleep ≡ true
sleeps_asleep v s e = subst (Determines v s) e (due_determines v s)

pub ends_gone : (v : View) (s : Shown) → due v s ≡ Ends → Gone v s.hopes
ends_gone v s e = subst (Determines v s) e (due_determines v s)

pub stops_stopped : (v : View) (s : Shown) (cause : StopCause) → due v s ≡ Stops cause → v.arch.stopped ≡ Some cause
stops_stopped v s cause e = subst (Determines v s) e (due_determines v s)
