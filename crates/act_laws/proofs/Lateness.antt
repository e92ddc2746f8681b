-- What an act of an instruction writes is late by its class.
use Rattle.std.specs.Prelude.{◌≡◌, ℕ, ◌==◌, ◌&&◌, not, Bool, true, false, List, Option, Some, None, is_none, is_some, if◌then◌else◌}
use Rattle.std.proofs.Common.{refl, ap, sym, subst, ◌∙◌}
use Rattle.std.proofs.lemmas.Option.{same_Some}
use Rattle.axi_link.specs.declared.item.Item.{Item}
use Rattle.core_regs.specs.declared.registers.Arch.{Arch}
use Rattle.core_regs.specs.declared.registers.Write.{Write}
use Rattle.core_regs.specs.declared.causes.Size.{Size}
use Rattle.core_regs.specs.declared.causes.Size.TheVariants.{Byte, Half, Word}
use Rattle.core_regs.specs.declared.causes.StopCause.{StopCause}
use Rattle.core_regs.specs.declared.causes.StopCause.TheVariants as stop
use Rattle.core_regs.specs.declared.causes.Take.{Take}
use Rattle.core_regs.specs.State.{exceptions_on, msr_dzo, with_flag, write_of}
use Rattle.byte_mem.specs.Access.{bytes_of, fits, loaded}
use Rattle.alu_units.specs.Division.{fault_of, quotient_of}
use Rattle.alu_units.specs.declared.faults.DivFault.{DivFault}
use Rattle.trap_entry.specs.declared.cause.Cause.{Cause}
use Rattle.trap_entry.specs.declared.cause.Cause.TheVariants.{DataBus, Illegal as IllegalWord, Stream, Unaligned}
use Rattle.mb_decode.specs.declared.instruction.Instr.{Instr}
use Rattle.op_table.specs.Table.{is_store}
use Rattle.mb_decode.specs.Registers.{written}
use Rattle.isa_step.specs.declared.acts.Act.TheVariants as acts
use Rattle.isa_step.specs.declared.acts.Action.{Action}
use Rattle.isa_step.specs.declared.acts.Action.TheVariants.{ReadRefused, WriteRefused, Wrote}
use Rattle.isa_step.specs.declared.acts.Here.{Here}
use Rattle.isa_step.specs.declared.acts.Late.{Late}
use Rattle.op_table.specs.declared.kinds.Latency.{Latency}
use Rattle.isa_step.specs.declared.acts.Operands.{Operands}
use Rattle.isa_step.specs.declared.operands.Given.{Given}
use Rattle.op_table.specs.declared.kinds.Kind.{Kind}
use Rattle.op_table.specs.declared.kinds.Kind.TheVariants.{Add, Rsub, Compare, Multiply, Shift, Divide, Logic, FirstEqualByte, IsEqual, ShiftByOne, Unary, MoveFrom, SetMsr, ClearMsr, Branch, Break, BranchIf, Barrier, Load, Store, Get, Put}
use Rattle.op_table.specs.Table.{kind_of}
use Rattle.isa_step.specs.Effects.{Effect, Due, Does, Ends, Request, Goes, HaltLoop, Gets, Puts, Reads, Writes, faults, raises, retires, stops}
use Rattle.isa_step.specs.Due.{awake, by_item, by_room, due_by, due_with, is_closed, reply, take_due}
use Rattle.isa_step.specs.Arithmetic.{cause_of, divided}
use Rattle.isa_step.specs.Branches.{branches_if, holds}
use Rattle.isa_step.specs.Special.{is_sleep}
use Rattle.isa_step.specs.Links.{checked, gets_from, got_or_seen, is_nonblocking, is_raised, marked, passed, port_of, puts_to}
use Rattle.isa_step.specs.Loads.{address, is_aligned, is_word, keeps, loads, loads_at, loads_from, loads_past, lowered, no_data, read_from_bus, stores, stores_at, stores_past, unaligned, written_to_bus}
use Rattle.isa_step.specs.Shown.{Shown}
use Rattle.isa_step.specs.Requests.{halt_loop, effect_of, request_of, given, illegal, is_banned, is_end, late_at, requested, requested_kind}
use Rattle.op_table.specs.Kinds.{belongs_into_slot, latency_of}
use Rattle.act_laws.specs.Lateness.{IsLateWrite, Retires, WritesAreLate, here_is}
use Rattle.act_laws.proofs.Stores.{late_is_no_store}

-- a effect that retires an instruction makes its rD late, and writes it or nothing
pub record IsOwn (kind : Kind) (g : Given) (d : Effect) : Type 0 where
  late : d.done.act ≡ acts.Retired → d.done.late ≡ g.late
  reg : (w : Write) → d.done.act ≡ acts.Retired → d.done.write ≡ Some w → w.reg ≡ g.rd
  some : (w : Write) → d.done.act ≡ acts.Retired → d.done.write ≡ Some w → g.rd == 0 ≡ false
  has : (w : Write) → d.done.act ≡ acts.Retired → d.done.write ≡ Some w → is_none (latency_of kind) ≡ false

reg_by : (rd value : ℕ) (w : Write) (b : Bool) → (if b then None else Some (record { reg = rd; value = value })) ≡ Some w → w.reg ≡ rd
reg_by rd value w true e = cc
reg_by rd value w false e = ap (λ (w : Write). w.reg) (sym (same_Some _ w e))

some_by : (rd value : ℕ) (w : Write) (b : Bool) → rd == 0 ≡ b → (if b then None else Some (record { reg = rd; value = value })) ≡ Some w → rd == 0 ≡ false
some_by rd value w true q e = cc
some_by rd value w false q e = q

-- it writes rD
own_rd : (kind : Kind) (g : Given) (d : Effect) (value : ℕ) → is_none (latency_of kind) ≡ false → d.done.late ≡ g.late → d.done.write ≡ write_of g.rd value → IsOwn kind g d
own_rd kind g d value k l e = record {
  late = λ r. l;
  reg = λ w r h. reg_by g.rd value w (g.rd == 0) (sym e ∙ h);
  some = λ w r h. some_by g.rd value w (g.rd == 0) refl (sym e ∙ h);
  has = λ w r h. k;
}

no_write : {X : Type 0} (d : Effect) (w : Write) → d.done.write ≡ None → d.done.write ≡ Some w → X
no_write d w e h = let z : None ≡ Some w = sym e ∙ h in cc

-- it writes nothing
own_none : (kind : Kind) (g : Given) (d : Effect) → d.done.late ≡ g.late → d.done.write ≡ None → IsOwn kind g d
own_none kind g d l e = record { late = λ r. l; reg = λ w r h. no_write d w e h; some = λ w r h. no_write d w e h; has = λ w r h. no_write d w e h }

-- it doesn't retire
own_loud : (kind : Kind) (g : Given) (d : Effect) → (d.done.act ≡ acts.Retired → ⊥) → IsOwn kind g d
own_loud kind g d n = record { late = λ r. absurd (n r); reg = λ w r h. absurd (n r); some = λ w r h. absurd (n r); has = λ w r h. absurd (n r) }

own_raise : (kind : Kind) (g : Given) (a : Arch) (c : Cause) (o : Option Action) → IsOwn kind g (raises a c o)
own_raise kind g a c o = own_loud kind g (raises a c o) (λ r. cc)

own_stop : (kind : Kind) (g : Given) (a : Arch) (c : StopCause) (o : Option Action) → IsOwn kind g (stops a c o)
own_stop kind g a c o = own_loud kind g (stops a c o) (λ r. cc)

own_either : (kind : Kind) (g : Given) (b : Bool) (x y : Effect) → IsOwn kind g x → IsOwn kind g y → IsOwn kind g (if b then x else y)
own_either kind g true x y p q = p
own_either kind g false x y p q = q

own_fault : (kind : Kind) (g : Given) (a : Arch) (c : Cause) (s : StopCause) (o : Option Action) → IsOwn kind g (faults a c s o)
own_fault kind g a c s o = own_either kind g (exceptions_on a) (raises a c o) (stops a s o) (own_raise kind g a c o) (own_stop kind g a s o)

own_divided : (signed : Bool) (g : Given) (a : Arch) (value : ℕ) (f : Option DivFault) → IsOwn (Divide signed) g (divided g a value f)
unfolding latency_of
own_divided signed g a value None = own_rd _ g _ value refl refl refl
own_divided signed g a value (Some f) = own_either (Divide signed) g (exceptions_on a) _ _ (own_raise _ g (with_flag a msr_dzo true) (cause_of f) None) (own_rd _ g _ value refl refl refl)

own_branch : (kind : Kind) (g : Given) (a : Arch) (delayed taken : Bool) → IsOwn kind g (branches_if g a delayed taken)
own_branch kind g a delayed true = own_none kind g _ refl refl
own_branch kind g a delayed false = own_none kind g _ refl refl

own_linked : (kind : Kind) (g : Given) (d : Effect) (value : ℕ) (linked : Bool) → is_none (latency_of kind) ≡ false → d.done.late ≡ g.late → d.done.write ≡ (if linked then write_of g.rd value else None) → IsOwn kind g d
own_linked kind g d value true k l e = own_rd kind g d value k l e
own_linked kind g d value false k l e = own_none kind g d l e

own_effect : (kind : Kind) (g : Given) (a : Arch) → IsOwn kind g (effect_of kind g a)
unfolding effect_of latency_of
own_effect (Add with_carry keep) g a = own_rd _ g _ _ refl refl refl
own_effect (Rsub with_carry keep) g a = own_rd _ g _ _ refl refl refl
own_effect (Compare signed) g a = own_rd _ g _ _ refl refl refl
own_effect (Multiply k) g a = own_rd _ g _ _ refl refl refl
own_effect (Shift k) g a = own_rd _ g _ _ refl refl refl
own_effect (Divide signed) g a = own_divided signed g a (quotient_of g.b g.a signed) (fault_of g.b g.a signed)
own_effect (Logic k) g a = own_rd _ g _ _ refl refl refl
own_effect FirstEqualByte g a = own_rd _ g _ _ refl refl refl
own_effect (IsEqual wanted) g a = own_rd _ g _ _ refl refl refl
own_effect (ShiftByOne top) g a = own_rd _ g _ _ refl refl refl
own_effect (Unary k) g a = own_rd _ g _ _ refl refl refl
own_effect (MoveFrom special) g a = own_rd _ g _ _ refl refl refl
own_effect SetMsr g a = own_rd _ g _ _ refl refl refl
own_effect ClearMsr g a = own_rd _ g _ _ refl refl refl
own_effect (Branch absolute delayed linked) g a = own_linked _ g _ a.pc linked refl refl refl
own_effect Break g a = own_rd _ g _ _ refl refl refl
own_effect (BranchIf condition delayed) g a = own_branch _ g a delayed (holds condition g.a)
own_effect Barrier g a = own_either Barrier g (is_sleep g.imm) _ _ (own_loud Barrier g _ (λ r. cc)) (own_none Barrier g _ refl refl)
own_effect kind g a = own_none kind g _ refl refl

-- the same of all effects of what is asked
abbrev OwnRequest : Kind → Given → Request → Type 0
OwnRequest kind g (Goes d) = IsOwn kind g d
OwnRequest kind g (HaltLoop d) = IsOwn kind g d
OwnRequest kind g (Gets port item empty) = ((x : Item) → IsOwn kind g (item x)) × ((d : Effect) → empty ≡ Some d → IsOwn kind g d)
OwnRequest kind g (Puts port room full) = IsOwn kind g room × ((d : Effect) → full ≡ Some d → IsOwn kind g d)
OwnRequest kind g (Reads addr answer) = (o : Option ℕ) → IsOwn kind g (answer o)
OwnRequest kind g (Writes addr word answer) = (b : Bool) → IsOwn kind g (answer b)

either : (kind : Kind) (g : Given) (b : Bool) (x y : Request) → OwnRequest kind g x → OwnRequest kind g y → OwnRequest kind g (if b then x else y)
either kind g true x y p q = p
either kind g false x y p q = q

own_data : (kind : Kind) (g : Given) (a : Arch) (addr : ℕ) (o : Option Action) → IsOwn kind g (no_data a addr o)
own_data kind g a addr o = own_fault kind g a (DataBus addr) (stop.DataBus addr) o

own_word : (size : Size) (g : Given) (a : Arch) (addr : ℕ) (o : Option ℕ) → IsOwn (Load size) g (read_from_bus g a addr o)
unfolding latency_of
own_word size g a addr (Some word) = own_rd _ g _ word refl refl refl
own_word size g a addr None = own_data (Load size) g a addr (Some (ReadRefused addr))

own_load_past : (size : Size) (g : Given) (a : Arch) (addr : ℕ) (part : Size) → OwnRequest (Load size) g (loads_past g a addr part)
own_load_past size g a addr Byte = own_data (Load size) g a addr None
own_load_past size g a addr Half = own_data (Load size) g a addr None
own_load_past size g a addr Word = λ o. own_word size g a addr o

own_load_from : (size : Size) (g : Given) (a : Arch) (addr : ℕ) (o : Option ℕ) → OwnRequest (Load size) g (loads_from g a size addr o)
unfolding latency_of
own_load_from size g a addr (Some value) = own_rd (Load size) g _ value refl refl refl
own_load_from size g a addr None = own_load_past size g a addr size

own_load : (size : Size) (g : Given) (a : Arch) (m : List ℕ) → OwnRequest (Load size) g (loads g a m size)
own_load size g a m =
    let addr = lowered size (address g) in
    either (Load size) g (not (is_aligned size (address g)) && exceptions_on a) (unaligned g a size false) (loads_at g a m size addr)
    (own_raise (Load size) g a (Unaligned (address g) (is_word size) false g.rd) None)
    (own_load_from size g a addr (loaded m size a.order addr))

own_kept : (size : Size) (g : Given) (a : Arch) (addr : ℕ) (part : Size) (o : Option Action) → IsOwn (Store size) g (keeps g a part addr o)
own_kept size g a addr part o = own_none (Store size) g (keeps g a part addr o) refl refl

own_taken : (size : Size) (g : Given) (a : Arch) (addr : ℕ) (b : Bool) → IsOwn (Store size) g (written_to_bus g a addr b)
own_taken size g a addr true = own_kept size g a addr Word (Some (Wrote addr g.d))
own_taken size g a addr false = own_data (Store size) g a addr (Some (WriteRefused addr g.d))

own_store_past : (size : Size) (g : Given) (a : Arch) (addr : ℕ) (part : Size) → OwnRequest (Store size) g (stores_past g a addr part)
own_store_past size g a addr Byte = own_data (Store size) g a addr None
own_store_past size g a addr Half = own_data (Store size) g a addr None
own_store_past size g a addr Word = λ b. own_taken size g a addr b

own_store : (size : Size) (g : Given) (a : Arch) (m : List ℕ) → OwnRequest (Store size) g (stores g a m size)
own_store size g a m =
    let addr = lowered size (address g) in
    either (Store size) g (not (is_aligned size (address g)) && exceptions_on a) (unaligned g a size true) (stores_at g a m size addr)
    (own_raise (Store size) g a (Unaligned (address g) (is_word size) true g.rd) None)
    (either (Store size) g (fits m addr (bytes_of size)) (Goes (keeps g a size addr None)) (stores_past g a addr size) (own_kept size g a addr size None) (own_store_past size g a addr size))

own_missed : (kind : Kind) (g : Given) (b : Bool) (missed d : Effect) → IsOwn kind g missed → (if b then Some missed else None) ≡ Some d → IsOwn kind g d
own_missed kind g true missed d h e = subst (IsOwn kind g) (same_Some _ _ e) h
own_missed kind g false missed d h e = cc

own_raised : (dynamic : Bool) (g : Given) (a : Arch) (port : ℕ) (x : Item) (b : Bool) → IsOwn (Get dynamic) g (if b
    then raises (checked g.flags x (marked g.flags false a)) (Stream port x.word) (Some (got_or_seen g.flags port x))
    else retires g (checked g.flags x (marked g.flags false (passed g a))) (Some (got_or_seen g.flags port x)) (write_of g.rd x.word))
unfolding latency_of
own_raised dynamic g a port x true = own_raise (Get dynamic) g (checked g.flags x (marked g.flags false a)) (Stream port x.word) (Some (got_or_seen g.flags port x))
own_raised dynamic g a port x false = own_rd (Get dynamic) g _ x.word refl refl refl

own_get : (dynamic : Bool) (g : Given) (a : Arch) (port : ℕ) → OwnRequest (Get dynamic) g (gets_from g a port)
own_get dynamic g a port = (
  λ x. own_raised dynamic g a port x (is_raised g.flags x a),
  λ d e. own_missed (Get dynamic) g (is_nonblocking g.flags) _ d (own_none (Get dynamic) g _ refl refl) e,
)

own_put : (dynamic : Bool) (g : Given) (a : Arch) (port : ℕ) → OwnRequest (Put dynamic) g (puts_to g a port)
own_put dynamic g a port = (
  own_none (Put dynamic) g _ refl refl,
  λ d e. own_missed (Put dynamic) g (is_nonblocking g.flags) _ d (own_none (Put dynamic) g _ refl refl) e,
)

own_request_of : (kind : Kind) (g : Given) (a : Arch) (m : List ℕ) → OwnRequest kind g (request_of kind g a m)
unfolding request_of
own_request_of (Load size) g a m = own_load size g a m
own_request_of (Store size) g a m = own_store size g a m
own_request_of (Get dynamic) g a m = own_get dynamic g a (port_of g dynamic)
own_request_of (Put dynamic) g a m = own_put dynamic g a (port_of g dynamic)
own_request_of kind g a m = own_effect kind g a

own_kind : (kind : Kind) (i : Instr) (word : ℕ) (o : Operands) (a : Arch) (m : List ℕ) → OwnRequest kind (given i o a) (requested_kind kind i word o a m)
own_kind kind i word o a m =
    let g = given i o a in
    let placed = if is_some a.slot && not (belongs_into_slot kind) then Goes (stops a (stop.Slot word) None) else request_of kind g a m in
    either kind g (is_banned i kind a.network) (illegal a word) placed (own_fault kind g a IllegalWord (stop.Illegal word) None)
    (either kind g (is_some a.slot && not (belongs_into_slot kind)) (Goes (stops a (stop.Slot word) None)) (request_of kind g a m) (own_stop kind g a (stop.Slot word) None) (own_request_of kind g a m))

-- and of the act that is due

abbrev OwnDue : Kind → Given → Due → Type 0
OwnDue kind g (Does d) = IsOwn kind g d
OwnDue kind g _ = Unit {0}

own_item : (kind : Kind) (g : Given) (port : ℕ) (item : Item → Effect) (empty : Option Effect) (o : Option Item) → OwnRequest kind g (Gets port item empty) → OwnDue kind g (by_item port item empty o)
own_item kind g port item empty (Some x) h = h.0 x
own_item kind g port item (Some d) None h = h.1 d refl
own_item kind g port item None None h = tt

own_room : (kind : Kind) (g : Given) (port : ℕ) (room : Effect) (full : Option Effect) (b : Bool) → OwnRequest kind g (Puts port room full) → OwnDue kind g (by_room port room full b)
own_room kind g port room full true h = h.0
own_room kind g port room (Some d) false h = h.1 d refl
own_room kind g port room None false h = tt

own_halt_loop : (kind : Kind) (g : Given) (d : Effect) (b : Bool) → IsOwn kind g d → OwnDue kind g (if b then Ends else Does d)
own_halt_loop kind g d true h = tt
own_halt_loop kind g d false h = h

own_reply : (kind : Kind) (g : Given) (a : Arch) (w : Request) (s : Shown) → OwnRequest kind g w → OwnDue kind g (reply a w s)
own_reply kind g a (Goes d) s h = h
own_reply kind g a (HaltLoop d) s h = own_halt_loop kind g d (is_closed a s.hopes) h
own_reply kind g a (Gets port item empty) s h = own_item kind g port item empty (s.first port) h
own_reply kind g a (Puts port room full) s h = own_room kind g port room full (s.room port) h
own_reply kind g a (Reads addr answer) s h = h (s.bus_word addr)
own_reply kind g a (Writes addr word answer) s h = h (s.bus_takes addr word)

own_awake : (kind : Kind) (g : Given) (here : Option Here) (o : Operands) (a : Arch) (m : List ℕ) (s : Shown) (asleep : Bool) → OwnRequest kind g (requested here o a m) → OwnDue kind g (awake here o a m s asleep)
own_awake kind g here o a m s true h = tt
own_awake kind g here o a m s false h = own_reply kind g a (requested here o a m) s h

own_by : (kind : Kind) (g : Given) (here : Option Here) (o : Operands) (a : Arch) (m : List ℕ) (s : Shown) (t : Option Take) (c : Option StopCause) → OwnRequest kind g (requested here o a m) → OwnDue kind g (due_by here o a m s t c)
own_by kind g here o a m s t (Some cause) h = tt
own_by kind g here o a m s (Some t) None h = own_loud kind g _ (λ r. cc)
own_by kind g here o a m s None None h = own_awake kind g here o a m s a.asleep h

-- at the end of a program the branch writes nothing, and makes nothing late
own_end : (i : Instr) (word : ℕ) (o : Operands) (a : Arch) (m : List ℕ) (b : Bool) → is_end word a ≡ b → b ≡ false → OwnRequest (kind_of i.op) (given i o a) (requested (Some (here_is word i)) o a m)
unfolding requested
own_end i word o a m true e h = cc
own_end i word o a m false e h = subst (λ b. OwnRequest (kind_of i.op) (given i o a) (if b then HaltLoop (halt_loop a) else requested_kind (kind_of i.op) i word o a m)) (sym e) (own_kind (kind_of i.op) i word o a m)

own_due : (i : Instr) (word : ℕ) (o : Operands) (a : Arch) (m : List ℕ) (s : Shown) (effect : Effect) → Retires i word o a m s effect → is_end word a ≡ false → IsOwn (kind_of i.op) (given i o a) effect
unfolding due_with
own_due i word o a m s effect r e =
    subst (OwnDue (kind_of i.op) (given i o a)) r.is_due
    (own_by (kind_of i.op) (given i o a) (Some (here_is word i)) o a m s (take_due (Some (here_is word i)) a s) a.stopped (own_end i word o a m (is_end word a) refl e))

-- the branch to itself writes nothing

abbrev Writeless : Due → Type 0
Writeless (Does d) = (w : Write) → d.done.act ≡ acts.Retired → d.done.write ≡ Some w → ⊥
Writeless _ = Unit {0}

halt_loop_writeless : (a : Arch) (b : Bool) → Writeless (if b then Ends else Does (halt_loop a))
halt_loop_writeless a true = tt
halt_loop_writeless a false = λ w r h. cc

awake_writeless : (i : Instr) (word : ℕ) (o : Operands) (a : Arch) (m : List ℕ) (s : Shown) (asleep : Bool) → is_end word a ≡ true → Writeless (awake (Some (here_is word i)) o a m s asleep)
unfolding requested
awake_writeless i word o a m s true e = tt
awake_writeless i word o a m s false e = subst (λ b. Writeless (reply a (if b then HaltLoop (halt_loop a) else requested_kind (kind_of i.op) i word o a m) s)) (sym e) (halt_loop_writeless a (is_closed a s.hopes))

by_writeless : (i : Instr) (word : ℕ) (o : Operands) (a : Arch) (m : List ℕ) (s : Shown) (t : Option Take) (c : Option StopCause) → is_end word a ≡ true → Writeless (due_by (Some (here_is word i)) o a m s t c)
by_writeless i word o a m s t (Some cause) e = tt
by_writeless i word o a m s (Some t) None e = λ w r h. cc
by_writeless i word o a m s None None e = awake_writeless i word o a m s a.asleep e

end_writeless : (i : Instr) (word : ℕ) (o : Operands) (a : Arch) (m : List ℕ) (s : Shown) (effect : Effect) → Retires i word o a m s effect → is_end word a ≡ true → Writeless (Does effect)
unfolding due_with
end_writeless i word o a m s effect r e = subst Writeless r.is_due (by_writeless i word o a m s (take_due (Some (here_is word i)) a s) a.stopped e)

-- together

latency_some : (o : Option Latency) → is_none o ≡ false → (l : Latency) × (o ≡ Some l)
latency_some None h = cc
latency_some (Some l) h = (l, refl)

late_of : (i : Instr) (o : Operands) (a : Arch) → (given i o a).late ≡ late_at i.rd (latency_of (kind_of i.op))
unfolding given
late_of i o a = refl

rd_of : (i : Instr) (o : Operands) (a : Arch) → (given i o a).rd ≡ i.rd
unfolding given
rd_of i o a = refl

abbrev late_reg : ℕ → Latency → Late
late_reg reg latency = record { reg = reg; latency = latency }

late_some : (rd : ℕ) (l : Latency) → rd == 0 ≡ false → late_at rd (Some l) ≡ Some (record { reg = rd; latency = l })
late_some rd l e = rw e refl

written_some : (i : Instr) → i.rd == 0 ≡ false → is_store i.op ≡ false → written i ≡ Some i.rd
written_some i e f = rw (e, f) refl

late_write : (i : Instr) (o : Operands) (a : Arch) (effect : Effect) (w : Write) → effect.done.act ≡ acts.Retired → effect.done.write ≡ Some w → IsOwn (kind_of i.op) (given i o a) effect → IsLateWrite i effect w
late_write i o a effect w r h own =
    let l = latency_some (latency_of (kind_of i.op)) (own.has w r h) in
    let some : i.rd == 0 ≡ false = ap (λ n. n == 0) (sym (rd_of i o a)) ∙ own.some w r h in
    let reg : i.rd ≡ w.reg = sym (own.reg w r h ∙ rd_of i o a) in
    let late : late_at i.rd (latency_of (kind_of i.op)) ≡ Some (record { reg = i.rd; latency = l.0 }) = ap (late_at i.rd) l.1 ∙ late_some i.rd l.0 some in
    record {
      latency = l.0;
      has_latency = l.1;
      late = own.late r ∙ late_of i o a ∙ late ∙ ap (λ n. Some (late_reg n l.0)) reg;
      named = written_some i some (late_is_no_store (kind_of i.op) (own.has w r h)) ∙ ap Some reg;
    }

late_write_by : (i : Instr) (word : ℕ) (o : Operands) (a : Arch) (m : List ℕ) (s : Shown) (effect : Effect) (w : Write) (b : Bool) → is_end word a ≡ b → Retires i word o a m s effect → effect.done.write ≡ Some w → IsLateWrite i effect w
late_write_by i word o a m s effect w true e r h = absurd (end_writeless i word o a m s effect r e w r.retired h)
late_write_by i word o a m s effect w false e r h = late_write i o a effect w r.retired h (own_due i word o a m s effect r e)

pub writes_are_late : WritesAreLate
writes_are_late = record {
  late = λ i word o a m s effect r e. (own_due i word o a m s effect r e).late r.retired ∙ late_of i o a;
  writes = λ i word o a m s effect w r h. late_write_by i word o a m s effect w (is_end word a) refl r h;
}
