-- What an inner act writes.
use Rattle.std.specs.Prelude.{◌≡◌, ℕ, ◌<◌, ◌==◌, ◌&&◌, not, Bool, true, false, List, Option, Some, None, is_none, is_some, if◌then◌else◌, length}
use Rattle.std.proofs.Common.{refl, ap, sym, subst, ◌∙◌, arith, slice_index, slice_set}
use Rattle.std.proofs.lemmas.List.{get_or-set_same}
use Rattle.core_regs.specs.declared.registers.Arch.{Arch}
use Rattle.core_regs.specs.declared.registers.Write.{Write}
use Rattle.core_regs.specs.declared.causes.Size.{Size}
use Rattle.core_regs.specs.declared.causes.Size.TheVariants.{Byte, Half, Word}
use Rattle.core_regs.specs.declared.causes.StopCause.{StopCause}
use Rattle.core_regs.specs.declared.causes.StopCause.TheVariants as stop
use Rattle.core_regs.specs.declared.causes.Take.{Take}
use Rattle.core_regs.specs.State.{bare, exceptions_on, reg, write_of, written}
use Rattle.byte_mem.specs.Access.{bytes_of, fits, loaded}
use Rattle.trap_entry.specs.declared.cause.Cause.{Cause}
use Rattle.trap_entry.specs.declared.cause.Cause.TheVariants.{DataBus, Illegal as IllegalWord, Unaligned}
use Rattle.mb_decode.specs.declared.instruction.Instr.{Instr}
use Rattle.isa_step.specs.declared.acts.Act.TheVariants as acts
use Rattle.isa_step.specs.declared.acts.Action.{Action}
use Rattle.isa_step.specs.declared.acts.Operands.{Operands}
use Rattle.isa_step.specs.declared.operands.Given.{Given}
use Rattle.op_table.specs.declared.kinds.Kind.{Kind}
use Rattle.op_table.specs.declared.kinds.Kind.TheVariants.{Divide, Cache, MoveFrom, MoveToMsr, SetMsr, ClearMsr, Branch, Break, BranchIf, Return, Prefix, Barrier, Load, Store, Get, Put}
use Rattle.isa_step.specs.Shown.{Shown}
use Rattle.isa_step.specs.Due.{awake, due_by, due_with, reply, take_due}
use Rattle.op_table.specs.Table.{kind_of}
use Rattle.isa_step.specs.declared.acts.Here.{Here}
use Rattle.isa_step.specs.declared.acts.Action.TheVariants.{Read, ReadRefused, Wrote, WriteRefused}
use Rattle.prepared_act.specs.declared.flow.Flow.{Flow}
use Rattle.prepared_act.specs.Retiring.{IsRetired, RetiresDue, is_offered, view_of}
use Rattle.isa_step.specs.Effects.{Effect, Due, Does, View, Request, Goes, HaltLoop, Gets, Puts, Reads, Writes, faults, raises, stops}
use Rattle.isa_step.specs.Branches.{branches_if, holds}
use Rattle.isa_step.specs.Loads.{address, is_aligned, is_word, keeps, loads, loads_at, loads_from, loads_past, lowered, no_data, read_from_bus, stores, stores_at, stores_past, unaligned, written_to_bus}
use Rattle.isa_step.specs.Requests.{belongs_into_slot, effect_of, request_of, given, illegal, is_banned, operands_of, requested, requested_kind}
use Rattle.prepared_act.specs.Prepared.{IsInner, is_inner, result_register}

-- a effect that retires and does nothing at the ports writes the register of its result, or nothing
pub record HasResult (kind : Kind) (rd : ℕ) (w : Option Write) : Type 0 where
  pub value : ℕ
  pub is : w ≡ write_of (result_register kind rd) value

pub record IsResult (kind : Kind) (g : Given) (d : Effect) : Type 0 where
  pub writes : d.done.act ≡ acts.Retired → d.action ≡ None → HasResult kind g.rd d.done.write

res_rd : (kind : Kind) (g : Given) (d : Effect) (value : ℕ) → result_register kind g.rd ≡ g.rd → d.done.write ≡ write_of g.rd value → IsResult kind g d
res_rd kind g d value same e = record { writes = λ r n. record { value = value; is = e ∙ ap (λ k. write_of k value) (sym same) } }

res_none : (kind : Kind) (g : Given) (d : Effect) → result_register kind g.rd ≡ 0 → d.done.write ≡ None → IsResult kind g d
res_none kind g d same e = record { writes = λ r n. record { value = 0; is = e ∙ ap (λ k. write_of k 0) (sym same) } }

res_loud : (kind : Kind) (g : Given) (d : Effect) → (d.done.act ≡ acts.Retired → ⊥) → IsResult kind g d
res_loud kind g d n = record { writes = λ r e. absurd (n r) }

res_either : (kind : Kind) (g : Given) (b : Bool) (x y : Effect) → IsResult kind g x → IsResult kind g y → IsResult kind g (if b then x else y)
res_either kind g true x y p q = p
res_either kind g false x y p q = q

res_fault : (kind : Kind) (g : Given) (a : Arch) (c : Cause) (s : StopCause) (o : Option Action) → IsResult kind g (faults a c s o)
res_fault kind g a c s o = res_either kind g (exceptions_on a) (raises a c o) (stops a s o) (res_loud kind g (raises a c o) (λ r. cc)) (res_loud kind g (stops a s o) (λ r. cc))

res_branch : (condition : _) (delayed : Bool) (g : Given) (a : Arch) (taken : Bool) → IsResult (BranchIf condition delayed) g (branches_if g a delayed taken)
unfolding result_register
res_branch condition delayed g a true = res_none (BranchIf condition delayed) g _ refl refl
res_branch condition delayed g a false = res_none (BranchIf condition delayed) g _ refl refl

res_linked : (absolute delayed : Bool) (g : Given) (d : Effect) (value : ℕ) (linked : Bool) → d.done.write ≡ (if linked then write_of g.rd value else None) → IsResult (Branch absolute delayed linked) g d
unfolding result_register
res_linked absolute delayed g d value true e = res_rd (Branch absolute delayed true) g d value refl e
res_linked absolute delayed g d value false e = res_none (Branch absolute delayed false) g d refl e

res_acting : (kind : Kind) (g : Given) (d : Effect) (o : Action) → d.action ≡ Some o → IsResult kind g d
res_acting kind g d o e = record { writes = λ r n. let z : None ≡ Some o = sym n ∙ e in cc }

-- the same of what is asked, as far as nothing is asked of links
abbrev ResultRequest : Kind → Given → Request → Type 0
ResultRequest kind g (Goes d) = IsResult kind g d
ResultRequest kind g (Reads addr answer) = (o : Option ℕ) → IsResult kind g (answer o)
ResultRequest kind g (Writes addr word answer) = (b : Bool) → IsResult kind g (answer b)
ResultRequest kind g _ = ⊥

either : (kind : Kind) (g : Given) (b : Bool) (x y : Request) → ResultRequest kind g x → ResultRequest kind g y → ResultRequest kind g (if b then x else y)
either kind g true x y p q = p
either kind g false x y p q = q

res_data : (kind : Kind) (g : Given) (a : Arch) (addr : ℕ) (o : Option Action) → IsResult kind g (no_data a addr o)
res_data kind g a addr o = res_fault kind g a (DataBus addr) (stop.DataBus addr) o

res_word : (size : Size) (g : Given) (a : Arch) (addr : ℕ) (o : Option ℕ) → IsResult (Load size) g (read_from_bus g a addr o)
res_word size g a addr (Some word) = res_acting (Load size) g _ (Read addr word) refl
res_word size g a addr None = res_data (Load size) g a addr (Some (ReadRefused addr))

res_load_past : (size : Size) (g : Given) (a : Arch) (addr : ℕ) (part : Size) → ResultRequest (Load size) g (loads_past g a addr part)
res_load_past size g a addr Byte = res_data (Load size) g a addr None
res_load_past size g a addr Half = res_data (Load size) g a addr None
res_load_past size g a addr Word = λ o. res_word size g a addr o

res_load_from : (size : Size) (g : Given) (a : Arch) (addr : ℕ) (o : Option ℕ) → ResultRequest (Load size) g (loads_from g a size addr o)
unfolding result_register
res_load_from size g a addr (Some value) = res_rd (Load size) g _ value refl refl
res_load_from size g a addr None = res_load_past size g a addr size

res_load : (size : Size) (g : Given) (a : Arch) (m : List ℕ) → ResultRequest (Load size) g (loads g a m size)
res_load size g a m =
    let addr = lowered size (address g) in
    either (Load size) g (not (is_aligned size (address g)) && exceptions_on a) (unaligned g a size false) (loads_at g a m size addr)
    (res_loud (Load size) g (raises a (Unaligned (address g) (is_word size) false g.rd) None) (λ r. cc))
    (res_load_from size g a addr (loaded m size a.order addr))

res_kept : (size : Size) (g : Given) (a : Arch) (addr : ℕ) (part : Size) (o : Option Action) → IsResult (Store size) g (keeps g a part addr o)
unfolding result_register
res_kept size g a addr part o = res_none (Store size) g (keeps g a part addr o) refl refl

res_taken : (size : Size) (g : Given) (a : Arch) (addr : ℕ) (b : Bool) → IsResult (Store size) g (written_to_bus g a addr b)
res_taken size g a addr true = res_kept size g a addr Word (Some (Wrote addr g.d))
res_taken size g a addr false = res_data (Store size) g a addr (Some (WriteRefused addr g.d))

res_store_past : (size : Size) (g : Given) (a : Arch) (addr : ℕ) (part : Size) → ResultRequest (Store size) g (stores_past g a addr part)
res_store_past size g a addr Byte = res_data (Store size) g a addr None
res_store_past size g a addr Half = res_data (Store size) g a addr None
res_store_past size g a addr Word = λ b. res_taken size g a addr b

res_store : (size : Size) (g : Given) (a : Arch) (m : List ℕ) → ResultRequest (Store size) g (stores g a m size)
res_store size g a m =
    let addr = lowered size (address g) in
    either (Store size) g (not (is_aligned size (address g)) && exceptions_on a) (unaligned g a size true) (stores_at g a m size addr)
    (res_loud (Store size) g (raises a (Unaligned (address g) (is_word size) true g.rd) None) (λ r. cc))
    (either (Store size) g (fits m addr (bytes_of size)) (Goes (keeps g a size addr None)) (stores_past g a addr size) (res_kept size g a addr size None) (res_store_past size g a addr size))

res_request_of : (kind : Kind) (g : Given) (a : Arch) (m : List ℕ) → is_inner kind ≡ true → ResultRequest kind g (request_of kind g a m)
unfolding request_of effect_of result_register is_inner
res_request_of (Divide signed) g a m inner = cc
res_request_of Cache g a m inner = cc
res_request_of (MoveFrom special) g a m inner = cc
res_request_of MoveToMsr g a m inner = cc
res_request_of SetMsr g a m inner = cc
res_request_of ClearMsr g a m inner = cc
res_request_of (Branch absolute delayed linked) g a m inner = res_linked absolute delayed g _ a.pc linked refl
res_request_of Break g a m inner = cc
res_request_of (BranchIf condition delayed) g a m inner = res_branch condition delayed g a (holds condition g.a)
res_request_of (Return from) g a m inner = res_none (Return from) g _ refl refl
res_request_of Prefix g a m inner = res_none Prefix g _ refl refl
res_request_of Barrier g a m inner = cc
res_request_of (Load size) g a m inner = res_load size g a m
res_request_of (Store size) g a m inner = res_store size g a m
res_request_of (Get dynamic) g a m inner = cc
res_request_of (Put dynamic) g a m inner = cc
res_request_of kind g a m inner = res_rd kind g _ _ refl refl

res_kind : (kind : Kind) (i : Instr) (word : ℕ) (o : Operands) (a : Arch) (m : List ℕ) → is_inner kind ≡ true → ResultRequest kind (given i o a) (requested_kind kind i word o a m)
res_kind kind i word o a m inner =
    let g = given i o a in
    let placed = if is_some a.slot && not (belongs_into_slot kind) then Goes (stops a (stop.Slot word) None) else request_of kind g a m in
    either kind g (is_banned i kind a.network) (illegal a word) placed (res_fault kind g a IllegalWord (stop.Illegal word) None)
    (either kind g (is_some a.slot && not (belongs_into_slot kind)) (Goes (stops a (stop.Slot word) None)) (request_of kind g a m)
    (res_loud kind g (stops a (stop.Slot word) None) (λ r. cc)) (res_request_of kind g a m inner))

-- of what is due of a core at an inner word

abbrev ResultDue : Kind → Given → Due → Type 0
ResultDue kind g (Does d) = IsResult kind g d
ResultDue kind g _ = Unit {0}

res_reply : (kind : Kind) (g : Given) (a : Arch) (w : Request) (s : Shown) → ResultRequest kind g w → ResultDue kind g (reply a w s)
res_reply kind g a (Goes d) s h = h
res_reply kind g a (HaltLoop d) s h = absurd h
res_reply kind g a (Gets port item empty) s h = absurd h
res_reply kind g a (Puts port room full) s h = absurd h
res_reply kind g a (Reads addr answer) s h = h (s.bus_word addr)
res_reply kind g a (Writes addr word answer) s h = h (s.bus_takes addr word)

res_awake : (kind : Kind) (g : Given) (here : Option Here) (o : Operands) (a : Arch) (m : List ℕ) (s : Shown) (asleep : Bool) → ResultRequest kind g (requested here o a m) → ResultDue kind g (awake here o a m s asleep)
res_awake kind g here o a m s true h = tt
res_awake kind g here o a m s false h = res_reply kind g a (requested here o a m) s h

res_by : (kind : Kind) (g : Given) (here : Option Here) (o : Operands) (a : Arch) (m : List ℕ) (s : Shown) (t : Option Take) (c : Option StopCause) → ResultRequest kind g (requested here o a m) → ResultDue kind g (due_by here o a m s t c)
res_by kind g here o a m s t (Some cause) h = tt
res_by kind g here o a m s (Some t) None h = res_loud kind g _ (λ r. cc)
res_by kind g here o a m s None None h = res_awake kind g here o a m s a.asleep h

at_end : (kind : Kind) (g : Given) (b c d : Bool) (x y : Request) → b ≡ false → ResultRequest kind g y → ResultRequest kind g (if b && c && d then x else y)
at_end kind g true c d x y e h = cc
at_end kind g false c d x y e h = h

abbrev here_is : ℕ → Instr → Here
here_is word i = record { word = word; instr = Some i }

res_requested : (i : Instr) (word : ℕ) (o : Operands) (a : Arch) (m : List ℕ) → is_inner (kind_of i.op) ≡ true → (word == 0xB800_0000) ≡ false → ResultRequest (kind_of i.op) (given i o a) (requested (Some (here_is word i)) o a m)
unfolding requested
res_requested i word o a m inner goes = at_end (kind_of i.op) (given i o a) (word == 0xB800_0000) (is_none a.prefix) (is_none a.slot) _ _ goes (res_kind (kind_of i.op) i word o a m inner)

res_due : (i : Instr) (word : ℕ) (o : Operands) (a : Arch) (m : List ℕ) (s : Shown) → IsInner word i → ResultDue (kind_of i.op) (given i o a) (due_with (Some (here_is word i)) o a m s)
unfolding due_with
res_due i word o a m s inner =
    res_by (kind_of i.op) (given i o a) (Some (here_is word i)) o a m s (take_due (Some (here_is word i)) a s) a.stopped (res_requested i word o a m inner.kind inner.goes)

-- what is written stands in the register

rd_of : (i : Instr) (o : Operands) (a : Arch) → (given i o a).rd ≡ i.rd
unfolding given
rd_of i o a = refl

read_back : (r value : ℕ) (regs : List ℕ) → r < length regs → slice_index (slice_set regs r value) r ≡ value
read_back r value regs below = get_or-set_same regs r value _ below

stands_by : (r value : ℕ) (regs : List ℕ) (zero : Bool) → (r == 0) ≡ zero → r < length regs → write_of r value ≡ write_of r (reg (written (write_of r value) regs) r)
stands_by r value regs true e below = rw e refl
stands_by r value regs false e below = rw (e, read_back r value regs below) refl

pub stands : (r value : ℕ) (regs : List ℕ) → r < length regs → write_of r value ≡ write_of r (reg (written (write_of r value) regs) r)
stands r value regs below = stands_by r value regs (r == 0) refl below

-- an inner act that is done writes its result, which then stands in the register
pub inner_writes : (i : Instr) (word : ℕ) (a b : Arch) (m n : List ℕ) (flow : Flow) (s : Shown) (effect : Effect) (r : ℕ) → IsInner word i → is_offered s ≡ false
    → RetiresDue (due_with (Some (here_is word i)) (operands_of (Some (here_is word i)) a.regs) (bare a) m s) flow (view_of a m) (view_of b n)
    → due_with (Some (here_is word i)) (operands_of (Some (here_is word i)) a.regs) (bare a) m s ≡ Does effect
    → r ≡ result_register (kind_of i.op) i.rd → r < length a.regs → effect.done.write ≡ write_of r (reg b.regs r)
inner_writes i word a b m n flow s effect r inner offered done is_due same below =
    let o = operands_of (Some (here_is word i)) a.regs in
    let retired : IsRetired effect flow (view_of a m) (view_of b n) = subst (λ (d : Due). RetiresDue d flow (view_of a m) (view_of b n)) is_due done in
    let result : IsResult (kind_of i.op) (given i o (bare a)) effect = subst (ResultDue (kind_of i.op) (given i o (bare a))) is_due (res_due i word o (bare a) m s inner) in
    let h = result.writes retired.retired retired.alone in
    let write : effect.done.write ≡ write_of r h.value = h.is ∙ ap (λ rd. write_of (result_register (kind_of i.op) rd) h.value) (rd_of i o (bare a)) ∙ ap (λ k. write_of k h.value) (sym same) in
    let regs : b.regs ≡ written (write_of r h.value) a.regs = ap (λ (v : View). v.arch.regs) retired.view ∙ ap (λ w. written w a.regs) write in
    write ∙ stands r h.value a.regs below ∙ ap (λ xs. write_of r (reg xs r)) (sym regs)
