-- An act without an entry leaves a core awake that was awake, and running that ran: it sleeps and stops by entries alone.
use Rattle.std.proofs.Common.{◌≡◌, ℕ, List, [], Option, Some, None, refl, ap, sym, ◌∙◌, subst, Bool, true, false, ◌&&◌, option_to_list}
use Rattle.std.specs.Prelude.{if◌then◌else◌, not, is_none, is_some}
use Rattle.core_regs.specs.declared.causes.Take.{Take}
use Rattle.core_regs.specs.declared.causes.StopCause.{StopCause}
use Rattle.core_regs.specs.declared.causes.StopCause.TheVariants as stop
use Rattle.core_regs.specs.declared.causes.Size.{Size}
use Rattle.core_regs.specs.declared.causes.Size.TheVariants.{Byte, Half, Word}
use Rattle.core_regs.specs.declared.registers.Arch.{Arch}
use Rattle.core_regs.specs.State.{bare, exceptions_on, msr_dzo, with_flag, write_of}
use Rattle.byte_mem.specs.Access.{bytes_of, fits, loaded}
use Rattle.alu_units.specs.Division.{fault_of, quotient_of}
use Rattle.alu_units.specs.declared.faults.DivFault.{DivFault}
use Rattle.trap_entry.specs.declared.cause.Cause.{Cause}
use Rattle.trap_entry.specs.declared.cause.Cause.TheVariants.{DataBus, Illegal as IllegalWord, InstrBus, Unaligned}
use Rattle.mb_decode.specs.declared.instruction.Instr.{Instr}
use Rattle.isa_step.specs.declared.acts.Action.{Action}
use Rattle.isa_step.specs.declared.acts.Here.{Here}
use Rattle.isa_step.specs.declared.acts.Operands.{Operands}
use Rattle.isa_step.specs.declared.operands.Given.{Given}
use Rattle.op_table.specs.declared.kinds.Kind.{Kind}
use Rattle.op_table.specs.declared.kinds.Kind.TheVariants.{Add, Rsub, Divide, BranchIf, Barrier, Load, Store, Get, Put}
use Rattle.op_table.specs.Table.{kind_of}
use Rattle.isa_step.specs.Effects.{View, Effect, Due, Does, Ends, Request, Goes, HaltLoop, Gets, Puts, Reads, Writes, faults, raises, retires, stops}
use Rattle.delay_imm.specs.Slots.{advanced}
use Rattle.isa_step.specs.Due.{awake, due, due_by, due_with, here_of, is_closed, reply, take_due, takes}
use Rattle.isa_step.specs.Arithmetic.{cause_of, divided}
use Rattle.isa_step.specs.Branches.{branches_if, holds}
use Rattle.isa_step.specs.Special.{barrier, is_sleep}
use Rattle.isa_step.specs.Loads.{address, is_aligned, is_word, keeps, loads, loads_at, loads_from, loads_past, lowered, no_data, stores, stores_at, stores_past, unaligned}
use Rattle.isa_step.specs.Shown.{Shown}
use Rattle.isa_step.specs.Requests.{effect_of, request_of, given, requested, requested_instr, requested_kind, is_banned, is_end, illegal, halt_loop, operands_of}
use Rattle.op_table.specs.Kinds.{belongs_into_slot}
use Rattle.isa_step.specs.History.{answered, effect_told, exactly}
use Rattle.isa_step.proofs.Telling.{is_told}
use Rattle.board_machine.proofs.Lists.{and_left, none_is}
use Rattle.machine_laws.specs.Holding.{request_at}
use Rattle.machine_laws.specs.Silence.{IsAwake, SilentActsStayAwake, is_silent}

-- a silent effect leaves sleep and stop as they were
abbrev Keeps : Arch → Effect → Type 0
Keeps a d = is_silent d ≡ true → (d.arch.asleep ≡ a.asleep) × (d.arch.stopped ≡ a.stopped)

abbrev RequestKeeps : Arch → Request → Type 0
RequestKeeps a (Goes d) = Keeps a d
RequestKeeps a (HaltLoop d) = Keeps a d
RequestKeeps a _ = Unit {0}

either : (a : Arch) (b : Bool) (x y : Request) → RequestKeeps a x → RequestKeeps a y → RequestKeeps a (if b then x else y)
either a true x y p q = p
either a false x y p q = q

one_of : (a : Arch) (b : Bool) (x y : Effect) → Keeps a x → Keeps a y → Keeps a (if b then x else y)
one_of a true x y p q = p
one_of a false x y p q = q

-- what raises or stops is no silent effect
raise_loud : (a b : Arch) (c : Cause) (o : Option Action) → Keeps a (raises b c o)
raise_loud a b c None h = cc
raise_loud a b c (Some x) h = cc

stop_loud : (a b : Arch) (s : StopCause) (o : Option Action) → Keeps a (stops b s o)
stop_loud a b s None h = cc
stop_loud a b s (Some x) h = cc

fault_loud : (a : Arch) (c : Cause) (s : StopCause) (o : Option Action) → Keeps a (faults a c s o)
fault_loud a c s o = one_of a (exceptions_on a) (raises a c o) (stops a s o) (raise_loud a a c o) (stop_loud a a s o)

divided_keeps : (g : Given) (a : Arch) (value : ℕ) (f : Option DivFault) → Keeps a (divided g a value f)
divided_keeps g a value None h = (refl, refl)
divided_keeps g a value (Some f) h = one_of a (exceptions_on a) (raises (with_flag a msr_dzo true) (cause_of f) None) (retires g (with_flag (advanced a false) msr_dzo true) None (write_of g.rd value)) (raise_loud a (with_flag a msr_dzo true) (cause_of f) None) (λ h. (refl, refl)) h

branch_keeps : (g : Given) (a : Arch) (delayed taken : Bool) → Keeps a (branches_if g a delayed taken)
branch_keeps g a delayed true h = (refl, refl)
branch_keeps g a true false h = (refl, refl)
branch_keeps g a false false h = (refl, refl)

barrier_keeps : (g : Given) (a : Arch) → Keeps a (barrier g a)
barrier_keeps g a = one_of a (is_sleep g.imm) _ _ (λ h. cc) (λ h. (refl, refl))

effect_keeps : (kind : Kind) (g : Given) (a : Arch) → Keeps a (effect_of kind g a)
unfolding effect_of
effect_keeps (Add with_carry true) g a h = (refl, refl)
effect_keeps (Add with_carry false) g a h = (refl, refl)
effect_keeps (Rsub with_carry true) g a h = (refl, refl)
effect_keeps (Rsub with_carry false) g a h = (refl, refl)
effect_keeps (Divide signed) g a h = divided_keeps g a (quotient_of g.b g.a signed) (fault_of g.b g.a signed) h
effect_keeps (BranchIf condition delayed) g a h = branch_keeps g a delayed (holds condition g.a) h
effect_keeps Barrier g a h = barrier_keeps g a h
effect_keeps _ g a h = (refl, refl)

data_loud : (a : Arch) (addr : ℕ) (o : Option Action) → Keeps a (no_data a addr o)
data_loud a addr o = fault_loud a (DataBus addr) (stop.DataBus addr) o

loads_past_keeps : (g : Given) (a : Arch) (addr : ℕ) (size : Size) → RequestKeeps a (loads_past g a addr size)
loads_past_keeps g a addr Byte = data_loud a addr None
loads_past_keeps g a addr Half = data_loud a addr None
loads_past_keeps g a addr Word = tt

loads_from_keeps : (g : Given) (a : Arch) (size : Size) (addr : ℕ) (o : Option ℕ) → RequestKeeps a (loads_from g a size addr o)
loads_from_keeps g a size addr (Some value) = λ h. (refl, refl)
loads_from_keeps g a size addr None = loads_past_keeps g a addr size

loads_keep : (g : Given) (a : Arch) (m : List ℕ) (size : Size) → RequestKeeps a (loads g a m size)
loads_keep g a m size =
    let addr = lowered size (address g) in
    either a (not (is_aligned size (address g)) && exceptions_on a) (unaligned g a size false) (loads_at g a m size addr) (raise_loud a a (Unaligned (address g) (is_word size) false g.rd) None)
    (loads_from_keeps g a size addr (loaded m size a.order addr))

stores_past_keeps : (g : Given) (a : Arch) (addr : ℕ) (size : Size) → RequestKeeps a (stores_past g a addr size)
stores_past_keeps g a addr Byte = data_loud a addr None
stores_past_keeps g a addr Half = data_loud a addr None
stores_past_keeps g a addr Word = tt

stores_keep : (g : Given) (a : Arch) (m : List ℕ) (size : Size) → RequestKeeps a (stores g a m size)
stores_keep g a m size =
    let addr = lowered size (address g) in
    either a (not (is_aligned size (address g)) && exceptions_on a) (unaligned g a size true) (stores_at g a m size addr) (raise_loud a a (Unaligned (address g) (is_word size) true g.rd) None)
    (either a (fits m addr (bytes_of size)) (Goes (keeps g a size addr None)) (stores_past g a addr size) (λ h. (refl, refl)) (stores_past_keeps g a addr size))

request_of_keeps : (kind : Kind) (g : Given) (a : Arch) (m : List ℕ) → RequestKeeps a (request_of kind g a m)
unfolding request_of
request_of_keeps (Load size) g a m = loads_keep g a m size
request_of_keeps (Store size) g a m = stores_keep g a m size
request_of_keeps (Get dynamic) g a m = tt
request_of_keeps (Put dynamic) g a m = tt
request_of_keeps kind g a m = effect_keeps kind g a

kind_keeps : (kind : Kind) (i : Instr) (word : ℕ) (o : Operands) (a : Arch) (m : List ℕ) → RequestKeeps a (requested_kind kind i word o a m)
kind_keeps kind i word o a m =
    let placed = if is_some a.slot && not (belongs_into_slot kind) then Goes (stops a (stop.Slot word) None) else request_of kind (given i o a) a m in
    either a (is_banned i kind a.network) (illegal a word) placed (fault_loud a IllegalWord (stop.Illegal word) None)
    (either a (is_some a.slot && not (belongs_into_slot kind)) (Goes (stops a (stop.Slot word) None)) (request_of kind (given i o a) a m) (stop_loud a a (stop.Slot word) None) (request_of_keeps kind (given i o a) a m))

instr_keeps : (i : Option Instr) (word : ℕ) (o : Operands) (a : Arch) (m : List ℕ) → RequestKeeps a (requested_instr i word o a m)
instr_keeps None word o a m = fault_loud a IllegalWord (stop.Illegal word) None
instr_keeps (Some i) word o a m = kind_keeps (kind_of i.op) i word o a m

requested_keep : (here : Option Here) (o : Operands) (a : Arch) (m : List ℕ) → RequestKeeps a (requested here o a m)
unfolding requested
requested_keep None o a m = fault_loud a InstrBus (stop.InstrBus a.pc) None
requested_keep (Some here) o a m =
    either a (is_end here.word a) (HaltLoop (halt_loop a)) (requested_instr here.instr here.word o a m) (λ h. (refl, refl)) (instr_keeps here.instr here.word o a m)

-- an act that asks its ports has an action, since its actions tell it

told_none : (v : View) (w : Request) (d : Effect) → request_at v ≡ w → answered w [] ≡ None → effect_told v [] ≡ Some d → ⊥
unfolding effect_told
told_none v w d e n h =
    let z : None ≡ Some d = sym (ap (λ w. exactly [] (answered w [])) e ∙ ap (exactly []) n) ∙ h in
    cc

silent_told : (v : View) (s : Shown) (d : Effect) → due v s ≡ Does d → is_silent d ≡ true → effect_told v [] ≡ Some d
silent_told v s d e h = ap (λ a. effect_told v (option_to_list a)) (sym (none_is d.action (and_left (is_none d.action) _ h))) ∙ is_told.told v s d e

effect_or : Effect → Due → Effect
effect_or d (Does e) = e
effect_or d _ = d

same_effect : (d e : Effect) → Does d ≡ Does e → d ≡ e
unfolding effect_or
same_effect d e h = ap (effect_or d) h

abbrev Kept : Arch → Effect → Type 0
Kept a d = (d.arch.asleep ≡ a.asleep) × (d.arch.stopped ≡ a.stopped)

goes_kept : (a : Arch) (d e : Effect) → Keeps a d → d ≡ e → is_silent e ≡ true → Kept a e
goes_kept a d e k q h = subst (Keeps a) q k h

halt_loop_kept : (a : Arch) (d e : Effect) (closed : Bool) → Keeps a d → (if closed then Ends else Does d) ≡ Does e → is_silent e ≡ true → Kept a e
halt_loop_kept a d e true k q h = cc
halt_loop_kept a d e false k q h = goes_kept a d e k (same_effect d e q) h

reply_kept : (v : View) (s : Shown) (w : Request) (e : Effect) → request_at v ≡ w → RequestKeeps (bare v.arch) w → reply (bare v.arch) w s ≡ Does e → effect_told v [] ≡ Some e → is_silent e ≡ true → Kept (bare v.arch) e
reply_kept v s (Goes d) e i k q t h = goes_kept (bare v.arch) d e k (same_effect d e q) h
reply_kept v s (HaltLoop d) e i k q t h = halt_loop_kept (bare v.arch) d e (is_closed (bare v.arch) s.hopes) k q h
reply_kept v s (Gets port item empty) e i k q t h = absurd (told_none v (Gets port item empty) e i refl t)
reply_kept v s (Puts port room full) e i k q t h = absurd (told_none v (Puts port room full) e i refl t)
reply_kept v s (Reads addr answer) e i k q t h = absurd (told_none v (Reads addr answer) e i refl t)
reply_kept v s (Writes addr word answer) e i k q t h = absurd (told_none v (Writes addr word answer) e i refl t)

record Stays (v : View) (d : Effect) : Type 0 where
  before : IsAwake v
  kept : Kept (bare v.arch) d

awake_kept : (v : View) (s : Shown) (e : Effect) (asleep : Bool) → v.arch.asleep ≡ asleep → v.arch.stopped ≡ None → awake (here_of v) (operands_of (here_of v) v.arch.regs) (bare v.arch) v.memory s asleep ≡ Does e → effect_told v [] ≡ Some e → is_silent e ≡ true → Stays v e
awake_kept v s e true a c q t h = cc
awake_kept v s e false a c q t h = record {
  before = record { asleep = a; stopped = c };
  kept = reply_kept v s (request_at v) e refl (requested_keep (here_of v) (operands_of (here_of v) v.arch.regs) (bare v.arch) v.memory) q t h;
}

take_loud : {X : Type 0} (a : Arch) (t : Take) (e : Effect) → takes a t ≡ e → is_silent e ≡ true → X
take_loud a t e q h = let z : is_silent (takes a t) ≡ true = ap is_silent q ∙ h in cc

by_kept : (v : View) (s : Shown) (e : Effect) (t : Option Take) (c : Option StopCause) → v.arch.stopped ≡ c → due_by (here_of v) (operands_of (here_of v) v.arch.regs) (bare v.arch) v.memory s t c ≡ Does e → effect_told v [] ≡ Some e → is_silent e ≡ true → Stays v e
by_kept v s e t (Some cause) c q i h = cc
by_kept v s e (Some t) None c q i h = take_loud (bare v.arch) t e (same_effect _ e q) h
by_kept v s e None None c q i h = awake_kept v s e v.arch.asleep refl c q i h

stays : (v : View) (s : Shown) (e : Effect) → due v s ≡ Does e → is_silent e ≡ true → Stays v e
unfolding due_with
stays v s e q h = by_kept v s e (take_due (here_of v) (bare v.arch) s) v.arch.stopped refl q (silent_told v s e q h) h

pub silent_stays : SilentActsStayAwake
silent_stays = record {
  before = λ v s d q h. (stays v s d q h).before;
  later = λ v s d q h.
      let k = stays v s d q h in
      record { asleep = k.kept.0 ∙ k.before.asleep; stopped = k.kept.1 ∙ k.before.stopped };
}
