-- Where nothing is offered to a core that runs and is awake, the word at pc is due.
use Rattle.std.specs.Prelude.{◌≡◌, ℕ, ◌&&◌, ◌||◌, not, Bool, true, false, List, Option, Some, None, is_none, if◌then◌else◌, ◌==◌}
use Rattle.std.proofs.Common.{refl, subst, sym}
use Rattle.core_regs.specs.declared.registers.Arch.{Arch}
use Rattle.core_regs.specs.declared.causes.StopCause.{StopCause}
use Rattle.core_regs.specs.declared.causes.Take.{Take}
use Rattle.core_regs.specs.State.{bare, interrupts_on}
use Rattle.mb_decode.specs.declared.instruction.Instr.{Instr}
use Rattle.isa_step.specs.declared.acts.Here.{Here}
use Rattle.isa_step.specs.declared.acts.Operands.{Operands}
use Rattle.op_table.specs.Table.{kind_of}
use Rattle.isa_step.specs.Shown.{Shown}
use Rattle.isa_step.specs.Effects.{View, Request, Goes, HaltLoop, Gets, Puts, Reads, Writes}
use Rattle.isa_step.specs.Due.{awake, due_by, due_with, is_masked, met, pick, reply, take_by, take_due}
use Rattle.delay_imm.specs.Slots.{may_take}
use Rattle.isa_step.specs.Requests.{is_atomic_here, operands_by, requested, requested_instr, requested_kind}
use Rattle.prepared_act.specs.declared.flow.Flow.{Flow}
use Rattle.prepared_act.specs.Prepared.{IsInner}
use Rattle.prepared_act.specs.Retiring.{Retires, RetiresDue, RetiresRequest, is_offered, view_of}

nothing_picked : (l m n x y z : Bool) → (l || m || n) ≡ false → pick n (m && x) (l && y && z) ≡ None
nothing_picked true m n x y z e = cc
nothing_picked false true n x y z e = cc
nothing_picked false false true x y z e = cc
nothing_picked false false false x y z e = refl

taken_by : (a : Arch) (s : Shown) (b : Bool) → is_offered s ≡ false → take_by a s b ≡ None
taken_by a s true e = nothing_picked s.line s.breaks.maskable s.breaks.nonmaskable (not (is_masked a)) (interrupts_on a) (not (is_masked a)) e
taken_by a s false e = refl

pub nothing_taken : (here : Option Here) (a : Arch) (s : Shown) → is_offered s ≡ false → take_due here a s ≡ None
unfolding take_due
nothing_taken here a s e = taken_by a s (may_take a (is_atomic_here here)) e

answered : (a : Arch) (x : Request) (s : Shown) (flow : Flow) (v w : View) → RetiresRequest x flow v w → RetiresDue (reply a x s) flow v w
answered a (Goes effect) s flow v w h = h
answered a (HaltLoop effect) s flow v w h = absurd h
answered a (Gets port item empty) s flow v w h = absurd h
answered a (Puts port room full) s flow v w h = absurd h
answered a (Reads addr answer) s flow v w h = absurd h
answered a (Writes addr word answer) s flow v w h = absurd h

other : (flow : Flow) (v w : View) (b c d : Bool) (x y : Request) → b ≡ false → RetiresRequest y flow v w → RetiresRequest (if b && c && d then x else y) flow v w
other flow v w true c d x y e done = cc
other flow v w false c d x y e done = done

wanted : (i : Instr) (word : ℕ) (o : Operands) (a : Arch) (m : List ℕ) (flow : Flow) (v w : View) → (word == 0xB800_0000) ≡ false
    → RetiresRequest (requested_kind (kind_of i.op) i word o a m) flow v w → RetiresRequest (requested (Some (record { word = word; instr = Some i })) o a m) flow v w
unfolding requested
wanted i word o a m flow v w e h = other flow v w (word == 0xB800_0000) (is_none a.prefix) (is_none a.slot) _ _ e h

up : (here : Option Here) (o : Operands) (a : Arch) (m : List ℕ) (s : Shown) (asleep : Bool) (flow : Flow) (v w : View) → asleep ≡ false
    → RetiresDue (reply a (requested here o a m) s) flow v w → RetiresDue (awake here o a m s asleep) flow v w
up here o a m s true flow v w e h = cc
up here o a m s false flow v w e h = h

runs : (here : Option Here) (o : Operands) (a : Arch) (m : List ℕ) (s : Shown) (t : Option Take) (stopped : Option StopCause) (flow : Flow) (v w : View)
    → stopped ≡ None → t ≡ None → a.asleep ≡ false
    → RetiresDue (reply a (requested here o a m) s) flow v w → RetiresDue (due_by here o a m s t stopped) flow v w
runs here o a m s t (Some cause) flow v w es et up_is h = cc
runs here o a m s (Some t) None flow v w es et up_is h = cc
runs here o a m s None None flow v w es et up_is h = up here o a m s a.asleep flow v w up_is h

pub is_due : (i : Instr) (word : ℕ) (a : Arch) (m : List ℕ) (o : Operands) (s : Shown) (flow : Flow) (v w : View)
    → a.stopped ≡ None → a.asleep ≡ false → is_offered s ≡ false → (word == 0xB800_0000) ≡ false
    → RetiresRequest (requested_kind (kind_of i.op) i word o (bare a) m) flow v w
    → RetiresDue (due_with (Some (record { word = word; instr = Some i })) o (bare a) m s) flow v w
unfolding due_with
is_due i word a m o s flow v w stopped asleep offered goes h =
    runs (Some (record { word = word; instr = Some i })) o (bare a) m s (take_due (Some (record { word = word; instr = Some i })) (bare a) s) a.stopped flow v w
    stopped (nothing_taken _ (bare a) s offered) asleep
    (answered (bare a) _ s flow v w (wanted i word o (bare a) m flow v w goes h))

pub retires : (i : Instr) (word : ℕ) (flow : Flow) (a b : Arch) (m n : List ℕ) → IsInner word i → a.stopped ≡ None → a.asleep ≡ false
    → RetiresRequest (requested_kind (kind_of i.op) i word (operands_by (Some i) a.regs) (bare a) m) flow (view_of a m) (view_of b n)
    → Retires (met (Some word)) a m flow b n
retires i word flow a b m n inner stopped asleep h =
    subst (λ (meant : Option Instr). Retires (Some (record { word = word; instr = meant })) a m flow b n) (sym inner.meant)
    (record { does = λ s offered. is_due i word a m _ s flow _ _ stopped asleep offered inner.goes h })
