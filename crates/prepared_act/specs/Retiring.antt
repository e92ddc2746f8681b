-- An act that asks nothing of the outside and retires.
use Rattle.std.specs.Prelude.{◌≡◌, ℕ, ◌||◌, ◌&&◌, not, is_some, Bool, true, false, List, Option, Some, None}
use Rattle.core_regs.specs.declared.registers.Arch.{Arch}
use Rattle.core_regs.specs.State.{bare, reg, written}
use Rattle.mb_decode.specs.declared.instruction.Instr.{Instr}
use Rattle.isa_step.specs.declared.acts.Act.TheVariants as acts
use Rattle.isa_step.specs.declared.acts.Done.{Done}
use Rattle.isa_step.specs.declared.acts.Here.{Here}
use Rattle.isa_step.specs.declared.acts.Store.{Store}
use Rattle.isa_step.specs.declared.operands.Given.{Given}
use Rattle.op_table.specs.Table.{kind_of}
use Rattle.isa_step.specs.Shown.{Shown}
use Rattle.prepared_act.specs.declared.flow.Flow.{Flow}
use Rattle.prepared_act.specs.declared.flow.Flow.TheVariants.{On, Jumped, Stored}
use Rattle.prepared_act.specs.declared.prepared.Prepared.{Prepared}
use Rattle.isa_step.specs.Effects.{Effect, Due, Does, Request, Goes, View, after}
use Rattle.isa_step.specs.Due.{due_with}
use Rattle.isa_step.specs.Requests.{belongs_into_slot, late_at, latency_of, operands_of}

-- an interrupt or a break is offered
abbrev pub is_offered : Shown → Bool
is_offered s = s.line || s.breaks.maskable || s.breaks.nonmaskable

abbrev pub view_of : Arch → List ℕ → View
view_of a m = record { arch = a; memory = m }

-- where an instruction that retires leads
abbrev pub flow_by : Bool → Option Store → Flow
flow_by true store = Jumped
flow_by false None = On
flow_by false (Some s) = Stored s.addr

abbrev pub flow_of : Done → Flow
flow_of done = flow_by done.jumped done.store

-- the effect asks nothing of the outside, retires and leads as told, and the view is what it leaves
pub record IsRetired (effect : Effect) (flow : Flow) (v w : View) : Type 0 where
  pub alone : effect.action ≡ None
  pub retired : effect.done.act ≡ acts.Retired
  pub leads : flow ≡ flow_of effect.done
  pub view : w ≡ after v effect

-- the act of a core at the word is inner, and stands in its place
pub record Suits (q : Prepared) (a : Arch) : Type 0 where
  pub inner : q.is_inner ≡ true
  pub fits : (is_some a.slot && not (belongs_into_slot q.kind)) ≡ false

-- neither stopped nor fell asleep
pub record StaysUp (a b : Arch) : Type 0 where
  pub runs : b.stopped ≡ a.stopped
  pub awake : b.asleep ≡ a.asleep

-- the registers after a effect
abbrev pub arch_after : Arch → Effect → Arch
arch_after a d = record d.arch { regs = written d.done.write a.regs }

-- of what an instruction asks
abbrev pub RetiresRequest : Request → Flow → View → View → Type 0
RetiresRequest (Goes effect) flow v w = IsRetired effect flow v w
RetiresRequest _ flow v w = ⊥

-- of what is due
abbrev pub RetiresDue : Due → Flow → View → View → Type 0
RetiresDue (Does effect) flow v w = IsRetired effect flow v w
RetiresDue _ flow v w = ⊥

-- an instruction with the values of its operands, by the values of rA and of its second operand
abbrev pub supplied : Instr → ℕ → ℕ → Arch → Given
supplied i x y a = record {
  rd = i.rd;
  a = x;
  b = y;
  d = reg a.regs i.rd;
  imm = i.imm;
  flags = i.flags;
  late = late_at i.rd (latency_of (kind_of i.op));
}

-- where nothing is offered to a core that runs and is awake, the act that is due at the word is done
pub record Retires (here : Option Here) (a : Arch) (m : List ℕ) (flow : Flow) (b : Arch) (n : List ℕ) : Type 0 where
  pub does : (s : Shown) → is_offered s ≡ false → RetiresDue (due_with here (operands_of here a.regs) (bare a) m s) flow (view_of a m) (view_of b n)
