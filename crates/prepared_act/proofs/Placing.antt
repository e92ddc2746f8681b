-- An instruction of an inner kind that stands in its place is done as its kind says.
use Rattle.std.specs.Prelude.{◌≡◌, ℕ, ◌&&◌, not, Bool, true, false, List, Option, Some, None, is_some, if◌then◌else◌, IfSome}
use Rattle.std.proofs.Common.{refl, subst}
use Rattle.core_regs.specs.declared.registers.Arch.{Arch}
use Rattle.core_regs.specs.State.{bare, reg}
use Rattle.mb_decode.specs.declared.instruction.Instr.{Instr}
use Rattle.isa_step.specs.declared.acts.Operands.{Operands}
use Rattle.isa_step.specs.declared.operands.Given.{Given}
use Rattle.op_table.specs.declared.kinds.Kind.{Kind}
use Rattle.op_table.specs.declared.kinds.Kind.TheVariants.{Get, Put}
use Rattle.op_table.specs.Table.{kind_of, second_of}
use Rattle.isa_step.specs.Links.{is_nonblocking}
use Rattle.isa_step.specs.Effects.{View, Request}
use Rattle.isa_step.specs.Requests.{belongs_into_slot, request_of, given, is_banned, is_link, operands_by, second_value, requested_kind}
use Rattle.prepared_act.specs.declared.flow.Flow.{Flow}
use Rattle.prepared_act.specs.Prepared.{is_inner}
use Rattle.prepared_act.specs.Retiring.{RetiresRequest, supplied}

-- what holds for each flow carries a fact of an answer over
pub for_some : (o : Option Flow) (P Q : Flow → Type 0) → ((flow : Flow) → P flow → Q flow) → IfSome o P → IfSome o Q
for_some None P Q so h = h
for_some (Some flow) P Q so h = so flow h

other : (flow : Flow) (v w : View) (b : Bool) (x y : Request) → b ≡ false → RetiresRequest y flow v w → RetiresRequest (if b then x else y) flow v w
other flow v w true x y e done = cc
other flow v w false x y e done = done

pub no_link : (kind : Kind) → is_inner kind ≡ true → is_link kind ≡ false
unfolding is_inner
no_link (Get dynamic) e = cc
no_link (Put dynamic) e = cc
no_link kind e = refl

middle : (n l b : Bool) → l ≡ false → (n && l && b) ≡ false
middle true true b e = cc
middle true false b e = refl
middle false l b e = refl

placed : (kind : Kind) (i : Instr) (word : ℕ) (o : Operands) (a : Arch) (m : List ℕ) (flow : Flow) (v w : View)
    → is_link kind ≡ false → (is_some a.slot && not (belongs_into_slot kind)) ≡ false
    → RetiresRequest (request_of kind (given i o a) a m) flow v w → RetiresRequest (requested_kind kind i word o a m) flow v w
placed kind i word o a m flow v w link slot done =
    other flow v w (is_banned i kind a.network) _ _ (middle a.network (is_link kind) (is_nonblocking i.flags) link)
    (other flow v w (is_some a.slot && not (belongs_into_slot kind)) _ _ slot done)

supplied_is_given : (i : Instr) (a : Arch) (x y : ℕ)
    → x ≡ reg a.regs i.ra → y ≡ second_value (second_of i.op) (bare a) i (operands_by (Some i) a.regs)
    → supplied i x y a ≡ given i (operands_by (Some i) a.regs) (bare a)
unfolding given
supplied_is_given i a x y ex ey = rw (ex, ey) refl

pub in_place : (kind : Kind) (i : Instr) (word : ℕ) (a : Arch) (m : List ℕ) (x y : ℕ) (flow : Flow) (v w : View)
    → kind ≡ kind_of i.op → is_inner (kind_of i.op) ≡ true
    → x ≡ reg a.regs i.ra → y ≡ second_value (second_of i.op) (bare a) i (operands_by (Some i) a.regs)
    → (is_some a.slot && not (belongs_into_slot kind)) ≡ false
    → RetiresRequest (request_of kind (supplied i x y a) (bare a) m) flow v w
    → RetiresRequest (requested_kind (kind_of i.op) i word (operands_by (Some i) a.regs) (bare a) m) flow v w
in_place kind i word a m x y flow v w is inner ex ey slot done =
    placed (kind_of i.op) i word _ (bare a) m flow v w (no_link _ inner)
    (subst (λ (k : Kind). (is_some a.slot && not (belongs_into_slot k)) ≡ false) is slot)
    (subst (λ (k : Kind). RetiresRequest (request_of k (given i (operands_by (Some i) a.regs) (bare a)) (bare a) m) flow v w) is
    (subst (λ (g : Given). RetiresRequest (request_of kind g (bare a) m) flow v w) (supplied_is_given i a x y ex ey) done))
