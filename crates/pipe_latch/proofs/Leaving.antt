-- What an act that is done at once leaves of registers and memory.
use Rattle.std.proofs.Common.{ℕ, ◌≡◌, ◌<◌, false, List, Option, Some, None, refl, sym, ap, ◌∙◌, subst, length}
use Rattle.core_regs.specs.declared.registers.Arch.{Arch}
use Rattle.core_regs.specs.State.{bare, reg, write_of, written}
use Rattle.mb_decode.specs.declared.instruction.Instr.{Instr}
use Rattle.isa_step.specs.declared.acts.Done.{Done}
use Rattle.isa_step.specs.declared.acts.Here.{Here}
use Rattle.isa_step.specs.Shown.{Shown}
use Rattle.isa_step.specs.Effects.{Effect, Due, Does, Waits, Sleeps, Ends, Stops, View, after_store}
use Rattle.isa_step.specs.Due.{due_with, here_at, met}
use Rattle.isa_step.specs.Requests.{operands_of}
use Rattle.prepared_act.specs.declared.flow.Flow.{Flow}
use Rattle.prepared_act.specs.declared.prepared.Prepared.{Prepared}
use Rattle.prepared_act.specs.Prepared.{result_register}
use Rattle.prepared_act.specs.Retiring.{Retires, RetiresDue, Suits, flow_of, view_of}
use Rattle.prepared_act.proofs.Results.{inner_writes}
use Rattle.timing_law.specs.Passing.{instr_of}
use Rattle.core_iface.specs.Words.{IsAt}

-- an outside that offers nothing
abbrev calm : Shown
calm = record {
  line = false;
  breaks = record { maskable = false; nonmaskable = false };
  hopes = record { interrupt = false; maskable = false; nonmaskable = false };
  first = λ port. None;
  room = λ port. false;
  bus_word = λ addr. None;
  bus_takes = λ addr word. false;
}

-- the result is in its register, and the store that the instruction leads past is done
pub record Leaves (w : Prepared) (flow : Flow) (a b : Arch) (m n : List ℕ) : Type 0 where
  pub regs : b.regs ≡ written (write_of w.result (reg b.regs w.result)) a.regs
  pub done : Done
  pub leads : flow ≡ flow_of done
  pub memory : n ≡ after_store a.order done.store m

left_by : (due : Due) (w : Prepared) (flow : Flow) (a b : Arch) (m n : List ℕ) → RetiresDue due flow (view_of a m) (view_of b n)
    → ((effect : Effect) → due ≡ Does effect → effect.done.write ≡ write_of w.result (reg b.regs w.result)) → Leaves w flow a b m n
left_by (Does effect) w flow a b m n h write = record {
  regs = ap (λ (v : View). v.arch.regs) h.view ∙ ap (λ x. written x a.regs) (write effect refl);
  done = effect.done;
  leads = h.leads;
  memory = ap (λ (v : View). v.memory) h.view;
}
left_by (Waits port full) w flow a b m n h write = absurd h
left_by Sleeps w flow a b m n h write = absurd h
left_by Ends w flow a b m n h write = absurd h
left_by (Stops cause) w flow a b m n h write = absurd h

-- the word means its instruction
pub known : (w : Prepared) (a : Arch) → Suits w a → met (Some w.word) ≡ Some (record { word = w.word; instr = Some w.instr })
known w a suits = ap (λ (i : Option Instr). Some (record { word = w.word; instr = i })) (w.inner suits.inner).meant

pub meant_at : (w : Prepared) (a : Arch) (m : List ℕ) → IsAt w a m → instr_of (here_at (bare a) m) ≡ Some w.instr
meant_at w a m at = ap instr_of (at.here ∙ known w a at.suits)

pub leaves : (w : Prepared) (flow : Flow) (a b : Arch) (m n : List ℕ) → Suits w a → Retires (met (Some w.word)) a m flow b n → length a.regs ≡ 32 → Leaves w flow a b m n
leaves w flow a b m n suits h long =
    let due_here : Option Here → Due = λ x. due_with x (operands_of x a.regs) (bare a) m calm in
    left_by (due_here (Some (record { word = w.word; instr = Some w.instr }))) w flow a b m n
    (subst (λ (x : Option Here). RetiresDue (due_here x) flow (view_of a m) (view_of b n)) (known w a suits) (h.does calm refl))
    (λ effect is. inner_writes w.instr w.word a b m n flow calm effect w.result (w.inner suits.inner) refl
    (subst (λ (x : Option Here). RetiresDue (due_here x) flow (view_of a m) (view_of b n)) (known w a suits) (h.does calm refl)) is
    (w.result_met ∙ ap (λ k. result_register k w.instr.rd) w.kind_met) (subst (λ k. w.result < k) (sym long) w.result_named))
