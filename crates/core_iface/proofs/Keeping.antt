-- A word that was met at pc is kept, and an act is always due at one that suits the core.
use Rattle.std.specs.Prelude.{◌≡◌, ℕ, ◌%◌, ◌==◌, ◌&&◌, not, Bool, true, false, List, Option, Some, None, if◌then◌else◌, IfSome, slice_get}
use Rattle.std.proofs.Common.{refl, sym, ap, subst, ◌∙◌}
use Rattle.core_regs.specs.declared.registers.Arch.{Arch}
use Rattle.core_regs.specs.declared.causes.Size.TheVariants.{Word}
use Rattle.core_regs.specs.State.{bare}
use Rattle.byte_mem.specs.Access.{loaded}
use Rattle.mb_decode.specs.declared.instruction.Instr.{Instr}
use Rattle.isa_step.specs.declared.acts.Here.{Here}
use Rattle.op_table.specs.Table.{kind_of}
use Rattle.isa_step.specs.Shown.{Shown}
use Rattle.isa_step.specs.Due.{here_at, here_of, met}
use Rattle.isa_step.specs.Resting.{idle_view}
use Rattle.isa_step.specs.Requests.{is_link, operands_of}
use Rattle.prepared_act.specs.declared.prepared.Prepared.{Prepared}
use Rattle.prepared_act.specs.Prepared.{IsInner}
use Rattle.prepared_act.specs.Retiring.{Suits, view_of}
use Rattle.prepared_act.proofs.Placing.{no_link}
use Rattle.core_iface.specs.Words.{IsAt, IsMet, goes_on, place_of}
use Rattle.core_iface.proofs.GoesOn.{goes}

aligned : (b : Bool) (x y : Option Here) → b ≡ true → (if b then x else y) ≡ x
aligned b x y e = rw e refl

pub met_by : (o : Option Prepared) (w : Prepared) (word : ℕ) (a : Arch)
    → o ≡ Some w → IfSome o (λ w. w.word ≡ word) → Suits w a → IfSome o (λ w. IsMet w word a)
met_by o w word a is same suits = subst (λ (x : Option Prepared). IfSome x (λ w. IsMet w word a)) (sym is)
    (record { same = subst (λ (x : Option Prepared). IfSome x (λ w. w.word ≡ word)) is same; suits = suits })

pub kept_by : (o : Option Prepared) (a : Arch) (m : List ℕ) (word : ℕ)
    → (a.pc % 4 == 0) ≡ true → loaded m Word a.order a.pc ≡ Some word → IfSome o (λ w. IsMet w word a) → IfSome o (λ w. IsAt w a m)
unfolding here_at
kept_by None a m word even read h = h
kept_by (Some w) a m word even read h = record {
  here = aligned (a.pc % 4 == 0) _ _ even ∙ ap met (read ∙ ap (λ (x : ℕ). Some x) (sym h.same));
  suits = h.suits;
}

goes_both : (b c : Bool) → b ≡ false → c ≡ false → (not b && not c) ≡ true
goes_both true c e f = cc
goes_both false true e f = cc
goes_both false false e f = refl

inner_goes : (word : ℕ) (i : Instr) → IsInner word i → goes_on (met (Some word)) ≡ true
inner_goes word i h = subst (λ (meant : Option Instr). goes_on (Some (record { word = word; instr = meant })) ≡ true) (sym h.meant)
    (goes_both (word == 0xB800_0000) (is_link (kind_of i.op)) h.goes (no_link (kind_of i.op) h.kind))

at_goes : (o : Option Prepared) (w : Prepared) (a : Arch) (m : List ℕ) → o ≡ Some w → IfSome o (λ w. IsAt w a m) → IsAt w a m
at_goes o w a m is h = subst (λ (x : Option Prepared). IfSome x (λ w. IsAt w a m)) is h

-- the word that is kept at pc
pub at_pc : (kept : List Prepared) (w : Prepared) (a : Arch) (m : List ℕ) → slice_get kept (place_of a.pc) ≡ Some w
    → IfSome (slice_get kept (place_of a.pc)) (λ w. IsAt w a m) → IsAt w a m
at_pc kept w a m is h = at_goes (slice_get kept (place_of a.pc)) w a m is h

pub goes_by : (o : Option Prepared) (w : Prepared) (word : ℕ) (a : Arch)
    → o ≡ Some w → IfSome o (λ w. w.word ≡ word) → Suits w a → goes_on (met (Some word)) ≡ true
goes_by o w word a is same suits = subst (λ (x : ℕ). goes_on (met (Some x)) ≡ true) (subst (λ (x : Option Prepared). IfSome x (λ w. w.word ≡ word)) is same)
    (inner_goes w.word w.instr (w.inner suits.inner))

pub goes_at : (a : Arch) (m : List ℕ) (word : ℕ) → (a.pc % 4 == 0) ≡ true → loaded m Word a.order a.pc ≡ Some word
    → goes_on (met (Some word)) ≡ true → goes_on (here_at (bare a) m) ≡ true
unfolding here_at
goes_at a m word even read h = ap goes_on (aligned (a.pc % 4 == 0) _ _ even ∙ ap met read) ∙ h

-- a core that runs and is awake is not at rest there
pub is_busy : (a : Arch) (m : List ℕ) (s : Shown) → goes_on (here_at (bare a) m) ≡ true → a.stopped ≡ None → a.asleep ≡ false → idle_view (view_of a m) s ≡ None
is_busy a m s h runs up = goes (here_of (view_of a m)) (operands_of (here_of (view_of a m)) a.regs) (bare a) m s a.stopped runs up h
