-- An instruction that is not early finds its registers settled.
use Rattle.std.proofs.Common.{ℕ, ◌≡◌, ◌≤◌, ◌+◌, ◌==◌, ◌&&◌, ◌||◌, max, Bool, true, false, List, Option, Some, None, refl, subst, arith, slice_index, if◌then◌else◌, ◌⊎◌, inl, inr}
use Rattle.std.specs.Prelude.{is_some}
use Rattle.mb_decode.specs.declared.instruction.Instr.{Instr}
use Rattle.mb_decode.specs.Registers.{reads, reads_a, reads_b, reads_d}
use Rattle.isa_step.specs.declared.acts.Here.{Here}
use Rattle.isa_step.specs.Due.{here_of}
use Rattle.timing_law.specs.Table.{extra_for}
use Rattle.timing_law.specs.Past.{due_at, greatest_read, operands_at, used}
use Rattle.timing_law.specs.Passing.{instr_of}
use Rattle.core_iface.specs.Cores.{CoreState, IsSettled, is_early, reads_here, reads_instr}

or_cases : (b c : Bool) → (b || c) ≡ true → (b ≡ true) ⊎ (c ≡ true)
or_cases true c h = inl refl
or_cases false c h = inr h

one_read : (reads : Bool) (n r high : ℕ) (ready : List ℕ) → (reads && n == r) ≡ true → used reads (slice_index ready n) ≤ high → slice_index ready r ≤ high
one_read false n r high ready is le = cc
one_read true n r high ready is le = let e : n ≡ r = grind (arith, is) in subst (λ k. slice_index ready k ≤ high) e le

three_read : (i : Instr) (r high : ℕ) (ready : List ℕ) → reads i r ≡ true → greatest_read (Some i) (λ k. slice_index ready k) ≤ high → slice_index ready r ≤ high
three_read i r high ready is le =
    elim (or_cases (reads_a i && i.ra == r || reads_b i && i.rb == r) _ is) [
      | inl ab ↦ elim (or_cases (reads_a i && i.ra == r) _ ab) [
        | inl a ↦ one_read (reads_a i) i.ra r high ready a (omega (arith, le))
        | inr b ↦ one_read (reads_b i) i.rb r high ready b (omega (arith, le))
      ]
      | inr d ↦ one_read (reads_d i) i.rd r high ready d (omega (arith, le))
    ]

instr_read : (i : Option Instr) (r high : ℕ) (ready : List ℕ) → reads_instr i r ≡ true → greatest_read i (λ k. slice_index ready k) ≤ high → slice_index ready r ≤ high
instr_read None r high ready is le = cc
instr_read (Some i) r high ready is le = three_read i r high ready is le

here_read : (here : Option Here) (r high : ℕ) (ready : List ℕ) → reads_here here r ≡ true → greatest_read (instr_of here) (λ k. slice_index ready k) ≤ high → slice_index ready r ≤ high
here_read None r high ready is le = cc
here_read (Some here) r high ready is le = instr_read here.instr r high ready is le

pub settled : (s : CoreState) → is_early s ≡ false → IsSettled s
unfolding due_at operands_at
settled s early = record {
  settled = λ r reads_it.
      let i = instr_of (here_of s.view) in
      let slot = if is_some s.view.arch.slot then 0 else s.past.redirect in
      let le : max (max (max s.past.first slot) s.past.next) (greatest_read i (λ k. slice_index s.past.ready k)) + extra_for s.past.pipe i ≤ s.ticks = grind (arith, early) in
      let ready = here_read (here_of s.view) r s.ticks s.past.ready reads_it (omega (arith, le)) in
      omega (arith, ready);
}
