-- A core at its end stays there: what can come to it only becomes less.
use Rattle.std.proofs.Common.{◌≡◌, ℕ, Some, refl, ap, sym, ◌∙◌, Bool, true, false, ◌&&◌, ◌||◌}
use Rattle.std.specs.Prelude.{not}
use Rattle.core_regs.specs.declared.registers.Arch.{Arch}
use Rattle.core_regs.specs.State.{bare, interrupts_on}
use Rattle.delay_imm.specs.Slots.{may_take}
use Rattle.isa_step.specs.declared.acts.Hopes.{Hopes}
use Rattle.isa_step.specs.declared.acts.Idle.TheVariants as idle
use Rattle.isa_step.specs.Shown.{Shown}
use Rattle.isa_step.specs.Effects.{View, Effect, Due, Does, Waits, Sleeps, Ends, Stops, Request, Goes, HaltLoop, Gets, Puts, Reads, Writes}
use Rattle.isa_step.specs.Due.{due, here_of, is_closed, is_masked}
use Rattle.isa_step.specs.Resting.{IsAnnounced, idle_awake, idle_by, idle_due, idle_quiet, idle_view, idle_request, is_quiet}
use Rattle.isa_step.specs.Requests.{is_atomic_here, operands_of}
use Rattle.isa_step.proofs.RestLaws.{idle_lasts}
use Rattle.machine_laws.specs.Holding.{request_at}
use Rattle.journal_laws.proofs.Outcomes.{Gone, is_halt_loop}
use Rattle.journal_laws.proofs.Truths.{or_left}

halt_loop_idle : (a : Arch) (w : Request) (s : Shown) → is_halt_loop w ≡ true → is_closed a s.hopes ≡ true → idle_request a w s ≡ Some idle.Ended
halt_loop_idle a (HaltLoop effect) s h c = rw c refl
halt_loop_idle a (Goes effect) s h c = cc
halt_loop_idle a (Gets port item empty) s h c = cc
halt_loop_idle a (Puts port room full) s h c = cc
halt_loop_idle a (Reads addr answer) s h c = cc
halt_loop_idle a (Writes addr word answer) s h c = cc

gone_quiet : (v : View) (s : Shown) → is_closed (bare v.arch) s.hopes ≡ true → is_quiet (bare v.arch) (here_of v) s ≡ true
unfolding is_quiet
gone_quiet v s c = or_left (is_closed (bare v.arch) s.hopes) (not (may_take (bare v.arch) (is_atomic_here (here_of v)))) c

gone_idle : (v : View) (s : Shown) → Gone v s.hopes → idle_view v s ≡ Some idle.Ended
gone_idle v s g =
    let here = here_of v in
    let o = operands_of here v.arch.regs in
    ap (idle_by here o (bare v.arch) v.memory s) g.awake.stopped
    ∙ ap (idle_quiet here o (bare v.arch) v.memory s) (gone_quiet v s g.shut)
    ∙ ap (idle_awake here o (bare v.arch) v.memory s) g.awake.asleep
    ∙ halt_loop_idle (bare v.arch) (request_at v) s g.halting g.shut

only_ends : (d : Due) → idle_due d ≡ Some idle.Ended → d ≡ Ends
only_ends (Does effect) h = cc
only_ends (Waits port full) h = cc
only_ends Sleeps h = cc
only_ends Ends h = refl
only_ends (Stops cause) h = cc

pub gone_ends : (v : View) (s : Shown) → IsAnnounced s → Gone v s.hopes → due v s ≡ Ends
gone_ends v s h g = only_ends (due v s) (idle_lasts v s idle.Ended h (gone_idle v s g))

pub gone_acts : (v : View) (s : Shown) (effect : Effect) → IsAnnounced s → due v s ≡ Does effect → Gone v s.hopes → ⊥
gone_acts v s effect h d g = let e = sym (gone_ends v s h g) ∙ d in cc

pub gone_waits : (v : View) (s : Shown) (port : ℕ) (full : Bool) → IsAnnounced s → due v s ≡ Waits port full → Gone v s.hopes → ⊥
gone_waits v s port full h d g = let e = sym (gone_ends v s h g) ∙ d in cc

-- hopes that are no more than others
pub record AreFewer (g h : Hopes) : Type 0 where
  pub interrupt : g.interrupt ≡ true → h.interrupt ≡ true
  pub maskable : g.maskable ≡ true → h.maskable ≡ true
  pub nonmaskable : g.nonmaskable ≡ true → h.nonmaskable ≡ true

falls : (a b : Bool) → (a ≡ true → b ≡ true) → b ≡ false → a ≡ false
falls false b i h = refl
falls true b i h = let z : false ≡ true = sym h ∙ i refl in cc

closed_by : (n m i n2 m2 i2 masked enabled : Bool) → (n2 ≡ true → n ≡ true) → (m2 ≡ true → m ≡ true) → (i2 ≡ true → i ≡ true) → (not n && (not m || masked) && (not i || not enabled || masked)) ≡ true → (not n2 && (not m2 || masked) && (not i2 || not enabled || masked)) ≡ true
closed_by true m i n2 m2 i2 masked enabled a b c h = cc
closed_by false false false n2 m2 i2 masked enabled a b c h = rw (falls n2 false a refl, falls m2 false b refl, falls i2 false c refl) refl
closed_by false false true n2 m2 true masked enabled a b c h = rw (falls n2 false a refl, falls m2 false b refl) h
closed_by false false true n2 m2 false masked enabled a b c h = rw (falls n2 false a refl, falls m2 false b refl) refl
closed_by false true i n2 m2 i2 false enabled a b c h = cc
closed_by false true i n2 true true true true a b c h = rw (falls n2 false a refl) refl
closed_by false true i n2 true true true false a b c h = rw (falls n2 false a refl) refl
closed_by false true i n2 true false true enabled a b c h = rw (falls n2 false a refl) refl
closed_by false true i n2 false true true true a b c h = rw (falls n2 false a refl) refl
closed_by false true i n2 false true true false a b c h = rw (falls n2 false a refl) refl
closed_by false true i n2 false false true enabled a b c h = rw (falls n2 false a refl) refl

pub gone_fewer : (v : View) (g h : Hopes) → AreFewer g h → Gone v h → Gone v g
unfolding is_closed
gone_fewer v g h f x = record {
  awake = x.awake;
  halting = x.halting;
  shut = closed_by h.nonmaskable h.maskable h.interrupt g.nonmaskable g.maskable g.interrupt (is_masked (bare v.arch)) (interrupts_on (bare v.arch)) f.nonmaskable f.maskable f.interrupt x.shut;
}
