-- At such a word an act is due of a core that runs and is awake, where nothing is offered.
use Rattle.std.specs.Prelude.{◌≡◌, ◌<◌, ℕ, Bool, true, false, List, Option, Some, None, if◌then◌else◌, is_some, is_none}
use Rattle.std.proofs.Common.{refl, subst, sym}
use Rattle.core_regs.specs.declared.registers.Arch.{Arch}
use Rattle.core_regs.specs.declared.causes.StopCause.{StopCause}
use Rattle.core_regs.specs.declared.causes.Take.{Take}
use Rattle.core_regs.specs.State.{bare}
use Rattle.axi_link.specs.declared.item.Item.{Item}
use Rattle.isa_step.specs.declared.acts.Here.{Here}
use Rattle.isa_step.specs.declared.acts.Idle.TheVariants.{Ended}
use Rattle.isa_step.specs.declared.acts.Operands.{Operands}
use Rattle.isa_step.specs.Shown.{Shown}
use Rattle.isa_step.specs.Effects.{Effect, Due, Does, Waits, Sleeps, Ends, Stops, Request, Goes, HaltLoop, Gets, Puts, Reads, Writes}
use Rattle.isa_step.specs.Due.{awake, by_item, by_room, due_by, due_with, here_at, is_closed, reply, take_due}
use Rattle.isa_step.specs.Resting.{idle_at_item, idle_at_room, idle_request}
use Rattle.isa_step.specs.Requests.{operands_of, requested}
use Rattle.prepared_act.specs.Retiring.{is_offered}
use Rattle.prepared_act.proofs.Offers.{nothing_taken}
use Rattle.core_iface.specs.Cores.{CoreState, is_early}
use Rattle.core_iface.specs.Ticks.{AloneOf, TicksAlone, ticked}
use Rattle.core_iface.specs.Words.{goes_on}
use Rattle.core_iface.proofs.GoesOn.{word_goes}

abbrev IsEffect : Due → Type 0
IsEffect (Does effect) = Unit {0}
IsEffect _ = ⊥

item_does : (port : ℕ) (item : Item → Effect) (empty : Option Effect) (o : Option Item) → idle_at_item port empty o ≡ None → IsEffect (by_item port item empty o)
item_does port item empty (Some x) e = tt
item_does port item (Some d) None e = tt
item_does port item None None e = cc

room_does : (port : ℕ) (room : Effect) (full : Option Effect) (b : Bool) → idle_at_room port full b ≡ None → IsEffect (by_room port room full b)
room_does port room full true e = tt
room_does port room (Some d) false e = tt
room_does port room None false e = cc

halt_loop_does : (d : Effect) (b : Bool) → (if b then Some Ended else None) ≡ None → IsEffect (if b then Ends else Does d)
halt_loop_does d true e = cc
halt_loop_does d false e = tt

reply_does : (a : Arch) (w : Request) (s : Shown) → idle_request a w s ≡ None → IsEffect (reply a w s)
reply_does a (Goes d) s e = tt
reply_does a (HaltLoop d) s e = halt_loop_does d (is_closed a s.hopes) e
reply_does a (Gets port item empty) s e = item_does port item empty (s.first port) e
reply_does a (Puts port room full) s e = room_does port room full (s.room port) e
reply_does a (Reads addr answer) s e = tt
reply_does a (Writes addr word answer) s e = tt

awake_does : (here : Option Here) (o : Operands) (a : Arch) (m : List ℕ) (s : Shown) (asleep : Bool) → asleep ≡ false → IsEffect (reply a (requested here o a m) s) → IsEffect (awake here o a m s asleep)
awake_does here o a m s true up h = cc
awake_does here o a m s false up h = h

by_does : (here : Option Here) (o : Operands) (a : Arch) (m : List ℕ) (s : Shown) (t : Option Take) (stopped : Option StopCause)
    → t ≡ None → stopped ≡ None → a.asleep ≡ false → IsEffect (reply a (requested here o a m) s) → IsEffect (due_by here o a m s t stopped)
by_does here o a m s t (Some cause) none runs up h = cc
by_does here o a m s (Some t) None none runs up h = cc
by_does here o a m s None None none runs up h = awake_does here o a m s a.asleep up h

effect_due : (here : Option Here) (o : Operands) (a : Arch) (m : List ℕ) (s : Shown) → is_offered s ≡ false → a.stopped ≡ None → a.asleep ≡ false → goes_on here ≡ true → IsEffect (due_with here o a m s)
unfolding due_with
effect_due here o a m s calm runs up goes =
    by_does here o a m s (take_due here a s) a.stopped (nothing_taken here a s calm) runs up (reply_does a (requested here o a m) s (word_goes here o a m s goes))

fills_of : (d : Due) (old new : CoreState) → IsEffect d → new.slack < old.slack → new ≡ record (ticked old) { slack = new.slack } → AloneOf d true old new
fills_of (Does effect) old new h less core = (less, core)
fills_of (Waits port full) old new h less core = absurd h
fills_of Sleeps old new h less core = absurd h
fills_of Ends old new h less core = absurd h
fills_of (Stops cause) old new h less core = absurd h

-- a tick that passes before the act that is due
pub fills_alone : (old new : CoreState) → old.view.arch.stopped ≡ None → old.view.arch.asleep ≡ false → goes_on (here_at (bare old.view.arch) old.view.memory) ≡ true
    → is_early old ≡ true → new.slack < old.slack → new ≡ record (ticked old) { slack = new.slack } → TicksAlone old new
fills_alone old new runs up goes early less core =
    let here = here_at (bare old.view.arch) old.view.memory in
    record {
      does = λ s calm.
          let d = due_with here (operands_of here old.view.arch.regs) (bare old.view.arch) old.view.memory s in
          subst (λ b. AloneOf d b old new) (sym early) (fills_of d old new (effect_due here _ (bare old.view.arch) old.view.memory s calm runs up goes) less core);
    }
