-- A core rests exactly where no act is due now and none will be.
use Rattle.std.specs.Prelude.{◌≡◌, ◌⊎◌, ℕ, ◌&&◌, ◌||◌, not, Bool, true, false, List, Option, Some, None, if◌then◌else◌}
use Rattle.std.proofs.Common.{refl, ◌∙◌, inl, inr}
use Rattle.axi_link.specs.declared.item.Item.{Item}
use Rattle.core_regs.specs.declared.registers.Arch.{Arch}
use Rattle.core_regs.specs.declared.causes.StopCause.{StopCause}
use Rattle.core_regs.specs.declared.causes.Take.{Take}
use Rattle.core_regs.specs.State.{bare, interrupts_on}
use Rattle.delay_imm.specs.Slots.{may_take}
use Rattle.isa_step.specs.declared.acts.Here.{Here}
use Rattle.isa_step.specs.declared.acts.Idle.{Idle}
use Rattle.isa_step.specs.declared.acts.Idle.TheVariants.{Ended}
use Rattle.isa_step.specs.declared.acts.Operands.{Operands}
use Rattle.isa_step.specs.Shown.{Shown}
use Rattle.isa_step.specs.Effects.{View, Effect, Does, Ends, Request, Goes, HaltLoop, Gets, Puts, Reads, Writes}
use Rattle.isa_step.specs.Due.{awake, by_item, by_room, due, due_by, due_with, here_of, is_closed, is_masked, pick, reply, take_by, take_due}
use Rattle.isa_step.specs.Resting.{IsAnnounced, IsRest, all_come, idle_at_item, idle_at_room, idle_awake, idle_by, idle_due, idle_quiet, idle_view, idle_request, is_quiet}
use Rattle.isa_step.specs.Requests.{is_atomic_here, operands_of, requested}

abbrev Taken : Bool → Bool → Bool → Bool → Bool → Bool → Option Take
Taken may nonmaskable maskable line masked enabled = if may then pick nonmaskable (maskable && not masked) (line && enabled && not masked) else None

abbrev Closed : Bool → Bool → Bool → Bool → Bool → Bool
Closed nonmaskable maskable interrupt masked enabled =
    not nonmaskable && (not maskable || masked) && (not interrupt || not enabled || masked)

-- where nothing can come, nothing that was announced for is taken
none_taken : (may n m l hn hm hi masked enabled : Bool) → (n ≡ true → hn ≡ true) → (m ≡ true → hm ≡ true) → (l ≡ true → hi ≡ true)
    → (Closed hn hm hi masked enabled || not may) ≡ true → Taken may n m l masked enabled ≡ None
none_taken false n m l hn hm hi masked enabled a b c h = refl
none_taken true n m l true hm hi masked enabled a b c h = cc
none_taken true true m l false hm hi masked enabled a b c h = let e : false ≡ true = a refl in cc
none_taken true false true l false true hi false enabled a b c h = cc
none_taken true false true l false false hi false enabled a b c h = let e : false ≡ true = b refl in cc
none_taken true false true true false hm hi true true a b c h = refl
none_taken true false true true false hm hi true false a b c h = refl
none_taken true false true false false hm hi true enabled a b c h = refl
none_taken true false false true false hm true false true a b c h = by_hope hm h where
  by_hope : (x : Bool) → (Closed false x true false true || not true) ≡ true → Taken true false false true false true ≡ None
  by_hope true h = cc
  by_hope false h = cc
none_taken true false false true false hm false false true a b c h = let e : false ≡ true = c refl in cc
none_taken true false false true false hm hi true true a b c h = refl
none_taken true false false true false hm hi masked false a b c h = refl
none_taken true false false false false hm hi masked enabled a b c h = refl

-- where something can come, it is taken once it has
some_taken : (may hn hm hi masked enabled : Bool) → (Closed hn hm hi masked enabled || not may) ≡ false → (t : Take) × (Taken may hn hm hi masked enabled ≡ Some t)
some_taken true true hm hi masked enabled h = (_, refl)
some_taken true false true hi false enabled h = (_, refl)
some_taken true false false true false true h = (_, refl)
some_taken false true hm hi masked enabled h = cc
some_taken false false true hi false enabled h = cc
some_taken false false true true true true h = cc
some_taken false false true true true false h = cc
some_taken false false true false true enabled h = cc
some_taken false false false true true true h = cc
some_taken false false false true false true h = cc
some_taken false false false true true false h = cc
some_taken false false false true false false h = cc
some_taken false false false false masked enabled h = cc
some_taken true false true true true true h = cc
some_taken true false true true true false h = cc
some_taken true false true false true enabled h = cc
some_taken true false false true true true h = cc
some_taken true false false true true false h = cc
some_taken true false false true false false h = cc
some_taken true false false false masked enabled h = cc

taken_by : (a : Arch) (s : Shown) (may : Bool) → take_by a s may ≡ Taken may s.breaks.nonmaskable s.breaks.maskable s.line (is_masked a) (interrupts_on a)
taken_by a s true = refl
taken_by a s false = refl

-- a core that is quiet takes nothing
no_take : (a : Arch) (here : Option Here) (s : Shown) → IsAnnounced s → is_quiet a here s ≡ true → take_due here a s ≡ None
unfolding is_quiet is_closed take_due
no_take a here s h q = taken_by a s (may_take a (is_atomic_here here))
    ∙ none_taken (may_take a (is_atomic_here here)) s.breaks.nonmaskable s.breaks.maskable s.line s.hopes.nonmaskable s.hopes.maskable s.hopes.interrupt (is_masked a) (interrupts_on a) h.nonmaskable h.maskable h.interrupt q

-- any other takes once all has come
take_comes : (a : Arch) (here : Option Here) (s : Shown) → is_quiet a here s ≡ false → (t : Take) × (take_due here a (all_come s) ≡ Some t)
unfolding is_quiet is_closed take_due
take_comes a here s q =
    let (t, e) = some_taken (may_take a (is_atomic_here here)) s.hopes.nonmaskable s.hopes.maskable s.hopes.interrupt (is_masked a) (interrupts_on a) q in
    (t, taken_by a (all_come s) (may_take a (is_atomic_here here)) ∙ e)

halt_loops_idle : (closed : Bool) (effect : Effect) → idle_due (if closed then Ends else Does effect) ≡ (if closed then Some Ended else None)
halt_loops_idle true effect = refl
halt_loops_idle false effect = refl

item_idle : (port : ℕ) (item : Item → Effect) (empty : Option Effect) (o : Option Item) → idle_due (by_item port item empty o) ≡ idle_at_item port empty o
item_idle port item empty (Some x) = refl
item_idle port item None None = refl
item_idle port item (Some missed) None = refl

room_idle : (port : ℕ) (room : Effect) (full : Option Effect) (b : Bool) → idle_due (by_room port room full b) ≡ idle_at_room port full b
room_idle port room full true = refl
room_idle port room None false = refl
room_idle port room (Some missed) false = refl

-- where nothing is taken, what an instruction asks tells both alike
reply_idle : (a : Arch) (w : Request) (s : Shown) → idle_due (reply a w s) ≡ idle_request a w s
reply_idle a (Goes effect) s = refl
reply_idle a (HaltLoop effect) s = halt_loops_idle (is_closed a s.hopes) effect
reply_idle a (Gets port item empty) s = item_idle port item empty (s.first port)
reply_idle a (Puts port room full) s = room_idle port room full (s.room port)
reply_idle a (Reads addr answer) s = refl
reply_idle a (Writes addr word answer) s = refl

awake_idle : (here : Option Here) (o : Operands) (a : Arch) (m : List ℕ) (s : Shown) (asleep : Bool) → idle_due (awake here o a m s asleep) ≡ idle_awake here o a m s asleep
awake_idle here o a m s true = refl
awake_idle here o a m s false = reply_idle a (requested here o a m) s

quiet_lasts : (here : Option Here) (o : Operands) (a : Arch) (m : List ℕ) (s : Shown) (why : Idle) (t : Option Take) (quiet : Bool) → (quiet ≡ true → t ≡ None)
    → idle_quiet here o a m s quiet ≡ Some why → idle_due (due_by here o a m s t None) ≡ Some why
quiet_lasts here o a m s why t false n h = cc
quiet_lasts here o a m s why t true n h = rw (n refl) (awake_idle here o a m s a.asleep ∙ h)

stop_lasts : (here : Option Here) (o : Operands) (a : Arch) (m : List ℕ) (s : Shown) (why : Idle) (stopped : Option StopCause) → IsAnnounced s
    → idle_by here o a m s stopped ≡ Some why → idle_due (due_by here o a m s (take_due here a s) stopped) ≡ Some why
stop_lasts here o a m s why (Some cause) announced h = h
stop_lasts here o a m s why None announced h = quiet_lasts here o a m s why (take_due here a s) (is_quiet a here s) (no_take a here s announced) h

quiet_whole : (here : Option Here) (o : Operands) (a : Arch) (m : List ℕ) (s : Shown) (quiet : Bool) → IsAnnounced s → is_quiet a here s ≡ quiet → idle_quiet here o a m s quiet ≡ None
    → (idle_due (due_by here o a m s (take_due here a s) None) ≡ None) ⊎ (idle_due (due_by here o a m (all_come s) (take_due here a (all_come s)) None) ≡ None)
quiet_whole here o a m s false announced q h = let (t, e) = take_comes a here s q in inr (rw e refl)
quiet_whole here o a m s true announced q h = inl (rw (no_take a here s announced q) (awake_idle here o a m s a.asleep ∙ h))

stop_whole : (here : Option Here) (o : Operands) (a : Arch) (m : List ℕ) (s : Shown) (stopped : Option StopCause) → IsAnnounced s → idle_by here o a m s stopped ≡ None
    → (idle_due (due_by here o a m s (take_due here a s) stopped) ≡ None) ⊎ (idle_due (due_by here o a m (all_come s) (take_due here a (all_come s)) stopped) ≡ None)
stop_whole here o a m s (Some cause) announced h = cc
stop_whole here o a m s None announced h = quiet_whole here o a m s (is_quiet a here s) announced refl h

-- a core that rests has no act due
pub idle_lasts : (v : View) (s : Shown) (why : Idle) → IsAnnounced s → idle_view v s ≡ Some why → idle_due (due v s) ≡ Some why
unfolding due_with
idle_lasts v s why announced h = stop_lasts (here_of v) (operands_of (here_of v) v.arch.regs) (bare v.arch) v.memory s why v.arch.stopped announced h

-- one that does not has an act due now, or once all has come
pub idle_whole : (v : View) (s : Shown) → IsAnnounced s → idle_view v s ≡ None → (idle_due (due v s) ≡ None) ⊎ (idle_due (due v (all_come s)) ≡ None)
unfolding due_with
idle_whole v s announced h = stop_whole (here_of v) (operands_of (here_of v) v.arch.regs) (bare v.arch) v.memory s v.arch.stopped announced h

pub is_rest : (s : Shown) → IsAnnounced s → IsRest s
is_rest s announced = record { lasts = λ v why h. idle_lasts v s why announced h; whole = λ v h. idle_whole v s announced h }
