-- Each act that is due is told by its actions.
use Rattle.std.specs.Prelude.{◌≡◌, ℕ, Bool, true, false, List, Option, Some, None, option_to_list, if◌then◌else◌}
use Rattle.std.proofs.Common.{refl, ap, sym, subst, ◌∙◌}
use Rattle.std.proofs.lemmas.Option.{same_Some}
use Rattle.axi_link.specs.declared.item.Item.{Item}
use Rattle.core_regs.specs.declared.registers.Arch.{Arch}
use Rattle.core_regs.specs.declared.causes.StopCause.{StopCause}
use Rattle.core_regs.specs.declared.causes.Take.{Take}
use Rattle.core_regs.specs.State.{bare}
use Rattle.isa_step.specs.declared.acts.Action.{Action}
use Rattle.isa_step.specs.declared.acts.Action.TheVariants.{Got, Sent, Seen, Room, Missed, Read, ReadRefused, Wrote, WriteRefused, Took}
use Rattle.isa_step.specs.Shown.{Shown}
use Rattle.isa_step.specs.Effects.{View, Effect, Due, Does, Waits, Sleeps, Ends, Stops, Request, Goes, HaltLoop, Gets, Puts, Reads, Writes}
use Rattle.delay_imm.specs.Slots.{may_take}
use Rattle.isa_step.specs.Due.{awake, by_item, by_room, due, due_by, due_with, here_of, is_closed, reply, take_by, take_due, takes}
use Rattle.isa_step.specs.Actions.{are_actions}
use Rattle.isa_step.specs.History.{IsTold, answered, effect_by, effect_told, exactly, took}
use Rattle.isa_step.specs.Requests.{is_atomic_here, operands_of, requested}
use Rattle.isa_step.proofs.Actions.{actions_are, actions_itself}
use Rattle.isa_step.proofs.Fitting.{IsFit, HasItem, HasRoom, MissedBy, requested_fit}

-- what an outcome says of the actions of its act, where it is one
abbrev IsToldBy : Request → Due → Type 0
IsToldBy w (Does d) = (answered w (option_to_list d.action) ≡ Some d) × (took (option_to_list d.action) ≡ None)
IsToldBy w _ = Unit {0}

quiet : (w : Request) (d : Effect) (o : Option Action) → d.action ≡ o → (answered w (option_to_list o) ≡ Some d) → took (option_to_list o) ≡ None → IsToldBy w (Does d)
quiet w d o e p q = (ap (λ x. answered w (option_to_list x)) e ∙ p, ap (λ x. took (option_to_list x)) e ∙ q)

item_told : (port : ℕ) (item : Item → Effect) (empty : Option Effect) (x : Item) (o : Option Action) → (item x).action ≡ o → HasItem x o → IsToldBy (Gets port item empty) (Does (item x))
item_told port item empty x (Some (Got p y)) e h = quiet (Gets port item empty) (item x) (Some (Got p y)) e (ap (λ z. Some (item z)) h) refl
item_told port item empty x (Some (Seen p y)) e h = quiet (Gets port item empty) (item x) (Some (Seen p y)) e (ap (λ z. Some (item z)) h) refl
item_told port item empty x None e h = elim h [ ]
item_told port item empty x (Some (Took t)) e h = elim h [ ]
item_told port item empty x (Some (Sent p y)) e h = elim h [ ]
item_told port item empty x (Some (Room p)) e h = elim h [ ]
item_told port item empty x (Some (Missed p f)) e h = elim h [ ]
item_told port item empty x (Some (Read p y)) e h = elim h [ ]
item_told port item empty x (Some (ReadRefused p)) e h = elim h [ ]
item_told port item empty x (Some (Wrote p y)) e h = elim h [ ]
item_told port item empty x (Some (WriteRefused p y)) e h = elim h [ ]

empty_told : (port : ℕ) (item : Item → Effect) (d : Effect) (o : Option Action) → d.action ≡ o → MissedBy o → IsToldBy (Gets port item (Some d)) (Does d)
empty_told port item d (Some (Missed p f)) e h = quiet (Gets port item (Some d)) d (Some (Missed p f)) e refl refl
empty_told port item d None e h = elim h [ ]
empty_told port item d (Some (Took t)) e h = elim h [ ]
empty_told port item d (Some (Got p y)) e h = elim h [ ]
empty_told port item d (Some (Seen p y)) e h = elim h [ ]
empty_told port item d (Some (Sent p y)) e h = elim h [ ]
empty_told port item d (Some (Room p)) e h = elim h [ ]
empty_told port item d (Some (Read p y)) e h = elim h [ ]
empty_told port item d (Some (ReadRefused p)) e h = elim h [ ]
empty_told port item d (Some (Wrote p y)) e h = elim h [ ]
empty_told port item d (Some (WriteRefused p y)) e h = elim h [ ]

full_told : (port : ℕ) (room : Effect) (d : Effect) (o : Option Action) → d.action ≡ o → MissedBy o → IsToldBy (Puts port room (Some d)) (Does d)
full_told port room d (Some (Missed p f)) e h = quiet (Puts port room (Some d)) d (Some (Missed p f)) e refl refl
full_told port room d None e h = elim h [ ]
full_told port room d (Some (Took t)) e h = elim h [ ]
full_told port room d (Some (Got p y)) e h = elim h [ ]
full_told port room d (Some (Seen p y)) e h = elim h [ ]
full_told port room d (Some (Sent p y)) e h = elim h [ ]
full_told port room d (Some (Room p)) e h = elim h [ ]
full_told port room d (Some (Read p y)) e h = elim h [ ]
full_told port room d (Some (ReadRefused p)) e h = elim h [ ]
full_told port room d (Some (Wrote p y)) e h = elim h [ ]
full_told port room d (Some (WriteRefused p y)) e h = elim h [ ]

room_told : (port : ℕ) (room : Effect) (full : Option Effect) (o : Option Action) → room.action ≡ o → HasRoom o → IsToldBy (Puts port room full) (Does room)
room_told port room full (Some (Sent p y)) e h = quiet (Puts port room full) room (Some (Sent p y)) e refl refl
room_told port room full (Some (Room p)) e h = quiet (Puts port room full) room (Some (Room p)) e refl refl
room_told port room full None e h = elim h [ ]
room_told port room full (Some (Took t)) e h = elim h [ ]
room_told port room full (Some (Got p y)) e h = elim h [ ]
room_told port room full (Some (Seen p y)) e h = elim h [ ]
room_told port room full (Some (Missed p f)) e h = elim h [ ]
room_told port room full (Some (Read p y)) e h = elim h [ ]
room_told port room full (Some (ReadRefused p)) e h = elim h [ ]
room_told port room full (Some (Wrote p y)) e h = elim h [ ]
room_told port room full (Some (WriteRefused p y)) e h = elim h [ ]

by_item_told : (port : ℕ) (item : Item → Effect) (empty : Option Effect) (o : Option Item) → IsFit (Gets port item empty) → IsToldBy (Gets port item empty) (by_item port item empty o)
by_item_told port item empty (Some x) h = item_told port item empty x ((item x).action) refl (h.0 x)
by_item_told port item (Some d) None h = empty_told port item d (d.action) refl h.1
by_item_told port item None None h = tt

by_room_told : (port : ℕ) (room : Effect) (full : Option Effect) (b : Bool) → IsFit (Puts port room full) → IsToldBy (Puts port room full) (by_room port room full b)
by_room_told port room full true h = room_told port room full (room.action) refl h.0
by_room_told port room (Some d) false h = full_told port room d (d.action) refl h.1
by_room_told port room None false h = tt

halt_loop_told : (d : Effect) (b : Bool) → d.action ≡ None → IsToldBy (HaltLoop d) (if b then Ends else Does d)
halt_loop_told d true h = tt
halt_loop_told d false h = quiet (HaltLoop d) d None h refl refl

word_told : (addr : ℕ) (answer : Option ℕ → Effect) (o : Option ℕ) → IsFit (Reads addr answer) → IsToldBy (Reads addr answer) (Does (answer o))
word_told addr answer (Some w) h = quiet (Reads addr answer) (answer (Some w)) (Some (Read addr w)) (h.0 w) refl refl
word_told addr answer None h = quiet (Reads addr answer) (answer None) (Some (ReadRefused addr)) h.1 refl refl

write_told : (addr word : ℕ) (answer : Bool → Effect) (b : Bool) → IsFit (Writes addr word answer) → IsToldBy (Writes addr word answer) (Does (answer b))
write_told addr word answer true h = quiet (Writes addr word answer) (answer true) (Some (Wrote addr word)) h.0 refl refl
write_told addr word answer false h = quiet (Writes addr word answer) (answer false) (Some (WriteRefused addr word)) h.1 refl refl

reply_told : (a : Arch) (w : Request) (s : Shown) → IsFit w → IsToldBy w (reply a w s)
reply_told a (Goes d) s h = quiet (Goes d) d None h refl refl
reply_told a (HaltLoop d) s h = halt_loop_told d (is_closed a s.hopes) h
reply_told a (Gets port item empty) s h = by_item_told port item empty (s.first port) h
reply_told a (Puts port room full) s h = by_room_told port room full (s.room port) h
reply_told a (Reads addr answer) s h = word_told addr answer (s.bus_word addr) h
reply_told a (Writes addr word answer) s h = write_told addr word answer (s.bus_takes addr word) h

-- the same of the act that is due, whatever take comes first
abbrev EffectTold : View → Due → Type 0
EffectTold v (Does d) = effect_told v (option_to_list d.action) ≡ Some d
EffectTold v _ = Unit {0}

its_own : (d : Effect) → exactly (option_to_list d.action) (Some d) ≡ Some d
its_own d = ap (λ b. if b then Some d else None) (actions_itself (option_to_list d.action))

of_request : (v : View) (o : Due) → IsToldBy (requested (here_of v) (operands_of (here_of v) v.arch.regs) (bare v.arch) v.memory) o → EffectTold v o
unfolding effect_told
of_request v (Does d) h = ap (exactly (option_to_list d.action)) (ap (effect_by v (option_to_list d.action)) h.1 ∙ h.0) ∙ its_own d
of_request v (Waits port full) h = tt
of_request v Sleeps h = tt
of_request v Ends h = tt
of_request v (Stops cause) h = tt

awake_told : (v : View) (s : Shown) (b : Bool) → EffectTold v (awake (here_of v) (operands_of (here_of v) v.arch.regs) (bare v.arch) v.memory s b)
awake_told v s true = tt
awake_told v s false =
    let w = requested (here_of v) (operands_of (here_of v) v.arch.regs) (bare v.arch) v.memory in
    of_request v (reply (bare v.arch) w s) (reply_told (bare v.arch) w s (requested_fit (here_of v) (operands_of (here_of v) v.arch.regs) (bare v.arch) v.memory))

due_told : (v : View) (s : Shown) (t : Option Take) (c : Option StopCause) → EffectTold v (due_by (here_of v) (operands_of (here_of v) v.arch.regs) (bare v.arch) v.memory s t c)
unfolding effect_told
due_told v s t (Some cause) = tt
due_told v s (Some t) None = its_own (takes (bare v.arch) t)
due_told v s None None = awake_told v s v.arch.asleep

only_by : (actions : List Action) (d e : Effect) (b : Bool) → are_actions (option_to_list d.action) actions ≡ b → (if b then Some d else None) ≡ Some e → actions ≡ option_to_list e.action
only_by actions d e true q h = sym (actions_are (option_to_list d.action) actions q) ∙ ap (λ (d : Effect). option_to_list d.action) (same_Some d e h)
only_by actions d e false q h = cc

only_own : (actions : List Action) (o : Option Effect) (e : Effect) → exactly actions o ≡ Some e → actions ≡ option_to_list e.action
only_own actions None e h = cc
only_own actions (Some d) e h = only_by actions d e (are_actions (option_to_list d.action) actions) refl h

told_only : (v : View) (actions : List Action) (d : Effect) → effect_told v actions ≡ Some d → actions ≡ option_to_list d.action
unfolding effect_told
told_only v actions d h = only_own actions (effect_by v actions (took actions)) d h

pub is_told : IsTold
unfolding due_with
is_told = record {
  told = λ v s effect e. subst (EffectTold v) e (due_told v s (take_due (here_of v) (bare v.arch) s) v.arch.stopped);
  only = told_only;
}

-- no instruction takes an interrupt or a break
abbrev NoTake : Due → Type 0
NoTake (Does d) = took (option_to_list d.action) ≡ None
NoTake _ = Unit {0}

request_untaken : (w : Request) (o : Due) → IsToldBy w o → NoTake o
request_untaken w (Does d) h = h.1
request_untaken w (Waits port full) h = tt
request_untaken w Sleeps h = tt
request_untaken w Ends h = tt
request_untaken w (Stops cause) h = tt

awake_untaken : (v : View) (s : Shown) (b : Bool) → NoTake (awake (here_of v) (operands_of (here_of v) v.arch.regs) (bare v.arch) v.memory s b)
awake_untaken v s true = tt
awake_untaken v s false =
    let w = requested (here_of v) (operands_of (here_of v) v.arch.regs) (bare v.arch) v.memory in
    request_untaken w (reply (bare v.arch) w s) (reply_told (bare v.arch) w s (requested_fit (here_of v) (operands_of (here_of v) v.arch.regs) (bare v.arch) v.memory))

untaken : (v : View) (s : Shown) (c : Option StopCause) → NoTake (due_by (here_of v) (operands_of (here_of v) v.arch.regs) (bare v.arch) v.memory s None c)
untaken v s (Some cause) = tt
untaken v s None = awake_untaken v s v.arch.asleep

stands_by : (v : View) (s : Shown) (effect : Effect) (t : Take) (b : Bool) → may_take (bare v.arch) (is_atomic_here (here_of v)) ≡ b → due v s ≡ Does effect → effect.action ≡ Some (Took t) → may_take (bare v.arch) (is_atomic_here (here_of v)) ≡ true
unfolding due_with take_due
stands_by v s effect t true q e h = q
stands_by v s effect t false q e h =
    let o = operands_of (here_of v) v.arch.regs in
    let n : take_due (here_of v) (bare v.arch) s ≡ None = ap (take_by (bare v.arch) s) q in
    let d : due v s ≡ due_by (here_of v) o (bare v.arch) v.memory s None v.arch.stopped = ap (λ t. due_by (here_of v) o (bare v.arch) v.memory s t v.arch.stopped) n in
    let u : took (option_to_list effect.action) ≡ None = subst NoTake (sym d ∙ e) (untaken v s v.arch.stopped) in
    let z : Some t ≡ None = ap (λ a. took (option_to_list a)) (sym h) ∙ u in
    cc

-- a take is done only where one may come
pub takes_stand : (v : View) (s : Shown) (effect : Effect) (t : Take) → due v s ≡ Does effect → effect.action ≡ Some (Took t) → may_take (bare v.arch) (is_atomic_here (here_of v)) ≡ true
takes_stand v s effect t e h = stands_by v s effect t (may_take (bare v.arch) (is_atomic_here (here_of v))) refl e h
