-- A core of a network board is a Kahn process: what it does next, its view decides, and the answer of one port alone.
use Rattle.std.specs.Prelude.{◌≡◌, ℕ, Bool, true, false, List, Option, Some, None, if◌then◌else◌}
use Rattle.std.proofs.Common.{refl, ap, sym, subst}
use Rattle.axi_link.specs.declared.item.Item.{Item}
use Rattle.core_regs.specs.declared.registers.Arch.{Arch}
use Rattle.core_regs.specs.declared.causes.StopCause.{StopCause}
use Rattle.core_regs.specs.State.{bare}
use Rattle.delay_imm.specs.Slots.{may_take}
use Rattle.isa_step.specs.declared.acts.Action.{Action}
use Rattle.isa_step.specs.declared.acts.Action.TheVariants.{Got, Sent, Seen, Room, Missed, Read, ReadRefused, Wrote, WriteRefused, Took}
use Rattle.isa_step.specs.declared.acts.Here.{Here}
use Rattle.isa_step.specs.declared.acts.Operands.{Operands}
use Rattle.isa_step.specs.Effects.{View, Effect, Due, Does, Ends, Request, Goes, HaltLoop, Gets, Puts, Reads, Writes}
use Rattle.isa_step.specs.Due.{awake, by_item, by_room, due, due_by, due_with, here_of, is_closed, reply, take_by, take_due}
use Rattle.isa_step.specs.Requests.{is_atomic_here, operands_of, requested}
use Rattle.net_law.specs.Network.{calm}
use Rattle.net_law.proofs.Steady.{GotFrom, SentTo, Steady, requested_steady}

no_take_by : (a : Arch) (f : ℕ → Option Item) (r : ℕ → Bool) (may : Bool) → take_by a (calm f r) may ≡ None
no_take_by a f r true = refl
no_take_by a f r false = refl

no_take : (here : Option Here) (a : Arch) (f : ℕ → Option Item) (r : ℕ → Bool) → take_due here a (calm f r) ≡ None
unfolding take_due
no_take here a f r = no_take_by a f r (may_take a (is_atomic_here here))

-- what the act that is due does at the ports of a network core
abbrev pub IsOffered : (ℕ → Option Item) → Option Action → Type 0
IsOffered f (Some (Got p y)) = f p ≡ Some y
IsOffered f (Some (Took t)) = ⊥
IsOffered f _ = Unit {0}

-- an act that stays as it is when the ports have more to give, leaves the mark, and does what the ports showed
pub record IsProcess (mark : Bool) (f g : ℕ → Option Item) (effect : Effect) (later : Due) : Type 0 where
  pub again : later ≡ Does effect
  pub mark_stays : effect.arch.network ≡ mark
  pub moves : IsOffered f effect.action

abbrev More : (ℕ → Option Item) → (ℕ → Option Item) → Type 0
More f g = (port : ℕ) (x : Item) → f port ≡ Some x → g port ≡ Some x

abbrev Roomier : (ℕ → Bool) → (ℕ → Bool) → Type 0
Roomier r q = (port : ℕ) → r port ≡ true → q port ≡ true

-- the outcome may be no act
abbrev Processed : Bool → (ℕ → Option Item) → (ℕ → Option Item) → Due → Due → Type 0
Processed mark f g (Does effect) later = IsProcess mark f g effect later
Processed mark f g _ later = Unit {0}

got_offered : (f : ℕ → Option Item) (port : ℕ) (x : Item) (o : Option Action) → f port ≡ Some x → GotFrom port x o → IsOffered f o
got_offered f port x (Some (Got p y)) e h = rw (h.0, h.1) e
got_offered f port x (Some (Seen p y)) e h = tt
got_offered f port x None e h = tt
got_offered f port x (Some (Took t)) e h = h
got_offered f port x (Some (Sent p y)) e h = tt
got_offered f port x (Some (Room p)) e h = tt
got_offered f port x (Some (Missed p t)) e h = tt
got_offered f port x (Some (Read p y)) e h = tt
got_offered f port x (Some (ReadRefused p)) e h = tt
got_offered f port x (Some (Wrote p y)) e h = tt
got_offered f port x (Some (WriteRefused p y)) e h = tt

sent_offered : (f : ℕ → Option Item) (port : ℕ) (o : Option Action) → SentTo port o → IsOffered f o
sent_offered f port (Some (Got p y)) h = absurd h
sent_offered f port (Some (Took t)) h = h
sent_offered f port None h = tt
sent_offered f port (Some (Seen p y)) h = tt
sent_offered f port (Some (Sent p y)) h = tt
sent_offered f port (Some (Room p)) h = tt
sent_offered f port (Some (Missed p t)) h = tt
sent_offered f port (Some (Read p y)) h = tt
sent_offered f port (Some (ReadRefused p)) h = tt
sent_offered f port (Some (Wrote p y)) h = tt
sent_offered f port (Some (WriteRefused p y)) h = tt

none_offered : (f : ℕ → Option Item) (o : Option Action) → o ≡ None → IsOffered f o
none_offered f o e = subst (IsOffered f) (sym e) tt

item_processed : (mark : Bool) (f g : ℕ → Option Item) (port : ℕ) (item : Item → Effect) (empty : Option Effect) (o : Option Item) → Steady mark (Gets port item empty) → More f g → f port ≡ o → Processed mark f g (by_item port item empty o) (by_item port item empty (g port))
item_processed mark f g port item empty (Some x) h more e = record {
  again = ap (by_item port item empty) (more port x e);
  mark_stays = h.0 x;
  moves = got_offered f port x (item x).action e (h.1 x);
}
item_processed mark f g port item empty None h more e = rw h.2 tt

room_processed : (mark : Bool) (f g : ℕ → Option Item) (r q : ℕ → Bool) (port : ℕ) (room : Effect) (full : Option Effect) (t : Bool) → Steady mark (Puts port room full) → Roomier r q → r port ≡ t → Processed mark f g (by_room port room full t) (by_room port room full (q port))
room_processed mark f g r q port room full true h more e = record {
  again = ap (by_room port room full) (more port e);
  mark_stays = h.0;
  moves = sent_offered f port room.action h.1;
}
room_processed mark f g r q port room full false h more e = rw h.2 tt

halt_loop_processed : (mark : Bool) (f g : ℕ → Option Item) (d : Effect) (t : Bool) → d.arch.network ≡ mark → d.action ≡ None → Processed mark f g (if t then Ends else Does d) (if t then Ends else Does d)
halt_loop_processed mark f g d true h e = tt
halt_loop_processed mark f g d false h e = record { again = refl; mark_stays = h; moves = none_offered f d.action e }

refused_offered : (f : ℕ → Option Item) (o : Option Action) (addr : ℕ) → o ≡ Some (ReadRefused addr) → IsOffered f o
refused_offered f o addr e = subst (IsOffered f) (sym e) tt

unwritten_offered : (f : ℕ → Option Item) (o : Option Action) (addr word : ℕ) → o ≡ Some (WriteRefused addr word) → IsOffered f o
unwritten_offered f o addr word e = subst (IsOffered f) (sym e) tt

reply_processed : (a : Arch) (mark : Bool) (f g : ℕ → Option Item) (r q : ℕ → Bool) (w : Request) → Steady mark w → More f g → Roomier r q → Processed mark f g (reply a w (calm f r)) (reply a w (calm g q))
reply_processed a mark f g r q (Goes d) h more roomier = record { again = refl; mark_stays = h.0; moves = none_offered f d.action h.1 }
reply_processed a mark f g r q (HaltLoop d) h more roomier = halt_loop_processed mark f g d (is_closed a (calm f r).hopes) h.0 h.1
reply_processed a mark f g r q (Gets port item empty) h more roomier = item_processed mark f g port item empty (f port) h more refl
reply_processed a mark f g r q (Puts port room full) h more roomier = room_processed mark f g r q port room full (r port) h roomier refl
reply_processed a mark f g r q (Reads addr answer) h more roomier = record { again = refl; mark_stays = h.0; moves = refused_offered f (answer None).action addr h.1 }
reply_processed a mark f g r q (Writes addr word answer) h more roomier = record { again = refl; mark_stays = h.0; moves = unwritten_offered f (answer false).action addr word h.1 }

awake_processed : (here : Option Here) (o : Operands) (a : Arch) (m : List ℕ) (f g : ℕ → Option Item) (r q : ℕ → Bool) (asleep : Bool) → a.network ≡ true → More f g → Roomier r q → Processed a.network f g (awake here o a m (calm f r) asleep) (awake here o a m (calm g q) asleep)
awake_processed here o a m f g r q true h more roomier = tt
awake_processed here o a m f g r q false h more roomier = reply_processed a a.network f g r q (requested here o a m) (requested_steady here o a m h) more roomier

stop_processed : (here : Option Here) (o : Operands) (a : Arch) (m : List ℕ) (f g : ℕ → Option Item) (r q : ℕ → Bool) (stopped : Option StopCause) → a.network ≡ true → More f g → Roomier r q → Processed a.network f g (due_by here o a m (calm f r) (take_due here a (calm f r)) stopped) (due_by here o a m (calm g q) (take_due here a (calm g q)) stopped)
stop_processed here o a m f g r q (Some cause) h more roomier = tt
stop_processed here o a m f g r q None h more roomier = rw (no_take here a f r, no_take here a g q) (awake_processed here o a m f g r q a.asleep h more roomier)

due_processed : (v : View) (f g : ℕ → Option Item) (r q : ℕ → Bool) → v.arch.network ≡ true → More f g → Roomier r q → Processed v.arch.network f g (due v (calm f r)) (due v (calm g q))
unfolding due_with
due_processed v f g r q h more roomier = stop_processed (here_of v) (operands_of (here_of v) v.arch.regs) (bare v.arch) v.memory f g r q v.arch.stopped h more roomier

pub is_process : (v : View) (f g : ℕ → Option Item) (r q : ℕ → Bool) (effect : Effect) → v.arch.network ≡ true → More f g → Roomier r q → due v (calm f r) ≡ Does effect → IsProcess v.arch.network f g effect (due v (calm g q))
is_process v f g r q effect h more roomier e = subst (λ d. Processed v.arch.network f g d (due v (calm g q))) e (due_processed v f g r q h more roomier)
