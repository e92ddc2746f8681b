-- The rest that the cores join to is told by who is stopped and who waits.
use Rattle.std.proofs.Common.{◌≡◌, ℕ, zero, suc, ◌+◌, ◌<◌, length, Option, Some, None, refl, ap, sym, ◌∙◌, subst, inl, inr, ◌⊎◌, arith, slice_get, Bool, true, false, cond, ◌&&◌, ◌==◌, nat_lt}
use Rattle.std.specs.Option.{option_and_then}
use Rattle.std.proofs.lemmas.Option.{same_Some, slice_get_within}
use Rattle.core_regs.specs.declared.causes.StopCause.{StopCause}
use Rattle.core_regs.specs.declared.causes.WaitOn.{WaitOn}
use Rattle.isa_step.specs.declared.acts.Idle.{Idle}
use Rattle.isa_step.specs.declared.acts.Idle.TheVariants as idle
use Rattle.board_machine.specs.declared.events.Rest.{Rest}
use Rattle.board_machine.specs.declared.events.Rest.TheVariants.{Ended, Waiting, Stopped}
use Rattle.board_machine.specs.declared.events.RunEnd.{RunEnd}
use Rattle.board_machine.specs.declared.events.RunEnd.TheVariants.{Rest as AtRest, CyclesSpent, JournalFull}
use Rattle.board_machine.specs.Cycles.{end_at, end_of}
use Rattle.board_machine.specs.Fabric.{Fabric}
use Rattle.board_machine.specs.World.{CoreAt, World, need}
use Rattle.board_machine.specs.Resting.{IsRestBy, SomeStopped, SomeWaits, and_idle, idle_at, idle_here, is_outside_still, joined, rest_of, rest_to}
use Rattle.board_machine.proofs.Lists.{last_or_before}

-- one core more

IsLate : Rest → Type 0
IsLate r = (r ≡ Stopped) ⊎ (r ≡ Waiting)

join_stopped : (q : Rest) (i : Idle) → q ≡ Stopped → joined q i ≡ Stopped
join_stopped Stopped i e = refl
join_stopped Waiting i e = cc
join_stopped Ended i e = cc

join_stop : (q : Rest) (cause : StopCause) → joined q (idle.Stopped cause) ≡ Stopped
join_stop Stopped cause = refl
join_stop Waiting cause = refl
join_stop Ended cause = refl

join_waits : (q : Rest) (on : WaitOn) → IsLate (joined q (idle.Waits on))
unfolding IsLate
join_waits Stopped on = inl refl
join_waits Waiting on = inr refl
join_waits Ended on = inr refl

waiting_joins : (i : Idle) → IsLate (joined Waiting i)
unfolding IsLate
waiting_joins (idle.Stopped cause) = inl refl
waiting_joins _ = inr refl

join_late : (q : Rest) (i : Idle) → IsLate q → IsLate (joined q i)
unfolding IsLate
join_late Stopped i h = inl refl
join_late Waiting i h = waiting_joins i
join_late Ended i (inl e) = cc
join_late Ended i (inr e) = cc

stopped_by : (q : Rest) (i : Idle) → joined q i ≡ Stopped → (q ≡ Stopped) ⊎ ((cause : StopCause) × (i ≡ idle.Stopped cause))
stopped_by Stopped i e = inl refl
stopped_by Waiting (idle.Stopped cause) e = inr (cause, refl)
stopped_by Waiting (idle.Waits on) e = cc
stopped_by Waiting idle.Ended e = cc
stopped_by Waiting idle.Asleep e = cc
stopped_by Ended (idle.Stopped cause) e = inr (cause, refl)
stopped_by Ended (idle.Waits on) e = cc
stopped_by Ended idle.Ended e = cc
stopped_by Ended idle.Asleep e = cc

waiting_by : (q : Rest) (i : Idle) → joined q i ≡ Waiting → (q ≡ Waiting) ⊎ ((on : WaitOn) × (i ≡ idle.Waits on))
waiting_by Stopped i e = cc
waiting_by Waiting i e = inl refl
waiting_by Ended (idle.Stopped cause) e = cc
waiting_by Ended (idle.Waits on) e = inr (on, refl)
waiting_by Ended idle.Ended e = cc
waiting_by Ended idle.Asleep e = cc

-- the first cores

record IsTold (w : World) (n : ℕ) (r : Rest) : Type 0 where
  stops : (k : ℕ) (cause : StopCause) → k < n → idle_at w k ≡ Some (idle.Stopped cause) → r ≡ Stopped
  late : (k : ℕ) (on : WaitOn) → k < n → idle_at w k ≡ Some (idle.Waits on) → IsLate r
  stopped : r ≡ Stopped → SomeStopped w
  waits : r ≡ Waiting → SomeWaits w

record IsJoined (o : Option Idle) (p : Option Rest) (r : Rest) : Type 0 where
  why : Idle
  before : Rest
  idle_is : o ≡ Some why
  rest_is : p ≡ Some before
  joins : joined before why ≡ r

and_idle_joins : (o : Option Idle) (p : Option Rest) (r : Rest) → option_and_then (and_idle o) p ≡ Some r → IsJoined o p r
and_idle_joins None None r e = cc
and_idle_joins None (Some q) r e = cc
and_idle_joins (Some i) None r e = cc
and_idle_joins (Some i) (Some q) r e = record { why = i; before = q; idle_is = refl; rest_is = refl; joins = same_Some _ _ e }

stops_more : (w : World) (n k : ℕ) (q : Rest) (i : Idle) (cause : StopCause) → IsTold w n q → idle_at w n ≡ Some i → idle_at w k ≡ Some (idle.Stopped cause) → (k ≡ n) ⊎ (k < n) → joined q i ≡ Stopped
stops_more w n k q i cause t a e (inl h) =
    let same : i ≡ idle.Stopped cause = same_Some _ _ (sym a ∙ ap (idle_at w) (sym h) ∙ e) in
    ap (joined q) same ∙ join_stop q cause
stops_more w n k q i cause t a e (inr h) = join_stopped q i (t.stops k cause h e)

late_more : (w : World) (n k : ℕ) (q : Rest) (i : Idle) (on : WaitOn) → IsTold w n q → idle_at w n ≡ Some i → idle_at w k ≡ Some (idle.Waits on) → (k ≡ n) ⊎ (k < n) → IsLate (joined q i)
late_more w n k q i on t a e (inl h) =
    let same : i ≡ idle.Waits on = same_Some _ _ (sym a ∙ ap (idle_at w) (sym h) ∙ e) in
    subst (λ i. IsLate (joined q i)) (sym same) (join_waits q on)
late_more w n k q i on t a e (inr h) = join_late q i (t.late k on h e)

stopped_more : (w : World) (n : ℕ) (q : Rest) (i : Idle) → IsTold w n q → idle_at w n ≡ Some i → (q ≡ Stopped) ⊎ ((cause : StopCause) × (i ≡ idle.Stopped cause)) → SomeStopped w
stopped_more w n q i t a (inl e) = t.stopped e
stopped_more w n q i t a (inr e) = record { core = n; cause = e.0; idle_is = a ∙ ap Some e.1 }

waits_more : (w : World) (n : ℕ) (q : Rest) (i : Idle) → IsTold w n q → idle_at w n ≡ Some i → (q ≡ Waiting) ⊎ ((on : WaitOn) × (i ≡ idle.Waits on)) → SomeWaits w
waits_more w n q i t a (inl e) = t.waits e
waits_more w n q i t a (inr e) = record { core = n; on = e.0; idle_is = a ∙ ap Some e.1 }

told_more : (w : World) (n : ℕ) (q : Rest) (i : Idle) → IsTold w n q → idle_at w n ≡ Some i → IsTold w (suc n) (joined q i)
told_more w n q i t a = record {
  stops = λ k cause l e. stops_more w n k q i cause t a e (last_or_before k n l);
  late = λ k on l e. late_more w n k q i on t a e (last_or_before k n l);
  stopped = λ e. stopped_more w n q i t a (stopped_by q i e);
  waits = λ e. waits_more w n q i t a (waiting_by q i e);
}

told_to : (w : World) (n : ℕ) (r : Rest) → rest_to w n ≡ Some r → IsTold w n r
told_to w zero r e =
    let first : Ended ≡ r = same_Some _ _ e in
    subst (IsTold w 0) first (record {
      stops = λ k cause l q. absurd (omega (arith, l));
      late = λ k on l q. absurd (omega (arith, l));
      stopped = λ q. cc;
      waits = λ q. cc;
    })
told_to w (suc n) r e =
    let j = and_idle_joins (idle_at w n) (rest_to w n) r e in
    subst (IsTold w (suc n)) j.joins (told_more w n j.before j.why (told_to w n j.before j.rest_is) j.idle_is)

-- all cores

idle_there : (f : Fabric) (k : ℕ) (o : Option CoreAt) (why : Idle) → idle_here f k o ≡ Some why → (s : CoreAt) × (o ≡ Some s)
idle_there f k None why e = cc
idle_there f k (Some s) why e = (s, refl)

within : (w : World) (k : ℕ) (why : Idle) → idle_at w k ≡ Some why → k < length w.cores
within w k why e = let s = idle_there w.fabric k (slice_get w.cores k) why e in slice_get_within w.cores k s.0 s.1

waits_unless : (w : World) (r : Rest) → IsTold w (length w.cores) r → IsLate r → (SomeStopped w → ⊥) → r ≡ Waiting
unfolding IsLate
waits_unless w r t (inl e) n = absurd (n (t.stopped e))
waits_unless w r t (inr e) n = e

ended_unless : (w : World) (r : Rest) → IsTold w (length w.cores) r → (SomeWaits w → ⊥) → (SomeStopped w → ⊥) → r ≡ Ended
ended_unless w Stopped t a b = absurd (b (t.stopped refl))
ended_unless w Waiting t a b = absurd (a (t.waits refl))
ended_unless w Ended t a b = refl

not_late : (r : Rest) → r ≡ Ended → IsLate r → ⊥
unfolding IsLate
not_late r e (inl h) = cc
not_late r e (inr h) = cc

not_stopped : (r : Rest) → r ≡ Waiting → r ≡ Stopped → ⊥
not_stopped r e h = cc

not_both : (r : Rest) → r ≡ Ended → r ≡ Stopped → ⊥
not_both r e h = cc

told_by : (w : World) (r : Rest) → IsTold w (length w.cores) r → IsRestBy w r
told_by w r t = record {
  stopped = (t.stopped, λ s. t.stops s.core s.cause (within w s.core _ s.idle_is) s.idle_is);
  waiting = (
    λ e. (t.waits e, λ s. not_stopped r e (t.stops s.core s.cause (within w s.core _ s.idle_is) s.idle_is)),
    λ p. let s = p.0 in waits_unless w r t (t.late s.core s.on (within w s.core _ s.idle_is) s.idle_is) p.1,
  );
  ended = (
    λ e. (λ s. not_late r e (t.late s.core s.on (within w s.core _ s.idle_is) s.idle_is), λ s. not_both r e (t.stops s.core s.cause (within w s.core _ s.idle_is) s.idle_is)),
    λ p. ended_unless w r t p.0 p.1,
  );
}

rest_to_by : (w : World) (quiet : Bool) (r : Rest) → cond quiet (rest_to w (length w.cores)) None ≡ Some r → rest_to w (length w.cores) ≡ Some r
rest_to_by w true r e = e
rest_to_by w false r e = cc

pub rest_by : (w : World) (r : Rest) → rest_of w ≡ Some r → IsRestBy w r
rest_by w r e = told_by w r (told_to w (length w.cores) r (rest_to_by w (is_outside_still w.fabric) r e))

-- the end of a run

no_rest : (spent full : Bool) (r : Rest) → cond spent (Some CyclesSpent) (cond full (Some JournalFull) None) ≡ Some (AtRest r) → None ≡ Some r
no_rest true full r e = cc
no_rest false true r e = cc
no_rest false false r e = cc

rest_or : Rest → Option RunEnd → Rest
rest_or r (Some (AtRest q)) = q
rest_or r _ = r

rest_ended : (limit : ℕ) (w : World) (o : Option Rest) (r : Rest) → end_of limit w o ≡ Some (AtRest r) → o ≡ Some r
unfolding rest_or
rest_ended limit w (Some q) r e = ap (λ x. Some (rest_or r x)) e
rest_ended limit w None r e = no_rest (w.fabric.cycle == limit) (nat_lt w.fabric.spare (need w)) r e

-- a run that ends at rest
pub ends_by : (limit : ℕ) (w : World) (r : Rest) → end_at limit w ≡ Some (AtRest r) → IsRestBy w r
ends_by limit w r e = rest_by w r (rest_ended limit w (rest_of w) r e)
