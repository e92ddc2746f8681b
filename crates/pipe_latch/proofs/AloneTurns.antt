-- The ticks of a core with stages that are done at once.
use Rattle.std.proofs.Common.{ℕ, ◌≡◌, ◌<◌, ◌+◌, ◌-◌, ◌==◌, ◌++◌, Bool, true, false, List, Option, Some, None, refl, sym, ap, ◌∙◌, subst, arith, length, if◌then◌else◌}
use Rattle.std.specs.Prelude.{is_some}
use Rattle.core_regs.specs.declared.registers.Arch.{Arch}
use Rattle.core_regs.specs.State.{bare, reg, write_of, written}
use Rattle.mb_decode.specs.declared.instruction.Instr.{Instr}
use Rattle.isa_step.specs.declared.acts.Act.TheVariants as acts
use Rattle.isa_step.specs.declared.acts.Done.{Done}
use Rattle.isa_step.specs.declared.acts.Here.{Here}
use Rattle.isa_step.specs.declared.acts.Store.{Store}
use Rattle.isa_step.specs.Effects.{Effect, Due, Does, Waits, Sleeps, Ends, Stops, View, after}
use Rattle.isa_step.specs.Due.{due_with, here_at, met}
use Rattle.isa_step.specs.Requests.{operands_of}
use Rattle.prepared_act.specs.declared.flow.Flow.{Flow}
use Rattle.prepared_act.specs.declared.prepared.Prepared.{Prepared}
use Rattle.prepared_act.specs.Prepared.{result_register}
use Rattle.prepared_act.specs.Retiring.{IsRetired, Retires, RetiresDue, flow_by, flow_of, view_of}
use Rattle.prepared_act.proofs.Results.{inner_writes}
use Rattle.timing_law.specs.declared.pipe.Jump.TheVariants.{On, Taken, Struck}
use Rattle.timing_law.specs.Past.{retired}
use Rattle.timing_law.specs.Passing.{instr_of, past_after, strikes}
use Rattle.core_iface.specs.declared.Flight.{Flight}
use Rattle.core_iface.specs.Cores.{CoreState}
use Rattle.core_iface.specs.Flights.{begun, file_aged, flights_aged}
use Rattle.core_iface.specs.Ticks as ticks
use Rattle.core_iface.specs.Words.{IsAt, goes_on}
use Rattle.core_iface.proofs.Doing.{fills_alone}
use Rattle.pipe_latch.specs.Clocks.{Clocked, IsSet, filled, holds, jump_by, left_later, set, went}
use Rattle.pipe_latch.specs.Staged.{staged}
use Rattle.pipe_latch.proofs.Leaving.{known}
use Rattle.pipe_latch.proofs.StagedTurns.{Ages, holds_early, staged_ticked}

-- a tick passes before the act that is due
pub staged_fills_alone : (a : Arch) (m : List ℕ) (fl fs : List Flight) (file later : List ℕ) (d : ℕ) (t u : Clocked)
    → Ages file later fl fs d t → IsSet t (instr_of (here_at (bare a) m)) (is_some a.slot) → holds t ≡ true → u ≡ filled t → 0 < t.slack
    → a.stopped ≡ None → a.asleep ≡ false → goes_on (here_at (bare a) m) ≡ true
    → ticks.TicksAlone (staged a file m fl t) (staged a later m fs u)
staged_fills_alone a m fl fs file later d t u ages is_set held fill less runs up goes =
    subst (λ (w : Clocked). ticks.TicksAlone (staged a file m fl t) (staged a later m fs w)) (sym fill)
    (fills_alone (staged a file m fl t) (staged a later m fs (filled t)) runs up goes (sym (holds_early a m file fl t is_set) ∙ held) (omega (arith, less))
    (staged_ticked a a m m fl fs file later d (t.slack - 1) (t.wait - 1) (left_later t) t refl refl ages))

-- where an instruction leads is told by its flow
jump_so : (jumped : Bool) (store : Option Store) (pc : ℕ) → jump_by (flow_by jumped store) pc ≡ (if jumped then Taken else if strikes store pc then Struck else On)
jump_so true store pc = refl
jump_so false None pc = refl
jump_so false (Some s) pc = refl

past_so : (here : Option Here) (i : Instr) (done : Done) (flow : Flow) (pc at : ℕ) (x : _) → done.act ≡ acts.Retired → instr_of here ≡ Some i → flow ≡ flow_of done
    → retired i at (jump_by flow pc) x ≡ past_after here done pc at x
past_so here i done flow pc at x act meant leads = rw (act, meant, leads) (ap (λ jump. retired i at jump x) (jump_so done.jumped done.store pc))

-- an act
acted_of : (dep : ℕ) (w : Prepared) (flow : Flow) (a b : Arch) (m n : List ℕ) (fl fs gs : List Flight) (file later : List ℕ) (d : ℕ) (t : Clocked) (effect : Effect)
    → IsRetired effect flow (view_of a m) (view_of b n) → Ages file later fl fs d t → gs ≡ fs ++ begun effect.done.write → instr_of (here_at (bare a) m) ≡ Some w.instr
    → staged b later n gs (went w.instr flow b.pc t) ≡ ticks.acted (staged a file m fl t) effect 63
acted_of dep w flow a b m n fl fs gs file later d t effect h ages begin meant =
    let in_either : ℕ → Bool → CoreState = λ deep zero. record {
      view = after (record { arch = a; memory = m }) effect;
      acts = t.acts + 1;
      ticks = t.ticks + 1;
      slack = 63;
      file = if zero then written effect.done.write (file_aged deep fl file) else file_aged deep fl file;
      flights = if zero then flights_aged deep fl else flights_aged deep fl ++ begun effect.done.write;
      past = past_after (here_at (bare a) m) effect.done effect.arch.pc t.ticks t.past;
    } in
    let in_depth : ℕ → CoreState = λ deep. in_either deep (deep == 0) in
    let pc : b.pc ≡ effect.arch.pc = ap (λ (v : View). v.arch.pc) h.view in
    let past : retired w.instr t.ticks (jump_by flow b.pc) t.past ≡ past_after (here_at (bare a) m) effect.done effect.arch.pc t.ticks t.past =
    past_so (here_at (bare a) m) w.instr effect.done flow b.pc t.ticks t.past h.retired meant h.leads ∙ ap (λ k. past_after (here_at (bare a) m) effect.done k t.ticks t.past) pc in
    let first : staged b later n gs (went w.instr flow b.pc t) ≡ in_either d false = λ k. record {
      view = h.view k;
      acts = t.acts + 1;
      ticks = t.ticks + 1;
      slack = 63;
      file = ages.file k;
      flights = (begin ∙ ap (λ xs. xs ++ begun effect.done.write) ages.flights) k;
      past = past k;
    } in
    first ∙ sym (ap (in_either d) ages.deep) ∙ sym (ap in_depth ages.depth)

alone_of : (due : Due) (w : Prepared) (flow : Flow) (a b : Arch) (m n : List ℕ) (fl fs gs : List Flight) (file later : List ℕ) (d : ℕ) (t : Clocked)
    → RetiresDue due flow (view_of a m) (view_of b n) → Ages file later fl fs d t → ((effect : Effect) → due ≡ Does effect → gs ≡ fs ++ begun effect.done.write) → instr_of (here_at (bare a) m) ≡ Some w.instr
    → ticks.AloneOf due false (staged a file m fl t) (staged b later n gs (went w.instr flow b.pc t))
alone_of (Does effect) w flow a b m n fl fs gs file later d t h ages begin meant = (
  h.alone,
  h.retired,
  omega arith,
  acted_of d w flow a b m n fl fs gs file later d t effect h ages (begin effect refl) meant,
)
alone_of (Waits port full) w flow a b m n fl fs gs file later d t h ages begin meant = absurd h
alone_of Sleeps w flow a b m n fl fs gs file later d t h ages begin meant = absurd h
alone_of Ends w flow a b m n fl fs gs file later d t h ages begin meant = absurd h
alone_of (Stops cause) w flow a b m n fl fs gs file later d t h ages begin meant = absurd h

pub staged_acts_alone : (w : Prepared) (flow : Flow) (a b : Arch) (m n : List ℕ) (fl fs gs : List Flight) (file later : List ℕ) (d : ℕ) (i : Option Instr) (in_slot : Bool) (t u v : Clocked)
    → IsAt w a m → Retires (met (Some w.word)) a m flow b n → length a.regs ≡ 32
    → Ages file later fl fs d t → IsSet t (instr_of (here_at (bare a) m)) (is_some a.slot) → holds t ≡ false
    → gs ≡ fs ++ begun (write_of w.result (reg b.regs w.result)) → u ≡ went w.instr flow b.pc t → v ≡ set i in_slot u
    → ticks.TicksAlone (staged a file m fl t) (staged b later n gs v)
staged_acts_alone w flow a b m n fl fs gs file later d i in_slot t u v at h long ages is_set held begin goes sets =
    let inner = w.inner at.suits.inner in
    let means = known w a at.suits in
    let here : here_at (bare a) m ≡ Some (record { word = w.word; instr = Some w.instr }) = at.here ∙ means in
    subst (λ (x : Clocked). ticks.TicksAlone (staged a file m fl t) (staged b later n gs x)) (sym (sets ∙ ap (set i in_slot) goes))
    (record {
      does = λ s calm.
          let due_here : Option Here → Due = λ x. due_with x (operands_of x a.regs) (bare a) m s in
          let done : RetiresDue (due_here (Some (record { word = w.word; instr = Some w.instr }))) flow (view_of a m) (view_of b n) = subst (λ (x : Option Here). RetiresDue (due_here x) flow (view_of a m) (view_of b n)) means (h.does s calm) in
          let wrote : (effect : Effect) → due_here (here_at (bare a) m) ≡ Does effect → gs ≡ fs ++ begun effect.done.write = λ effect is.
          begin ∙ ap (λ x. fs ++ begun x) (sym (inner_writes w.instr w.word a b m n flow s effect w.result inner calm done (sym (ap due_here here) ∙ is)
          (w.result_met ∙ ap (λ k. result_register k w.instr.rd) w.kind_met) (subst (λ k. w.result < k) (sym long) w.result_named))) in
          subst (λ early. ticks.AloneOf (due_here (here_at (bare a) m)) early (staged a file m fl t) (staged b later n gs (went w.instr flow b.pc t)))
          (sym held ∙ holds_early a m file fl t is_set)
          (alone_of (due_here (here_at (bare a) m)) w flow a b m n fl fs gs file later d t
          (subst (λ (x : Option Here). RetiresDue (due_here x) flow (view_of a m) (view_of b n)) (sym here) done) ages wrote (ap instr_of here));
    })
