-- On a plain core no number of the past lies ahead, and nothing is early.
use Rattle.std.proofs.Common.{ℕ, ◌≡◌, ◌<◌, ◌≤◌, ◌+◌, ◌-◌, ◌==◌, unwrap_or, IfSome, ◌⊎◌, inl, inr, nat_lt, Bool, true, false, List, Option, Some, None, refl, sym, subst, ap, ◌∙◌, arith, length, max, slice_index, slice_set, if◌then◌else◌}
use Rattle.std.proofs.lemmas.List.{length-set, set-set, set_comm}
use Rattle.mb_decode.specs.declared.instruction.Instr.{Instr}
use Rattle.mb_decode.specs.Registers.{reads_a, reads_b, reads_d}
use Rattle.isa_step.specs.declared.acts.Act.{Act}
use Rattle.isa_step.specs.declared.acts.Act.TheVariants as acts
use Rattle.isa_step.specs.declared.acts.Done.{Done}
use Rattle.isa_step.specs.declared.acts.Here.{Here}
use Rattle.isa_step.specs.declared.acts.Store.{Store}
use Rattle.isa_step.specs.Requests.{late_at, latency_of}
use Rattle.op_table.specs.declared.kinds.Latency.{Latency}
use Rattle.op_table.specs.declared.kinds.Latency.TheVariants.{Single, Multiply, Load}
use Rattle.op_table.specs.Table.{kind_of}
use Rattle.timing_law.specs.declared.pipe.Pipe.{Pipe}
use Rattle.timing_law.specs.declared.pipe.Pipe.TheVariants.{Plain}
use Rattle.timing_law.specs.declared.pipe.Jump.TheVariants.{On, Taken, Struck}
use Rattle.timing_law.specs.Table.{extra_for, is_divide, is_memory, hold_of, late_of, ready_of, redirected, turn_of}
use Rattle.timing_law.specs.Past.{due_at, fresh, greatest_read, marked, operands_at, retired, used}
use Rattle.timing_law.specs.Passing.{instr_of, is_ahead, jump_of, passed_by, retired_here, strikes}
use Rattle.prepared_act.specs.declared.flow.Flow.{Flow}
use Rattle.prepared_act.specs.declared.flow.Flow.TheVariants as flow
use Rattle.prepared_act.specs.Prepared.{late_register, number_of}
use Rattle.prepared_act.specs.Retiring.{flow_by, flow_of}
use Rattle.core_iface.specs.Pace.{Times, led, moved, noted, stayed, stopped, turned, went, went_by}
use Rattle.core_iface.specs.PlainTimes.{IsPlain, times_of}
use Rattle.timing_law.proofs.Near.{set_within}
use Rattle.core_iface.proofs.Zeros.{zero_at}

pub new_is_plain : IsPlain (record { acts = 0; ticks = 0; past = fresh Plain })
new_is_plain = record {
  pipe = refl;
  first = refl;
  fewer = omega arith;
  registers = refl;
  next = omega arith;
  redirect = omega arith;
  ready = λ r. rw (zero_at 32 r) (omega arith);
}

pub stays_plain : (t : Times) → IsPlain t → IsPlain (stayed t)
stays_plain t h = record {
  pipe = h.pipe;
  first = h.first;
  fewer = omega (arith, h.fewer);
  registers = h.registers;
  next = omega (arith, h.next);
  redirect = omega (arith, h.redirect);
  ready = λ r. let le = h.ready r in omega (arith, le);
}

pub stops_plain : (t : Times) → IsPlain t → IsPlain (stopped t)
stops_plain t h = record {
  pipe = h.pipe;
  first = h.first;
  fewer = omega (arith, h.fewer);
  registers = h.registers;
  next = omega (arith, h.next);
  redirect = omega (arith, h.redirect);
  ready = λ r. let le = h.ready r in omega (arith, le);
}

pub turns_plain : (t : Times) → IsPlain t → IsPlain (turned t)
turns_plain t h = record {
  pipe = h.pipe;
  first = h.first;
  fewer = omega (arith, h.fewer);
  registers = h.registers;
  next = omega arith;
  redirect = omega arith;
  ready = λ r. let le = h.ready r in omega (arith, le);
}

noted_within : (late after : ℕ) (ready : List ℕ) → ((k : ℕ) → slice_index ready k ≤ after) → (t : Bool) → (late == 0) ≡ t → (r : ℕ) → slice_index (if t then ready else slice_set ready late after) r ≤ after
noted_within late after ready all true is r = all r
noted_within late after ready all false is r = set_within ready late after r after (omega arith) all _ refl

length_noted : (late after : ℕ) (ready : List ℕ) (t : Bool) → length (if t then ready else slice_set ready late after) ≡ length ready
length_noted late after ready true = refl
length_noted late after ready false = length-set ready late after

ahead_within : (b : Bool) (after before : ℕ) → before ≤ after → (if b then after else before) ≤ after
ahead_within true after before le = omega arith
ahead_within false after before le = le

led_within : (f : Flow) (pc after before : ℕ) → before ≤ after → led f pc after before ≤ after
led_within flow.On pc after before le = le
led_within flow.Jumped pc after before le = omega arith
led_within (flow.Stored addr) pc after before le = ahead_within (is_ahead addr pc) after before le

pub goes_plain : (late : ℕ) (f : Flow) (pc : ℕ) (t : Times) → IsPlain t → IsPlain (went late f pc t)
goes_plain late f pc t h = record {
  pipe = h.pipe;
  first = h.first;
  fewer = omega (arith, h.fewer);
  registers = length_noted late (t.ticks + 1) t.past.ready (late == 0) ∙ h.registers;
  next = omega arith;
  redirect = led_within f pc (t.ticks + 1) t.past.redirect (omega (arith, h.redirect));
  ready = λ r. noted_within late (t.ticks + 1) t.past.ready (λ k. let le = h.ready k in omega (arith, le)) (late == 0) refl r;
}

-- so they are the numbers of the table
one_of : (b : Bool) (n : ℕ) → (if b then n else n) ≡ n
one_of true n = refl
one_of false n = refl

one_ready : (l : Latency) → ready_of Plain l ≡ 1
one_ready Single = refl
one_ready Multiply = refl
one_ready Load = refl

noted_same : (rd at : ℕ) (l : Latency) (ready : List ℕ) (t : Bool) → (rd == 0) ≡ t
    → noted (number_of (if t then None else Some (record { reg = rd; latency = l }))) (at + 1) ready ≡ marked Plain at (if t then None else Some (record { reg = rd; latency = l })) ready
noted_same rd at l ready true is = refl
noted_same rd at l ready false is = rw (is, one_ready l) refl

noted_so : (rd at : ℕ) (o : Option Latency) (ready : List ℕ) → noted (number_of (late_at rd o)) (at + 1) ready ≡ marked Plain at (late_at rd o) ready
noted_so rd at None ready = refl
noted_so rd at (Some l) ready = noted_same rd at l ready _ refl

struck_so : (b : Bool) (at before : ℕ) → (if b then at + 1 else before) ≡ redirected Plain (if b then Struck else On) at before
struck_so true at before = refl
struck_so false at before = refl

led_so : (jumped : Bool) (store : Option Store) (pc at before : ℕ)
    → led (flow_by jumped store) pc (at + 1) before ≡ redirected Plain (if jumped then Taken else if strikes store pc then Struck else On) at before
led_so true store pc at before = refl
led_so false None pc at before = refl
led_so false (Some s) pc at before = struck_so (is_ahead s.addr pc) at before

retired_so : (i : Instr) (done : Done) (pc : ℕ) (t : Times) → t.past.pipe ≡ Plain
    → went (late_register i) (flow_of done) pc t ≡ record { acts = t.acts + 1; ticks = t.ticks + 1; past = retired i t.ticks (jump_of done pc) t.past }
retired_so i done pc t plain =
    let next : t.ticks + 1 ≡ t.ticks + hold_of t.past.pipe (kind_of i.op) = ap (λ (n : ℕ). t.ticks + n) (sym (ap (λ (p : Pipe). hold_of p (kind_of i.op)) plain ∙ one_of (is_memory (kind_of i.op)) 1)) in
    let ready : noted (late_register i) (t.ticks + 1) t.past.ready ≡ marked t.past.pipe t.ticks (late_of i) t.past.ready =
    noted_so i.rd t.ticks (latency_of (kind_of i.op)) t.past.ready ∙ sym (ap (λ (p : Pipe). marked p t.ticks (late_of i) t.past.ready) plain) in
    let redirect : led (flow_of done) pc (t.ticks + 1) t.past.redirect ≡ redirected t.past.pipe (jump_of done pc) t.ticks t.past.redirect =
    led_so done.jumped done.store pc t.ticks t.past.redirect ∙ sym (ap (λ (p : Pipe). redirected p (jump_of done pc) t.ticks t.past.redirect) plain) in
    λ k. record { acts = t.acts + 1; ticks = t.ticks + 1; past = record t.past { next = next k; ready = ready k; redirect = redirect k } }

-- an act whose word is known
pub went_so : (here : Option Here) (i : Instr) (done : Done) (late : ℕ) (f : Flow) (pc : ℕ) (t : Times) → t.past.pipe ≡ Plain
    → done.act ≡ acts.Retired → instr_of here ≡ Some i → late ≡ late_register i → f ≡ flow_of done → went late f pc t ≡ moved here done pc t
went_so here i done late f pc t plain act at is leads = rw (is, leads, act, at) (retired_so i done pc t plain)

went_by_so : (i : Option Instr) (done : Done) (pc : ℕ) (t : Times) → t.past.pipe ≡ Plain
    → went_by i (flow_of done) pc t ≡ record { acts = t.acts + 1; ticks = t.ticks + 1; past = retired_here i t.ticks (jump_of done pc) t.past }
went_by_so None done pc t plain = refl
went_by_so (Some i) done pc t plain = retired_so i done pc t plain

-- an act by what it is
abbrev pub passed : Act → Option Instr → Flow → ℕ → Times → Times
passed acts.Retired i f pc t = went_by i f pc t
passed acts.Slept i f pc t = went_by i f pc t
passed (acts.Took take) i f pc t = turned t
passed (acts.Raised esr) i f pc t = turned t
passed (acts.Stopped cause) i f pc t = stopped t

turned_so : (t : Times) → t.past.pipe ≡ Plain → turned t ≡ record { acts = t.acts + 1; ticks = t.ticks + 1; past = record t.past { next = t.ticks + 1; redirect = t.ticks + turn_of t.past.pipe } }
turned_so t plain = rw plain refl

passed_so : (act : Act) (i : Option Instr) (done : Done) (pc : ℕ) (t : Times) → t.past.pipe ≡ Plain
    → passed act i (flow_of done) pc t ≡ record { acts = t.acts + 1; ticks = t.ticks + 1; past = passed_by act i t.ticks (jump_of done pc) t.past }
passed_so acts.Retired i done pc t plain = went_by_so i done pc t plain
passed_so acts.Slept i done pc t plain = went_by_so i done pc t plain
passed_so (acts.Took take) i done pc t plain = turned_so t plain
passed_so (acts.Raised esr) i done pc t plain = turned_so t plain
passed_so (acts.Stopped cause) i done pc t plain = refl

pub moved_so : (here : Option Here) (done : Done) (pc : ℕ) (t : Times) → t.past.pipe ≡ Plain → passed done.act (instr_of here) (flow_of done) pc t ≡ moved here done pc t
moved_so here done pc t plain = passed_so done.act (instr_of here) done pc t plain

pub moved_either : (here : Option Here) (done : Done) (pc : ℕ) (t u : Times) → t.past.pipe ≡ Plain → (done.act ≡ acts.Retired) ⊎ (done.act ≡ acts.Slept)
    → u ≡ went_by (instr_of here) (flow_of done) pc t → u ≡ moved here done pc t
moved_either here done pc t u plain (inl is) times = times ∙ ap (λ (act : Act). passed act (instr_of here) (flow_of done) pc t) (sym is) ∙ moved_so here done pc t plain
moved_either here done pc t u plain (inr is) times = times ∙ ap (λ (act : Act). passed act (instr_of here) (flow_of done) pc t) (sym is) ∙ moved_so here done pc t plain

-- an instruction that retires right after another act
is_free : (free : Option ℕ) (ticks : ℕ) → IfSome free (λ tick. tick < ticks) → unwrap_or free ticks ≡ ticks → unwrap_or free (ticks + 1) ≡ ticks + 1
is_free None ticks past is = refl
is_free (Some tick) ticks past is = absurd (omega (arith, past, is))

set_first : (ready : List ℕ) (late after : ℕ) (t : Bool) → (late == 0) ≡ t → slice_set (slice_set ready late after) 0 0 ≡ (if t then slice_set ready 0 0 else slice_set (slice_set ready 0 0) late after)
set_first ready late after true is = let e : late ≡ 0 = grind (arith, is) in rw e (set-set ready 0 after 0)
set_first ready late after false is = set_comm ready late 0 after 0 (grind (arith, is))

goes_so : (ticks stays : ℕ) (free : Option ℕ) (before redirect : ℕ) (ready : List ℕ) (late : ℕ) (f : Flow) (pc : ℕ)
    → stays ≤ ticks → IfSome free (λ tick. tick < ticks) → unwrap_or free ticks ≡ ticks → redirect ≡ led f pc (ticks + 1) before
    → times_of (ticks + 1) stays free redirect (slice_set ready late (ticks + 1)) ≡ went late f pc (times_of ticks stays free before ready)
goes_so ticks stays free before redirect ready late f pc few past is leads =
    let acts : ticks + 1 - stays ≡ ticks - stays + 1 = omega (arith, few) in
    let next = is_free free ticks past is in
    let set = set_first ready late (ticks + 1) (late == 0) refl in
    λ k. record {
      acts = acts k;
      ticks = ticks + 1;
      past = record { pipe = Plain; first = 0; next = next k; ready = set k; redirect = leads k };
    }

pub go_so : (ticks stays : ℕ) (free : Option ℕ) (before redirect : ℕ) (ready : List ℕ) (late : ℕ) (f : Flow) (pc : ℕ) (t : Times) → times_of ticks stays free before ready ≡ t
    → stays ≤ ticks → IfSome free (λ tick. tick < ticks) → t.past.next ≡ t.ticks → redirect ≡ led f pc (ticks + 1) before
    → times_of (ticks + 1) stays free redirect (slice_set ready late (ticks + 1)) ≡ went late f pc t
go_so ticks stays free before redirect ready late f pc t is few past next leads =
    goes_so ticks stays free before redirect ready late f pc few past (subst (λ (u : Times). u.past.next ≡ u.ticks) (sym is) next) leads ∙ ap (went late f pc) is

-- so nothing is early
used_within : (reads : Bool) (n high : ℕ) → n ≤ high → used reads n ≤ high
used_within true n high le = le
used_within false n high le = omega arith

read_within : (i : Option Instr) (f : ℕ → ℕ) (high : ℕ) → ((r : ℕ) → f r ≤ high) → greatest_read i f ≤ high
read_within None f high all = omega arith
read_within (Some i) f high all =
    let a = used_within (reads_a i) (f i.ra) high (all i.ra) in
    let b = used_within (reads_b i) (f i.rb) high (all i.rb) in
    let d = used_within (reads_d i) (f i.rd) high (all i.rd) in
    omega (arith, a, b, d)

no_extra : (i : Option Instr) → extra_for Plain i ≡ 0
no_extra None = refl
no_extra (Some i) = one_of (is_divide (kind_of i.op)) 0

slot_within : (in_slot : Bool) (n high : ℕ) → n ≤ high → (if in_slot then 0 else n) ≤ high
slot_within true n high le = omega arith
slot_within false n high le = le

pub never_early : (i : Option Instr) (in_slot : Bool) (t : Times) → IsPlain t → nat_lt t.ticks (due_at t.past i in_slot) ≡ false
unfolding due_at operands_at
never_early i in_slot t h =
    let read = read_within i (λ r. slice_index t.past.ready r) t.ticks h.ready in
    let slot = slot_within in_slot t.past.redirect t.ticks h.redirect in
    let extra : extra_for t.past.pipe i ≡ 0 = ap (λ (p : Pipe). extra_for p i) h.pipe ∙ no_extra i in
    let le : max (max (max t.past.first (if in_slot then 0 else t.past.redirect)) t.past.next) (greatest_read i (λ r. slice_index t.past.ready r)) ≤ t.ticks = omega (arith, read, slot, h.first, h.next) in
    grind (arith, le, extra)
