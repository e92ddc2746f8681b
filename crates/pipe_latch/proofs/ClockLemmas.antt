-- The counters of the stages tell exactly when an instruction is due.
use Rattle.std.proofs.Common.{ℕ, ◌≡◌, ◌<◌, ◌≤◌, ◌+◌, ◌-◌, ◌||◌, nat_lt, Bool, true, Option, Some, refl, sym, ap, subst, ◌∙◌, arith, if◌then◌else◌}
use Rattle.mb_decode.specs.declared.instruction.Instr.{Instr}
use Rattle.isa_step.specs.declared.acts.Done.{Done}
use Rattle.isa_step.specs.declared.acts.Here.{Here}
use Rattle.op_table.specs.Table.{kind_of}
use Rattle.timing_law.specs.declared.pipe.Pipe.{Pipe}
use Rattle.timing_law.specs.declared.pipe.Jump.{Jump}
use Rattle.timing_law.specs.declared.past.Past.{Past}
use Rattle.timing_law.specs.Table.{extra_for, extra_of, first_of}
use Rattle.timing_law.specs.Near.{IsBefore}
use Rattle.timing_law.proofs.Near.{begins_near, fresh_near, later, passed_near, retired_near}
use Rattle.timing_law.specs.Past.{begins_at, due_at, fresh, retired}
use Rattle.timing_law.specs.Passing.{instr_of, jump_of, past_after}
use Rattle.op_table.specs.declared.kinds.Kind.{Kind}
use Rattle.op_table.specs.declared.kinds.Kind.TheVariants.{Divide}
use Rattle.prepared_act.specs.declared.prepared.Prepared.{Prepared}
use Rattle.prepared_act.specs.Prepared.{is_inner}
use Rattle.pipe_latch.specs.Clocks.{Clocked, IsSet, IsTimed, filled, holds, left_later, loaded, set, stayed}

-- the counters tell whether an instruction is due
due_by : (t b w l e : ℕ) → w ≡ b - t → l ≡ e - (t - b) → (nat_lt 0 w || nat_lt 0 l) ≡ nat_lt t (b + e)
due_by t b w l e wait left = grind (arith, wait, left)

pub holds_so : (t : Clocked) (i : Option Instr) (in_slot : Bool) → IsSet t i in_slot → holds t ≡ nat_lt t.ticks (due_at t.past i in_slot)
unfolding due_at
holds_so t i in_slot h = due_by t.ticks (begins_at t.past i in_slot) t.wait t.left (extra_for t.past.pipe i) h.wait h.left

-- a tick passes
step_by : (t b w l e : ℕ) → w ≡ b - t → l ≡ e - (t - b) → (if nat_lt 0 w then l else l - 1) ≡ e - ((t + 1) - b)
step_by t b w l e wait left = grind (arith, wait, left)

pub stays_set : (t : Clocked) (i : Option Instr) (in_slot : Bool) → IsSet t i in_slot → IsSet (stayed t) i in_slot
stays_set t i in_slot h = record {
  wait = omega (arith, h.wait);
  left = step_by t.ticks (begins_at t.past i in_slot) t.wait t.left (extra_for t.past.pipe i) h.wait h.left;
}

pub fills_set : (t : Clocked) (i : Option Instr) (in_slot : Bool) → IsSet t i in_slot → IsSet (filled t) i in_slot
fills_set t i in_slot h = let s = stays_set t i in_slot h in record { wait = s.wait; left = s.left }

pub begins_set : (t : Clocked) (i : Option Instr) (in_slot : Bool) → IsSet (set i in_slot t) i in_slot
begins_set t i in_slot = record { wait = refl; left = refl }

covers_by : (wait left slack : ℕ) → wait + left ≤ slack → wait - 1 + (if nat_lt 0 wait then left else left - 1) ≤ slack
covers_by wait left slack le = grind (arith, le)

pub stays_covered : (t : Clocked) → IsTimed t → t.wait - 1 + left_later t ≤ t.slack
stays_covered t h = covers_by t.wait t.left t.slack h.covered

fewer_by : (wait left slack : ℕ) → (nat_lt 0 wait || nat_lt 0 left) ≡ true → wait + left ≤ slack
    → (0 < slack) × (wait - 1 + (if nat_lt 0 wait then left else left - 1) ≤ slack - 1)
fewer_by wait left slack holds le = (grind (arith, holds, le), grind (arith, holds, le))

-- the slack covers the ticks before the next act
pub has_slack : (t : Clocked) → IsTimed t → holds t ≡ true → 0 < t.slack
has_slack t h held = (fewer_by t.wait t.left t.slack held h.covered).0

pub fills_covered : (t : Clocked) → IsTimed t → holds t ≡ true → t.wait - 1 + left_later t ≤ t.slack - 1
fills_covered t h held = (fewer_by t.wait t.left t.slack held h.covered).1

pub passes_timed : (t : Clocked) (slack wait left : ℕ) → IsTimed t → slack < 64 → t.wait - 1 + left_later t ≤ slack → wait ≡ t.wait - 1 → left ≡ left_later t
    → IsTimed (record t { ticks = t.ticks + 1; slack = slack; wait = wait; left = left })
passes_timed t slack wait left h below le waits is = record {
  slack = below;
  fewer = omega (arith, h.fewer);
  near = later t.past (t.ticks + 30) (t.ticks + 1 + 30) h.near (omega arith);
  covered = rw (waits, is) le;
}

-- a new core
pub new_is_timed : (p : Pipe) → IsTimed (record { acts = 0; ticks = 0; slack = 63; wait = first_of p; left = 0; past = fresh p })
new_is_timed p =
    let near = fresh_near p in
    record {
      slack = omega arith;
      fewer = omega arith;
      near = later (fresh p) 4 (0 + 30) near (omega arith);
      covered = omega (arith, near.first);
    }

-- an act
pub moves_timed : (here : Option Here) (done : Done) (pc : ℕ) (t : Clocked) (past : Past) → past ≡ past_after here done pc t.ticks t.past → IsTimed t
    → IsTimed (record t { acts = t.acts + 1; ticks = t.ticks + 1; slack = 63; past = past })
moves_timed here done pc t past is h =
    let near = passed_near done.act (instr_of here) (jump_of done pc) t.past t.ticks (t.ticks + 30) h.near (omega arith) in
    record {
      slack = omega arith;
      fewer = omega (arith, h.fewer);
      near = subst (λ (x : Past). IsBefore x (t.ticks + 1 + 30)) (sym is) (later _ (t.ticks + 30) (t.ticks + 1 + 30) near (omega arith));
      covered = omega (arith, h.covered, h.slack);
    }

pub goes_timed : (i : Instr) (jump : Jump) (t : Clocked) (past : Past) → past ≡ retired i t.ticks jump t.past → IsTimed t
    → IsTimed (record t { acts = t.acts + 1; ticks = t.ticks + 1; slack = 63; past = past })
goes_timed i jump t past is h =
    let near = retired_near (Some i) jump t.past t.ticks (t.ticks + 30) h.near (omega arith) in
    record {
      slack = omega arith;
      fewer = omega (arith, h.fewer);
      near = subst (λ (x : Past). IsBefore x (t.ticks + 1 + 30)) (sym is) (later _ (t.ticks + 30) (t.ticks + 1 + 30) near (omega arith));
      covered = omega (arith, h.covered, h.slack);
    }

-- the stages begin to hold an instruction back
pub begins_soon : (t u : Clocked) (i : Option Instr) (in_slot : Bool) (begins : ℕ) → begins ≡ begins_at t.past i in_slot → IsTimed t → t ≡ u → begins ≤ u.ticks + 30
begins_soon t u i in_slot begins is h same =
    subst (λ (x : Clocked). begins ≤ x.ticks + 30) same (subst (λ n. n ≤ t.ticks + 30) (sym is) (begins_near t.past i in_slot (t.ticks + 30) h.near))

pub loads_timed : (t : Clocked) (begins extra : ℕ) → IsTimed t → t.slack ≡ 63 → begins ≤ t.ticks + 30 → extra ≤ 33 → IsTimed (loaded begins extra t)
loads_timed t begins extra h full near few = record { slack = h.slack; fewer = h.fewer; near = h.near; covered = omega (arith, near, few, full) }

-- an inner instruction is no divide
no_extra : (p : Pipe) (kind : Kind) → is_inner kind ≡ true → extra_of p kind ≡ 0
unfolding is_inner
no_extra p (Divide signed) inner = cc
no_extra p kind inner = refl

pub inner_set : (w : Prepared) (in_slot : Bool) (begins : ℕ) (t u : Clocked) → u ≡ loaded begins 0 t → begins ≡ begins_at t.past (Some w.instr) in_slot → w.is_inner ≡ true
    → u ≡ set (Some w.instr) in_slot t
inner_set w in_slot begins t u is same inner =
    is ∙ ap (λ n. loaded n 0 t) same
    ∙ ap (λ e. loaded (begins_at t.past (Some w.instr) in_slot) e t) (sym (no_extra t.past.pipe (kind_of w.instr.op) (w.inner inner).kind))
