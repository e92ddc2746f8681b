-- The time of a core with stages: its past, and how far its stages are.
use Rattle.std.specs.Prelude.{ℕ, ◌≡◌, ◌+◌, ◌-◌, ◌≤◌, ◌<◌, ◌||◌, nat_lt, Bool, if◌then◌else◌, Option}
use Rattle.mb_decode.specs.declared.instruction.Instr.{Instr}
use Rattle.isa_step.specs.declared.acts.Done.{Done}
use Rattle.isa_step.specs.declared.acts.Here.{Here}
use Rattle.prepared_act.specs.declared.flow.Flow.{Flow}
use Rattle.prepared_act.specs.declared.flow.Flow.TheVariants as flow
use Rattle.timing_law.specs.declared.past.Past.{Past}
use Rattle.timing_law.specs.declared.pipe.Jump.{Jump}
use Rattle.timing_law.specs.declared.pipe.Jump.TheVariants.{On, Taken, Struck}
use Rattle.timing_law.specs.Near.{IsBefore}
use Rattle.timing_law.specs.Past.{begins_at, retired}
use Rattle.timing_law.specs.Passing.{is_ahead, past_after}
use Rattle.timing_law.specs.Table.{extra_for}

-- the acts and ticks so far, the slack, in how many ticks no stage holds the instruction at pc back, the steps that the
-- divider has left to do for it, and the past
pub record Clocked : Type 0 where
  pub acts : ℕ
  pub ticks : ℕ
  pub slack : ℕ
  pub wait : ℕ
  pub left : ℕ
  pub past : Past

-- no number of the past lies far ahead, and the slack covers all ticks before the next act
pub record IsTimed (t : Clocked) : Type 0 where
  pub slack : t.slack < 64
  pub fewer : t.acts ≤ t.ticks
  pub near : IsBefore t.past (t.ticks + 30)
  pub covered : t.wait + t.left ≤ t.slack

-- a stage holds the instruction at pc back, or the divider has steps to do
abbrev pub holds : Clocked → Bool
holds t = nat_lt 0 t.wait || nat_lt 0 t.left

-- the divider does a step in each tick in which no stage before it holds the instruction back
abbrev pub left_later : Clocked → ℕ
left_later t = if nat_lt 0 t.wait then t.left else t.left - 1

abbrev pub stayed : Clocked → Clocked
stayed t = record t { ticks = t.ticks + 1; wait = t.wait - 1; left = left_later t }

abbrev pub filled : Clocked → Clocked
filled t = record (stayed t) { slack = t.slack - 1 }

-- an act, at a word and with the pc after it
abbrev pub moved : Option Here → Done → ℕ → Clocked → Clocked
moved here done pc t = record t { acts = t.acts + 1; ticks = t.ticks + 1; slack = 63; past = past_after here done pc t.ticks t.past }

-- where an instruction that retired leads, as time sees it
abbrev pub jump_by : Flow → ℕ → Jump
jump_by flow.On pc = On
jump_by flow.Jumped pc = Taken
jump_by (flow.Stored addr) pc = if is_ahead addr pc then Struck else On

-- an instruction that retired
abbrev pub went : Instr → Flow → ℕ → Clocked → Clocked
went i flow pc t = record t { acts = t.acts + 1; ticks = t.ticks + 1; slack = 63; past = retired i t.ticks (jump_by flow pc) t.past }

-- the counters are those of an instruction: in how many ticks it may begin, and the steps that are left to do from then on
pub record IsSet (t : Clocked) (i : Option Instr) (in_slot : Bool) : Type 0 where
  pub wait : t.wait ≡ begins_at t.past i in_slot - t.ticks
  pub left : t.left ≡ extra_for t.past.pipe i - (t.ticks - begins_at t.past i in_slot)

-- the counters for an instruction that may begin in a tick, and of which the divider does so many steps
abbrev pub loaded : ℕ → ℕ → Clocked → Clocked
loaded begins extra t = record t { wait = begins - t.ticks; left = extra - (t.ticks - begins) }

abbrev pub set : Option Instr → Bool → Clocked → Clocked
set i in_slot t = loaded (begins_at t.past i in_slot) (extra_for t.past.pipe i) t
