-- The acts and ticks of a core, and the numbers of its past.
use Rattle.std.specs.Prelude.{ℕ, ◌+◌, ◌==◌, if◌then◌else◌, List, slice_set, Option, Some, None}
use Rattle.mb_decode.specs.declared.instruction.Instr.{Instr}
use Rattle.isa_step.specs.declared.acts.Done.{Done}
use Rattle.isa_step.specs.declared.acts.Here.{Here}
use Rattle.timing_law.specs.declared.past.Past.{Past}
use Rattle.timing_law.specs.Passing.{is_ahead, past_after}
use Rattle.prepared_act.specs.declared.flow.Flow.{Flow}
use Rattle.prepared_act.specs.declared.flow.Flow.TheVariants.{On, Jumped, Stored}
use Rattle.prepared_act.specs.Prepared.{late_register}

pub record Times : Type 0 where
  pub acts : ℕ
  pub ticks : ℕ
  pub past : Past

-- a tick without an act
abbrev pub stayed : Times → Times
stayed t = record t { ticks = t.ticks + 1 }

-- an act, at a word and with the pc after it
abbrev pub moved : Option Here → Done → ℕ → Times → Times
moved here done pc t = record { acts = t.acts + 1; ticks = t.ticks + 1; past = past_after here done pc t.ticks t.past }

-- the same on a plain core, where each number of the past is the tick after an act: the register that is late, if any,
abbrev pub noted : ℕ → ℕ → List ℕ → List ℕ
noted late after ready = if late == 0 then ready else slice_set ready late after

-- the word at pc, where the instruction leads elsewhere or may have changed that word,
abbrev pub led : Flow → ℕ → ℕ → ℕ → ℕ
led On pc after before = before
led Jumped pc after before = after
led (Stored addr) pc after before = if is_ahead addr pc then after else before

-- and the next act
abbrev pub went : ℕ → Flow → ℕ → Times → Times
went late flow pc t = record {
  acts = t.acts + 1;
  ticks = t.ticks + 1;
  past = record t.past { next = t.ticks + 1; ready = noted late (t.ticks + 1) t.past.ready; redirect = led flow pc (t.ticks + 1) t.past.redirect };
}

-- a take or a raise
abbrev pub turned : Times → Times
turned t = record { acts = t.acts + 1; ticks = t.ticks + 1; past = record t.past { next = t.ticks + 1; redirect = t.ticks + 1 } }

-- a stop
abbrev pub stopped : Times → Times
stopped t = record { acts = t.acts + 1; ticks = t.ticks + 1; past = t.past }

abbrev pub went_by : Option Instr → Flow → ℕ → Times → Times
went_by None flow pc t = stopped t
went_by (Some i) flow pc t = went (late_register i) flow pc t
