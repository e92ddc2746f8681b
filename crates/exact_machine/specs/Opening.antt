-- Worlds of the open machine that stand for an exact one: they differ from it by slacks alone.
use Rattle.std.specs.Prelude.{◌≡◌, ℕ, ◌+◌, ◌<◌, ◌≤◌, List, [], ◌∷◌, is_some, map, slice_index}
use Rattle.isa_step.specs.Due.{here_of}
use Rattle.timing_law.specs.declared.past.Past.{Past}
use Rattle.timing_law.specs.Past.{due_at}
use Rattle.timing_law.specs.Passing.{instr_of}
use Rattle.board_machine.specs.World.{CoreAt, World}
use Rattle.exact_machine.specs.Machine.{ExactCore, ExactWorld, opened, with_slack}

-- two worlds differ by slacks alone
abbrev pub without_slack : CoreAt → CoreAt
without_slack s = record s { slack = 0 }

pub record AreSame (w v : World) : Type 0 where
  pub schedule : w.schedule ≡ v.schedule
  pub cores : map without_slack w.cores ≡ map without_slack v.cores
  pub fabric : w.fabric ≡ v.fabric

-- a world is an exact one, but for its slacks
abbrev pub StandsFor : ExactWorld → World → Type 0
StandsFor x w = AreSame w (opened x)

-- and its slacks are enough

-- no number of a past lies ahead of a tick
pub record IsBefore (past : Past) (tick : ℕ) : Type 0 where
  pub first : past.first ≤ tick
  pub next : past.next ≤ tick
  pub ready : (r : ℕ) → slice_index past.ready r ≤ tick
  pub redirect : past.redirect ≤ tick

-- the tick in which the instruction at pc is due
abbrev pub due_of : ExactCore → ℕ
due_of s = due_at s.past (instr_of (here_of s.view)) (is_some s.view.arch.slot)

-- the slack of the open core is enough for the ticks before the next act of the exact one, no number of whose past lies more
-- than four ticks ahead
pub record IsOpenCore (x : ExactCore) (s : CoreAt) : Type 0 where
  pub core : s ≡ with_slack s.slack x
  pub below : s.slack < 64
  pub enough : due_of x ≤ x.ticks + s.slack
  pub near : IsBefore x.past (x.ticks + 4)

abbrev pub AreOpen : List ExactCore → List CoreAt → Type 0
AreOpen [] [] = Unit {0}
AreOpen (x ∷ xs) (s ∷ ss) = IsOpenCore x s × AreOpen xs ss
AreOpen _ _ = ⊥

pub record IsOpen (x : ExactWorld) (w : World) : Type 0 where
  pub schedule : w.schedule ≡ x.schedule
  pub cores : AreOpen x.cores w.cores
  pub fabric : w.fabric ≡ x.fabric
