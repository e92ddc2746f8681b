-- The tick at which an instruction is due, from the list of the acts before it.
use Rattle.std.specs.Prelude.{ℕ, ◌+◌, ◌==◌, ◌≤◌, Bool, false, if◌then◌else◌, List, [], ◌∷◌, reverse, map, max, Option, Some, None}
use Rattle.std.specs.List.{find, last_or}
use Rattle.mb_decode.specs.declared.instruction.Instr.{Instr}
use Rattle.mb_decode.specs.Meaning.{NamesRegisters}
use Rattle.isa_step.specs.declared.acts.Late.{Late}
use Rattle.op_table.specs.Table.{kind_of}
use Rattle.timing_law.specs.declared.pipe.Pipe.{Pipe}
use Rattle.timing_law.specs.declared.pipe.Jump.{Jump}
use Rattle.timing_law.specs.declared.past.Past.{Past}
use Rattle.timing_law.specs.Table.{extra_for, first_of, hold_of, late_of, ready_of, redirected, turn_of}
use Rattle.timing_law.specs.Past.{greatest_read, retired, turned}

-- an instruction retired, or a take or a raise turned the core
pub data Passed : Type 0 where
  Retired : (i : Instr) → (jump : Jump) → Passed
  Turned : Passed

-- an act, with its tick
pub record Timed : Type 0 where
  pub tick : ℕ
  pub passed : Passed

-- the hold of an act
abbrev pub hold_after : Pipe → Passed → ℕ
hold_after p (Retired i jump) = hold_of p (kind_of i.op)
hold_after p Turned = 1

abbrev pub free_after : Pipe → Option Timed → ℕ
free_after p None = 0
free_after p (Some act) = act.tick + hold_after p act.passed

-- the last act's tick plus its hold
abbrev pub held_by : Pipe → List Timed → ℕ
held_by p acts = free_after p (last_or None acts)

-- the redirect of an act
abbrev pub redirect_after : Pipe → Timed → Passed → ℕ
redirect_after p act (Retired i jump) = redirected p jump act.tick 0
redirect_after p act Turned = act.tick + turn_of p

abbrev pub redirect_by : Pipe → Timed → ℕ
redirect_by p act = redirect_after p act act.passed

abbrev pub greatest : List ℕ → ℕ
greatest [] = 0
greatest (x ∷ xs) = max x (greatest xs)

-- the greatest redirect of all acts
abbrev pub redirected_by : Pipe → List Timed → ℕ
redirected_by p acts = greatest (map (redirect_by p) acts)

-- the register that an act makes late
abbrev pub late_after : Passed → Option Late
late_after (Retired i jump) = late_of i
late_after Turned = None

abbrev pub names_late : ℕ → Option Late → Bool
names_late r None = false
names_late r (Some l) = l.reg == r

abbrev pub is_writer : ℕ → Timed → Bool
is_writer r act = names_late r (late_after act.passed)

abbrev pub ready_with : Pipe → ℕ → Option Late → ℕ
ready_with p tick None = 0
ready_with p tick (Some l) = tick + ready_of p l.latency

abbrev pub ready_after : Pipe → Option Timed → ℕ
ready_after p None = 0
ready_after p (Some act) = ready_with p act.tick (late_after act.passed)

-- the tick of the register's last writer plus its ready
abbrev pub ready_by : Pipe → List Timed → ℕ → ℕ
ready_by p acts r = ready_after p (find (is_writer r) (reverse acts))

-- the greatest of the first tick, the last act's tick plus its hold, the ready of each register that is read, and the
-- redirect where the act isn't in a slot; plus the extra
abbrev pub due_tick : Pipe → List Timed → Option Instr → Bool → ℕ
due_tick p acts i in_slot =
    max (max (max (first_of p) (if in_slot then 0 else redirected_by p acts)) (held_by p acts)) (greatest_read i (ready_by p acts))
    + extra_for p i

-- the numbers of a past, moved by the acts in order
abbrev pub moved_by : Passed → ℕ → Past → Past
moved_by (Retired i jump) at p = retired i at jump p
moved_by Turned at p = turned at p

abbrev pub moved_all : List Timed → Past → Past
moved_all [] p = p
moved_all (act ∷ acts) p = moved_all acts (moved_by act.passed act.tick p)

-- the ticks rise, and instructions name registers
abbrev pub NamesOf : Passed → Type 0
NamesOf (Retired i jump) = NamesRegisters i
NamesOf Turned = Unit {0}

abbrev pub IsRising : ℕ → List Timed → Type 0
IsRising low [] = Unit {0}
IsRising low (act ∷ acts) = (low ≤ act.tick) × NamesOf act.passed × IsRising (act.tick + 1) acts
