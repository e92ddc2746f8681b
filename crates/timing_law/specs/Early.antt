-- Whether the act of a core is held back by its past.
use Rattle.std.specs.Prelude.{ℕ, ◌&&◌, nat_lt, is_none, is_some, Bool}
use Rattle.core_regs.specs.State.{bare}
use Rattle.isa_step.specs.Effects.{View}
use Rattle.isa_step.specs.Due.{here_of, take_due}
use Rattle.isa_step.specs.Shown.{Shown}
use Rattle.timing_law.specs.declared.past.Past.{Past}
use Rattle.timing_law.specs.Past.{due_at}
use Rattle.timing_law.specs.Passing.{instr_of}

-- the tick is before the one in which the instruction at pc is due
abbrev pub is_early : View → Past → ℕ → Bool
is_early v past tick = nat_lt tick (due_at past (instr_of (here_of v)) (is_some v.arch.slot))

-- no take is due, and it is too early for all else
abbrev pub is_held : View → Past → ℕ → Shown → Bool
is_held v past tick shown = is_none (take_due (here_of v) (bare v.arch) shown) && is_early v past tick
