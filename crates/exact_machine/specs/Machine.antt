-- The exact machine: the board machine with a past for each core, which says when the core acts. Nothing in it is free.
use Rattle.std.specs.Prelude.{ℕ, ◌+◌, Bool, false, List, [], ◌∷◌, length, map, Option, Some, None, slice_get, slice_set}
use Rattle.isa_step.specs.Effects.{View, Effect, Due, Does, Waits, after}
use Rattle.isa_step.specs.Due.{due, here_of}
use Rattle.isa_step.specs.Shown.{Shown}
use Rattle.timing_law.specs.declared.past.Past.{Past}
use Rattle.timing_law.specs.Early.{is_held}
use Rattle.timing_law.specs.Passing.{past_after}
use Rattle.board_machine.specs.declared.events.Event.{Event}
use Rattle.board_machine.specs.declared.events.Event.TheVariants.{Devices, Host, Tick, Next}
use Rattle.board_machine.specs.Fabric.{Fabric, act_leaves, host_moves, next_cycle, shown, waited}
use Rattle.board_machine.specs.World.{CoreAt, Schedule, World, devices_done}

-- where a core stands: its view, its acts and ticks so far, and the numbers of its past, which time its next act
pub record ExactCore : Type 0 where
  pub view : View
  pub acts : ℕ
  pub ticks : ℕ
  pub past : Past

pub record ExactWorld : Type 0 where
  pub schedule : Schedule
  pub cores : List ExactCore
  pub fabric : Fabric

-- a core and a world as the open machine has them, but for the slacks
abbrev pub with_slack : ℕ → ExactCore → CoreAt
with_slack slack s = record { view = s.view; acts = s.acts; ticks = s.ticks; slack = slack }

abbrev pub opened : ExactWorld → World
opened x = record { schedule = x.schedule; cores = map (with_slack 0) x.cores; fabric = x.fabric }

-- a tick passes
abbrev pub passed : ExactCore → ExactCore
passed s = record s { ticks = s.ticks + 1 }

-- an act is done, and moves the past
abbrev pub acted : Effect → ExactCore → ExactCore
acted effect s = record {
  view = after s.view effect;
  acts = s.acts + 1;
  ticks = s.ticks + 1;
  past = past_after (here_of s.view) effect.done effect.arch.pc s.ticks s.past;
}

-- the core after a tick, by what is due and whether it is held back
abbrev pub core_after : Due → Bool → ExactCore → ExactCore
core_after (Does effect) false s = acted effect s
core_after _ _ s = passed s

-- what the tick of a core that has done so many acts leaves of the fabric
abbrev pub fabric_after : ℕ → ℕ → Due → Bool → Fabric → Fabric
fabric_after core act (Does effect) false f = act_leaves core act effect f
fabric_after core act (Waits port full) false f = waited core act (record { port = port; full = full }) f
fabric_after core act _ _ f = f

-- no take is due, and the tick comes before the one in which the instruction at pc is due
abbrev pub is_held_at : ExactCore → Shown → Bool
is_held_at s shown = is_held s.view s.past s.ticks shown

-- the tick of a core, if it is there
abbrev pub ticked_by : ℕ → ExactCore → Due → Bool → ExactWorld → ExactWorld
ticked_by core s due held x = record x {
  cores = slice_set x.cores core (core_after due held s);
  fabric = fabric_after core s.acts due held x.fabric;
}

abbrev pub ticked : ℕ → Option ExactCore → ExactWorld → ExactWorld
ticked core None x = x
ticked core (Some s) x = ticked_by core s (due s.view (shown x.fabric core)) (is_held_at s (shown x.fabric core)) x

-- one event
abbrev pub exact_step : ExactWorld → Event → ExactWorld
exact_step x Devices = record x { fabric = devices_done (map (with_slack 0) x.cores) x.fabric }
exact_step x Host = record x { fabric = host_moves x.fabric (length x.fabric.rows) }
exact_step x (Tick core) = ticked core (slice_get x.cores core) x
exact_step x Next = record x { fabric = next_cycle x.fabric }

-- a list of events
abbrev pub exact_steps : ExactWorld → List Event → ExactWorld
exact_steps x [] = x
exact_steps x (e ∷ es) = exact_steps (exact_step x e) es
