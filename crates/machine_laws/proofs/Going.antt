-- Whatever a core is due to do, some tick of it is lawful; and no two turns of a cycle are those of one core.
use Rattle.std.proofs.Common.{◌≡◌, ℕ, ◌+◌, ◌%◌, ◌<◌, length, Some, refl, inl, arith, slice_get, slice_set}
use Rattle.std.proofs.lemmas.Bool.Decides.{nat_tests}
use Rattle.isa_step.specs.Effects.{Due, Does, Waits, Sleeps, Ends, Stops, after}
use Rattle.isa_step.specs.Due.{due}
use Rattle.board_file.specs.declared.board.Turn.{Turn}
use Rattle.board_file.specs.declared.board.Turn.TheVariants.{Ascending, Descending, Rotating}
use Rattle.board_machine.specs.declared.events.Event.{Event}
use Rattle.board_machine.specs.declared.events.Event.TheVariants.{Devices, Host, Tick, Next}
use Rattle.board_machine.specs.Cycles.{core_at, rotated}
use Rattle.board_machine.specs.Fabric.{Fabric, act_leaves, host_moves, next_cycle, shown, waited}
use Rattle.board_machine.specs.World.{CoreAt, IsThere, TickMay, World, devices_done}
use Rattle.board_machine.proofs.Lists.{slice_get_in}
use Rattle.board_machine.proofs.Turns.{turns_apart}
use Rattle.machine_laws.specs.Going.{CanStep, SomeStepIsLawful, TurnsAreApart}

-- a tick that is lawful
record CanTick (core : ℕ) (d : Due) (s : CoreAt) (f : Fabric) : Type 0 where
  is : CoreAt
  later : Fabric
  may : TickMay core d s f is later

can_tick : (core : ℕ) (d : Due) (s : CoreAt) (f : Fabric) → CanTick core d s f
can_tick core (Does effect) s f = record {
  is = record { view = after s.view effect; acts = s.acts + 1; ticks = s.ticks + 1; slack = 0 };
  later = act_leaves core s.acts effect f;
  may = inl (record { slack = omega arith; state = refl; fabric = refl });
}
can_tick core (Waits port full) s f = record {
  is = record s { ticks = s.ticks + 1 };
  later = waited core s.acts (record { port = port; full = full }) f;
  may = inl (record { state = refl; fabric = refl });
}
can_tick core Sleeps s f = record { is = record s { ticks = s.ticks + 1 }; later = f; may = record { state = refl; fabric = refl } }
can_tick core Ends s f = record { is = record s { ticks = s.ticks + 1 }; later = f; may = record { state = refl; fabric = refl } }
can_tick core (Stops cause) s f = record { is = record s { ticks = s.ticks + 1 }; later = f; may = record { state = refl; fabric = refl } }

tick_steps : (w : World) (core : ℕ) (s : CoreAt) → slice_get w.cores core ≡ Some s → CanTick core (due s.view (shown w.fabric core)) s w.fabric → CanStep w (Tick core)
tick_steps w core s q c = record {
  next = record { schedule = w.schedule; cores = slice_set w.cores core c.is; fabric = c.later };
  step = record { was = s; is = c.is; there = q; schedule = refl; cores = refl; may = c.may };
}

can_step : (w : World) (event : Event) → IsThere (length w.cores) event → CanStep w event
can_step w (Tick core) l =
    let there = slice_get_in w.cores core l in
    tick_steps w core there.0 there.1 (can_tick core (due there.0.view (shown w.fabric core)) there.0 w.fabric)
can_step w Devices l = record { next = record w { fabric = devices_done w.cores w.fabric }; step = refl }
can_step w Host l = record { next = record w { fabric = host_moves w.fabric (length w.fabric.rows) }; step = refl }
can_step w Next l = record { next = record w { fabric = next_cycle w.fabric }; step = refl }

pub some_step : SomeStepIsLawful
some_step = record { can = can_step }

rotated_there : (first n k : ℕ) → first < n → k < n → rotated first n k < n
rotated_there first n k f l = grind (arith, nat_tests)

turn_there : (t : Turn) (n cycle k : ℕ) → k < n → core_at t n cycle k < n
turn_there Ascending n cycle k l = l
turn_there Descending n cycle k l = omega (arith, l)
turn_there Rotating n cycle k l = rotated_there (cycle % n) n k (omega (arith, l)) l

pub apart : TurnsAreApart
apart = record {
  there = λ s cycle k l. turn_there s.turn (length s.clocks) cycle k l;
  apart = λ s cycle j k a b e. turns_apart s.turn (length s.clocks) cycle j k a b e;
}
