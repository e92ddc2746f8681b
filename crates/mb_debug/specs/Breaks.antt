-- Breakpoints, with the acts of their cores where a cycle began.
use Rattle.std.specs.Prelude.{ℕ, slice_get}
use Rattle.std.specs.Prelude.{Bool}
use Rattle.board_run.specs.Boards.{exact_acts}
use Rattle.exact_machine.specs.Machine.{ExactWorld}
use Rattle.mb_debug.specs.Scenes.{came}
use Rattle.mb_debug.specs.declared.breaks.Breakpoint.{Breakpoint}
use Rattle.mb_debug.specs.declared.breaks.Place.{Place}

abbrev pub place_of : Breakpoint → Place
place_of b = b.place

abbrev pub fresh_break : ℕ → ℕ → Breakpoint
fresh_break core addr = record { place = record { core = core; addr = addr }; acts = 0 }

-- the acts of the core now
abbrev pub noted : ExactWorld → Breakpoint → Breakpoint
noted w b = record { place = b.place; acts = exact_acts (slice_get w.cores b.place.core) }

-- the core acted since, and its pc is there
abbrev pub hits : ExactWorld → Breakpoint → Bool
hits w b = came b.acts (slice_get w.cores b.place.core) b.place.addr
