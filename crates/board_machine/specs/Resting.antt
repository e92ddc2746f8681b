-- When nothing can happen on a board any more.
use Rattle.std.specs.Prelude.{◌≡◌, ◌↔◌, ℕ, zero, suc, ◌&&◌, Bool, true, if◌then◌else◌, List, [], ◌++◌, length, map, Option, Some, None, slice_get, is_none, false, ◌==◌}
use Rattle.std.specs.Option.{is_some, option_and_then}
use Rattle.std.specs.List.{AllByRecursion, list_all}
use Rattle.core_regs.specs.declared.causes.StopCause.{StopCause}
use Rattle.core_regs.specs.declared.causes.WaitOn.{WaitOn}
use Rattle.board_machine.specs.Bus.{is_done}
use Rattle.isa_step.specs.declared.acts.Idle.{Idle}
use Rattle.isa_step.specs.declared.acts.Idle.TheVariants as idle
use Rattle.isa_step.specs.Resting.{idle_view}
use Rattle.run_journal.specs.declared.entry.Entry.{Entry}
use Rattle.run_journal.specs.declared.entry.What.{What}
use Rattle.run_journal.specs.declared.entry.What.TheVariants.{Wait, LineUp, LineDown}
use Rattle.board_machine.specs.declared.events.Rest.{Rest}
use Rattle.board_machine.specs.declared.events.Rest.TheVariants.{Ended, Waiting, Stopped}
use Rattle.board_machine.specs.Fabric.{Fabric, shown, move_of}
use Rattle.board_machine.specs.World.{World, CoreAt}

-- why a core does nothing and nothing can come to it, None where an act is due or can come
abbrev pub idle_here : Fabric → ℕ → Option CoreAt → Option Idle
idle_here f core None = None
idle_here f core (Some s) = idle_view s.view (shown f core)

abbrev pub idle_at : World → ℕ → Option Idle
idle_at w core = idle_here w.fabric core (slice_get w.cores core)

-- each core is idle, no item can move by the host, no break is left, and each UART is done
pub record Still (w : World) : Type 0 where
  pub cores : (core : ℕ) (s : CoreAt) → slice_get w.cores core ≡ Some s → is_some (idle_at w core) ≡ true
  pub links : (link : ℕ) → move_of w.fabric link ≡ None
  pub breaks : w.fabric.left ≡ []
  pub uarts : list_all is_done w.fabric.devices.uarts ≡ true

-- a core more: the rest is Stopped where a core stopped, else Waiting where a core waits, else Ended
abbrev pub joined : Rest → Idle → Rest
joined Stopped i = Stopped
joined Waiting (idle.Stopped cause) = Stopped
joined Waiting _ = Waiting
joined Ended (idle.Stopped cause) = Stopped
joined Ended (idle.Waits on) = Waiting
joined Ended idle.Ended = Ended
joined Ended idle.Asleep = Ended

abbrev pub and_idle : Option Idle → Rest → Option Rest
and_idle None r = None
and_idle (Some i) r = Some (joined r i)

-- the rest of the first cores, None where one of them is not idle
abbrev pub rest_to : World → ℕ → Option Rest
rest_to w zero = Some Ended
rest_to w (suc k) = option_and_then (and_idle (idle_at w k)) (rest_to w k)

-- a core that is stopped, and one that waits
pub record SomeStopped (w : World) : Type 0 where
  pub core : ℕ
  pub cause : StopCause
  pub idle_is : idle_at w core ≡ Some (idle.Stopped cause)

pub record SomeWaits (w : World) : Type 0 where
  pub core : ℕ
  pub on : WaitOn
  pub idle_is : idle_at w core ≡ Some (idle.Waits on)

-- by whom a board rests: Stopped exactly where a core is stopped, Waiting exactly where one waits and none is stopped, and
-- Ended exactly where neither is
pub record IsRestBy (w : World) (rest : Rest) : Type 0 where
  pub stopped : rest ≡ Stopped ↔ SomeStopped w
  pub waiting : rest ≡ Waiting ↔ (SomeWaits w × (SomeStopped w → ⊥))
  pub ended : rest ≡ Ended ↔ ((SomeWaits w → ⊥) × (SomeStopped w → ⊥))

-- no item can move at the first links
abbrev pub is_quiet_to : Fabric → ℕ → Bool
is_quiet_to f zero = true
is_quiet_to f (suc k) = is_quiet_to f k && is_none (move_of f k)

-- nothing of the board but its cores can go on by itself, timers and lines aside
abbrev pub is_outside_still : Fabric → Bool
is_outside_still f = is_quiet_to f (length f.rows) && (length f.left == 0) && list_all is_done f.devices.uarts

-- the rest of the board, None where it is not still
abbrev pub rest_of : World → Option Rest
rest_of w = if is_outside_still w.fabric then rest_to w (length w.cores) else None

-- entries that tell of no act and move no item
abbrev pub is_note : What → Bool
is_note (Wait on) = true
is_note LineUp = true
is_note LineDown = true
is_note _ = false

-- what stays as it was from a board that is still on
pub record Rests (old new : World) : Type 0 where
  pub views : map (λ s. s.view) new.cores ≡ map (λ s. s.view) old.cores
  pub acts : map (λ s. s.acts) new.cores ≡ map (λ s. s.acts) old.cores
  pub links : new.fabric.links ≡ old.fabric.links
  pub feeds : new.fabric.feeds ≡ old.fabric.feeds
  pub added : List Entry
  pub journal : new.fabric.journal ≡ old.fabric.journal ++ added
  pub notes : AllByRecursion (λ (e : Entry). is_note e.what ≡ true) added
  pub still : Still new
