-- Which event an entry was made by: each says so itself.
use Rattle.std.specs.Prelude.{◌≡◌, ℕ, List, ◌++◌}
use Rattle.std.specs.List.{AllByRecursion}
use Rattle.run_journal.specs.declared.entry.Entry.{Entry}
use Rattle.run_journal.specs.declared.entry.What.{What}
use Rattle.run_journal.specs.declared.entry.What.TheVariants.{HostSent, HostGot, LineUp, LineDown, Left}
use Rattle.board_machine.specs.declared.events.Event.{Event}
use Rattle.board_machine.specs.declared.events.Event.TheVariants.{Devices, Host, Tick}
use Rattle.board_machine.specs.World.{Step, World}

abbrev pub maker : ℕ → What → Event
maker core (HostSent link item) = Host
maker core (HostGot link item) = Host
maker core LineUp = Devices
maker core LineDown = Devices
maker core (Left uart byte) = Devices
maker core _ = Tick core

-- the entry bears this cycle, and was made by this event
pub record IsStamped (cycle : ℕ) (event : Event) (e : Entry) : Type 0 where
  pub in_cycle : e.cycle ≡ cycle
  pub made : maker e.core e.what ≡ event

-- the entries that an event makes, each with its stamp
pub record Enters (old : World) (event : Event) (new : World) : Type 0 where
  pub added : List Entry
  pub journal : new.fabric.journal ≡ old.fabric.journal ++ added
  pub each : AllByRecursion (IsStamped old.fabric.cycle event) added

pub record EntriesAreStamped : Type 0 where
  pub stamped : (old new : World) (event : Event) → Step old event new → Enters old event new
