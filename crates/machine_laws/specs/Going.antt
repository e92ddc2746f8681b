-- A run never gets stuck, and no core has two turns in a cycle.
use Rattle.std.specs.Prelude.{◌≡◌, ℕ, ◌<◌, length}
use Rattle.board_machine.specs.declared.events.Event.{Event}
use Rattle.board_machine.specs.Cycles.{core_of_turn}
use Rattle.board_machine.specs.World.{IsThere, Schedule, Step, World}

pub record CanStep (w : World) (event : Event) : Type 0 where
  pub next : World
  pub step : Step w event next

-- some step of each event is lawful, if its core is there
pub record SomeStepIsLawful : Type 0 where
  pub can : (w : World) (event : Event) → IsThere (length w.cores) event → CanStep w event

-- each turn of a cycle is that of a core, and two turns are those of two cores
pub record TurnsAreApart : Type 0 where
  pub there : (s : Schedule) (cycle k : ℕ) → k < length s.clocks → core_of_turn s cycle k < length s.clocks
  pub apart : (s : Schedule) (cycle j k : ℕ) → j < length s.clocks → k < length s.clocks → core_of_turn s cycle j ≡ core_of_turn s cycle k → j ≡ k
