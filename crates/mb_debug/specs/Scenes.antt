-- What the commands of a script act on, and the cycles that they let a board do.
use Rattle.std.specs.Prelude.{◌≡◌, ℕ, zero, suc, ◌+◌, ◌<◌, ◌≤◌, ◌⊎◌, ◌==◌, ◌&&◌, ◌||◌, not, Bool, true, false, List, drop, length, Option, Some, None, IsSome, slice_get}
use Rattle.std.specs.List.{list_any}
use Rattle.run_journal.specs.declared.entry.Entry.{Entry}
use Rattle.board_run.specs.Boards.{exact_acts}
use Rattle.exact_machine.specs.Machine.{ExactCore, ExactWorld}
use Rattle.exact_machine.specs.Runs.{exact_cycle, exact_end}
use Rattle.probe_set.specs.Sets.{Named, all_told_each, any_asks_each}
use Rattle.mb_debug.specs.declared.breaks.Place.{Place}

-- a board and the probes that are attached to it
pub record Scene : Type 0 where
  pub world : ExactWorld
  pub probes : List Named

abbrev pub scene : ExactWorld → List Named → Scene
scene world probes = record { world = world; probes = probes }

-- the entries that a board gained
abbrev pub gained : ExactWorld → ExactWorld → List Entry
gained old new = drop (length old.fabric.journal) new.fabric.journal

-- one cycle, whose entries the probes are told in order
abbrev pub next : Scene → Scene
next s = record { world = exact_cycle s.world; probes = all_told_each (gained s.world (exact_cycle s.world)) s.probes }

-- so many cycles
abbrev pub cycles : Scene → ℕ → Scene
cycles s zero = s
cycles s (suc n) = next (cycles s n)

-- a core that had done so many acts did one more, and its pc is at that address now
abbrev pub came : ℕ → Option ExactCore → ℕ → Bool
came acts None addr = false
came acts (Some s) addr = not (s.acts == acts) && s.view.arch.pc == addr

-- a cycle came to a breakpoint
abbrev pub came_to : ExactWorld → ExactWorld → Place → Bool
came_to old new p = came (exact_acts (slice_get old.cores p.core)) (slice_get new.cores p.core) p.addr

abbrev pub came_to_any : ExactWorld → ExactWorld → List Place → Bool
came_to_any old new = list_any (came_to old new)

-- whether a run stops after the next cycle: a probe asks, or a breakpoint is come to
abbrev pub stops : List Place → Scene → Bool
stops places s = any_asks_each (gained s.world (exact_cycle s.world)) s.probes || came_to_any s.world (exact_cycle s.world) places

-- cycles up to so many, or the first end of the run; nothing else stops them
pub record StepsOn (limit count : ℕ) (old new : Scene) : Type 0 where
  pub done : ℕ
  pub few : done ≤ count
  pub ran : new ≡ cycles old done
  pub goes_on : (k : ℕ) → k < done → exact_end limit (cycles old k).world ≡ None
  pub why : (done ≡ count) ⊎ IsSome (exact_end limit new.world)

-- the same, but the first stop ends them too: it comes after a whole cycle
pub record RunsOn (limit count : ℕ) (places : List Place) (old new : Scene) : Type 0 where
  pub done : ℕ
  pub few : done ≤ count
  pub ran : new ≡ cycles old done
  pub goes_on : (k : ℕ) → k < done → exact_end limit (cycles old k).world ≡ None
  pub passes : (k : ℕ) → k + 1 < done → stops places (cycles old k) ≡ false
  pub why : (done ≡ count) ⊎ IsSome (exact_end limit new.world) ⊎ ((k : ℕ) × (done ≡ k + 1) × (stops places (cycles old k) ≡ true))
