-- What a run asks of the probes that are told of it, and what it tells them.
use Rattle.std.specs.Prelude.{◌≡◌, ◌≤◌, ◌^◌, List}
use Rattle.std.specs.List.{AllByRecursion}
use Rattle.exact_machine.specs.Machine.{ExactWorld}
use Rattle.host_io.specs.Outside.{ShelfState, SinkState}
use Rattle.probe_set.specs.Sets.{Named, all_told_each}
use Rattle.mb_sim.specs.declared.status.Status.{Status}

-- no probe has counted more than half of what it can
abbrev pub AreYoung : List Named → Type 0
AreYoung = AllByRecursion (λ a. a.state.count ≤ 2 ^ 63)

-- a run from a board's beginning to here tells the probes its entries, in order: they are all that the journal has
abbrev pub TellsProbes : ExactWorld → List Named → List Named → Type 0
TellsProbes last probes probes' = probes' ≡ all_told_each last.fabric.journal probes

-- what a status says of a command that leaves the probes as they are
abbrev pub LeavesProbes : (ShelfState → ShelfState → SinkState → SinkState → Status → Type 0) → ShelfState → ShelfState → SinkState → SinkState → List Named → List Named → Status → Type 0
LeavesProbes Says shelf shelf' out out' probes probes' status = Says shelf shelf' out out' status × (probes' ≡ probes)
