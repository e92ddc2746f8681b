-- From what printing says to what the demonstration says.
use Rattle.std.proofs.Common.{ℕ, inr}
use Rattle.std.specs.Prelude.{Result, Ok, Err}
use Rattle.host_io.specs.Outside.{Rose, SinkState}
use Rattle.host_io.specs.declared.faults.StoreFault.{StoreFault}
use Rattle.host_io.specs.declared.faults.StoreFault.TheVariants.{Failed, NoMemory}
use Rattle.board_machine.specs.declared.events.RunEnd.{RunEnd}
use Rattle.ring_demo.specs.Demo.{HasSummary, Prints, Shows}
use Rattle.ring_demo.specs.Runs.{HasRuns}
use Rattle.ring_demo.specs.declared.run.Runs.{Runs}

pub shown : (number : ℕ) (runs : Runs) (out out' : SinkState) (result : Result RunEnd StoreFault) → HasRuns number runs → Prints number runs out out' result → Shows number out out' result
shown number runs out out' (Ok end) has prints = (runs, has, prints)
shown number runs out out' (Err Failed) has prints = (runs, has, prints)
shown number runs out out' (Err NoMemory) has prints = inr (runs, has, prints)

pub printed : (number : ℕ) (runs : Runs) (out out' : SinkState) (result : Result RunEnd StoreFault) → Prints number runs out out' result → ¬ Rose out.faults out'.faults → HasSummary result
printed number runs out out' (Ok end) prints quiet = tt
printed number runs out out' (Err Failed) prints quiet = quiet prints.1.0
printed number runs out out' (Err NoMemory) prints quiet = tt
