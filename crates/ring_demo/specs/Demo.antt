-- What the demonstration does, and the ways in which it can end.
use Rattle.std.specs.Prelude.{◌≡◌, ◌⊎◌, ⊤, ℕ, Result, Ok, Err}
use Rattle.host_io.specs.Outside.{Adds, SinkState}
use Rattle.host_io.specs.declared.faults.StoreFault.{StoreFault}
use Rattle.host_io.specs.declared.faults.StoreFault.TheVariants.{Failed, NoMemory}
use Rattle.board_machine.specs.declared.events.RunEnd.{RunEnd}
use Rattle.ring_demo.specs.Runs.{HasRuns, end_of}
use Rattle.ring_demo.specs.Summary.{summary_of}
use Rattle.ring_demo.specs.declared.run.Runs.{Runs}

-- the summary of runs is printed, and the answer is their end; or that write is refused
abbrev pub Prints : ℕ → Runs → SinkState → SinkState → Result RunEnd StoreFault → Type 0
Prints number runs out out' (Ok end) = (end ≡ end_of runs) × Adds out out' (summary_of number runs) (Ok tt)
Prints number runs out out' (Err fault) = Adds out out' (summary_of number runs) (Err fault)

-- a run in each order, of which the sink gains the summary, or a prefix of it where that write is refused
abbrev pub PrintsRuns : ℕ → SinkState → SinkState → Result RunEnd StoreFault → Type 0
PrintsRuns number out out' result = (runs : Runs) × HasRuns number runs × Prints number runs out out' result

-- what the demonstration of the ring of a number leaves: its summary, a refused write of it, or nothing for want of memory
-- for its runs
abbrev pub Shows : ℕ → SinkState → SinkState → Result RunEnd StoreFault → Type 0
Shows number out out' (Ok end) = PrintsRuns number out out' (Ok end)
Shows number out out' (Err Failed) = PrintsRuns number out out' (Err Failed)
Shows number out out' (Err NoMemory) = (out' ≡ out) ⊎ PrintsRuns number out out' (Err NoMemory)

-- the summary was printed, or memory was wanting
abbrev pub HasSummary : Result RunEnd StoreFault → Type 0
HasSummary (Ok end) = ⊤
HasSummary (Err Failed) = ⊥
HasSummary (Err NoMemory) = ⊤
