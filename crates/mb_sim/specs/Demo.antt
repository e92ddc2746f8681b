-- What `demo` does.
use Rattle.std.specs.Prelude.{◌≡◌, ℕ, Result, Ok, Err}
use Rattle.host_io.specs.Outside.{ShelfState, SinkState}
use Rattle.host_io.specs.declared.faults.StoreFault.{StoreFault}
use Rattle.board_machine.specs.declared.events.RunEnd.{RunEnd}
use Rattle.ring_demo.specs.Demo.{Shows}
use Rattle.mb_sim.specs.declared.status.Status.{Status}
use Rattle.mb_sim.specs.Board.{status_of_sink}
use Rattle.mb_sim.specs.Runs.{status_of}

-- the end of the first run that didn't end with 0, or the refusal of the summary, as a status
abbrev pub status_of_demo : Result RunEnd StoreFault → Status
status_of_demo (Ok end) = status_of end
status_of_demo (Err fault) = status_of_sink fault

-- the demonstration of the ring of a number answered so
pub record IsShown (number : ℕ) (out out' : SinkState) (status : Status) : Type 0 where
  pub result : Result RunEnd StoreFault
  pub shows : Shows number out out' result
  pub is : status ≡ status_of_demo result

-- `demo` leaves the shelf as it is
pub record SaysDemo (number : ℕ) (shelf shelf' : ShelfState) (out out' : SinkState) (status : Status) : Type 0 where
  pub shown : IsShown number out out' status
  pub quiet : shelf' ≡ shelf
