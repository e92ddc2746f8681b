-- What a status says of `asm` and `dis`.
use Rattle.std.specs.Prelude.{◌≡◌, ⊤, Bool, List, ℕ, codes, if◌then◌else◌, Result, Ok, Err}
use Rattle.core_regs.specs.declared.causes.Order.{Order}
use Rattle.core_regs.specs.declared.causes.Order.TheVariants.{Big, Little}
use Rattle.host_io.specs.Outside.{ShelfState, SinkState}
use Rattle.mb_sim.specs.declared.status.Status.{Status}
use Rattle.mb_sim.specs.declared.status.Status.TheVariants as status
use Rattle.source_tools.specs.Answers.{SaysAsm, SaysDis}
use Rattle.source_tools.specs.declared.refusal.Refusal.{Refusal}
use Rattle.source_tools.specs.declared.refusal.Refusal.TheVariants.{BadImage, BadSource, CannotRead, CannotWrite, NoMemory, TooLong}

-- the byte order of a file
abbrev pub order_of : Bool → Order
order_of is_little = if is_little then Little else Big

-- the status of an answer
abbrev pub status_of_tool : Result ⊤ Refusal → Status
status_of_tool (Ok done) = status.Ended
status_of_tool (Err (CannotRead file)) = status.ReadFault file
status_of_tool (Err (TooLong file)) = status.TooLong file
status_of_tool (Err (BadSource code line column)) = status.BadSource code line column
status_of_tool (Err (BadImage code at)) = status.BadImage (codes "image") code at
status_of_tool (Err (CannotWrite file)) = status.WriteFault file
status_of_tool (Err NoMemory) = status.NoMemory

-- `asm` answered so, and prints nothing
pub record SaysAssembled (source output : List ℕ) (is_little : Bool) (shelf shelf' : ShelfState) (out out' : SinkState) (status : Status) : Type 0 where
  pub answer : Result ⊤ Refusal
  pub told : status ≡ status_of_tool answer
  pub says : SaysAsm shelf shelf' source output (order_of is_little) answer
  pub quiet : out' ≡ out

-- `dis` answered so
pub record SaysListed (image : List ℕ) (shelf shelf' : ShelfState) (out out' : SinkState) (status : Status) : Type 0 where
  pub answer : Result ⊤ Refusal
  pub told : status ≡ status_of_tool answer
  pub says : SaysDis shelf shelf' out out' image answer
