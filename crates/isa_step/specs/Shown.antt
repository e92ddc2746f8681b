-- What a core is shown of its outside, and what its calls leave there.
use Rattle.std.specs.Prelude.{◌≡◌, ℕ, ◌+◌, Bool, true, false, List, [], ◌∷◌, ◌++◌, Option, Some, None, Result, Ok, Err}
use Rattle.axi_link.specs.declared.item.Item.{Item}
use Rattle.isa_step.specs.declared.acts.Breaks.{Breaks}
use Rattle.isa_step.specs.declared.acts.Hopes.{Hopes}
use Rattle.isa_step.specs.declared.acts.BusError.{BusError}
use Rattle.isa_step.specs.declared.acts.Action.{Action}
use Rattle.isa_step.specs.declared.acts.Action.TheVariants.{Got, Sent, Seen, Room, Read, ReadRefused, Wrote, WriteRefused}

-- the latched line, the breaks, what can still come, the first item and the room of each port, and what the bus answers
pub record Shown : Type 0 where
  pub line : Bool
  pub breaks : Breaks
  pub hopes : Hopes
  pub first : ℕ → Option Item
  pub room : ℕ → Bool
  pub bus_word : ℕ → Option ℕ
  pub bus_takes : ℕ → ℕ → Bool

-- an action was added to those that were done, and the object is left as it says of that action
pub record Adds {P : Type 0} (done : P → List Action) (spare : P → ℕ) (leaves : P → Action → P → Type 0) (old : P) (action : Action) (new : P) : Type 0 where
  pub added : done new ≡ done old ++ action ∷ []
  pub spared : spare new + 1 ≡ spare old
  pub left : leaves old action new

-- at most one action was added
abbrev pub Moves : {P : Type 0} → (P → List Action) → (P → ℕ) → (P → Action → P → Type 0) → P → Option Action → P → Type 0
Moves done spare leaves old None new = new ≡ old
Moves done spare leaves old (Some action) new = Adds done spare leaves old action new

-- what `take` leaves, by its answer
abbrev pub TakenBy : {P : Type 0} → (P → List Action) → (P → ℕ) → (P → Action → P → Type 0) → ℕ → Option Item → P → P → Type 0
TakenBy done spare leaves port None old new = new ≡ old
TakenBy done spare leaves port (Some item) old new = Adds done spare leaves old (Got port item) new

-- what `put` answers and leaves, by the room that there was
abbrev pub SentBy : {P : Type 0} → (P → List Action) → (P → ℕ) → (P → Action → P → Type 0) → ℕ → Item → Bool → Result Unit Item → P → P → Type 0
SentBy done spare leaves port item true result old new = (result ≡ Ok tt) × Adds done spare leaves old (Sent port item) new
SentBy done spare leaves port item false result old new = (result ≡ Err item) × (new ≡ old)

-- the action of a test
abbrev pub tested_of : ℕ → Option Item → Action
tested_of port None = Room port
tested_of port (Some item) = Seen port item

-- what `read` answers and leaves, by what the bus has
abbrev pub ReadBy : {P : Type 0} → (P → List Action) → (P → ℕ) → (P → Action → P → Type 0) → ℕ → Option ℕ → Result ℕ BusError → P → P → Type 0
ReadBy done spare leaves addr (Some word) result old new = (result ≡ Ok word) × Adds done spare leaves old (Read addr word) new
ReadBy done spare leaves addr None result old new = (result ≡ Err (record {})) × Adds done spare leaves old (ReadRefused addr) new

-- what `write` answers and leaves, by whether the bus takes the word
abbrev pub WrittenBy : {P : Type 0} → (P → List Action) → (P → ℕ) → (P → Action → P → Type 0) → ℕ → ℕ → Bool → Result Unit BusError → P → P → Type 0
WrittenBy done spare leaves addr word true result old new = (result ≡ Ok tt) × Adds done spare leaves old (Wrote addr word) new
WrittenBy done spare leaves addr word false result old new = (result ≡ Err (record {})) × Adds done spare leaves old (WriteRefused addr word) new
