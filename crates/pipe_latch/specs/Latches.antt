-- Results in flight, and words that were fetched.
use Rattle.std.specs.Prelude.{ℕ, ◌≡◌, ◌<◌, ◌≤◌, ◌==◌, ◌+◌, ◌%◌, ◌&&◌, nat_le, nat_lt, Bool, false, if◌then◌else◌, List, [], ◌∷◌, ◌++◌, reverse, Option, Some}
use Rattle.std.specs.Option.{option_map}
use Rattle.std.specs.List.{find}
use Rattle.core_regs.specs.declared.causes.Order.{Order}
use Rattle.core_regs.specs.declared.causes.Size.TheVariants.{Word}
use Rattle.byte_mem.specs.Access.{loaded}
use Rattle.core_iface.specs.declared.Flight.{Flight}
use Rattle.pipe_latch.specs.declared.fetching.Fetched.{Fetched}
use Rattle.pipe_latch.specs.declared.in_flight.Stage.{Stage}

-- the value of the youngest flight that writes the register
abbrev pub youngest : List Flight → ℕ → Option ℕ
youngest fs n = option_map (λ (f : Flight). f.value) (find (λ (f : Flight). f.reg == n) (reverse fs))

-- flights name registers, and their ages fall from the oldest on
abbrev pub InFlight : ℕ → ℕ → List Flight → Type 0
InFlight low high [] = low ≤ high
InFlight low high (f ∷ fs) = (f.reg < 32) × (f.age < high) × InFlight low f.age fs

-- the result that a stage holds, at an age
abbrev pub flight_of : Stage → ℕ → List Flight
flight_of s age = if s.is_full then record { reg = s.reg; value = s.value; age = age } ∷ [] else []

-- the results in stages, the oldest first, by the age in the first stage
abbrev pub flown : ℕ → List Stage → List Flight
flown age [] = []
flown age (s ∷ ss) = flown (age + 1) ss ++ flight_of s age

-- results name registers, and no stage from the depth on holds one
abbrev pub InStages : ℕ → ℕ → List Stage → Type 0
InStages depth age [] = Unit {0}
InStages depth age (s ∷ ss) = (s.reg < 32) × (depth ≤ age → s.is_full ≡ false) × InStages depth (age + 1) ss

-- the first stage holds none
abbrev pub IsFree : List Stage → Type 0
IsFree [] = ⊥
IsFree (s ∷ ss) = s.is_full ≡ false

-- a word that is kept, at a multiple of four, is the word of memory at its address
abbrev pub IsWord : List ℕ → Order → Fetched → Type 0
IsWord m order f = f.addr % 4 ≡ 0 → loaded m Word order f.addr ≡ Some f.word

abbrev pub AreWords : List ℕ → Order → List Fetched → Type 0
AreWords m order [] = Unit {0}
AreWords m order (f ∷ fs) = IsWord m order f × AreWords m order fs

-- an address lies in a word that was fetched
abbrev pub holds_at : ℕ → Fetched → Bool
holds_at addr f = nat_le f.addr addr && nat_lt addr (f.addr + 4)
