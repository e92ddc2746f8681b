-- Attached probes: a list of names with states, in order of attachment.
use Rattle.std.specs.Prelude.{◌≡◌, ℕ, ◌+◌, ◌≤◌, ◌<◌, ◌^◌, ◌||◌, Bool, false, not, List, [], ◌∷◌, map, filter, length, Option, Some, None, if◌then◌else◌}
use Rattle.std.specs.List.{AllByRecursion, list_any}
use Rattle.std.specs.Str.{bytes_eq}
use Rattle.std.specs.Prelude.{Vec}
use Rattle.run_journal.specs.declared.entry.Entry.{Entry}
use Rattle.probe_set.specs.declared.probe.ProbeState.{ProbeState}
use Rattle.probe_set.specs.Folds.{asks, told, told_each}

-- what a list has that is made with its first element
abbrev pub items_of : {X Z : Type 0} → Option (Vec X Z) → List X
items_of (Some list) = list.items
items_of None = []

-- an attached probe
pub record Named : Type 0 where
  pub name : List ℕ
  pub state : ProbeState

abbrev pub named : List ℕ → ProbeState → Named
named name state = record { name = name; state = state }

-- an attached probe after an entry
abbrev pub named_told : Entry → Named → Named
named_told e n = named n.name (told e n.state)

-- all attached probes after an entry
abbrev pub all_told : Entry → List Named → List Named
all_told e = map (named_told e)

-- all attached probes after entries, in order
abbrev pub all_told_each : List Entry → List Named → List Named
all_told_each [] ns = ns
all_told_each (e ∷ es) ns = all_told_each es (all_told e ns)

-- whether one of them asks to stop at an entry
abbrev pub any_asks : Entry → List Named → Bool
any_asks e = list_any (λ n. asks n.state.kind e)

-- whether one of them asks to stop at one of the entries
abbrev pub any_asks_each : List Entry → List Named → Bool
any_asks_each [] ns = false
any_asks_each (e ∷ es) ns = any_asks e ns || any_asks_each es (all_told e ns)

-- each count has room for n more
abbrev pub HaveRoom : ℕ → List Named → Type 0
HaveRoom n = AllByRecursion (λ a. a.state.count + n < 2 ^ 64)

-- the state of the first with this name
abbrev pub state_named : List ℕ → List Named → Option ProbeState
state_named name [] = None
state_named name (n ∷ ns) = if bytes_eq n.name name then Some n.state else state_named name ns
