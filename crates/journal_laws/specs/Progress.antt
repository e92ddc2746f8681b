-- The progress bound: how many ticks a core had for each act, but for those in which it could not act.
use Rattle.std.specs.Prelude.{◌≡◌, ℕ, zero, suc, ◌+◌, ◌*◌, ◌≤◌, ◌==◌, ◌&&◌, ◌||◌, not, Bool, true, false, if◌then◌else◌, List, [], ◌∷◌, ◌++◌, length, filter, map, Option, Some, None, slice_get, nat_lt}
use Rattle.std.specs.List.{fold, list_any, range_with_len}
use Rattle.std.specs.Option.{is_some}
use Rattle.core_regs.specs.declared.causes.WaitOn.{WaitOn}
use Rattle.isa_step.specs.Effects.{View}
use Rattle.board_file.specs.declared.board.LinkRow.{LinkRow}
use Rattle.board_file.specs.declared.board.Turn.{Turn}
use Rattle.run_journal.specs.declared.entry.Entry.{Entry}
use Rattle.run_journal.specs.declared.entry.What.{What}
use Rattle.run_journal.specs.declared.entry.What.TheVariants.{Took, Slept, Stopped, Wait, LineUp, LineDown, HostSent, HostGot, Left}
use Rattle.board_machine.specs.Cycles.{core_at, divides}
use Rattle.board_machine.specs.Fabric.{link_from, link_to}
use Rattle.journal_laws.specs.LinkLaw.{link_recorded}

-- ticks

-- the cores whose clock divides a cycle, in the order of their turns
abbrev pub ticking : Turn → List ℕ → ℕ → List ℕ
ticking turn clocks cycle = filter (λ core. divides (slice_get clocks core) cycle) (map (core_at turn (length clocks) cycle) (range_with_len 0 (length clocks)))

abbrev pub has : ℕ → List ℕ → Bool
has core cores = list_any (λ other. other == core) cores

abbrev pub as_one : Bool → ℕ
as_one true = 1
as_one false = 0

-- the ticks of a core in the cycles below one, where `order` gives the cores that tick in a cycle
abbrev pub ticks_below : (ℕ → List ℕ) → ℕ → ℕ → ℕ
ticks_below order core zero = 0
ticks_below order core (suc cycle) = ticks_below order core cycle + as_one (has core (order cycle))

-- the place of a tick in a journal

-- an entry that a tick of its core made
abbrev pub by_tick : What → Bool
by_tick LineUp = false
by_tick LineDown = false
by_tick (HostSent link item) = false
by_tick (HostGot link item) = false
by_tick (Left uart byte) = false
by_tick _ = true

-- whether another core ticks before this one
abbrev pub earlier : List ℕ → ℕ → ℕ → Bool
earlier [] other core = false
earlier (x ∷ xs) other core = not (x == core) && (x == other || earlier xs other core)

-- whether an entry was made before the tick of a core in a cycle, and whether this tick made it
abbrev pub comes_before : (ℕ → List ℕ) → ℕ → ℕ → Entry → Bool
comes_before order core cycle e = nat_lt e.cycle cycle || (e.cycle == cycle && (not (by_tick e.what) || earlier (order cycle) e.core core))

abbrev pub is_own : ℕ → ℕ → Entry → Bool
is_own core cycle e = e.core == core && (e.cycle == cycle && by_tick e.what)

abbrev pub before_tick : (ℕ → List ℕ) → ℕ → ℕ → List Entry → List Entry
before_tick order core cycle = filter (comes_before order core cycle)

abbrev pub through_tick : (ℕ → List ℕ) → ℕ → ℕ → List Entry → List Entry
through_tick order core cycle = filter (λ e. comes_before order core cycle e || is_own core cycle e)

-- what a core's own entries record

abbrev pub recorded : {X : Type 0} → (X → What → X) → ℕ → X → List Entry → X
recorded step core start = fold (λ x (e : Entry). if e.core == core then step x e.what else x) start

-- a core sleeps from its entry Slept to its next take
abbrev pub asleep_by : Bool → What → Bool
asleep_by asleep Slept = true
asleep_by asleep (Took t) = false
asleep_by asleep _ = asleep

abbrev pub stopped_by : Bool → What → Bool
stopped_by stopped (Stopped cause) = true
stopped_by stopped _ = stopped

-- a wait is kept from its entry to the core's next entry of an act
abbrev pub kept_by : Option WaitOn → What → Option WaitOn
kept_by kept (Wait on) = Some on
kept_by kept what = if by_tick what then None else kept

abbrev pub asleep_recorded : View → ℕ → List Entry → Bool
asleep_recorded first core = recorded asleep_by core first.arch.asleep

abbrev pub stopped_recorded : View → ℕ → List Entry → Bool
stopped_recorded first core = recorded stopped_by core (is_some first.arch.stopped)

abbrev pub wait_recorded : ℕ → List Entry → Option WaitOn
wait_recorded core = recorded kept_by core None

-- ticks in which a core could not act

-- the link from a port is full, or the one to it is empty
abbrev pub is_shut : List LinkRow → List Entry → ℕ → ℕ → Bool → Bool
is_shut rows journal core port true = let c = link_recorded rows journal (link_from rows core port) in length c.items == c.depth
is_shut rows journal core port false = length (link_recorded rows journal (link_to rows core port)).items == 0

abbrev pub waits_still : List LinkRow → List Entry → ℕ → Option WaitOn → Bool
waits_still rows journal core None = false
waits_still rows journal core (Some on) = is_shut rows journal core on.port on.full

-- by the entries before a tick and those through it: the core sleeps before and after it, it is stopped before it, or the
-- tick lies in a kept wait and the link was then still empty or full
abbrev pub rests_in : List LinkRow → View → ℕ → List Entry → List Entry → Bool
rests_in rows first core before through =
    (asleep_recorded first core before && asleep_recorded first core through)
    || (stopped_recorded first core before || waits_still rows before core (wait_recorded core through))

abbrev pub is_rest : (ℕ → List ℕ) → List LinkRow → View → ℕ → ℕ → List Entry → Bool
is_rest order rows first core cycle journal = rests_in rows first core (before_tick order core cycle journal) (through_tick order core cycle journal)

-- how many such ticks a core had in the cycles below one
abbrev pub rests_below : (ℕ → List ℕ) → List LinkRow → View → ℕ → List Entry → ℕ → ℕ
rests_below order rows first core journal zero = 0
rests_below order rows first core journal (suc cycle) = rests_below order rows first core journal cycle + as_one (has core (order cycle) && is_rest order rows first core cycle journal)

-- the bound at an entry of a core that began with this view: its ticks up to that cycle are at most 64 for each act, with
-- the entry's, and the earlier ticks in which it could not act
abbrev pub IsInPace : (ℕ → List ℕ) → List LinkRow → View → List Entry → Entry → Type 0
IsInPace order rows first journal e = ticks_below order e.core (e.cycle + 1) ≤ 64 * (e.act + 1) + rests_below order rows first e.core journal e.cycle

-- the law: the bound at each entry that a tick made
pub record ProgressBound (order : ℕ → List ℕ) (rows : List LinkRow) (views : List View) (journal : List Entry) : Type 0 where
  pub each : (before later : List Entry) (e : Entry) (first : View) → journal ≡ before ++ e ∷ later → by_tick e.what ≡ true → slice_get views e.core ≡ Some first → IsInPace order rows first journal e
