-- Journals that have the progress bound, and journals that it refuses.
use Rattle.std.specs.Prelude.{ℕ, false, List, [], ◌∷◌}
use Rattle.core_regs.specs.declared.causes.Order.TheVariants.{Big}
use Rattle.core_regs.specs.declared.causes.Take.TheVariants.{Interrupt}
use Rattle.core_regs.specs.State.{fresh}
use Rattle.isa_step.specs.Effects.{View}
use Rattle.run_journal.specs.declared.entry.Entry.{Entry}
use Rattle.run_journal.specs.declared.entry.What.TheVariants.{Got, Took, Slept, Raised, HostSent}
use Rattle.board_file.specs.declared.board.Turn.TheVariants.{Ascending}
use Rattle.journal_laws.specs.Progress.{ProgressBound, ticking}
use Rattle.journal_laws.specs.LinkTests.{file_link, item, waits_get}
use Rattle.journal_laws.specs.TakeTests.{at_act}

-- one core, which ticks in each cycle, and begins awake
abbrev pub each_cycle : ℕ → List ℕ
each_cycle = ticking Ascending (1 ∷ [])

abbrev pub awake : View
awake = record { arch = fresh 0 Big false; memory = [] }

abbrev pub HasBound : List Entry → Type 0
HasBound = ProgressBound each_cycle file_link (awake ∷ [])

-- the same core with a tick in each second cycle
abbrev pub each_second : ℕ → List ℕ
each_second = ticking Ascending (2 ∷ [])

abbrev pub HasSlowBound : List Entry → Type 0
HasSlowBound = ProgressBound each_second file_link (awake ∷ [])

-- an entry of the host
abbrev pub host_sends : ℕ → Entry
host_sends cycle = record { cycle = cycle; core = 65535; act = 0; what = HostSent 0 (item 7) }

pub record ProgressBoundIsTested : Type 0 where
  -- the 64 ticks of an act are those of the cycles 0 to 63
  pub in_time : HasBound (at_act 63 0 (Raised 1) ∷ [])
  pub two_acts : HasBound (at_act 127 1 (Raised 1) ∷ [])
  pub one_tick_late : HasBound (at_act 64 0 (Raised 1) ∷ []) → ⊥
  pub held_up : HasBound (at_act 63 0 (Raised 1) ∷ at_act 128 1 (Raised 1) ∷ []) → ⊥
  pub slow_in_time : HasSlowBound (at_act 126 0 (Raised 1) ∷ [])
  pub slow_late : HasSlowBound (at_act 128 0 (Raised 1) ∷ []) → ⊥
  -- a wait at an empty link counts, up to the item
  pub waited : HasBound (at_act 0 0 waits_get ∷ host_sends 100 ∷ at_act 100 0 (Got 3 (item 7)) ∷ [])
  pub waited_on : HasBound (at_act 0 0 waits_get ∷ host_sends 1 ∷ at_act 100 0 (Got 3 (item 7)) ∷ []) → ⊥
  -- so does sleep, from the tick after the entry
  pub slept : HasBound (at_act 0 0 Slept ∷ at_act 200 1 (Took Interrupt) ∷ [])
  pub slept_on : HasBound (at_act 0 0 Slept ∷ at_act 1 1 (Took Interrupt) ∷ at_act 200 2 (Raised 1) ∷ []) → ⊥
