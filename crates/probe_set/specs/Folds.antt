-- The state of a probe: the fold of its kind over the entries that it was told.
use Rattle.std.specs.Prelude.{ℕ, ◌+◌, ◌-◌, ◌^◌, ◌==◌, nat_lt, not, Bool, true, false, if◌then◌else◌, List, [], ◌∷◌, ◌++◌, length, drop, bit_or}
use Rattle.run_journal.specs.declared.entry.Entry.{Entry}
use Rattle.run_journal.specs.declared.entry.What.{What}
use Rattle.run_journal.specs.declared.entry.What.TheVariants.{Raised, Stopped}
use Rattle.probe_set.specs.declared.probe.ProbeKind.{ProbeKind}
use Rattle.probe_set.specs.declared.probe.ProbeKind.TheVariants.{Count, Trace, Watch, Cover}
use Rattle.probe_set.specs.declared.probe.ProbeState.{ProbeState}

-- the newest n of a list, the oldest first
abbrev pub newest : ℕ → List Entry → List Entry
newest n entries = drop (length entries - n) entries

-- one more entry, of which the newest 16 are kept
abbrev pub kept_with : Entry → List Entry → List Entry
kept_with e last = newest 16 (last ++ e ∷ [])

-- what a watch looks for
abbrev pub is_watched : What → Bool
is_watched (Raised esr) = true
is_watched (Stopped cause) = true
is_watched _ = false

-- whether an entry is one of a core; the host's and those of UARTs have the number FFFF hex
abbrev pub is_of_core : Entry → Bool
is_of_core e = not (e.core == 0xFFFF)

-- whether an entry counts
abbrev pub counts : ProbeKind → Entry → Bool
counts Count e = true
counts Trace e = true
counts Watch e = is_watched e.what
counts Cover e = is_of_core e

-- the cores that were seen, core i by bit i
abbrev pub with_core : ℕ → ℕ → ℕ
with_core core cores = if nat_lt core 64 then bit_or cores (2 ^ core) else cores

abbrev pub last_after : ProbeKind → Entry → List Entry → List Entry
last_after Trace e last = kept_with e last
last_after Count e last = last
last_after Watch e last = last
last_after Cover e last = last

abbrev pub cores_after : ProbeKind → Entry → ℕ → ℕ
cores_after Cover e cores = with_core e.core cores
cores_after Count e cores = cores
cores_after Trace e cores = cores
cores_after Watch e cores = cores

-- the state after an entry
abbrev pub told : Entry → ProbeState → ProbeState
told e s = record {
  kind = s.kind;
  count = if counts s.kind e then s.count + 1 else s.count;
  last = last_after s.kind e s.last;
  cores = cores_after s.kind e s.cores;
}

-- the state after entries, in order
abbrev pub told_each : List Entry → ProbeState → ProbeState
told_each [] s = s
told_each (e ∷ es) s = told_each es (told e s)

-- the state before any entry
abbrev pub begun : ProbeKind → ProbeState
begun kind = record { kind = kind; count = 0; last = []; cores = 0 }

-- whether a probe of this kind asks to stop at an entry
abbrev pub asks : ProbeKind → Entry → Bool
asks Watch e = is_watched e.what
asks Count e = false
asks Trace e = false
asks Cover e = false
