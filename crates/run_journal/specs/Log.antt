-- What a contract sees of a journal.
use Rattle.std.specs.Prelude.{ℕ, ◌-◌, List, [], ◌∷◌, ◌++◌}
use Rattle.run_journal.specs.declared.entry.Entry.{Entry}

-- the entries, the oldest first, and how many more there is room for
pub record Log : Type 0 where
  pub entries : List Entry
  pub spare : ℕ

-- no entry, and room for so many
abbrev pub empty : ℕ → Log
empty spare = record { entries = []; spare = spare }

-- with an entry behind the others
abbrev pub with_newest : Entry → Log → Log
with_newest e log = record { entries = log.entries ++ e ∷ []; spare = log.spare - 1 }
