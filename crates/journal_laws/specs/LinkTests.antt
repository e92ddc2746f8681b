-- Journals that have the link law, and journals that it refuses.
use Rattle.std.specs.Prelude.{ℕ, false, true, List, [], ◌∷◌}
use Rattle.axi_link.specs.declared.item.Item.{Item}
use Rattle.board_file.specs.declared.board.End.TheVariants.{Port, File}
use Rattle.board_file.specs.declared.board.LinkRow.{LinkRow}
use Rattle.run_journal.specs.declared.entry.Entry.{Entry}
use Rattle.run_journal.specs.declared.entry.What.{What}
use Rattle.run_journal.specs.declared.entry.What.TheVariants.{Got, Sent, Seen, Room, Missed, Wait, HostSent, HostGot}
use Rattle.journal_laws.specs.LinkLaw.{LinkLaw}

-- one link, from port 3 of core 0 to port 3 of core 1
abbrev pub one_link : ℕ → List LinkRow
one_link depth = record { name = []; depth = depth; from = Port 0 3; to = Port 1 3 } ∷ []

-- one link, from a file to port 3 of core 0
abbrev pub file_link : List LinkRow
file_link = record { name = []; depth = 4; from = File []; to = Port 0 3 } ∷ []

abbrev pub item : ℕ → Item
item word = record { word = word; control = false }

-- an entry of a core's first act
abbrev pub by_core : ℕ → What → Entry
by_core core what = record { cycle = 0; core = core; act = 0; what = what }

abbrev pub waits_get : What
waits_get = Wait (record { port = 3; full = false })

abbrev pub waits_put : What
waits_put = Wait (record { port = 3; full = true })

-- two items go through a link of depth 2: it is full, then empty
abbrev pub two_items : List Entry
two_items =
    by_core 1 waits_get ∷ by_core 0 (Sent 3 (item 5)) ∷ by_core 0 (Sent 3 (item 6)) ∷ by_core 0 (Missed 3 true) ∷ by_core 1 (Got 3 (item 5))
    ∷ by_core 0 (Room 3) ∷ by_core 1 (Seen 3 (item 6)) ∷ by_core 1 (Got 3 (item 6)) ∷ by_core 1 (Missed 3 false) ∷ []

-- the host sends an item, and a core gets it
abbrev pub host_item : List Entry
host_item = by_core 0 waits_get ∷ by_core 65535 (HostSent 0 (item 7)) ∷ by_core 0 (Got 3 (item 7)) ∷ []

pub record LinkLawIsTested : Type 0 where
  pub through : LinkLaw (one_link 2) two_items
  pub from_host : LinkLaw file_link host_item
  pub overtaken : LinkLaw (one_link 2) (by_core 0 (Sent 3 (item 5)) ∷ by_core 0 (Sent 3 (item 6)) ∷ by_core 1 (Got 3 (item 6)) ∷ []) → ⊥
  pub altered : LinkLaw (one_link 2) (by_core 0 (Sent 3 (item 5)) ∷ by_core 1 (Got 3 (item 6)) ∷ []) → ⊥
  pub doubled : LinkLaw (one_link 2) (by_core 0 (Sent 3 (item 5)) ∷ by_core 1 (Got 3 (item 5)) ∷ by_core 1 (Got 3 (item 5)) ∷ []) → ⊥
  pub from_nothing : LinkLaw (one_link 2) (by_core 1 (Got 3 (item 5)) ∷ []) → ⊥
  pub beyond_depth : LinkLaw (one_link 1) (by_core 0 (Sent 3 (item 5)) ∷ by_core 0 (Sent 3 (item 6)) ∷ []) → ⊥
  pub room_in_full : LinkLaw (one_link 1) (by_core 0 (Sent 3 (item 5)) ∷ by_core 0 (Room 3) ∷ []) → ⊥
  pub missed_item : LinkLaw (one_link 2) (by_core 0 (Sent 3 (item 5)) ∷ by_core 1 (Missed 3 false) ∷ []) → ⊥
  pub missed_room : LinkLaw (one_link 2) (by_core 0 (Sent 3 (item 5)) ∷ by_core 0 (Missed 3 true) ∷ []) → ⊥
  pub waits_at_item : LinkLaw (one_link 2) (by_core 0 (Sent 3 (item 5)) ∷ by_core 1 waits_get ∷ []) → ⊥
  pub waits_at_room : LinkLaw (one_link 2) (by_core 0 (Sent 3 (item 5)) ∷ by_core 0 waits_put ∷ []) → ⊥
  pub unconnected : LinkLaw (one_link 2) (by_core 0 (Sent 4 (item 5)) ∷ []) → ⊥
  pub host_beyond : LinkLaw (one_link 1) (by_core 0 (Sent 3 (item 5)) ∷ by_core 65535 (HostSent 0 (item 6)) ∷ []) → ⊥
  pub host_other : LinkLaw (one_link 1) (by_core 0 (Sent 3 (item 5)) ∷ by_core 65535 (HostGot 0 (item 6)) ∷ []) → ⊥
