-- What follows from the link law, whoever wrote the journal.
use Rattle.std.specs.Prelude.{◌≡◌, ℕ, ◌==◌, if◌then◌else◌, List, ◌++◌, Option, Some, None}
use Rattle.std.specs.List.{filter_map}
use Rattle.axi_link.specs.declared.item.Item.{Item}
use Rattle.board_file.specs.declared.board.LinkRow.{LinkRow}
use Rattle.run_journal.specs.declared.entry.Entry.{Entry}
use Rattle.run_journal.specs.declared.entry.What.{What}
use Rattle.run_journal.specs.declared.entry.What.TheVariants.{Got, HostGot}
use Rattle.board_machine.specs.Fabric.{link_to}
use Rattle.journal_laws.specs.LinkLaw.{LinkLaw, holds, is_link, put_into}

-- the item that an entry of a core takes out of a link
abbrev pub got_by : List LinkRow → ℕ → ℕ → What → Option Item
got_by rows link core (Got port item) = if is_link link (link_to rows core port) then Some item else None
got_by rows link core (HostGot k item) = if k == link then Some item else None
got_by rows link core _ = None

abbrev pub got_from : List LinkRow → ℕ → List Entry → List Item
got_from rows link = filter_map (λ (e : Entry). got_by rows link e.core e.what)

-- what went into a link is what came out of it, in order, and then what it holds
pub record LinksKeepOrder : Type 0 where
  pub order : (rows : List LinkRow) (journal : List Entry) (link : ℕ) → LinkLaw rows journal → put_into rows link journal ≡ got_from rows link journal ++ holds rows link journal
