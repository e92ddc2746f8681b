-- What the entries of a run say of a link and of a UART: how many items went in and out, and how many bytes left.
use Rattle.std.specs.Prelude.{ℕ, ◌==◌, Bool, false, List, length, filter}
use Rattle.board_file.specs.declared.board.End.{End}
use Rattle.board_file.specs.declared.board.LinkRow.{LinkRow}
use Rattle.board_file.specs.Rows.{is_port}
use Rattle.run_journal.specs.declared.entry.Entry.{Entry}
use Rattle.run_journal.specs.declared.entry.What.{What}
use Rattle.run_journal.specs.declared.entry.What.TheVariants.{Got, Sent, HostSent, HostGot, Left}

-- an item went into the link of that number: a core sent it at the port that it comes from, or the host did
abbrev pub puts_in : ℕ → End → ℕ → What → Bool
puts_in link from core (Sent port item) = is_port core port from
puts_in link from core (HostSent l item) = l == link
puts_in link from core _ = false

-- an item came out of the link of that number: a core got it at the port that it leads to, or the host did
abbrev pub takes_out : ℕ → End → ℕ → What → Bool
takes_out link to core (Got port item) = is_port core port to
takes_out link to core (HostGot l item) = l == link
takes_out link to core _ = false

abbrev pub is_sent : ℕ → LinkRow → Entry → Bool
is_sent link row e = puts_in link row.from e.core e.what

abbrev pub is_taken : ℕ → LinkRow → Entry → Bool
is_taken link row e = takes_out link row.to e.core e.what

-- how many items went into a link, and how many came out
abbrev pub items_sent : List Entry → ℕ → LinkRow → ℕ
items_sent entries link row = length (filter (is_sent link row) entries)

abbrev pub items_taken : List Entry → ℕ → LinkRow → ℕ
items_taken entries link row = length (filter (is_taken link row) entries)

-- a byte left the UART of that number
abbrev pub leaves : ℕ → What → Bool
leaves uart (Left u byte) = u == uart
leaves uart _ = false

abbrev pub has_left : ℕ → Entry → Bool
has_left uart e = leaves uart e.what

-- how many bytes left a UART
abbrev pub bytes_out : List Entry → ℕ → ℕ
bytes_out entries uart = length (filter (has_left uart) entries)
