-- What the entries of a run tell of its links and UARTs, counted in tables.
use Rattle.std.specs.Prelude.{◌≡◌, ℕ, ◌+◌, ◌*◌, ◌≤◌, ◌<◌, ◌==◌, ◌&&◌, ⊤, Bool, false, List, filter, get_or, length, replicate, set, slice_get, Some}
use Rattle.board_file.specs.declared.board.End.{End}
use Rattle.board_file.specs.declared.board.End.TheVariants.{Port, File}
use Rattle.board_file.specs.declared.board.LinkRow.{LinkRow}
use Rattle.board_file.specs.declared.board.UartRow.{UartRow}
use Rattle.run_journal.specs.declared.entry.Entry.{Entry}
use Rattle.run_journal.specs.declared.entry.What.{What}
use Rattle.run_journal.specs.declared.entry.What.TheVariants.{Got, Sent, HostSent, HostGot, Left}
use Rattle.run_output.specs.Counts.{has_left}
use Rattle.run_output.specs.Report.{link_line, uart_line}

-- counters: of the items that each port sent and got, of those that the host put into each link and took out, and of the
-- bytes that left each UART
pub record Counters : Type 0 where
  pub sent : List ℕ
  pub got : List ℕ
  pub host_sent : List ℕ
  pub host_got : List ℕ
  pub left : List ℕ

-- the place of a port among the ports of all cores, 256 of each
abbrev pub place_of : ℕ → ℕ → ℕ
place_of core port = core * 256 + port

-- all counters are 0
abbrev pub cleared : Counters → Counters
cleared t = record {
  sent = replicate (length t.sent) 0;
  got = replicate (length t.got) 0;
  host_sent = replicate (length t.host_sent) 0;
  host_got = replicate (length t.host_got) 0;
  left = replicate (length t.left) 0;
}

-- one more at a place
abbrev pub one_more_at : List ℕ → ℕ → List ℕ
one_more_at counts place = set counts place (get_or counts place 0 + 1)

-- one more entry of a core is counted
abbrev pub counted : ℕ → What → Counters → Counters
counted core (Sent port item) t = record t { sent = one_more_at t.sent (place_of core port) }
counted core (Got port item) t = record t { got = one_more_at t.got (place_of core port) }
counted core (HostSent link item) t = record t { host_sent = one_more_at t.host_sent link }
counted core (HostGot link item) t = record t { host_got = one_more_at t.host_got link }
counted core (Left uart byte) t = record t { left = one_more_at t.left uart }
counted core _ t = t

-- the port of an entry is a byte
abbrev pub HasByte : What → Type 0
HasByte (Sent port item) = port < 256
HasByte (Got port item) = port < 256
HasByte _ = ⊤

-- that port of that core sent an item, or got one
abbrev pub sends : ℕ → ℕ → ℕ → What → Bool
sends core port by (Sent p item) = core == by && port == p
sends core port by _ = false

abbrev pub gets : ℕ → ℕ → ℕ → What → Bool
gets core port by (Got p item) = core == by && port == p
gets core port by _ = false

-- the host put an item into that link, or took one out
abbrev pub host_sends : ℕ → What → Bool
host_sends link (HostSent l item) = l == link
host_sends link _ = false

abbrev pub host_gets : ℕ → What → Bool
host_gets link (HostGot l item) = l == link
host_gets link _ = false

-- how many of these entries pass a test on the core and what was done
abbrev pub number_of : (ℕ → What → Bool) → List Entry → ℕ
number_of test entries = length (filter (λ e. test e.core e.what) entries)

-- each counter tells how many entries there are of its kind
pub record IsTally (t : Counters) (entries : List Entry) : Type 0 where
  pub sent : (core port : ℕ) → port < 256 → place_of core port < length t.sent
      → get_or t.sent (place_of core port) 0 ≡ number_of (sends core port) entries
  pub got : (core port : ℕ) → port < 256 → place_of core port < length t.got
      → get_or t.got (place_of core port) 0 ≡ number_of (gets core port) entries
  pub host_sent : (link : ℕ) → link < length t.host_sent → get_or t.host_sent link 0 ≡ number_of (λ core. host_sends link) entries
  pub host_got : (link : ℕ) → link < length t.host_got → get_or t.host_got link 0 ≡ number_of (λ core. host_gets link) entries
  pub left : (uart : ℕ) → uart < length t.left → get_or t.left uart 0 ≡ length (filter (has_left uart) entries)

-- one more can be counted at each counter
pub record Few (t : Counters) : Type 0 where
  pub sent : (core port : ℕ) → port < 256 → get_or t.sent (place_of core port) 0 < 18446744073709551615
  pub got : (core port : ℕ) → port < 256 → get_or t.got (place_of core port) 0 < 18446744073709551615
  pub host_sent : (link : ℕ) → get_or t.host_sent link 0 < 18446744073709551615
  pub host_got : (link : ℕ) → get_or t.host_got link 0 < 18446744073709551615
  pub left : (uart : ℕ) → get_or t.left uart 0 < 18446744073709551615

-- the port of an end is among so many places
abbrev pub Reaches : ℕ → End → Type 0
Reaches places (Port core port) = (port < 256) × (place_of core port < places)
Reaches places (File name) = ⊤

-- the ports of all links are
pub record ReachesAll (places : ℕ) (rows : List LinkRow) : Type 0 where
  pub from : (k : ℕ) (row : LinkRow) → slice_get rows k ≡ Some row → Reaches places row.from
  pub to : (k : ℕ) (row : LinkRow) → slice_get rows k ≡ Some row → Reaches places row.to

-- there are counters for these links
pub record Covers (t : Counters) (rows : List LinkRow) : Type 0 where
  pub from : (k : ℕ) (row : LinkRow) → slice_get rows k ≡ Some row → Reaches (length t.sent) row.from
  pub to : (k : ℕ) (row : LinkRow) → slice_get rows k ≡ Some row → Reaches (length t.got) row.to
  pub host_sent : length t.host_sent ≡ length rows
  pub host_got : length t.host_got ≡ length rows

-- what was counted at the port of an end
abbrev pub port_count : List ℕ → End → ℕ
port_count counts (Port core port) = get_or counts (place_of core port) 0
port_count counts (File name) = 0

-- what was counted of a link: the items that went in, and those that came out
abbrev pub sent_of : Counters → ℕ → LinkRow → ℕ
sent_of t link row = port_count t.sent row.from + get_or t.host_sent link 0

abbrev pub taken_of : Counters → ℕ → LinkRow → ℕ
taken_of t link row = port_count t.got row.to + get_or t.host_got link 0

-- the counts of these links fit
pub record Fit (t : Counters) (rows : List LinkRow) : Type 0 where
  pub sent : (k : ℕ) (row : LinkRow) → slice_get rows k ≡ Some row → sent_of t k row ≤ 18446744073709551615
  pub taken : (k : ℕ) (row : LinkRow) → slice_get rows k ≡ Some row → taken_of t k row ≤ 18446744073709551615

-- the lines of a link and of a UART by what was counted
abbrev pub counted_link_line : Counters → (ℕ × LinkRow) → List ℕ
counted_link_line t p = link_line p.1.name (sent_of t p.0 p.1) (taken_of t p.0 p.1)

abbrev pub counted_uart_line : Counters → (ℕ × UartRow) → List ℕ
counted_uart_line t p = uart_line p.1.name (get_or t.left p.0 0)
