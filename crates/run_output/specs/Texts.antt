-- The names that a board gives to the parts of an entry, and the text of a journal.
use Rattle.std.specs.Prelude.{ℕ, List, codes, flat_map, slice_get, Option, Some, None}
use Rattle.std.specs.Option.{option_map}
use Rattle.board_file.specs.declared.board.BoardFile.{BoardFile}
use Rattle.board_file.specs.declared.board.CoreRow.{CoreRow}
use Rattle.board_file.specs.declared.board.LinkRow.{LinkRow}
use Rattle.board_file.specs.declared.board.UartRow.{UartRow}
use Rattle.run_journal.specs.declared.entry.Entry.{Entry}
use Rattle.run_journal.specs.declared.entry.What.{What}
use Rattle.run_journal.specs.declared.entry.What.TheVariants.{HostSent, HostGot, Left}
use Rattle.run_journal.specs.Lines.{line_of}

-- a name that the board lacks is shown as `-`
abbrev pub shown : Option (List ℕ) → List ℕ
shown (Some name) = name
shown None = codes "-"

-- the name of the core of that number
abbrev pub core_name : BoardFile → ℕ → List ℕ
core_name board core = shown (option_map (λ (r : CoreRow). r.name) (slice_get board.cores core))

abbrev pub link_name : BoardFile → ℕ → List ℕ
link_name board link = shown (option_map (λ (r : LinkRow). r.name) (slice_get board.links link))

abbrev pub uart_name : BoardFile → ℕ → List ℕ
uart_name board uart = shown (option_map (λ (r : UartRow). r.name) (slice_get board.uarts uart))

-- the name of the link or UART that an entry is about; an entry about no such part has none
abbrev pub part_name : BoardFile → What → List ℕ
part_name board (HostSent link item) = link_name board link
part_name board (HostGot link item) = link_name board link
part_name board (Left uart byte) = uart_name board uart
part_name board _ = codes "-"

-- the line of an entry with the names of the board
abbrev pub journal_line : BoardFile → Entry → List ℕ
journal_line board e = line_of e (core_name board e.core) (part_name board e.what)

-- the text of a journal: a line for each entry, in order
unfoldable pub journal_text : BoardFile → List Entry → List ℕ
journal_text board = flat_map (journal_line board)
