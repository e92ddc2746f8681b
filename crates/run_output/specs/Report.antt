-- The report of a run: a line for the run, and one for each core, link and UART.
use Rattle.std.specs.Prelude.{ℕ, List, ◌++◌, codes, flat_map, length, Option, Some, None}
use Rattle.std.specs.List.{enumerate_from}
use Rattle.board_file.specs.declared.board.BoardFile.{BoardFile}
use Rattle.board_file.specs.declared.board.CoreRow.{CoreRow}
use Rattle.board_file.specs.declared.board.LinkRow.{LinkRow}
use Rattle.board_file.specs.declared.board.UartRow.{UartRow}
use Rattle.isa_step.specs.declared.acts.Idle.{Idle}
use Rattle.isa_step.specs.declared.acts.Idle.TheVariants.{Ended, Asleep, Waits, Stopped}
use Rattle.run_journal.specs.declared.entry.Entry.{Entry}
use Rattle.run_journal.specs.Lines.{word, number, hex, side, stop_words}
use Rattle.run_output.specs.declared.report.CoreEnd.{CoreEnd}
use Rattle.run_output.specs.Counts.{bytes_out, items_sent, items_taken}

-- the status of the run, its cycles, and the number of its entries
unfoldable pub status_line : ℕ → ℕ → ℕ → List ℕ
status_line code cycles entries =
    codes "status" ++ number code ++ word (codes "cycles") ++ number cycles ++ word (codes "entries") ++ number entries ++ codes "\n"

-- why a core rests for good, or that it doesn't
abbrev pub end_words : Option Idle → List ℕ
end_words (Some Ended) = word (codes "ended")
end_words (Some Asleep) = word (codes "asleep")
end_words (Some (Waits on)) = side (codes "waits") on
end_words (Some (Stopped cause)) = word (codes "stopped") ++ stop_words cause
end_words None = word (codes "runs")

unfoldable pub core_line : List ℕ → Option Idle → ℕ → ℕ → List ℕ
core_line name idle pc acts =
    codes "core" ++ word name ++ end_words idle ++ word (codes "pc") ++ hex pc ++ word (codes "acts") ++ number acts ++ codes "\n"

unfoldable pub link_line : List ℕ → ℕ → ℕ → List ℕ
link_line name sent taken =
    codes "link" ++ word name ++ word (codes "sent") ++ number sent ++ word (codes "taken") ++ number taken ++ codes "\n"

unfoldable pub uart_line : List ℕ → ℕ → List ℕ
uart_line name left = codes "uart" ++ word name ++ word (codes "left") ++ number left ++ codes "\n"

-- the line of the core of that number
abbrev pub line_of_core : (ℕ → CoreEnd) → (ℕ × CoreRow) → List ℕ
line_of_core ends p = core_line p.1.name (ends p.0).idle (ends p.0).pc (ends p.0).acts

-- the lines of the cores, each with how it stands
abbrev pub core_lines : (ℕ → CoreEnd) → List CoreRow → List ℕ
core_lines ends rows = flat_map (line_of_core ends) (enumerate_from 0 rows)

-- the line of the link of that number
abbrev pub line_of_link : List Entry → (ℕ × LinkRow) → List ℕ
line_of_link entries p = link_line p.1.name (items_sent entries p.0 p.1) (items_taken entries p.0 p.1)

-- the lines of the links, with what the entries say of each
abbrev pub link_lines : List Entry → List LinkRow → List ℕ
link_lines entries rows = flat_map (line_of_link entries) (enumerate_from 0 rows)

-- the line of the UART of that number
abbrev pub line_of_uart : List Entry → (ℕ × UartRow) → List ℕ
line_of_uart entries p = uart_line p.1.name (bytes_out entries p.0)

-- the lines of the UARTs, with what the entries say of each
abbrev pub uart_lines : List Entry → List UartRow → List ℕ
uart_lines entries rows = flat_map (line_of_uart entries) (enumerate_from 0 rows)

-- the report of a run of a board: its status, its cycles, how its cores stand, and its entries
unfoldable pub report_text : BoardFile → (ℕ → CoreEnd) → List Entry → ℕ → ℕ → List ℕ
report_text board ends entries code cycles =
    status_line code cycles (length entries) ++ core_lines ends board.cores ++ link_lines entries board.links ++ uart_lines entries board.uarts
