-- Which files a board names.
use Rattle.std.specs.Prelude.{ℕ, Bool, false, ◌||◌, List, Option, Some, None}
use Rattle.std.specs.List.{list_any}
use Rattle.std.specs.Str.{bytes_eq}
use Rattle.board_file.specs.declared.board.BoardFile.{BoardFile}
use Rattle.board_file.specs.declared.board.CoreRow.{CoreRow}
use Rattle.board_file.specs.declared.board.End.{End}
use Rattle.board_file.specs.declared.board.End.TheVariants.{Port, File}
use Rattle.board_file.specs.declared.board.LinkRow.{LinkRow}
use Rattle.board_file.specs.declared.board.UartRow.{UartRow}

-- an image of a core is this file
abbrev pub core_names : List ℕ → CoreRow → Bool
core_names file row = bytes_eq row.image file

abbrev pub end_names : List ℕ → End → Bool
end_names file (Port core port) = false
end_names file (File name) = bytes_eq name file

-- the input or the output of a link is this file
abbrev pub link_names : List ℕ → LinkRow → Bool
link_names file row = end_names file row.from || end_names file row.to

abbrev pub input_names : List ℕ → Option (List ℕ) → Bool
input_names file None = false
input_names file (Some name) = bytes_eq name file

-- the output or the input of a UART is this file
abbrev pub uart_names : List ℕ → UartRow → Bool
uart_names file row = bytes_eq row.output file || input_names file row.input

-- the file is an image, an input or an output of the board
unfoldable pub names_file : BoardFile → List ℕ → Bool
names_file board file =
    list_any (core_names file) board.cores || list_any (link_names file) board.links || list_any (uart_names file) board.uarts

-- the file of the journal is one of those, where there is such a file
abbrev pub names_journal : BoardFile → Option (List ℕ) → Bool
names_journal board None = false
names_journal board (Some file) = names_file board file
