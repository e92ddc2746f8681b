-- What a script may name.
use Rattle.std.specs.Prelude.{ℕ, List, map}
use Rattle.board_file.specs.declared.board.BoardFile.{BoardFile}
use Rattle.board_file.specs.declared.board.CoreRow.{CoreRow}
use Rattle.board_file.specs.declared.board.LinkRow.{LinkRow}
use Rattle.board_file.specs.declared.board.UartRow.{UartRow}
use Rattle.debug_script.specs.declared.names.ScriptNames.{ScriptNames}
use Rattle.elf_image.specs.declared.symbol.Symbol.{Symbol}

-- the names of a board's parts in board order, the symbols of its cores' images, and the names of probes
abbrev pub names_of : BoardFile → List (List Symbol) → List (List ℕ) → ScriptNames
names_of board symbols probes = record {
  cores = map (λ (row : CoreRow). row.name) board.cores;
  links = map (λ (row : LinkRow). row.name) board.links;
  uarts = map (λ (row : UartRow). row.name) board.uarts;
  probes = probes;
  symbols = symbols;
}
