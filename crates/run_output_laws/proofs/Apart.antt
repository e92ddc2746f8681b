-- The names of a run's outputs are those of the board's output files, and then the journal's.
use Rattle.std.proofs.Common.{◌≡◌, ℕ, ◌+◌, List, [], ◌∷◌, ◌++◌, map, flat_map, slice_get, Option, Some, None, option_map, refl, ap, ◌∙◌}
use Rattle.std.proofs.lemmas.List.{map-append}
use Rattle.std.proofs.lemmas.Option.{slice_get-map}
use Rattle.std.specs.List.{enumerate_from}
use Rattle.board_file.specs.declared.board.BoardFile.{BoardFile}
use Rattle.board_file.specs.declared.board.End.{End}
use Rattle.board_file.specs.declared.board.End.TheVariants.{Port, File}
use Rattle.board_file.specs.declared.board.LinkRow.{LinkRow}
use Rattle.board_file.specs.declared.board.UartRow.{UartRow}
use Rattle.board_file_laws.proofs.Distinct.{distinct_and}
use Rattle.board_file_laws.specs.Sound.{AreDistinct, files_at, link_files, output_files, uart_files}
use Rattle.run_journal.specs.declared.entry.Entry.{Entry}
use Rattle.run_journal.specs.Files.{link_file}
use Rattle.run_output.specs.Outputs.{AreApart, Output, output_at, output_of_journal, output_of_link, output_of_uart, outputs_of}
use Rattle.run_output_laws.specs.Apart.{IsNoOutput, OutputsAreApart}

abbrev names : List Output → List (List ℕ)
names outputs = map (λ o. o.name) outputs

end_names : (end : End) (bytes : List ℕ) → names (output_at end bytes) ≡ files_at end
end_names (File name) bytes = refl
end_names (Port core port) bytes = refl

link_names : (entries : List Entry) (n : ℕ) (links : List LinkRow) → names (flat_map (output_of_link entries) (enumerate_from n links)) ≡ link_files links
link_names entries n [] = refl
link_names entries n (link ∷ links) =
    let first = end_names link.to (link_file n entries) in
    let more = link_names entries (n + 1) links in
    rw (map-append (λ o. o.name) (output_of_link entries (n, link)) (flat_map (output_of_link entries) (enumerate_from (n + 1) links)), first, more) refl

uart_names : (entries : List Entry) (n : ℕ) (uarts : List UartRow) → names (flat_map (output_of_uart entries) (enumerate_from n uarts)) ≡ uart_files uarts
uart_names entries n [] = refl
uart_names entries n (uart ∷ uarts) = ap (λ rest. uart.output ∷ rest) (uart_names entries (n + 1) uarts)

-- the outputs before the journal
abbrev rows_of : BoardFile → List Entry → List Output
rows_of board entries = flat_map (output_of_link entries) (enumerate_from 0 board.links) ++ flat_map (output_of_uart entries) (enumerate_from 0 board.uarts)

row_names : (board : BoardFile) (entries : List Entry) → names (rows_of board entries) ≡ output_files board
row_names board entries =
    rw (map-append (λ o. o.name) (flat_map (output_of_link entries) (enumerate_from 0 board.links)) (flat_map (output_of_uart entries) (enumerate_from 0 board.uarts)), link_names entries 0 board.links, uart_names entries 0 board.uarts) refl

named : (outputs : List Output) (k : ℕ) (o : Output) → slice_get outputs k ≡ Some o → slice_get (names outputs) k ≡ Some o.name
named outputs k o e = slice_get-map (λ o. o.name) outputs k ∙ ap (option_map (λ o. o.name)) e

-- outputs whose names are distinct are apart
pub apart : (outputs : List Output) → AreDistinct (names outputs) → AreApart outputs
apart outputs d = record { apart = λ i j a b e f same. d.lone i j b.name (named outputs i a e ∙ ap Some same) (named outputs j b f) }

with_journal : (board : BoardFile) (entries : List Entry) (journal : Option (List ℕ)) → AreDistinct (output_files board) → IsNoOutput board journal → AreDistinct (names (rows_of board entries ++ output_of_journal board entries journal))
with_journal board entries None d other = rw (map-append (λ o. o.name) (rows_of board entries) [], row_names board entries) (rw (nothing_more (output_files board)) d)
  where
    nothing_more : (xs : List (List ℕ)) → xs ++ [] ≡ xs
    nothing_more [] = refl
    nothing_more (x ∷ xs) = ap (λ rest. x ∷ rest) (nothing_more xs)
with_journal board entries (Some name) d other =
    rw (map-append (λ o. o.name) (rows_of board entries) (output_of_journal board entries (Some name)), row_names board entries) (distinct_and (output_files board) name d (other name refl))

pub outputs_apart : OutputsAreApart
unfolding outputs_of
outputs_apart board entries journal sound other = apart _ (with_journal board entries journal sound.distinct_outputs other)
