-- Several files that are written in order, and how the files of a shelf stand after it.
use Rattle.std.specs.Prelude.{◌≡◌, ◌≢◌, ℕ, ◌<◌, ◌≤◌, ◌⊎◌, ⊤, List, [], ◌∷◌, ◌++◌, flat_map, length, take, slice_get, Option, Some, None, Result, Ok, Err}
use Rattle.std.specs.List.{enumerate_from}
use Rattle.board_file.specs.declared.board.BoardFile.{BoardFile}
use Rattle.board_file.specs.declared.board.End.{End}
use Rattle.board_file.specs.declared.board.End.TheVariants.{Port, File}
use Rattle.board_file.specs.declared.board.LinkRow.{LinkRow}
use Rattle.board_file.specs.declared.board.UartRow.{UartRow}
use Rattle.host_io.specs.Outside.{Files, ShelfState, WhereTold, CountsWriteFault}
use Rattle.host_io.specs.declared.faults.StoreFault.{StoreFault}
use Rattle.host_io.specs.declared.faults.StoreFault.TheVariants.{Failed, NoMemory}
use Rattle.run_journal.specs.declared.entry.Entry.{Entry}
use Rattle.run_journal.specs.Files.{link_file, uart_file}
use Rattle.run_output.specs.declared.outputs.OutputFault.{OutputFault}
use Rattle.run_output.specs.declared.outputs.OutputFault.TheVariants as fault
use Rattle.piece_output.specs.Stored.{Wrote}
use Rattle.run_output.specs.Texts.{journal_text}

-- a file that is to be written: its name and its bytes
pub record Output : Type 0 where
  pub name : List ℕ
  pub bytes : List ℕ

-- what the writing of files in order leaves: each as `Wrote` says up to the first that is refused, and later ones not begun
abbrev pub WroteAll : ShelfState → ShelfState → List Output → Result ⊤ StoreFault → Type 0
WroteAll old new [] (Ok done) = new ≡ old
WroteAll old new [] (Err fault) = ⊥
WroteAll old new (o ∷ os) (Ok done) = (mid : ShelfState) × Wrote old mid o.name o.bytes (Ok tt) × WroteAll mid new os (Ok tt)
WroteAll old new (o ∷ os) (Err fault) =
    Wrote old new o.name o.bytes (Err fault)
    ⊎ (mid : ShelfState) × Wrote old mid o.name o.bytes (Ok tt) × WroteAll mid new os (Err fault)

-- no two outputs have one name
pub record AreApart (outputs : List Output) : Type 0 where
  pub apart : (i j : ℕ) (a b : Output) → slice_get outputs i ≡ Some a → slice_get outputs j ≡ Some b → a.name ≡ b.name → i ≡ j

-- a file is as before, or is a prefix of these bytes
abbrev pub IsAsBeforeOrPart : Option (List ℕ) → Option (List ℕ) → List ℕ → Type 0
IsAsBeforeOrPart before now bytes = (now ≡ before) ⊎ (k : ℕ) × (k ≤ length bytes) × (now ≡ Some (take k bytes))

-- there is a place among the outputs: those before it are whole, the one there is as before or as a failed call leaves it,
-- later ones are as before, and so is every other file
pub record Leaves (old new : Files) (outputs : List Output) (place : ℕ) : Type 0 where
  pub whole : (k : ℕ) (o : Output) → k < place → slice_get outputs k ≡ Some o → new o.name ≡ Some o.bytes
  pub here : (o : Output) → slice_get outputs place ≡ Some o → IsAsBeforeOrPart (old o.name) (new o.name) o.bytes
  pub later : (k : ℕ) (o : Output) → place < k → slice_get outputs k ≡ Some o → new o.name ≡ old o.name
  pub others : (name : List ℕ) → ((k : ℕ) (o : Output) → slice_get outputs k ≡ Some o → o.name ≢ name) → new name ≡ old name

-- how the files stand after all were written, and after a refusal, which is at one of the outputs
abbrev pub Tells : ShelfState → ShelfState → List Output → Result ⊤ StoreFault → Type 0
Tells old new outputs (Ok done) =
    WhereTold old.files new.files (λ before after. Leaves before after outputs (length outputs)) × (new.faults ≡ old.faults)
Tells old new outputs (Err Failed) =
    (place : ℕ) × (o : Output) × (slice_get outputs place ≡ Some o)
    × WhereTold old.files new.files (λ before after. Leaves before after outputs place) × CountsWriteFault old.faults new.faults o.name
Tells old new outputs (Err NoMemory) =
    (place : ℕ) × (o : Output) × (slice_get outputs place ≡ Some o)
    × WhereTold old.files new.files (λ before after. Leaves before after outputs place) × (new.faults ≡ old.faults)

-- files of different names that are written in order stand so
abbrev pub WritingsAreTold : Type 0
WritingsAreTold =
    (old new : ShelfState) (outputs : List Output) (result : Result ⊤ StoreFault) → AreApart outputs → WroteAll old new outputs result
    → Tells old new outputs result

-- a link that leads to a file has an output; one that leads to a core has none
abbrev pub output_at : End → List ℕ → List Output
output_at (File name) bytes = record { name = name; bytes = bytes } ∷ []
output_at (Port core port) bytes = []

-- the output of the link of that number
abbrev pub output_of_link : List Entry → (ℕ × LinkRow) → List Output
output_of_link entries p = output_at p.1.to (link_file p.0 entries)

-- the output of the UART of that number
abbrev pub output_of_uart : List Entry → (ℕ × UartRow) → List Output
output_of_uart entries p = record { name = p.1.output; bytes = uart_file p.0 entries } ∷ []

-- the text of the journal, where it is asked for
abbrev pub output_of_journal : BoardFile → List Entry → Option (List ℕ) → List Output
output_of_journal board entries (Some name) = record { name = name; bytes = journal_text board entries } ∷ []
output_of_journal board entries None = []

-- the outputs of a run in the order in which they are written: those of the links and of the UARTs in board order, then the journal
unfoldable pub outputs_of : BoardFile → List Entry → Option (List ℕ) → List Output
outputs_of board entries journal =
    flat_map (output_of_link entries) (enumerate_from 0 board.links)
    ++ flat_map (output_of_uart entries) (enumerate_from 0 board.uarts)
    ++ output_of_journal board entries journal

-- what the writing of outputs leaves, where a refusal names the file of the call that failed
abbrev pub WroteOutputs : ShelfState → ShelfState → List Output → Result ⊤ OutputFault → Type 0
WroteOutputs old new outputs (Ok done) = WroteAll old new outputs (Ok tt)
WroteOutputs old new outputs (Err (fault.Failed file)) = WroteAll old new outputs (Err Failed) × (new.faults.bad ≡ Some file)
WroteOutputs old new outputs (Err fault.NoMemory) = WroteAll old new outputs (Err NoMemory)
