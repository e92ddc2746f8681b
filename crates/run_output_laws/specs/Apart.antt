-- The files that a run of a sound board writes have different names.
use Rattle.std.specs.Prelude.{◌≡◌, ◌≢◌, ℕ, List, slice_get, Option, Some}
use Rattle.board_file.specs.declared.board.BoardFile.{BoardFile}
use Rattle.board_file_laws.specs.Sound.{IsSound, output_files}
use Rattle.run_journal.specs.declared.entry.Entry.{Entry}
use Rattle.run_output.specs.Outputs.{AreApart, outputs_of}

-- the journal's file, where it is asked for, is no output of the board
abbrev pub IsNoOutput : BoardFile → Option (List ℕ) → Type 0
IsNoOutput board journal = (name : List ℕ) → journal ≡ Some name → (k : ℕ) → slice_get (output_files board) k ≢ Some name

abbrev pub OutputsAreApart : Type 0
OutputsAreApart = (board : BoardFile) (entries : List Entry) (journal : Option (List ℕ)) → IsSound board → IsNoOutput board journal → AreApart (outputs_of board entries journal)
