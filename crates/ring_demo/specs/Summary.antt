-- What left a run, and the summary of three.
use Rattle.std.specs.Prelude.{◌≡◌, ℕ, ◌%◌, ◌^◌, List, [], ◌∷◌, ◌++◌, Option, Some, None, codes, flat_map, length, sum}
use Rattle.board_file.specs.declared.board.Turn.{Turn}
use Rattle.board_file.specs.declared.board.Turn.TheVariants.{Ascending, Descending, Rotating}
use Rattle.run_journal.specs.declared.entry.Entry.{Entry}
use Rattle.run_journal.specs.declared.entry.What.{What}
use Rattle.run_journal.specs.declared.entry.What.TheVariants.{HostGot}
use Rattle.run_journal.specs.Lines.{hex, number as number_word, word}
use Rattle.ring_demo.specs.Ring.{cores_of}
use Rattle.ring_demo.specs.declared.run.Runs.{Runs}
use Rattle.ring_demo.specs.declared.tally.Tally.{Tally}

-- the word of an item that left for the output, for an entry that tells of one
abbrev pub word_left : What → List ℕ
word_left (HostGot link item) = item.word ∷ []
word_left _ = []

abbrev pub word_of : Entry → List ℕ
word_of e = word_left e.what

-- the same for an entry that may not be there
abbrev pub word_at : Option Entry → List ℕ
word_at None = []
word_at (Some e) = word_of e

-- the words of the items that left, in order
abbrev pub words_left : List Entry → List ℕ
words_left = flat_map word_of

-- how many items left, and the sum of their words modulo 2^32
pub record IsTally (tally : Tally) (entries : List Entry) : Type 0 where
  pub items : tally.items ≡ length (words_left entries)
  pub sum : tally.sum ≡ sum (words_left entries) % 2 ^ 32

abbrev pub order_name : Turn → List ℕ
order_name Ascending = codes "ascending"
order_name Descending = codes "descending"
order_name Rotating = codes "rotating"

-- the line of the ring
abbrev pub ring_line : ℕ → List ℕ
ring_line number = codes "demo" ++ number_word number ++ word (codes "cores") ++ number_word (cores_of number) ++ codes "\n"

-- the line of an order
abbrev pub order_line : Turn → Tally → List ℕ
order_line turn tally =
    order_name turn ++ word (codes "items") ++ number_word tally.items ++ word (codes "sum") ++ hex tally.sum ++ codes "\n"

-- the summary of a run in each order
abbrev pub summary_of : ℕ → Runs → List ℕ
summary_of number runs =
    ring_line number ++ order_line Ascending runs.ascending.tally ++ order_line Descending runs.descending.tally
    ++ order_line Rotating runs.rotating.tally
