-- The lines that tell profiles.
use Rattle.std.specs.Prelude.{ℕ, List, ◌++◌, codes}
use Rattle.exact_machine.specs.Profile.{Profile}
use Rattle.run_journal.specs.Lines.{number, word}

-- a word, and the count that it names
abbrev pub count_words : List ℕ → ℕ → List ℕ
count_words name count = word name ++ number count

-- the line of a core
unfoldable pub profile_line : List ℕ → Profile → List ℕ
profile_line name p =
    codes "profile" ++ word name ++ count_words (codes "acted") p.acted ++ count_words (codes "start") p.start ++ count_words (codes "hold") p.hold
    ++ count_words (codes "operand") p.operand ++ count_words (codes "redirect") p.redirect ++ count_words (codes "divide") p.divide
    ++ count_words (codes "waiting") p.waiting ++ count_words (codes "sleeping") p.sleeping ++ count_words (codes "done") p.done ++ codes "\n"
