-- What the definitions are.
use Rattle.std.specs.Prelude.{◌≡◌, ℕ, List}
use Rattle.asm_source.specs.Faults.{least}
use Rattle.asm_source.specs.Laws.{AreInOrder}
use Rattle.asm_reading.specs.FirstRound.{first_faults}
use Rattle.asm_reading.specs.Reading.{source_read}

-- the fault that is kept is the least of those of all lines
abbrev pub LinesHaveALeast : Type 0
LinesHaveALeast = (source : List ℕ) → (source_read source).first ≡ least (first_faults source)

-- items stand in the order of their lines
abbrev pub ItemsAreInOrder : Type 0
ItemsAreInOrder = (source : List ℕ) → AreInOrder (source_read source).items
