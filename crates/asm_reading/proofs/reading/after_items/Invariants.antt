use Rattle.std.proofs.Common.{◌≡◌, drop}
use Rattle.std.specs.Prelude.{fold}
use Rattle.asm_reading.specs.Reading.{after_item}
use Rattle.asm_reading.proofs.Following.{items_in}
use Rattle.asm_reading.proofs.reading.after_items.Given as goal

abbrev pub invariant-loop-k : goal.invariant-loop-k
invariant-loop-k l = fold after_item l.after (items_in (drop l.k l.items)) ≡ fold after_item l.initial.after (items_in l.items)
