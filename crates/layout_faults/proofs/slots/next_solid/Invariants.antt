use Rattle.std.proofs.Common.{◌≡◌, ◌-◌, length}
use Rattle.asm_layout.specs.Layout.{Numbers}
use Rattle.asm_layout.specs.Places.{ArePlaces}
use Rattle.asm_source.specs.Items.{pieces}
use Rattle.asm_source.specs.Second.{items_of, next_solid}
use Rattle.layout_faults.proofs.slots.next_solid.Given as goal

abbrev pub invariant-loop-k : goal.invariant-loop-k
invariant-loop-k l = (F : Numbers) → ArePlaces (pieces (items_of l.all)) F (length l.all) l.places → next_solid l.all F (length l.all - l.k) l.k ≡ next_solid l.all F (length l.all - l.from) l.from
