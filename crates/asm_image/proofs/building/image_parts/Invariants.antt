use Rattle.asm_layout.specs.Places.{member}
use Rattle.asm_source.specs.Second.{items_of}
use Rattle.asm_image.specs.Built.{IsBuilt}
use Rattle.asm_image.proofs.building.image_parts.Given as goal

abbrev pub invariant-loop-k : goal.invariant-loop-k
invariant-loop-k l = IsBuilt l.order (items_of l.all) (member l.grown) l.k l.building
