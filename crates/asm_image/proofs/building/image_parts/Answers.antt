use Rattle.std.proofs.Common.{arith}
use Rattle.asm_layout.specs.Places.{member}
use Rattle.asm_source.specs.Second.{items_of}
use Rattle.asm_image.proofs.Piling.{all_built, count_same}
use Rattle.asm_image.proofs.building.image_parts.Goals as goal

pub returns-clause-parts : goal.returns-clause-parts
returns-clause-parts c =
    (all_built c.args.order (items_of c.args.all.now) (member c.args.grown.now) c.loop-k.k c.loop-k.building c.end_part.new.self.parts.items (omega (arith, count_same c.args.all.now, c.loop-k-test.false)) c.loop-k.invariant c.in_ok-end_part.ensures.parts).are

pub returns-clause-plain : goal.returns-clause-plain
returns-clause-plain c =
    (all_built c.args.order (items_of c.args.all.now) (member c.args.grown.now) c.loop-k.k c.loop-k.building c.end_part.new.self.parts.items (omega (arith, count_same c.args.all.now, c.loop-k-test.false)) c.loop-k.invariant c.in_ok-end_part.ensures.parts).plain
