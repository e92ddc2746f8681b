use Rattle.std.proofs.Common.{◌≡◌, ◌+◌, ◌-◌, length, arith}
use Rattle.asm_image.proofs.numbers.value_of.Goals as goal

pub label_value-requires-clause-at : goal.label_value-requires-clause-at
label_value-requires-clause-at c =
    let room : length c.args.places.now ≡ length c.args.places.now - 1 + 1 = omega (arith, c.requires.some) in
    c.place_at.ensures.below (length c.args.places.now - 1) room (c.requires.below (length c.args.places.now - 1) room)
