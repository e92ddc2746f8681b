use Rattle.std.proofs.Common.{◌≡◌, ◌-◌, ◌∙◌, ap, arith, get_or, length}
use Rattle.asm_layout.proofs.Past.{place_read}
use Rattle.asm_layout.proofs.places.place_at.Goals as goal

pub returns : goal.returns
returns c = record {
  place = λ all F room laid.
      let last : length c.args.places.now - 1 ≡ length all = omega (arith, room) in
      ap (λ j. get_or c.args.places.now j 0) c.min.ensures ∙ place_read all F c.args.places.now c.args.k (length c.args.places.now - 1) last laid;
  below = λ n room below. below c.min.result (omega (arith, room, c.min.ensures));
  near = λ limit all. all c.min.result (omega (arith, c.requires, c.min.ensures));
}
