use Rattle.std.proofs.Common.{◌≡◌, ◌+◌, length, refl, sym, ap, subst, ◌∙◌, arith}
use Rattle.asm_layout.specs.Places.{ArePlaces, member}
use Rattle.asm_source.specs.Items.{pieces}
use Rattle.asm_source.specs.Second.{items_of}
use Rattle.asm_image.proofs.Piling.{begins_part, count_same, item_added, item_at, part_begun, pieces_same}
use Rattle.asm_image.proofs.building.Building.add_item.Goals as goal

pub returns-in-Some : goal.returns-in-Some
returns-in-Some c = λ built.
    part_begun c.args.order (items_of c.args.all.now) (member c.args.grown.now) c.args.k _ c.args.self.now c.begin.new.self (omega (arith, count_same c.args.all.now, c.requires.within)) built c.in-Some.address
    (item_at c.args.all.now c.args.k _ c.requires.within ∙ begins_part _ c.in-Some.address (sym c.address_of.ensures ∙ c.in-Some.is))
    c.in_ok-begin.ensures.parts c.in_ok-begin.ensures.bytes c.in_ok-begin.ensures.start

pub returns : goal.returns
returns c = λ built.
    let ps = pieces (items_of c.args.all.now) in
    let count : length ps ≡ length c.args.all.now = pieces_same c.args.all.now in
    let laid : ArePlaces ps (member c.args.grown.now) (length ps) c.args.places.now = subst (λ n. ArePlaces ps (member c.args.grown.now) n c.args.places.now) (sym count) c.requires.laid in
    let room : length c.args.places.now ≡ length ps + 1 = c.requires.room ∙ ap (λ n. n + 1) (sym count) in
    item_added c.args.order c.args.all.now (member c.args.grown.now) c.args.k _ c.args.self.now (record { parts = c.args.self.now.parts; start = c.args.self.now.start; bytes = c.put_item.new.out }) c.prefixed-long.result _ _
    c.requires.within built (sym c.address_of.ensures ∙ c.in_default.is) c.prefixed-long.ensures (c.requires.laid c.args.k (omega (arith, c.requires.within))) (c.requires.laid (c.args.k + 1) (omega (arith, c.requires.within)))
    refl refl (c.in_ok-put_item.ensures ps (member c.args.grown.now) room laid)
