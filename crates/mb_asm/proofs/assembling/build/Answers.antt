use Rattle.std.proofs.Common.{◌≡◌, ◌+◌, length, refl, sym, ap, subst, ◌∙◌}
use Rattle.asm_layout.specs.Places.{ArePlaces, member}
use Rattle.asm_source.specs.Items.{pieces}
use Rattle.asm_source.specs.Second.{items_of, place_of}
use Rattle.mb_asm.specs.Assembly.{entry_at}
use Rattle.mb_asm.proofs.Answering.{built_by, near_by}
use Rattle.mb_asm.proofs.assembling.build.Goals as goal

pub returns : goal.returns
returns c =
    let all = c.args.all.now in
    let F = member c.args.laid.now.grown.items in
    let places : c.as_slice-places.result.now ≡ c.args.laid.now.places.items = c.as_slice-places.ensures.value in
    let room : length c.as_slice-places.result.now ≡ length all + 1 = ap length places ∙ c.requires.laid.room in
    let laid : ArePlaces (pieces (items_of all)) F (length all) c.as_slice-places.result.now = subst (λ ps. ArePlaces (pieces (items_of all)) F (length all) ps) (sym places) c.requires.laid.laid in
    built_by c.args.order all c.args.entry c.args.laid.now.grown.items c.as_slice-grown.result.now
    (record { image = record { order = c.args.order; entry = c.entry_at-entry.result; parts = c.from_vec.result }; lines = c.in_ok-lines.lines }) c.in_ok-parts.parts.items c.as_slice-grown.ensures.value refl c.from_vec.ensures
    c.in_ok-parts.ensures.parts c.in_ok-parts.ensures.plain (c.entry_at-entry.ensures all F room laid ∙ ap (entry_at c.args.entry (place_of all F)) c.as_slice.ensures.value) c.in_ok-lines.ensures

pub entry_at-entry-requires-clause-near : goal.entry_at-entry-requires-clause-near
entry_at-entry-requires-clause-near c = near_by c.args.all.now c.args.laid.now.grown.items c.as_slice-places.result.now c.args.laid.now.places.items c.as_slice-places.ensures.value c.requires.laid.room c.requires.laid.laid c.requires.sound

pub lines_of-requires-clause-near : goal.lines_of-requires-clause-near
lines_of-requires-clause-near c = near_by c.args.all.now c.args.laid.now.grown.items c.as_slice-places.result.now c.args.laid.now.places.items c.as_slice-places.ensures.value c.requires.laid.room c.requires.laid.laid c.requires.sound
