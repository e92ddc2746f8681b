use Rattle.std.proofs.Common.{◌≡◌, List, Some, arith, length, refl, slice_get, subst}
use Rattle.std.proofs.lemmas.Option.{slice_get_read}
use Rattle.std.proofs.lemmas.Result.{err_from_is_err_and}
use Rattle.elf_image.specs.declared.image.Part.{Part}
use Rattle.piece_output.proofs.Added.{text_refused}
use Rattle.source_tools.specs.Listing.{part_lines}
use Rattle.source_tools.proofs.listing.print_image.Goals as goal

pub returns-in_err-print_part : goal.returns-in_err-print_part
returns-in_err-print_part g c =
    let p = err_from_is_err_and c.from_residual.result c.from_residual.ensures.1 in
    let parts = c.as_slice-parts.result.now in
    let P : List Part → Type 0 = λ ps. slice_get ps c.loop-k.k ≡ Some c.index-parts-k.result in
    let here = slice_get_read parts (length parts) c.loop-k.k c.index-parts-k.result refl (omega (arith, c.loop-k-test.true)) c.index-parts-k.is in
    rw (p.1, p.2)
    (text_refused (part_lines c.args.image.now.order) (g.O.Sink.state c.args.out.now) (g.O.Sink.state c.loop-k.out) (g.O.Sink.state c.print_part.new.out) c.args.image.now.parts c.loop-k.k c.index-parts-k.result
    c.in_err-print_part.field-0.0 (subst P c.as_slice-parts.ensures here) c.loop-k.invariant c.in_err-print_part.ensures)
