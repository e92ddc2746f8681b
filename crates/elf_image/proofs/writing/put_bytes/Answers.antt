use Rattle.std.proofs.Common.{sym, ap, ◌∙◌, ◌++◌}
use Rattle.elf_image.proofs.WrittenLoops.{all_written, bytes_split, no_byte, written_more}
use Rattle.elf_image.proofs.writing.put_bytes.Goals as goal

pub loop-part-preserved : goal.loop-part-preserved
loop-part-preserved c =
    written_more _ _ _ _ _ _ c.loop-part.invariant (bytes_split c.args.parts.now c.loop-part.part-index c.part-item.result c.loop-part-test.true (sym c.part-item.is))
    (c.in_ok-put.ensures ∙ ap (λ xs. c.loop-part.file.items ++ xs) c.as_slice.ensures)

pub returns : goal.returns
returns c = all_written _ _ _ c.loop-part.invariant (no_byte c.args.parts.now c.loop-part.part-index c.loop-part-test.false)
