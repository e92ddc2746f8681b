use Rattle.std.proofs.Common.{◌∙◌}
use Rattle.elf_image.proofs.WrittenLoops.{file_fits, written_file}
use Rattle.elf_image.proofs.writing.write_elf.Goals as goal

pub put_loads-requires-clause-fits : goal.put_loads-requires-clause-fits
put_loads-requires-clause-fits c = file_fits c.args.i.now c.as_slice-parts.result.now c.from.result c.as_slice-parts.ensures c.from.ensures c.requires.fits

pub returns : goal.returns
returns c =
    c.from_vec.ensures
    ∙ written_file c.args.i.now c.as_slice-parts.result.now c.from.result c.header.result _ _ _ _ c.as_slice-parts.ensures c.from.ensures c.header.ensures c.new-file.ensures.items
    c.in_ok-put_fields.ensures c.in_ok-put_loads.ensures c.in_ok-put_bytes.ensures
