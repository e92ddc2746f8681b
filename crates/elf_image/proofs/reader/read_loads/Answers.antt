use Rattle.std.proofs.Common.{◌+◌, ◌*◌, ap₂, ◌∙◌}
use Rattle.elf_image.proofs.Loaded.{loads_more}
use Rattle.elf_image.specs.Fields.{header_at, program_header}
use Rattle.elf_image.proofs.reader.read_loads.Goals as goal

pub loop-k-preserved : goal.loop-k-preserved
unfolding program_header
loop-k-preserved c =
    loads_more c.args.file.now c.loop-k.k _ _ _ c.loop-k.invariant
    (c.read-header.ensures ∙ ap₂ (λ s k. header_at c.args.file.now c.loop-k.k (s + 32 * k)) c.file_word-start.ensures c.from.ensures)
    c.in_ok-keep_load.ensures
