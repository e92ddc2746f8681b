use Rattle.std.proofs.Common.{◌+◌, ◌++◌, drop, sym, ap, ◌∙◌}
use Rattle.elf_image.specs.Written.{load, loads_of, spelled}
use Rattle.elf_image.proofs.WrittenLoops.{all_written, loads_split, no_load, room_left, written_more}
use Rattle.elf_image.proofs.writing.put_loads.Goals as goal

pub loop-part-preserved : goal.loop-part-preserved
loop-part-preserved c =
    let p = c.part-item.result in
    let left = drop (c.loop-part.part-index + 1) c.args.parts.now in
    let next = ap (λ n. spelled c.args.order (loads_of (c.loop-part.at + n) left)) (sym c.len.ensures) in
    record {
      fits = room_left c.args.parts.now c.loop-part.part-index c.loop-part.at c.len.result p c.loop-part-test.true (sym c.part-item.is) c.len.ensures c.loop-part.invariant.fits;
      written = written_more _ _ _ _ _ _ c.loop-part.invariant.written
          (loads_split c.args.order c.loop-part.at c.args.parts.now c.loop-part.part-index p c.loop-part-test.true (sym c.part-item.is) ∙ ap (λ xs. spelled c.args.order (load c.loop-part.at p) ++ xs) next)
          (c.in_ok-put_fields.ensures ∙ ap (λ fs. c.loop-part.file.items ++ spelled c.args.order fs) c.load.ensures);
    }

pub returns : goal.returns
returns c = all_written _ _ _ c.loop-part.invariant.written (no_load c.args.order c.loop-part.at c.args.parts.now c.loop-part.part-index c.loop-part-test.false)
