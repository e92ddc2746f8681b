use Rattle.std.proofs.Common.{◌∙◌, sym, take, nat_cmp}
use Rattle.std.specs.BTreeMap.{get}
use Rattle.elf_image.proofs.Apart.{keeps_next}
use Rattle.elf_image.proofs.Firsts.{no_overlap_here}
use Rattle.elf_image.proofs.overlap.overlap_fault.Goals as goal

pub loop-header-preserved : goal.loop-header-preserved
loop-header-preserved c =
    let all = c.args.loads.now in
    let i = c.loop-header.header-index in
    let here = c.meets.ensures (take i all) c.loop-header.invariant.0 in (
      keeps_next all i _ (get nat_cmp c.add.new.self.ends) c.loop-header-test.true (c.in_ok-add.ensures.ok (take i all) c.loop-header.invariant.0 (sym here ∙ c.if-meets.false)),
      no_overlap_here all i _ c.loop-header-test.true (sym c.if-meets.false ∙ here) c.loop-header.invariant.1,
    )
