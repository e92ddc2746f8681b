use Rattle.std.proofs.Common.{◌∙◌, sym, nat_cmp}
use Rattle.std.specs.BTreeMap.{get}
use Rattle.elf_image.proofs.Apart.{keeps_inserted, keeps_same}
use Rattle.elf_image.proofs.overlap.Ranges.add.Goals as goal

pub returns-then-not-has_bytes : goal.returns-then-not-has_bytes
returns-then-not-has_bytes c = record {
  ok = λ earlier keeps none. keeps_same earlier c.args.header.now (get nat_cmp c.args.self.now.ends) (sym c.has_bytes.ensures ∙ c.if-not-has_bytes.true) keeps;
}

pub returns : goal.returns
returns c = record {
  ok = λ earlier keeps none. keeps_inserted earlier c.args.header.now c.args.self.now.ends c.insert.new.self _ _ (sym c.has_bytes.ensures ∙ c.if-not-has_bytes.false) none
      c.start.ensures c.end.ensures c.in_ok-insert.ensures.updates keeps;
}
