use Rattle.std.proofs.Common.{◌∙◌, refl, sym, nat_cmp}
use Rattle.std.specs.BTreeMap.{get}
use Rattle.byte_ranges.proofs.Apart.{keeps_inserted, keeps_same}
use Rattle.byte_ranges.proofs.kept.Ranges.add.Goals as goal

pub returns-then-not-has_bytes : goal.returns-then-not-has_bytes
returns-then-not-has_bytes c = record {
  ok = λ earlier keeps none. keeps_same earlier c.args.range (get nat_cmp c.args.self.now.ends) (sym c.has_bytes.ensures ∙ c.if-not-has_bytes.true) keeps;
}

pub returns : goal.returns
returns c = record {
  ok = λ earlier keeps none. keeps_inserted earlier c.args.range c.args.self.now.ends c.insert.new.self _ _ (sym c.has_bytes.ensures ∙ c.if-not-has_bytes.false) none
      refl refl c.in_ok-insert.ensures.updates keeps;
}
