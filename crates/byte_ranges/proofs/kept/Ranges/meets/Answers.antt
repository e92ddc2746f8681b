use Rattle.std.proofs.Common.{◌∙◌, refl, sym, nat_cmp}
use Rattle.std.specs.BTreeMap.{get}
use Rattle.byte_ranges.proofs.Apart.{last_read, no_bytes_meet, none_meets}
use Rattle.byte_ranges.proofs.kept.Ranges.meets.Goals as goal

pub returns-then-not-has_bytes : goal.returns-then-not-has_bytes
returns-then-not-has_bytes c = λ earlier keeps. sym (no_bytes_meet earlier c.args.range (sym c.has_bytes.ensures ∙ c.if-not-has_bytes.true))

pub returns-in-Some : goal.returns-in-Some
returns-in-Some c = λ earlier keeps.
    last_read earlier (get nat_cmp c.args.self.now.ends) c.args.range _ _ _ keeps (sym c.has_bytes.ensures ∙ c.if-not-has_bytes.false)
    refl refl c.in-Some.ensures

pub returns-in-None : goal.returns-in-None
returns-in-None c = λ earlier keeps. sym (none_meets earlier (get nat_cmp c.args.self.now.ends) c.args.range _ keeps refl c.in-None.ensures)
