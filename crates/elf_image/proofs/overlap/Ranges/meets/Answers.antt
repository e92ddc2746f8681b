use Rattle.std.proofs.Common.{◌∙◌, sym, nat_cmp}
use Rattle.std.specs.BTreeMap.{get}
use Rattle.elf_image.proofs.Apart.{last_read, no_bytes_meet, none_meets}
use Rattle.elf_image.proofs.overlap.Ranges.meets.Goals as goal

pub returns-then-not-has_bytes : goal.returns-then-not-has_bytes
returns-then-not-has_bytes c = λ earlier keeps. sym (no_bytes_meet earlier c.args.header.now (sym c.has_bytes.ensures ∙ c.if-not-has_bytes.true))

pub returns-in-Some : goal.returns-in-Some
returns-in-Some c = λ earlier keeps.
    last_read earlier (get nat_cmp c.args.self.now.ends) c.args.header.now _ _ _ keeps (sym c.has_bytes.ensures ∙ c.if-not-has_bytes.false)
    c.start.ensures c.end.ensures c.in-Some.ensures

pub returns-in-None : goal.returns-in-None
returns-in-None c = λ earlier keeps. sym (none_meets earlier (get nat_cmp c.args.self.now.ends) c.args.header.now _ keeps c.end.ensures c.in-None.ensures)
