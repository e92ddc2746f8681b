use Rattle.std.proofs.Common.{sym}
use Rattle.std.proofs.lemmas.Cmp.{ranked}
use Rattle.std.proofs.lemmas.Map.Keys.{ge_from_not_lt}
use Rattle.std.specs.Cmp.{nat_cmp_is}
use Rattle.std.specs.declared.cmp.Ordering.TheVariants.{Less}
use Rattle.byte_ranges.proofs.kept.Ranges.last_end.Goals as goal

pub returns-in-Some : goal.returns-in-Some
returns-in-Some c =
    let range = c.range.ensures.in_range tt in
    let entry = range.3 _ _ c.in-Some.ensures.steps in
    record {
      start = c.in-Some.field-0-0.now;
      below = ranked _ _ Less (sym entry.0.1);
      here = entry.1;
      last = λ next below there. ge_from_not_lt _ _ (range.4 _ _ c.in-Some.ensures.steps next (tt, sym (nat_cmp_is next c.args.address Less below)) there);
    }
