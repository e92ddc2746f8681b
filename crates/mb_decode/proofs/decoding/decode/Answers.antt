use Rattle.std.proofs.Common.{sym, ap, ◌∙◌, Some, arith}
use Rattle.std.specs.Option.{option_map}
use Rattle.op_table.specs.declared.entry.Row.{Row}
use Rattle.mb_decode.specs.Meaning.{Means, read}
use Rattle.mb_decode.proofs.Means.{in_range, fits_of_means}
use Rattle.mb_decode.proofs.decoding.decode.Goals as goal

pub returns-in-Some-clause-fits : goal.returns-in-Some-clause-fits
returns-in-Some-clause-fits c =
    let known = c.every_row_is_known.ensures in
    let means : Means c.args.w c.read.result =
    ap (option_map (λ (r : Row). read r.form r.op c.args.w)) (sym c.matching_row.ensures ∙ c.in-Some.is) ∙ ap Some (sym c.read.ensures.fields) in
    fits_of_means known.only known.sound c.args.w c.read.result (omega arith) means

pub returns-in-Some-clause-range : goal.returns-in-Some-clause-range
returns-in-Some-clause-range c = in_range c.read.result (returns-in-Some-clause-fits c)
