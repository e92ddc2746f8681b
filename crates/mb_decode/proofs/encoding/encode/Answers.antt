use Rattle.std.proofs.Common.{◌+◌, sym, ap, ◌∙◌, Some}
use Rattle.std.proofs.lemmas.Bool.{false≢true}
use Rattle.mb_decode.proofs.Means.{Spelled, means_of_fits, spelled_of_means}
use Rattle.mb_decode.proofs.encoding.encode.Goals as goal

pub returns-then-fits-clause-means : goal.returns-then-fits-clause-means
returns-then-fits-clause-means c =
    let row = c.row_of-row.ensures in
    rw c.placed.ensures
    (means_of_fits c.args.i.now _ c.at_most_one_row.ensures row.only row.sound (c.fits.ensures.0 c.if-fits.true))

pub returns-then-fits-clause-only : goal.returns-then-fits-clause-only
returns-then-fits-clause-only c = λ w word means.
    let row = c.row_of-row.ensures in
    let spelled : Spelled c.row_of-row.result c.args.i.now w = spelled_of_means w c.args.i.now _ word row.only row.sound means in
    ap Some (ap (λ n. c.row_of-row.result.bits + n) c.placed.ensures ∙ spelled.word)

pub returns-else-fits-clause-only : goal.returns-else-fits-clause-only
returns-else-fits-clause-only c = λ w word means.
    let row = c.row_of-row.ensures in
    let spelled : Spelled c.row_of-row.result c.args.i.now w = spelled_of_means w c.args.i.now _ word row.only row.sound means in
    absurd (false≢true (sym c.if-fits.false ∙ c.fits.ensures.1 spelled.fits))
