use Rattle.op_table.proofs.PlacesLemmas.{row_for_is}
use Rattle.op_table.proofs.lookup.row_of.Goals as goal

pub returns-clause-row : goal.returns-clause-row
returns-clause-row c =
    rw (c.all_rows.ensures.table, c.place.ensures) (row_for_is c.args.op _)

pub returns-clause-only : goal.returns-clause-only
returns-clause-only c =
    rw (c.all_rows.ensures.table, c.place.ensures, row_for_is c.args.op _) (c.every_row_is_known.ensures.only c.args.op)

pub returns-clause-sound : goal.returns-clause-sound
returns-clause-sound c =
    rw (c.all_rows.ensures.table, c.place.ensures, row_for_is c.args.op _) (c.every_row_is_known.ensures.sound c.args.op)
