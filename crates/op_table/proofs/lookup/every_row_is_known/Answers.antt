use Rattle.op_table.proofs.PlacesLemmas.{known_row, sound_row_for}
use Rattle.op_table.proofs.lookup.every_row_is_known.Goals as goal

pub returns-clause-only : goal.returns-clause-only
returns-clause-only c = known_row

pub returns-clause-sound : goal.returns-clause-sound
returns-clause-sound c = sound_row_for
