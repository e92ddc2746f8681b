use Rattle.mb_decode.proofs.Means.{one_instruction, one_word}
use Rattle.mb_decode.proofs.encoding.round_trips.Goals as goal

pub returns-clause-decoded : goal.returns-clause-decoded
returns-clause-decoded c = one_instruction

pub returns-clause-encoded : goal.returns-clause-encoded
returns-clause-encoded c = one_word c.every_row_is_known.ensures.only c.every_row_is_known.ensures.sound
