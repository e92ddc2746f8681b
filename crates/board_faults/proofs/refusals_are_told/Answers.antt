use Rattle.board_faults.proofs.Truths.{refusals_told}
use Rattle.board_faults.proofs.refusals_are_told.Goals as goal

pub returns : goal.returns
returns c = refusals_told
