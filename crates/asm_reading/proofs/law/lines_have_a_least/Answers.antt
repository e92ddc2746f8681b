use Rattle.asm_reading.proofs.Ordering.{lines_have_a_least}
use Rattle.asm_reading.proofs.law.lines_have_a_least.Goals as goal

pub returns : goal.returns
returns c = lines_have_a_least
