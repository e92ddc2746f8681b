use Rattle.asm_source.proofs.Stopping.{parts_may_stop}
use Rattle.asm_source.proofs.law.parts_may_stop.Goals as goal

pub returns : goal.returns
returns c = parts_may_stop
