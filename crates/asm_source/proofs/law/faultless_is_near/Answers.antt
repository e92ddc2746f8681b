use Rattle.asm_source.proofs.Faultless.{faultless_is_near}
use Rattle.asm_source.proofs.law.faultless_is_near.Goals as goal

pub returns : goal.returns
returns c = faultless_is_near
