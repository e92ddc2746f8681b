use Rattle.asm_source.proofs.Sized.{faultless_is_small}
use Rattle.asm_source.proofs.law.faultless_is_small.Goals as goal

pub returns : goal.returns
returns c = faultless_is_small
