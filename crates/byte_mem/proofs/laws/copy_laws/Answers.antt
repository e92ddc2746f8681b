use Rattle.byte_mem.proofs.Overwriting.{length_overwritten, overwritten_elsewhere, overwritten_here}
use Rattle.byte_mem.proofs.laws.copy_laws.Goals as goal

pub returns : goal.returns
returns c = record { reads_back = overwritten_here; elsewhere = overwritten_elsewhere; size = length_overwritten }
