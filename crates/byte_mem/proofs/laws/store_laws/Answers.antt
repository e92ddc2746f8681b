use Rattle.byte_mem.proofs.Storing.{length_stored, loaded_stored, stored_elsewhere}
use Rattle.byte_mem.proofs.laws.store_laws.Goals as goal

pub returns : goal.returns
returns c = record { reads_back = loaded_stored; elsewhere = stored_elsewhere; size = length_stored }
