use Rattle.std.proofs.Common.{refl}
use Rattle.asm_image.proofs.Piling.{none_built}
use Rattle.asm_image.proofs.building.Building.new.Goals as goal

pub returns : goal.returns
returns c = λ order items F. none_built order items F (record { parts = c.new.result; start = 0; bytes = c.new-2.result }) c.new.ensures.items c.new-2.ensures.items refl
