use Rattle.asm_reading.proofs.Ordering.{items_are_in_order}
use Rattle.asm_reading.proofs.law.items_are_in_order.Goals as goal

pub returns : goal.returns
returns c = items_are_in_order
