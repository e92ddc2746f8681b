use Rattle.mb_asm.proofs.Ordering.{in_order, no_fault}
use Rattle.mb_asm.proofs.law.faults_are_in_order.Goals as goal

pub returns-clause-order : goal.returns-clause-order
returns-clause-order c = in_order c.first_is_least.ensures c.lines_have_a_least.ensures c.items_are_in_order.ensures c.parts_may_stop.ensures

pub returns-clause-none : goal.returns-clause-none
returns-clause-none c = no_fault c.first_is_least.ensures c.lines_have_a_least.ensures c.items_are_in_order.ensures c.parts_may_stop.ensures
