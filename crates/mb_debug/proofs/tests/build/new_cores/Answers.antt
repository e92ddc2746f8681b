use Rattle.std.proofs.Common.{◌≡◌, ◌++◌, ◌∷◌, [], arith}
use Rattle.board_run.proofs.Built.{are_new_push}
use Rattle.mb_debug.proofs.tests.build.new_cores.Goals as goal

pub loop-row-preserved : goal.loop-row-preserved
loop-row-preserved c =
    let items : c.push.new.self.items ≡ c.loop-row.cores.items ++ c.in_ok-new_core.field-0 ∷ [] = grind (arith, c.push.ensures.items, c.in_ok-push.was) in
    rw items (are_new_push c.args.rows.now c.loop-row.row-index c.row-item.result c.loop-row.cores.items c.in_ok-new_core.field-0 c.loop-row-test.true c.row-item.is c.loop-row.invariant c.in_ok-new_core.ensures)
