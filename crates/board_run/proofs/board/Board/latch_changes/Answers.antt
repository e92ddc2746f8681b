use Rattle.std.proofs.Common.{◌≡◌, not, subst, true}
use Rattle.std.specs.List.{list_all}
use Rattle.exact_machine.specs.Machine.{ExactWorld}
use Rattle.quiet_cycles.specs.Quiet.{AreAtRest}
use Rattle.board_run.proofs.Latching.{lines_rest}
use Rattle.board_run.proofs.board.Board.latch_changes.Goals as goal

pub returns-else-not-lines_stay : goal.returns-else-not-lines_stay
returns-else-not-lines_stay g c = lines_rest c.args.self.now
    (subst (λ (w : ExactWorld). list_all (λ high. not high) w.fabric.lines ≡ true) c.self.view_is (c.lines_stay.ensures.low c.if-not-lines_stay.false))
    (subst (λ (w : ExactWorld). AreAtRest w.fabric.bus w.fabric.devices) c.self.view_is (c.lines_stay.ensures.at_rest c.if-not-lines_stay.false))
