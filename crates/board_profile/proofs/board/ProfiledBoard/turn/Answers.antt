use Rattle.std.proofs.Common.{ap, sym, ◌∙◌, slice_get}
use Rattle.board_profile.specs.Profiles.{profiled_steps}
use Rattle.board_profile.proofs.Counting.{turn_core}
use Rattle.board_profile.proofs.board.ProfiledBoard.turn.Goals as goal

pub tick-requires-clause-young : goal.tick-requires-clause-young
tick-requires-clause-young g c =
    let w = c.args.self.now.world in
    λ s at. c.requires.young s (ap (slice_get w.cores) (sym (turn_core w.schedule w.fabric.cycle c.args.k c.in-Some.core c.in-Some.ensures.turn)) ∙ at)

pub returns-in-Some : goal.returns-in-Some
returns-in-Some g c = c.tick.ensures ∙ ap (profiled_steps c.args.self.now) c.in-Some.ensures.turn
