use Rattle.std.proofs.Common.{◌∙◌}
use Rattle.board_run.proofs.WholeRuns.{run_count}
use Rattle.mb_sim.proofs.profile.count.Goals as goal

pub print-requires : goal.print-requires
print-requires g c = record { count = run_count c.args.cycles c.args.ready.board.world c.run-end.new.self.world c.run-end.result c.run-end.ensures.ran.ran ∙ c.requires.count }
