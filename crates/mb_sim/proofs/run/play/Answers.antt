use Rattle.std.proofs.Common.{◌∙◌}
use Rattle.board_run.proofs.WholeRuns.{run_count}
use Rattle.mb_sim.proofs.run.play.Goals as goal

pub write_results-requires : goal.write_results-requires
write_results-requires g c = record { count = run_count c.args.words.now.cycles c.args.ready.board c.run-end.new.self c.run-end.result c.run-end.ensures.ran ∙ c.requires.count }
