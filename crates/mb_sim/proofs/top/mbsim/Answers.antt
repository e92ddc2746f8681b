use Rattle.mb_sim.proofs.Debugging.{debugs_whole}
use Rattle.mb_sim.proofs.Demos.{demo_runs}
use Rattle.mb_sim.proofs.Exact.{completes, long_answer}
use Rattle.mb_sim.proofs.FairRuns.{runs_whole}
use Rattle.mb_sim.proofs.Profiles.{profiles_whole}
use Rattle.mb_sim.proofs.ToolSays.{assembles, lists}
use Rattle.mb_sim.proofs.top.mbsim.Goals as goal

pub returns-clause-complete : goal.returns-clause-complete
returns-clause-complete g c file image cycles is fair within = completes _ file image cycles _ _ _ _ _ _ _ c.dispatch-status.ensures.says is fair within

pub returns-clause-too_long : goal.returns-clause-too_long
returns-clause-too_long g c file image cycles is fair past = long_answer _ file image cycles _ _ _ _ _ _ _ c.dispatch-status.ensures.says is fair past

pub returns-clause-complete_run : goal.returns-clause-complete_run
returns-clause-complete_run g c file cycles entries journal is fair = runs_whole _ file cycles entries journal _ _ _ _ _ _ _ c.dispatch-status.ensures.says is fair

pub returns-clause-complete_asm : goal.returns-clause-complete_asm
returns-clause-complete_asm g c source output is_little is = assembles _ source output is_little _ _ _ _ _ _ _ c.dispatch-status.ensures.says is

pub returns-clause-complete_dis : goal.returns-clause-complete_dis
returns-clause-complete_dis g c image is = lists _ image _ _ _ _ _ _ _ c.dispatch-status.ensures.says is

pub returns-clause-complete_demo : goal.returns-clause-complete_demo
returns-clause-complete_demo g c number is quiet = demo_runs _ number _ _ _ _ _ _ _ c.dispatch-status.ensures.says is quiet

pub returns-clause-complete_profile : goal.returns-clause-complete_profile
returns-clause-complete_profile g c file cycles entries is fair = profiles_whole _ file cycles entries _ _ _ _ _ _ _ c.dispatch-status.ensures.says is fair

pub returns-clause-complete_debug : goal.returns-clause-complete_debug
returns-clause-complete_debug g c file cycles entries is fair reads = debugs_whole _ file cycles entries _ _ _ _ _ _ _ _ _ c.dispatch-status.ensures.script is fair reads
