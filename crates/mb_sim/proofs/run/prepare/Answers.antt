use Rattle.std.proofs.Common.{◌≡◌, ◌<◌, ◌^◌, arith, map, subst, sym}
use Rattle.any_core.specs.States.{any_state}
use Rattle.any_core.specs.declared.AnyCore.{AnyCore}
use Rattle.exact_machine.specs.Machine.{ExactWorld}
use Rattle.exact_machine.specs.Runs.{exact_start}
use Rattle.mb_sim.proofs.Boards.{built}
use Rattle.mb_sim.proofs.run.prepare.Goals as goal

pub returns-clause-room : goal.returns-clause-room
returns-clause-room c =
    let start = exact_start c.args.job.board (map (λ (core : AnyCore). (any_state core).view) c.args.job.cores.items) (record { links = c.args.job.inputs.links; uarts = c.args.job.inputs.uarts }) c.args.entries in
    let is : c.in_ok-board.board ≡ start = built (λ (x : ExactWorld). x ≡ start) c.build.result c.in_ok-board.board c.in_ok-board.ensures.value c.build.ensures in
    subst (λ (x : ExactWorld). x.fabric.spare < 2 ^ 32) (sym is) (omega (arith, c.ranges.entries.fits))

pub returns-clause-start : goal.returns-clause-start
returns-clause-start c =
    let start = exact_start c.args.job.board (map (λ (core : AnyCore). (any_state core).view) c.args.job.cores.items) (record { links = c.args.job.inputs.links; uarts = c.args.job.inputs.uarts }) c.args.entries in
    built (λ (x : ExactWorld). x ≡ start) c.build.result c.in_ok-board.board c.in_ok-board.ensures.value c.build.ensures
