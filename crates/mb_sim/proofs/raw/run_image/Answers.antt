use Rattle.std.proofs.Common.{List, [], ◌∷◌, arith, refl, subst, sym}
use Rattle.exact_machine.specs.Machine.{ExactWorld}
use Rattle.exact_machine.specs.Runs.{ExactRun}
use Rattle.mb_sim.specs.Raw.{no_inputs, raw_board, raw_view}
use Rattle.board_run.proofs.WholeRuns.{run_of}
use Rattle.exact_machine.proofs.Starting.{can_run}
use Rattle.mb_sim.proofs.Probes.{have_room, tells_all}
use Rattle.probe_set.specs.Sets.{HaveRoom, Named}
use Rattle.mb_sim.proofs.raw.run_image.Goals as goal

pub run-end-requires : goal.run-end-requires
run-end-requires g c = record {
  can = can_run (raw_board c.args.file.now) (raw_view c.args.image.now ∷ []) no_inputs 1_048_576 c.args.cycles c.in_ok-board.board c.in_ok-board.ensures (omega (arith, c.requires.few));
  room = let P : List Named → ExactWorld → Type 0 = λ ns x. HaveRoom x.fabric.spare ns in
      subst (P _) (sym c.in_ok-board.ensures) (have_room 1_048_576 _ (omega arith) c.requires.young);
}

pub returns-clause-ran : goal.returns-clause-ran
returns-clause-ran g c =
    let R : ExactWorld → Type 0 = λ x. ExactRun c.args.cycles x c.run-end.new.self c.run-end.result in
    run_of (raw_board c.args.file.now) (raw_view c.args.image.now ∷ []) no_inputs 1_048_576 c.args.cycles c.run-end.new.self c.run-end.result refl (subst R c.in_ok-board.ensures c.run-end.ensures.ran)

pub returns-clause-tells : goal.returns-clause-tells
returns-clause-tells g c =
    tells_all (raw_board c.args.file.now) (raw_view c.args.image.now ∷ []) no_inputs 1_048_576 c.in_ok-board.board c.run-end.new.self _ _ c.in_ok-board.ensures c.run-end.ensures.told
