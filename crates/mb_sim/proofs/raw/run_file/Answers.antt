use Rattle.std.proofs.Common.{◌≡◌, ℕ, List, [], ◌∷◌, Some, subst}
use Rattle.std.specs.Prelude.{IfSome}
use Rattle.board_run.specs.Runs.{IsRunOf}
use Rattle.mb_sim.specs.Raw.{no_inputs, raw_board, raw_view}
use Rattle.mb_sim.proofs.raw.run_file.Goals as goal

pub returns-in-Some-clause-ok : goal.returns-in-Some-clause-ok
returns-in-Some-clause-ok g c =
    let P : List ℕ → Type 0 = λ name. IfSome (g.S.Shelf.state c.args.shelf.now).files (λ files. files name ≡ Some c.in-Ok.image) in
    let Q : List ℕ → Type 0 = λ image. IsRunOf (raw_board c.args.file.now) (raw_view image ∷ []) no_inputs 1_048_576 c.args.cycles c.in-Some.ran.board c.in-Some.ran.end in
    record {
      image = c.in-Ok.image;
      told = subst P c.as_text.ensures.text c.in-Ok.ensures.answer.0;
      within = c.in-Ok.ensures.answer.1;
      ran = subst Q c.as_slice.ensures c.in-Some.ensures.ran;
      tells = c.in-Some.ensures.tells;
    }
