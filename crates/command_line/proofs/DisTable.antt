-- The command `dis`, as clap sees it.
use Rattle.std.proofs.Common.{◌≡◌, codes, true, refl, [], ◌∷◌}
use Rattle.std.proofs.lemmas.Bool.{false≢true}
use Rattle.clap.proofs.FaultLemmas.{leaf_fault}
use Rattle.clap.proofs.OnLiterals.{clap_on_literals}
use Rattle.clap.specs.Simple.{Shape, built}
use Rattle.clap.specs.Walk.{nothing_held}
use Rattle.command_line.specs.Splits.{dis_app}
use Rattle.command_line.proofs.Law.{IsPlainApp}
use Rattle.command_line.proofs.Walks.{IsTable, end_rows, no_defaults}
use Rattle.std.specs.Prelude.{drop}

unfoldable pub dis_top : Shape
unfolding dis_app clap_on_literals
dis_top = (built dis_app).top

dis_table : IsTable [] [] dis_top
unfolding dis_top dis_app clap_on_literals
dis_table = record {
  over = refl;
  short = λ x. refl;
  known = λ n h. absurd (false≢true h);
  flag = λ n h. absurd (false≢true h);
  unknown = λ n h g. refl;
}

pub dis_is : IsPlainApp dis_app dis_top [] [] (codes "IMAGE" ∷ [])
unfolding dis_top dis_app clap_on_literals end_rows
dis_is = record {
  table = dis_table;
  stands = (_, refl, record { id = refl; here = refl; action = refl; range = refl; parser = refl; trailing = refl }, refl);
  defaults = refl;
  free = λ rows. refl;
  level = λ words. leaf_fault (built dis_app) nothing_held (drop 1 words) refl;
  rows = λ words. refl;
}

pub dis_defaults : no_defaults dis_top.rules ≡ true
unfolding dis_top dis_app clap_on_literals
dis_defaults = refl
