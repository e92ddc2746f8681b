-- The command `demo`, as clap sees it.
use Rattle.std.proofs.Common.{◌≡◌, codes, true, refl, [], ◌∷◌}
use Rattle.std.proofs.lemmas.Bool.{false≢true}
use Rattle.clap.proofs.FaultLemmas.{leaf_fault}
use Rattle.clap.proofs.OnLiterals.{clap_on_literals}
use Rattle.clap.specs.Simple.{Shape, built}
use Rattle.clap.specs.Walk.{nothing_held}
use Rattle.command_line.specs.Splits.{demo_app}
use Rattle.command_line.proofs.Law.{IsPlainApp}
use Rattle.command_line.proofs.Walks.{IsTable, end_rows, no_defaults}
use Rattle.std.specs.Prelude.{drop}

unfoldable pub demo_top : Shape
unfolding demo_app clap_on_literals
demo_top = (built demo_app).top

demo_table : IsTable [] [] demo_top
unfolding demo_top demo_app clap_on_literals
demo_table = record {
  over = refl;
  short = λ x. refl;
  known = λ n h. absurd (false≢true h);
  flag = λ n h. absurd (false≢true h);
  unknown = λ n h g. refl;
}

pub demo_is : IsPlainApp demo_app demo_top [] [] (codes "N" ∷ [])
unfolding demo_top demo_app clap_on_literals end_rows
demo_is = record {
  table = demo_table;
  stands = (_, refl, record { id = refl; here = refl; action = refl; range = refl; parser = refl; trailing = refl }, refl);
  defaults = refl;
  free = λ rows. refl;
  level = λ words. leaf_fault (built demo_app) nothing_held (drop 1 words) refl;
  rows = λ words. refl;
}

pub demo_defaults : no_defaults demo_top.rules ≡ true
unfolding demo_top demo_app clap_on_literals
demo_defaults = refl
