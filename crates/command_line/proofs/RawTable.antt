-- The command `raw`, as clap sees it.
use Rattle.std.proofs.Common.{◌≡◌, codes, true, refl, [], ◌∷◌}
use Rattle.std.proofs.lemmas.Bool.{false≢true}
use Rattle.clap.proofs.FaultLemmas.{leaf_fault}
use Rattle.clap.proofs.OnLiterals.{clap_on_literals}
use Rattle.clap.specs.Simple.{Shape, built}
use Rattle.clap.specs.Walk.{nothing_held}
use Rattle.command_line.specs.Splits.{raw_app}
use Rattle.command_line.proofs.Law.{IsPlainApp}
use Rattle.command_line.proofs.Walks.{IsTable, end_rows, no_defaults}
use Rattle.std.specs.Prelude.{drop}

unfoldable pub raw_top : Shape
unfolding raw_app clap_on_literals
raw_top = (built raw_app).top

raw_table : IsTable [] [] raw_top
unfolding raw_top raw_app clap_on_literals
raw_table = record {
  over = refl;
  short = λ x. refl;
  known = λ n h. absurd (false≢true h);
  flag = λ n h. absurd (false≢true h);
  unknown = λ n h g. refl;
}

pub raw_is : IsPlainApp raw_app raw_top [] [] (codes "FILE" ∷ codes "CYCLES" ∷ [])
unfolding raw_top raw_app clap_on_literals end_rows
raw_is = record {
  table = raw_table;
  stands = (
    _,
    refl,
    record { id = refl; here = refl; action = refl; range = refl; parser = refl; trailing = refl },
    (_, refl, record { id = refl; here = refl; action = refl; range = refl; parser = refl; trailing = refl }, refl),
  );
  defaults = refl;
  free = λ rows. refl;
  level = λ words. leaf_fault (built raw_app) nothing_held (drop 1 words) refl;
  rows = λ words. refl;
}

pub raw_defaults : no_defaults raw_top.rules ≡ true
unfolding raw_top raw_app clap_on_literals
raw_defaults = refl
