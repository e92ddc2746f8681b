-- The commands `profile` and `debug`, as clap sees them.
use Rattle.std.proofs.Common.{◌≡◌, ◌||◌, Bool, codes, true, false, refl, subst, sym, List, [], ◌∷◌, Some, None}
use Rattle.std.proofs.lemmas.Bool.{false≢true}
use Rattle.std.proofs.lemmas.Slice.Eq.{bytes_eq-Decides}
use Rattle.std.specs.Prelude.{drop}
use Rattle.std.specs.Str.{bytes_eq}
use Rattle.clap.proofs.FaultLemmas.{leaf_fault}
use Rattle.clap.proofs.OnLiterals.{clap_on_literals}
use Rattle.clap.specs.Simple.{Shape, built}
use Rattle.clap.specs.Walk.{Rule, Text, arg_by_long, nothing_held}
use Rattle.command_line.specs.Splits.{board_app}
use Rattle.command_line.proofs.Law.{IsPlainApp}
use Rattle.command_line.proofs.Turns.{IsPlain}
use Rattle.command_line.proofs.Walks.{IsTable, end_rows, no_defaults}

unfoldable pub board_top : Shape
unfolding board_app clap_on_literals
board_top = (built board_app).top

abbrev Known : Text → Type 0
Known n = (a : Rule) × (arg_by_long board_top.rules n ≡ Some a) × IsPlain board_top.rules n a

at_cycles : Known (codes "cycles")
unfolding board_top board_app clap_on_literals
at_cycles = (_, refl, record { id = refl; here = refl; action = refl; range = refl; parser = refl; trailing = refl })

at_journal : Known (codes "journal")
unfolding board_top board_app clap_on_literals
at_journal = (_, refl, record { id = refl; here = refl; action = refl; range = refl; parser = refl; trailing = refl })

known_one : (n : Text) (a b : Bool) → bytes_eq (codes "cycles") n ≡ a → bytes_eq (codes "journal") n ≡ b → (a || (b || false)) ≡ true → Known n
known_one n true b is _ h = subst Known ((bytes_eq-Decides (codes "cycles") n).0 is) at_cycles
known_one n false true _ is h = subst Known ((bytes_eq-Decides (codes "journal") n).0 is) at_journal
known_one n false false _ _ h = absurd (false≢true h)

unknown_one : (n : Text) (a b : Bool) → bytes_eq (codes "cycles") n ≡ a → bytes_eq (codes "journal") n ≡ b → (a || (b || false)) ≡ false → arg_by_long board_top.rules n ≡ None
unfolding board_top board_app clap_on_literals
unknown_one n true b is _ h = absurd (false≢true (sym h))
unknown_one n false true _ is h = absurd (false≢true (sym h))
unknown_one n false false is_a is_b h = rw (is_a, is_b) refl

abbrev pub board_options : List Text
board_options = codes "cycles" ∷ codes "journal" ∷ []

board_table : IsTable board_options [] board_top
unfolding board_top board_app clap_on_literals
board_table = record {
  over = refl;
  short = λ x. refl;
  known = λ n h. known_one n (bytes_eq (codes "cycles") n) (bytes_eq (codes "journal") n) refl refl h;
  flag = λ n h. absurd (false≢true h);
  unknown = λ n h g. unknown_one n (bytes_eq (codes "cycles") n) (bytes_eq (codes "journal") n) refl refl h;
}

pub board_is : IsPlainApp board_app board_top board_options [] (codes "BOARD" ∷ [])
unfolding board_top board_app clap_on_literals end_rows
board_is = record {
  table = board_table;
  stands = (_, refl, record { id = refl; here = refl; action = refl; range = refl; parser = refl; trailing = refl }, refl);
  defaults = refl;
  free = λ rows. refl;
  level = λ words. leaf_fault (built board_app) nothing_held (drop 1 words) refl;
  rows = λ words. refl;
}

pub board_defaults : no_defaults board_top.rules ≡ true
unfolding board_top board_app clap_on_literals
board_defaults = refl
