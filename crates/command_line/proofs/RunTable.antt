-- The command `run`, as clap sees it.
use Rattle.std.proofs.Common.{◌≡◌, ◌||◌, Bool, codes, true, false, refl, subst, sym, List, [], ◌∷◌, Some, None}
use Rattle.std.proofs.lemmas.Bool.{false≢true}
use Rattle.std.proofs.lemmas.Slice.Eq.{bytes_eq-Decides}
use Rattle.std.specs.Prelude.{drop}
use Rattle.std.specs.Str.{bytes_eq}
use Rattle.clap.proofs.FaultLemmas.{leaf_fault}
use Rattle.clap.proofs.OnLiterals.{clap_on_literals}
use Rattle.clap.specs.Simple.{Shape, built}
use Rattle.clap.specs.Walk.{Rule, Text, arg_by_long, nothing_held}
use Rattle.command_line.specs.Splits.{run_app}
use Rattle.command_line.proofs.Law.{IsPlainApp}
use Rattle.command_line.proofs.Turns.{IsPlain}
use Rattle.command_line.proofs.Walks.{IsTable, end_rows, no_defaults}

unfoldable pub run_top : Shape
unfolding run_app clap_on_literals
run_top = (built run_app).top

abbrev Known : Text → Type 0
Known n = (a : Rule) × (arg_by_long run_top.rules n ≡ Some a) × IsPlain run_top.rules n a

at_cycles : Known (codes "cycles")
unfolding run_top run_app clap_on_literals
at_cycles = (_, refl, record { id = refl; here = refl; action = refl; range = refl; parser = refl; trailing = refl })

at_journal : Known (codes "journal")
unfolding run_top run_app clap_on_literals
at_journal = (_, refl, record { id = refl; here = refl; action = refl; range = refl; parser = refl; trailing = refl })

at_write : Known (codes "write-journal")
unfolding run_top run_app clap_on_literals
at_write = (_, refl, record { id = refl; here = refl; action = refl; range = refl; parser = refl; trailing = refl })

known_one : (n : Text) (a b c : Bool) → bytes_eq (codes "cycles") n ≡ a → bytes_eq (codes "journal") n ≡ b → bytes_eq (codes "write-journal") n ≡ c → (a || (b || (c || false))) ≡ true → Known n
known_one n true b c is _ _ h = subst Known ((bytes_eq-Decides (codes "cycles") n).0 is) at_cycles
known_one n false true c _ is _ h = subst Known ((bytes_eq-Decides (codes "journal") n).0 is) at_journal
known_one n false false true _ _ is h = subst Known ((bytes_eq-Decides (codes "write-journal") n).0 is) at_write
known_one n false false false _ _ _ h = absurd (false≢true h)

unknown_one : (n : Text) (a b c : Bool) → bytes_eq (codes "cycles") n ≡ a → bytes_eq (codes "journal") n ≡ b → bytes_eq (codes "write-journal") n ≡ c → (a || (b || (c || false))) ≡ false → arg_by_long run_top.rules n ≡ None
unfolding run_top run_app clap_on_literals
unknown_one n true b c is _ _ h = absurd (false≢true (sym h))
unknown_one n false true c _ is _ h = absurd (false≢true (sym h))
unknown_one n false false true _ _ is h = absurd (false≢true (sym h))
unknown_one n false false false is_a is_b is_c h = rw (is_a, is_b, is_c) refl

abbrev pub run_options : List Text
run_options = codes "cycles" ∷ codes "journal" ∷ codes "write-journal" ∷ []

run_table : IsTable run_options [] run_top
unfolding run_top run_app clap_on_literals
run_table = record {
  over = refl;
  short = λ x. refl;
  known = λ n h. known_one n (bytes_eq (codes "cycles") n) (bytes_eq (codes "journal") n) (bytes_eq (codes "write-journal") n) refl refl refl h;
  flag = λ n h. absurd (false≢true h);
  unknown = λ n h g. unknown_one n (bytes_eq (codes "cycles") n) (bytes_eq (codes "journal") n) (bytes_eq (codes "write-journal") n) refl refl refl h;
}

pub run_is : IsPlainApp run_app run_top run_options [] (codes "BOARD" ∷ [])
unfolding run_top run_app clap_on_literals end_rows
run_is = record {
  table = run_table;
  stands = (_, refl, record { id = refl; here = refl; action = refl; range = refl; parser = refl; trailing = refl }, refl);
  defaults = refl;
  free = λ rows. refl;
  level = λ words. leaf_fault (built run_app) nothing_held (drop 1 words) refl;
  rows = λ words. refl;
}

pub run_defaults : no_defaults run_top.rules ≡ true
unfolding run_top run_app clap_on_literals
run_defaults = refl
