-- The command `asm`, as clap sees it.
use Rattle.std.proofs.Common.{◌≡◌, ◌||◌, Bool, codes, false, true, refl, sym, subst, fold, List, [], ◌∷◌, Option, Some, None, if◌then◌else◌}
use Rattle.std.proofs.lemmas.Bool.{false≢true}
use Rattle.std.proofs.lemmas.Slice.Eq.{bytes_eq-Decides}
use Rattle.std.specs.Option.{option_map_or, option_to_list}
use Rattle.std.specs.Str.{bytes_eq}
use Rattle.clap.proofs.FaultLemmas.{leaf_fault}
use Rattle.clap.proofs.OnLiterals.{clap_on_literals}
use Rattle.clap.specs.Simple.{Shape, built}
use Rattle.clap.specs.Walk.{Row, Rule, Text, arg_by_long, first_of, has_row, nothing_held, with_default, with_values}
use Rattle.clap.specs.declared.parser.matches.ValueSource.TheVariants.{DefaultValue}
use Rattle.command_line.specs.Splits.{asm_app}
use Rattle.command_line.specs.Words.{is_raised, raised_value}
use Rattle.command_line.proofs.Defaults.{default_first, default_other}
use Rattle.command_line.proofs.Filled.{no_row}
use Rattle.command_line.proofs.Law.{IsPlainApp}
use Rattle.command_line.proofs.Rows.{flag_reading}
use Rattle.command_line.proofs.Turns.{IsFlag}
use Rattle.command_line.proofs.Walks.{IsTable, end_rows}
use Rattle.std.specs.Prelude.{drop}

unfoldable pub asm_top : Shape
unfolding asm_app clap_on_literals
asm_top = (built asm_app).top

abbrev Flag : Text → Type 0
Flag n = (a : Rule) × (arg_by_long asm_top.rules n ≡ Some a) × IsFlag asm_top.rules n a

at_little : Flag (codes "little")
unfolding asm_top asm_app clap_on_literals
at_little = (_, refl, record { id = refl; action = refl; range = refl; parser = refl; missing = refl })

flag_one : (n : Text) (b : Bool) → bytes_eq (codes "little") n ≡ b → (b || false) ≡ true → Flag n
flag_one n true is h = subst Flag ((bytes_eq-Decides (codes "little") n).0 is) at_little
flag_one n false is h = absurd (false≢true h)

unknown_one : (n : Text) (b : Bool) → bytes_eq (codes "little") n ≡ b → (b || false) ≡ false → arg_by_long asm_top.rules n ≡ None
unfolding asm_top asm_app clap_on_literals
unknown_one n true is h = absurd (false≢true (sym h))
unknown_one n false is h = rw is refl

asm_table : IsTable [] (codes "little" ∷ []) asm_top
unfolding asm_top asm_app clap_on_literals
asm_table = record {
  over = refl;
  short = λ x. refl;
  known = λ n h. absurd (false≢true h);
  flag = λ n h. flag_one n (bytes_eq (codes "little") n) refl h;
  unknown = λ n h g. unknown_one n (bytes_eq (codes "little") n) refl g;
}

pub asm_is : IsPlainApp asm_app asm_top [] (codes "little" ∷ []) (codes "SOURCE" ∷ codes "OUTPUT" ∷ [])
unfolding asm_top asm_app clap_on_literals end_rows
asm_is = record {
  table = asm_table;
  stands = (
    _,
    refl,
    record { id = refl; here = refl; action = refl; range = refl; parser = refl; trailing = refl },
    (_, refl, record { id = refl; here = refl; action = refl; range = refl; parser = refl; trailing = refl }, refl),
  );
  defaults = refl;
  free = λ rows. refl;
  level = λ words. leaf_fault (built asm_app) nothing_held (drop 1 words) refl;
  rows = λ words. refl;
}

same_rows : (b : Bool) (rows : List Row) → (if b then rows else rows) ≡ rows
same_rows true rows = refl
same_rows false rows = refl

-- the rows with the default of the flag
abbrev pub with_order : List Row → List Row
with_order rows = if has_row (codes "little") rows then rows else with_values (codes "little") flag_reading DefaultValue (codes "false" ∷ []) rows

pub ended : (rows : List Row) → fold with_default rows asm_top.rules ≡ with_order rows
unfolding asm_top asm_app clap_on_literals
ended rows = rw (same_rows (has_row (codes "SOURCE") rows) rows, same_rows (has_row (codes "OUTPUT") rows) rows) refl

-- what the places have
pub placed_is : (p : Text) (rows : List Row) → bytes_eq (codes "little") p ≡ false → first_of p (with_order rows) ≡ first_of p rows
placed_is p rows other = go (has_row (codes "little") rows) refl
  where
    go : (b : Bool) → has_row (codes "little") rows ≡ b → first_of p (with_order rows) ≡ first_of p rows
    go true is = rw is refl
    go false is = rw is (default_other (codes "little") p flag_reading DefaultValue (codes "false") rows other is)

-- what the flag has
pub order_is : (rows : List Row)
    → is_raised (option_to_list (first_of (codes "little") rows)) ≡ Some (option_map_or (λ text. bytes_eq text raised_value) (first_of (codes "little") (with_order rows)) false)
order_is rows = go (has_row (codes "little") rows) refl
  where
    Here : List Row → Type 0
    Here rs = is_raised (option_to_list (first_of (codes "little") rows)) ≡ Some (option_map_or (λ text. bytes_eq text raised_value) (first_of (codes "little") rs) false)

    any : (o : Option Text) → is_raised (option_to_list o) ≡ Some (option_map_or (λ text. bytes_eq text raised_value) o false)
    any None = refl
    any (Some text) = refl

    go : (b : Bool) → has_row (codes "little") rows ≡ b → Here (with_order rows)
    go true is = rw is (any (first_of (codes "little") rows))
    go false is = rw (is, no_row (codes "little") rows is, default_first (codes "little") flag_reading DefaultValue (codes "false") rows is) refl
