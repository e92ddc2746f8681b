-- One word's turn in clap's walk, for a table of plain rules and of flags.
use Rattle.std.proofs.Common.{◌≡◌, ℕ, ◌+◌, Bool, ◌&&◌, true, false, refl, sym, ap, List, [], ◌∷◌, arith, length, min, Option, Some, None, is_some, if◌then◌else◌}
use Rattle.std.proofs.lemmas.Bool.{false≢true}
use Rattle.std.proofs.lemmas.Slice.Eq.{bytes_eq-Decides}
use Rattle.std.specs.Option.{option_map_or}
use Rattle.std.specs.Prelude.{slice_get}
use Rattle.std.specs.Str.{bytes_eq, chars}
use Rattle.clap.specs.Lexer.{long_of, short_of, usize_max}
use Rattle.clap.specs.Walk.{subcommand_met, short_or_plain, plain_word, plain, Row, Rule, Text, Walk, Waiting, idle, option, Held, arg_by_id, arg_by_index, arg_by_long, arg_by_short, has_row, walked, settled, used, is_pending}
use Rattle.clap.specs.Simple.{Shape}
use Rattle.clap.specs.Kinds.{Kinds, or_else}
use Rattle.clap.proofs.FaultLemmas.{fault_ends}
use Rattle.clap.proofs.WalkLemmas.{bundle_ends}
use Rattle.clap.specs.Faults.{bundle_fault, flags_fault, positional_fault, stray_fault, turn_fault, settle_fault, use_fault}
use Rattle.clap.specs.declared.builder.action.ArgAction.TheVariants.{Set, SetTrue}
use Rattle.clap.specs.declared.builder.value_parser.ValueParser.TheVariants as vp
use Rattle.clap.specs.declared.error.kind.ErrorKind.TheVariants as kind
use Rattle.command_line.specs.Words.{raised_value}
use Rattle.command_line.proofs.Rows.{dashes, flag_reading, is_flags, plain_reading, put}

-- an argument that takes one text
pub record IsPlain (c : List Rule) (n : Text) (a : Rule) : Type 0 where
  pub id : a.id ≡ n
  pub here : arg_by_id c n ≡ Some a
  pub action : a.action ≡ Some Set
  pub range : a.range ≡ Some (record { start_inclusive = 1; end_inclusive = 1 })
  pub parser : a.parser ≡ Some vp.String
  pub trailing : a.trailing_var_arg ≡ false

-- a flag: it takes no text, and stands for the text `true`
pub record IsFlag (c : List Rule) (n : Text) (a : Rule) : Type 0 where
  pub id : a.id ≡ n
  pub action : a.action ≡ Some SetTrue
  pub range : a.range ≡ Some (record { start_inclusive = 0; end_inclusive = 0 })
  pub parser : a.parser ≡ Some vp.Bool
  pub missing : a.missing ≡ raised_value ∷ []

abbrev pub at : List Row → Option (Text × List Text) → Waiting → ℕ → Bool → Walk
at rows pending waiting position trailing = record {
  held = record { rows = rows; pending = pending; skip = 0 };
  waiting = waiting;
  position = position;
  is_trailing = trailing;
  stopped = None;
}

abbrev pub hold : List Row → Option (Text × List Text) → Held
hold rows pending = record { rows = rows; pending = pending; skip = 0 }

pub used_plain : (c : List Rule) (n : Text) (a : Rule) (v : Text) (rows : List Row) → IsPlain c n a → used a (v ∷ []) rows ≡ put plain_reading n v rows
used_plain c n a v rows p = rw (p.action, p.id, p.parser) refl

pub use_new : (c : List Rule) (n : Text) (a : Rule) (v : Text) (rows : List Row) → IsPlain c n a → has_row n rows ≡ false → use_fault false a (v ∷ []) rows ≡ []
use_new c n a v rows p new = rw (p.action, p.id, p.parser, p.range, new) refl

pub use_again : (c : List Rule) (n : Text) (a : Rule) (v : Text) (rows : List Row) → IsPlain c n a → has_row n rows ≡ true → use_fault false a (v ∷ []) rows ≡ kind.ArgumentConflict ∷ []
use_again c n a v rows p again = rw (p.action, p.id, p.parser, p.range, again) refl

pub use_bare : (c : List Rule) (n : Text) (a : Rule) (rows : List Row) → IsPlain c n a → use_fault false a [] rows ≡ kind.InvalidValue ∷ []
use_bare c n a rows p = rw (p.action, p.id, p.parser, p.range) refl

pub used_flag : (c : List Rule) (n : Text) (a : Rule) (rows : List Row) → IsFlag c n a → used a [] rows ≡ put flag_reading n raised_value rows
used_flag c n a rows p = rw (p.action, p.id, p.parser, p.missing) refl

pub raise_new : (c : List Rule) (n : Text) (a : Rule) (rows : List Row) → IsFlag c n a → has_row n rows ≡ false → use_fault false a [] rows ≡ []
raise_new c n a rows p new = rw (p.action, p.id, p.parser, p.range, p.missing, new) refl

pub raise_again : (c : List Rule) (n : Text) (a : Rule) (rows : List Row) → IsFlag c n a → has_row n rows ≡ true → use_fault false a [] rows ≡ kind.ArgumentConflict ∷ []
raise_again c n a rows p again = rw (p.action, p.id, p.parser, p.range, p.missing, again) refl

-- ---- what is pending

pub settle_new : (c : List Rule) (n : Text) (a : Rule) (v : Text) (rows : List Row) → IsPlain c n a → has_row n rows ≡ false → settle_fault c false (hold rows (Some (n, v ∷ []))) ≡ []
settle_new c n a v rows p new = rw p.here (use_new c n a v rows p new)

pub settle_again : (c : List Rule) (n : Text) (a : Rule) (v : Text) (rows : List Row) → IsPlain c n a → has_row n rows ≡ true → settle_fault c false (hold rows (Some (n, v ∷ []))) ≡ kind.ArgumentConflict ∷ []
settle_again c n a v rows p again = rw p.here (use_again c n a v rows p again)

pub settle_bare : (c : List Rule) (n : Text) (a : Rule) (rows : List Row) → IsPlain c n a → settle_fault c false (hold rows (Some (n, []))) ≡ kind.InvalidValue ∷ []
settle_bare c n a rows p = rw p.here (use_bare c n a rows p)

pub settled_rows_are : (c : List Rule) (n : Text) (a : Rule) (v : Text) (rows : List Row) → IsPlain c n a → settled c (hold rows (Some (n, v ∷ []))) ≡ hold (put plain_reading n v rows) None
settled_rows_are c n a v rows p = rw p.here (ap (λ r. hold r None) (used_plain c n a v rows p))

-- ---- `--`

pub dashes_fault : (s : Shape) (rows : List Row) (pending : Option (Text × List Text)) (waiting : Waiting) (position : ℕ) (w : Text) → subcommand_met [] waiting w ≡ None → bytes_eq w dashes ≡ true
    → turn_fault s [] (at rows pending waiting position false) w ≡ []
dashes_fault s rows pending waiting position w sub is = rw (sub, is) refl

pub dashes_walked : (c : List Rule) (rows : List Row) (pending : Option (Text × List Text)) (waiting : Waiting) (position : ℕ) (w : Text) → subcommand_met [] waiting w ≡ None → bytes_eq w dashes ≡ true
    → walked c [] (at rows pending waiting position false) w ≡ at rows pending waiting position true
unfolding walked
dashes_walked c rows pending waiting position w sub is = rw (sub, is) refl

-- ---- `--name=value` and `--name`

pub long_value_fault : (s : Shape) (rows : List Row) (pending : Option (Text × List Text)) (waiting : Waiting) (position : ℕ) (w n v : Text) (a : Rule)
    → s.args_override_self ≡ false → subcommand_met [] waiting w ≡ None → bytes_eq w dashes ≡ false → long_of w ≡ Some (n, Some v) → arg_by_long s.rules n ≡ Some a → IsPlain s.rules n a
    → turn_fault s [] (at rows pending waiting position false) w
    ≡ or_else (or_else (settle_fault s.rules false (hold rows pending)) (use_fault false a (v ∷ []) (settled s.rules (hold rows pending)).rows)) []
long_value_fault s rows pending waiting position w n v a over sub other long found p = rw (sub, other, long, found, over, p.range) refl

pub long_value_walked : (c : List Rule) (rows : List Row) (pending : Option (Text × List Text)) (position : ℕ) (w n v : Text) (a : Rule)
    → bytes_eq w dashes ≡ false → long_of w ≡ Some (n, Some v) → arg_by_long c n ≡ Some a → IsPlain c n a
    → walked c [] (at rows pending idle position false) w ≡ at (used a (v ∷ []) (settled c (hold rows pending)).rows) None idle position false
unfolding walked
long_value_walked c rows pending position w n v a other long found p = rw (other, long, found, p.range) refl

pub long_bare_fault : (s : Shape) (rows : List Row) (pending : Option (Text × List Text)) (waiting : Waiting) (position : ℕ) (w n : Text) (a : Rule)
    → s.args_override_self ≡ false → subcommand_met [] waiting w ≡ None → bytes_eq w dashes ≡ false → long_of w ≡ Some (n, None) → arg_by_long s.rules n ≡ Some a → IsPlain s.rules n a
    → turn_fault s [] (at rows pending waiting position false) w ≡ or_else (settle_fault s.rules false (hold rows pending)) []
long_bare_fault s rows pending waiting position w n a over sub other long found p = rw (sub, other, long, found, over, p.range) refl

pub long_bare_walked : (c : List Rule) (rows : List Row) (pending : Option (Text × List Text)) (position : ℕ) (w n : Text) (a : Rule)
    → bytes_eq w dashes ≡ false → long_of w ≡ Some (n, None) → arg_by_long c n ≡ Some a → IsPlain c n a
    → walked c [] (at rows pending idle position false) w ≡ at (settled c (hold rows pending)).rows (Some (n, [])) (option n) position false
unfolding walked
long_bare_walked c rows pending position w n a other long found p = rw (other, long, found, p.range, p.id) refl

pub long_flag_fault : (s : Shape) (rows : List Row) (pending : Option (Text × List Text)) (waiting : Waiting) (position : ℕ) (w n : Text) (a : Rule)
    → s.args_override_self ≡ false → subcommand_met [] waiting w ≡ None → bytes_eq w dashes ≡ false → long_of w ≡ Some (n, None) → arg_by_long s.rules n ≡ Some a → IsFlag s.rules n a
    → turn_fault s [] (at rows pending waiting position false) w
    ≡ or_else (or_else (settle_fault s.rules false (hold rows pending)) (use_fault false a [] (settled s.rules (hold rows pending)).rows)) []
long_flag_fault s rows pending waiting position w n a over sub other long found p = rw (sub, other, long, found, over, p.range) refl

pub long_flag_walked : (c : List Rule) (rows : List Row) (pending : Option (Text × List Text)) (position : ℕ) (w n : Text) (a : Rule)
    → bytes_eq w dashes ≡ false → long_of w ≡ Some (n, None) → arg_by_long c n ≡ Some a → IsFlag c n a
    → walked c [] (at rows pending idle position false) w ≡ at (used a [] (settled c (hold rows pending)).rows) None idle position false
unfolding walked
long_flag_walked c rows pending position w n a other long found p = rw (other, long, found, p.range) refl

-- a flag takes no value
pub long_flag_value_fault : (s : Shape) (rows : List Row) (pending : Option (Text × List Text)) (waiting : Waiting) (position : ℕ) (w n v : Text) (a : Rule)
    → subcommand_met [] waiting w ≡ None → bytes_eq w dashes ≡ false → long_of w ≡ Some (n, Some v) → arg_by_long s.rules n ≡ Some a → IsFlag s.rules n a
    → turn_fault s [] (at rows pending waiting position false) w ≡ kind.TooManyValues ∷ []
long_flag_value_fault s rows pending waiting position w n v a sub other long found p = rw (sub, other, long, found, p.range) refl

pub long_unknown_fault : (s : Shape) (rows : List Row) (pending : Option (Text × List Text)) (waiting : Waiting) (position : ℕ) (w n : Text) (v : Option Text)
    → subcommand_met [] waiting w ≡ None → bytes_eq w dashes ≡ false → long_of w ≡ Some (n, v) → arg_by_long s.rules n ≡ None
    → turn_fault s [] (at rows pending waiting position false) w ≡ kind.UnknownArgument ∷ []
long_unknown_fault s rows pending waiting position w n v sub other long found = rw (sub, other, long, found) refl

-- ---- `-x`

pub flags_turn : (s : Shape) (rows : List Row) (pending : Option (Text × List Text)) (waiting : Waiting) (position : ℕ) (w flags : Text) (x : ℕ)
    → subcommand_met [] waiting w ≡ None → bytes_eq w dashes ≡ false → long_of w ≡ None → short_of w ≡ Some flags → slice_get (chars flags) 0 ≡ Some x → ((x : ℕ) → arg_by_short s.rules x ≡ None)
    → turn_fault s [] (at rows pending waiting position false) w ≡ kind.UnknownArgument ∷ []
unfolding flags_fault chars
flags_turn s rows pending waiting position w [] x sub other long short first none = let bad : None ≡ Some x = first in absurd (grind arith)
flags_turn s rows pending waiting position w (y ∷ ys) x sub other long short first none = rw (sub, other, long, short, first, none x) refl

-- ---- a word that is no flag

none_of : {X : Type 0} (o : Option X) → is_some o ≡ false → o ≡ None
none_of None e = refl
none_of (Some x) e = absurd (false≢true (sym e))

pub no_flag_fault : (c : List Rule) (again : Bool) (w : Text) (h : Held) → is_flags w ≡ false → option_map_or (λ flags. bundle_fault c again flags h) (short_of w) [] ≡ []
no_flag_fault c again w h = go (short_of w)
  where
    go : (o : Option Text) → option_map_or (λ flags. is_some (slice_get (chars flags) 0)) o false ≡ false → option_map_or (λ flags. bundle_fault c again flags h) o [] ≡ []
    go None e = refl
    go (Some flags) e = sym (fault_ends c again (length flags) flags h.skip (record h { skip = 0 }) (sym (none_of (slice_get (chars flags) 0) e)))

pub no_flag_met : (c : List Rule) (waiting : Waiting) (w : Text) (rows : List Row) (pending : Option (Text × List Text)) → is_flags w ≡ false
    → short_or_plain c waiting w (short_of w) (hold rows pending) ≡ plain_word c waiting w (hold rows pending)
no_flag_met c waiting w rows pending = go (short_of w)
  where
    go : (o : Option Text) → option_map_or (λ flags. is_some (slice_get (chars flags) 0)) o false ≡ false → short_or_plain c waiting w o (hold rows pending) ≡ plain_word c waiting w (hold rows pending)
    go None e = refl
    go (Some flags) e = rw (← bundle_ends c (length flags) flags 0 plain (hold rows pending) (sym (none_of (slice_get (chars flags) 0) e))) refl

-- ---- a place

alone : (b : Bool) (x : Kinds) → (if b && false then [] else x) ≡ x
alone true x = refl
alone false x = refl

pub place_settles : (c : List Rule) (p : Text) (a : Rule) (rows : List Row) (pending : Option (Text × List Text)) → IsPlain c p a
    → positional_fault c false a (hold rows pending) ≡ settle_fault c false (hold rows pending)
place_settles c p a rows pending q = rw q.range (alone (is_pending a pending) (settle_fault c false (hold rows pending)))

same_held : (b : Bool) (x y : Held) → (if b && false then x else y) ≡ y
same_held true x y = refl
same_held false x y = refl

-- the word goes to a place, by what it does to the rows
pub place_fault : (s : Shape) (rows : List Row) (pending : Option (Text × List Text)) (position : ℕ) (w p : Text) (a : Rule)
    → s.args_override_self ≡ false → bytes_eq w dashes ≡ false → long_of w ≡ None → is_flags w ≡ false → arg_by_index s.rules position ≡ Some a → IsPlain s.rules p a
    → turn_fault s [] (at rows pending idle position false) w ≡ settle_fault s.rules false (hold rows pending)
place_fault s rows pending position w p a over other long flags found q =
    rw (other, long, over, no_flag_fault s.rules false w (hold rows pending) flags, no_flag_met s.rules idle w rows pending flags, found) (place_settles s.rules p a rows pending q)

pub no_place_fault : (s : Shape) (rows : List Row) (pending : Option (Text × List Text)) (position : ℕ) (w : Text)
    → s.args_override_self ≡ false → bytes_eq w dashes ≡ false → long_of w ≡ None → is_flags w ≡ false → arg_by_index s.rules position ≡ None
    → turn_fault s [] (at rows pending idle position false) w ≡ stray_fault s
no_place_fault s rows pending position w over other long flags found =
    rw (other, long, over, no_flag_fault s.rules false w (hold rows pending) flags, no_flag_met s.rules idle w rows pending flags, found) refl

pub place_walked : (c : List Rule) (rows left : List Row) (pending : Option (Text × List Text)) (position : ℕ) (w p : Text) (a : Rule)
    → bytes_eq w dashes ≡ false → long_of w ≡ None → is_flags w ≡ false → arg_by_index c position ≡ Some a → IsPlain c p a → settled c (hold rows pending) ≡ hold left None
    → walked c [] (at rows pending idle position false) w ≡ at left (Some (p, w ∷ [])) idle (min (position + 1) usize_max) false
unfolding walked
place_walked c rows left pending position w p a other long flags found q settles =
    rw (other, long, no_flag_met c idle w rows pending flags, found, q.range, q.action, q.id, q.trailing, same_held (option_map_or (λ r. bytes_eq r.0 p) pending false) (hold rows pending) (settled c (hold rows pending)))
    (ap (λ (h : Held). at h.rows (Some (p, w ∷ [])) idle (min (position + 1) usize_max) false) settles)

-- the same after `--`
pub late_place_fault : (s : Shape) (rows : List Row) (pending : Option (Text × List Text)) (waiting : Waiting) (position : ℕ) (w p : Text) (a : Rule)
    → s.args_override_self ≡ false → arg_by_index s.rules position ≡ Some a → IsPlain s.rules p a
    → turn_fault s [] (at rows pending waiting position true) w ≡ settle_fault s.rules false (hold rows pending)
late_place_fault s rows pending waiting position w p a over found q = rw (over, found) (place_settles s.rules p a rows pending q)

pub late_no_place_fault : (s : Shape) (rows : List Row) (pending : Option (Text × List Text)) (waiting : Waiting) (position : ℕ) (w : Text)
    → arg_by_index s.rules position ≡ None → turn_fault s [] (at rows pending waiting position true) w ≡ stray_fault s
late_no_place_fault s rows pending waiting position w found = rw found refl

pub late_place_walked : (c : List Rule) (rows left : List Row) (pending : Option (Text × List Text)) (position : ℕ) (w p : Text) (a : Rule)
    → arg_by_index c position ≡ Some a → IsPlain c p a → settled c (hold rows pending) ≡ hold left None
    → walked c [] (at rows pending idle position true) w ≡ at left (Some (p, w ∷ [])) idle (min (position + 1) usize_max) true
unfolding walked
late_place_walked c rows left pending position w p a found q settles =
    rw (found, q.range, q.action, q.id, same_held (option_map_or (λ r. bytes_eq r.0 p) pending false) (hold rows pending) (settled c (hold rows pending)))
    (ap (λ (h : Held). at h.rows (Some (p, w ∷ [])) idle (min (position + 1) usize_max) true) settles)

-- ---- the value of an option

pub value_fault : (s : Shape) (rows : List Row) (position : ℕ) (w n : Text) (a : Rule)
    → s.args_override_self ≡ false → bytes_eq w dashes ≡ false → long_of w ≡ None → is_flags w ≡ false → IsPlain s.rules n a
    → turn_fault s [] (at rows (Some (n, [])) (option n) position false) w ≡ []
value_fault s rows position w n a over other long flags q =
    rw (other, long, over, no_flag_fault s.rules false w (hold rows (Some (n, []))) flags, no_flag_met s.rules (option n) w rows (Some (n, [])) flags) refl

same_text : (n : Text) → bytes_eq n n ≡ true
same_text n = (bytes_eq-Decides n n).1 refl

pub value_walked : (c : List Rule) (rows : List Row) (position : ℕ) (w n : Text) (a : Rule)
    → bytes_eq w dashes ≡ false → long_of w ≡ None → is_flags w ≡ false → IsPlain c n a
    → walked c [] (at rows (Some (n, [])) (option n) position false) w ≡ at rows (Some (n, w ∷ [])) idle position false
unfolding walked
value_walked c rows position w n a other long flags q =
    rw (other, long, no_flag_met c (option n) w rows (Some (n, [])) flags, q.here, q.range, q.id, same_text n) refl
