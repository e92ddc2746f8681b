-- clap's walk over words agrees with `read`, and stops with a fault exactly where `read` has no answer.
use Rattle.std.proofs.Common.{◌≡◌, ◌∙◌, ℕ, ◌+◌, Bool, true, false, refl, sym, ap, subst, List, [], ◌∷◌, min, Option, Some, None, is_some, fold, if◌then◌else◌, ◌||◌}
use Rattle.std.proofs.lemmas.Bool.{false≢true}
use Rattle.std.specs.Prelude.{slice_get}
use Rattle.std.specs.Option.{option_map_or}
use Rattle.std.specs.Str.{bytes_eq, chars}
use Rattle.clap.specs.Lexer.{long_of, short_of, usize_max}
use Rattle.clap.specs.Walk.{Row, Rule, Text, Walk, Waiting, idle, option, Held, arg_by_index, arg_by_long, arg_by_short, has_row, walked, settled, used, subcommand_met}
use Rattle.clap.specs.Simple.{Shape}
use Rattle.clap.proofs.SimpleLemmas.{is_nil}
use Rattle.clap.specs.Kinds.{Kinds, or_else}
use Rattle.std.specs.List.{list_all}
use Rattle.std.proofs.lemmas.Bool.{and_parts}
use Rattle.clap.specs.Walk.{finished, is_empty, nothing_held, with_default}
use Rattle.clap.specs.Faults.{check_fault, defaults_fault, given_default_fault, level_fault, turn_fault, walk_fault, settle_fault, stray_fault, use_fault}
use Rattle.clap.specs.declared.error.kind.ErrorKind.{ErrorKind}
use Rattle.clap.specs.declared.error.kind.ErrorKind.TheVariants as kind
use Rattle.command_line.specs.Words.{raised_value}
use Rattle.command_line.proofs.Rows.{Answer, dashes, flag_reading, is_flags, knows, plain_reading, put, read}
use Rattle.command_line.proofs.Turns.{IsFlag, IsPlain, at, hold, use_new, use_again, used_plain, settle_new, settle_again, settle_bare, settled_rows_are}
use Rattle.command_line.proofs.Turns.{long_flag_fault, long_flag_value_fault, long_flag_walked, raise_again, raise_new, used_flag}
use Rattle.command_line.proofs.Turns.{dashes_fault, dashes_walked, long_value_fault, long_value_walked, long_bare_fault, long_bare_walked, long_unknown_fault, flags_turn}
use Rattle.command_line.proofs.Turns.{place_fault, no_place_fault, place_walked, late_place_fault, late_no_place_fault, late_place_walked, value_fault, value_walked}

-- ---- kinds

pub Fails : Kinds → Type 0
Fails ks = (k : ErrorKind) × (rest : Kinds) × (ks ≡ k ∷ rest)

first_fails : (a b : Kinds) → Fails a → Fails (or_else a b)
unfolding Fails
first_fails a b f = (f.0, f.1, rw f.2 refl)

pub or_else-nil : (a : Kinds) → or_else a [] ≡ a
or_else-nil [] = refl
or_else-nil (k ∷ ks) = refl

or_else-or_else : (a b c : Kinds) → or_else (or_else a b) c ≡ or_else a (or_else b c)
or_else-or_else [] b c = refl
or_else-or_else (k ∷ ks) b c = refl

one_fails : (a : Kinds) (k : ErrorKind) → a ≡ k ∷ [] → Fails a
unfolding Fails
one_fails a k e = (k, [], e)

fails_as : (a b : Kinds) → a ≡ b → Fails b → Fails a
fails_as a b e f = subst Fails (sym e) f

stray_fails : (s : Shape) → Fails (stray_fault s)
unfolding Fails
stray_fails s = go s.is_leaf
  where
    go : (b : Bool) → Fails (if b then kind.UnknownArgument ∷ [] else kind.UnknownArgument ∷ kind.InvalidSubcommand ∷ [])
    go true = (kind.UnknownArgument, [], refl)
    go false = (kind.UnknownArgument, kind.InvalidSubcommand ∷ [], refl)

-- ---- the walk and the settling after it

abbrev walk_on : Shape → Walk → List Text → Walk
walk_on s w words = fold (walked s.rules []) w words

unfoldable pub total : Shape → Walk → List Text → Kinds
total s w words = or_else (walk_fault s [] w words) (settle_fault s.rules false (walk_on s w words).held)

unfoldable pub end_rows : Shape → Walk → List Text → List Row
end_rows s w words = (settled s.rules (walk_on s w words).held).rows

total_turn : (s : Shape) (w : Walk) (word : Text) (words : List Text) → total s w (word ∷ words) ≡ or_else (turn_fault s [] w word) (total s (walked s.rules [] w word) words)
unfolding total walk_fault
total_turn s w word words = or_else-or_else (turn_fault s [] w word) (walk_fault s [] (walked s.rules [] w word) words) _

end_turn : (s : Shape) (w : Walk) (word : Text) (words : List Text) → end_rows s w (word ∷ words) ≡ end_rows s (walked s.rules [] w word) words
unfolding end_rows
end_turn s w word words = refl

-- ---- where a walk stops and where it goes on

fails_now : (s : Shape) (w : Walk) (word : Text) (words : List Text) → Fails (turn_fault s [] w word) → Fails (total s w (word ∷ words))
fails_now s w word words f = fails_as _ _ (total_turn s w word words) (first_fails _ _ f)

fails_on : (s : Shape) (w next : Walk) (word : Text) (words : List Text) → turn_fault s [] w word ≡ [] → walked s.rules [] w word ≡ next → Fails (total s next words) → Fails (total s w (word ∷ words))
fails_on s w next word words quiet is f = rw (total_turn s w word words, quiet, is) f

-- no kind where the answer has these rows, and no answer where there is a kind
abbrev pub Agrees : Kinds → List Row → Answer → Type 0
Agrees [] rows answer = (left : List Text) × (answer ≡ Some (rows, left))
Agrees (k ∷ ks) rows answer = answer ≡ None

failed : (ks : Kinds) (rows : List Row) (answer : Answer) → Fails ks → answer ≡ None → Agrees ks rows answer
unfolding Fails
failed ks rows answer f none = subst (λ x. Agrees x rows answer) (sym f.2) none

goes : (s : Shape) (w next : Walk) (word : Text) (words : List Text) (answer : Answer) → turn_fault s [] w word ≡ [] → walked s.rules [] w word ≡ next
    → Agrees (total s next words) (end_rows s next words) answer → Agrees (total s w (word ∷ words)) (end_rows s w (word ∷ words)) answer
goes s w next word words answer quiet is h = rw (total_turn s w word words, end_turn s w word words, quiet, is) h

-- ---- the table of arguments

pub record IsTable (opts flags : List Text) (s : Shape) : Type 0 where
  pub over : s.args_override_self ≡ false
  pub short : (x : ℕ) → arg_by_short s.rules x ≡ None
  pub known : (n : Text) → knows opts n ≡ true → (a : Rule) × (arg_by_long s.rules n ≡ Some a) × IsPlain s.rules n a
  pub flag : (n : Text) → knows flags n ≡ true → (a : Rule) × (arg_by_long s.rules n ≡ Some a) × IsFlag s.rules n a
  pub unknown : (n : Text) → knows opts n ≡ false → knows flags n ≡ false → arg_by_long s.rules n ≡ None

-- the places from an index on
abbrev pub Places : Shape → ℕ → List Text → Type 0
Places s i [] = arg_by_index s.rules i ≡ None
Places s i (p ∷ ps) = (a : Rule) × (arg_by_index s.rules i ≡ Some a) × IsPlain s.rules p a × Places s (min (i + 1) usize_max) ps

-- ---- words that stop the walk

long_fails : (opts flags : List Text) (s : Shape) → IsTable opts flags s → (rows : List Row) (pending : Option (Text × List Text)) (waiting : Waiting) (position : ℕ) (w n : Text) (v : Option Text)
    → subcommand_met [] waiting w ≡ None → bytes_eq w dashes ≡ false → long_of w ≡ Some (n, v) → Fails (settle_fault s.rules false (hold rows pending))
    → Fails (turn_fault s [] (at rows pending waiting position false) w)
long_fails opts flags s t rows pending waiting position w n v sub other long f = go (knows flags n) refl (knows opts n) refl v long
  where
    go : (a : Bool) → knows flags n ≡ a → (b : Bool) → knows opts n ≡ b → (v : Option Text) → long_of w ≡ Some (n, v) → Fails (turn_fault s [] (at rows pending waiting position false) w)
    go true is b _ None long =
        let (a, found, q) = t.flag n is in
        fails_as _ _ (long_flag_fault s rows pending waiting position w n a t.over sub other long found q) (first_fails _ [] (first_fails _ _ f))
    go true is b _ (Some v) long =
        let (a, found, q) = t.flag n is in
        one_fails _ _ (long_flag_value_fault s rows pending waiting position w n v a sub other long found q)
    go false absent false is v long = one_fails _ _ (long_unknown_fault s rows pending waiting position w n v sub other long (t.unknown n is absent))
    go false absent true is None long =
        let (a, found, q) = t.known n is in
        fails_as _ _ (long_bare_fault s rows pending waiting position w n a t.over sub other long found q) (first_fails _ [] f)
    go false absent true is (Some v) long =
        let (a, found, q) = t.known n is in
        fails_as _ _ (long_value_fault s rows pending waiting position w n v a t.over sub other long found q) (first_fails _ [] (first_fails _ _ f))

flags_fail : (opts flags : List Text) (s : Shape) → IsTable opts flags s → (rows : List Row) (pending : Option (Text × List Text)) (waiting : Waiting) (position : ℕ) (w : Text)
    → subcommand_met [] waiting w ≡ None → bytes_eq w dashes ≡ false → long_of w ≡ None → is_flags w ≡ true → Fails (turn_fault s [] (at rows pending waiting position false) w)
flags_fail opts flags s t rows pending waiting position w sub other long = go (short_of w) refl
  where
    at_first : (letters : Text) → short_of w ≡ Some letters → (o : Option ℕ) → slice_get (chars letters) 0 ≡ o → is_some o ≡ true → Fails (turn_fault s [] (at rows pending waiting position false) w)
    at_first letters short None first e = absurd (false≢true e)
    at_first letters short (Some x) first e = one_fails _ _ (flags_turn s rows pending waiting position w letters x sub other long short first t.short)

    go : (o : Option Text) → short_of w ≡ o → option_map_or (λ letters. is_some (slice_get (chars letters) 0)) o false ≡ true → Fails (turn_fault s [] (at rows pending waiting position false) w)
    go None short e = absurd (false≢true e)
    go (Some letters) short e = at_first letters short (slice_get (chars letters) 0) refl e

late_fails : (s : Shape) → s.args_override_self ≡ false → (rows : List Row) (pending : Option (Text × List Text)) (waiting : Waiting) (position : ℕ) (w : Text) (ps : List Text)
    → Places s position ps → Fails (settle_fault s.rules false (hold rows pending)) → Fails (turn_fault s [] (at rows pending waiting position true) w)
late_fails s over rows pending waiting position w [] places f = fails_as _ _ (late_no_place_fault s rows pending waiting position w places) (stray_fails s)
late_fails s over rows pending waiting position w (p ∷ ps) places f = fails_as _ _ (late_place_fault s rows pending waiting position w p places.0 over places.1 places.2) f

early_fails : (s : Shape) → s.args_override_self ≡ false → (rows : List Row) (pending : Option (Text × List Text)) (position : ℕ) (w : Text) (ps : List Text)
    → Places s position ps → bytes_eq w dashes ≡ false → long_of w ≡ None → is_flags w ≡ false → Fails (settle_fault s.rules false (hold rows pending)) → Fails (turn_fault s [] (at rows pending idle position false) w)
early_fails s over rows pending position w [] places other long short f = fails_as _ _ (no_place_fault s rows pending position w over other long short places) (stray_fails s)
early_fails s over rows pending position w (p ∷ ps) places other long short f = fails_as _ _ (place_fault s rows pending position w p places.0 over other long short places.1 places.2) f

-- ---- what is pending and cannot be settled fails, whatever follows

abbrev StaysFailed : Shape → List Text → Type 0
StaysFailed s words = (rows : List Row) (pending : Option (Text × List Text)) (position : ℕ) (trailing : Bool) (ps : List Text) → Places s position ps
    → Fails (settle_fault s.rules false (hold rows pending)) → Fails (total s (at rows pending idle position trailing) words)

stays_failed-more : (opts flags : List Text) (s : Shape) → IsTable opts flags s → (w : Text) (words : List Text) → StaysFailed s words → StaysFailed s (w ∷ words)
stays_failed-more opts flags s t w words ih rows pending position true ps places f = fails_now s _ w words (late_fails s t.over rows pending idle position w ps places f)
stays_failed-more opts flags s t w words ih rows pending position false ps places f = at_dashes (bytes_eq w dashes) refl
  where
    at_flags : bytes_eq w dashes ≡ false → long_of w ≡ None → (b : Bool) → is_flags w ≡ b → Fails (total s (at rows pending idle position false) (w ∷ words))
    at_flags other long true is = fails_now s _ w words (flags_fail opts flags s t rows pending idle position w refl other long is)
    at_flags other long false is = fails_now s _ w words (early_fails s t.over rows pending position w ps places other long is f)

    at_name : bytes_eq w dashes ≡ false → (o : Option (Text × Option Text)) → long_of w ≡ o → Fails (total s (at rows pending idle position false) (w ∷ words))
    at_name other None long = at_flags other long (is_flags w) refl
    at_name other (Some (n, v)) long = fails_now s _ w words (long_fails opts flags s t rows pending idle position w n v refl other long f)

    at_dashes : (b : Bool) → bytes_eq w dashes ≡ b → Fails (total s (at rows pending idle position false) (w ∷ words))
    at_dashes true is = fails_on s _ _ w words (dashes_fault s rows pending idle position w refl is) (dashes_walked s.rules rows pending idle position w refl is) (ih rows pending position true ps places f)
    at_dashes false is = at_name is (long_of w) refl

stays_failed : (opts flags : List Text) (s : Shape) → IsTable opts flags s → (words : List Text) → StaysFailed s words
unfolding total walk_fault
stays_failed opts flags s t [] = λ rows pending position trailing ps places f. f
stays_failed opts flags s t (w ∷ words) = stays_failed-more opts flags s t w words (stays_failed opts flags s t words)

-- ---- the walk and `read`

-- what is pending is settled to these rows
pub record Settles (s : Shape) (rows : List Row) (pending : Option (Text × List Text)) (left : List Row) : Type 0 where
  pub quiet : settle_fault s.rules false (hold rows pending) ≡ []
  pub is : settled s.rules (hold rows pending) ≡ hold left None

settles_nothing : (s : Shape) (rows : List Row) → Settles s rows None rows
settles_nothing s rows = record { quiet = refl; is = refl }

settles_one : (s : Shape) (n v : Text) (a : Rule) (rows : List Row) → IsPlain s.rules n a → has_row n rows ≡ false → Settles s rows (Some (n, v ∷ [])) (put plain_reading n v rows)
settles_one s n v a rows q new = record { quiet = settle_new s.rules n a v rows q new; is = settled_rows_are s.rules n a v rows q }

again_fails : (s : Shape) (n v : Text) (a : Rule) (rows : List Row) → IsPlain s.rules n a → has_row n rows ≡ true → Fails (settle_fault s.rules false (hold rows (Some (n, v ∷ []))))
again_fails s n v a rows q again = one_fails _ _ (settle_again s.rules n a v rows q again)

abbrev ReadsOn : List Text → List Text → Shape → Bool → List Text → Type 0
ReadsOn opts flags s trailing words = (rows left : List Row) (pending : Option (Text × List Text)) (position : ℕ) (ps : List Text) → Settles s rows pending left → Places s position ps
    → Agrees (total s (at rows pending idle position trailing) words) (end_rows s (at rows pending idle position trailing) words) (read opts flags left ps None trailing words)

abbrev ReadsValue : List Text → List Text → Shape → List Text → Type 0
ReadsValue opts flags s words = (rows : List Row) (n : Text) (a : Rule) (position : ℕ) (ps : List Text) → IsPlain s.rules n a → Places s position ps
    → Agrees (total s (at rows (Some (n, [])) (option n) position false) words) (end_rows s (at rows (Some (n, [])) (option n) position false) words) (read opts flags rows ps (Some n) false words)

at_end : (opts flags : List Text) (s : Shape) (trailing : Bool) → ReadsOn opts flags s trailing []
unfolding total walk_fault end_rows read
at_end opts flags s true rows left pending position ps settles places = rw settles.quiet (ps, ap (λ (h : Held). Some (h.rows, ps)) (sym settles.is))
at_end opts flags s false rows left pending position ps settles places = rw settles.quiet (ps, ap (λ (h : Held). Some (h.rows, ps)) (sym settles.is))

-- after `--`
late-more : (opts flags : List Text) (s : Shape) → IsTable opts flags s → (w : Text) (words : List Text) → ReadsOn opts flags s true words → ReadsOn opts flags s true (w ∷ words)
unfolding read
late-more opts flags s t w words ih rows left pending position [] settles places =
    failed _ _ _ (fails_now s _ w words (fails_as _ _ (late_no_place_fault s rows pending idle position w places) (stray_fails s))) refl
late-more opts flags s t w words ih rows left pending position (p ∷ ps) settles places = at_row (has_row p left) refl
  where
    quiet : turn_fault s [] (at rows pending idle position true) w ≡ []
    quiet = late_place_fault s rows pending idle position w p places.0 t.over places.1 places.2 ∙ settles.quiet

    next : walked s.rules [] (at rows pending idle position true) w ≡ at left (Some (p, w ∷ [])) idle (min (position + 1) usize_max) true
    next = late_place_walked s.rules rows left pending position w p places.0 places.1 places.2 settles.is

    at_row : (b : Bool) → has_row p left ≡ b → Agrees (total s (at rows pending idle position true) (w ∷ words)) (end_rows s (at rows pending idle position true) (w ∷ words)) (read opts flags left (p ∷ ps) None true (w ∷ words))
    at_row true again =
        failed _ _ _ (fails_on s _ _ w words quiet next (stays_failed opts flags s t words left (Some (p, w ∷ [])) (min (position + 1) usize_max) true ps places.3 (again_fails s p w places.0 left places.2 again))) (rw again refl)
    at_row false new =
        rw new (goes s _ _ w words _ quiet next (ih left (put plain_reading p w left) (Some (p, w ∷ [])) (min (position + 1) usize_max) ps (settles_one s p w places.0 left places.2 new) places.3))

late : (opts flags : List Text) (s : Shape) → IsTable opts flags s → (words : List Text) → ReadsOn opts flags s true words
late opts flags s t [] = at_end opts flags s true
late opts flags s t (w ∷ words) = late-more opts flags s t w words (late opts flags s t words)

-- before `--`, where no option waits
open-more : (opts flags : List Text) (s : Shape) → IsTable opts flags s → (w : Text) (words : List Text) → ReadsOn opts flags s false words → ReadsValue opts flags s words → ReadsOn opts flags s false (w ∷ words)
unfolding read
open-more opts flags s t w words ih value rows left pending position ps settles places = at_dashes (bytes_eq w dashes) refl
  where
    Here : Answer → Type 0
    Here answer = Agrees (total s (at rows pending idle position false) (w ∷ words)) (end_rows s (at rows pending idle position false) (w ∷ words)) answer

    refused : (answer : Answer) → Fails (turn_fault s [] (at rows pending idle position false) w) → answer ≡ None → Here answer
    refused answer f none = failed _ _ answer (fails_now s _ w words f) none

    at_place : bytes_eq w dashes ≡ false → long_of w ≡ None → is_flags w ≡ false → (ps : List Text) → Places s position ps → (b : List Text → Bool) → Here (read opts flags left ps None false (w ∷ words))
    at_place other long short [] places b = rw (other, long, short) (refused None (fails_as _ _ (no_place_fault s rows pending position w t.over other long short places) (stray_fails s)) refl)
    at_place other long short (p ∷ ps) places b = at_row (has_row p left) refl
      where
        quiet : turn_fault s [] (at rows pending idle position false) w ≡ []
        quiet = place_fault s rows pending position w p places.0 t.over other long short places.1 places.2 ∙ settles.quiet

        next : walked s.rules [] (at rows pending idle position false) w ≡ at left (Some (p, w ∷ [])) idle (min (position + 1) usize_max) false
        next = place_walked s.rules rows left pending position w p places.0 other long short places.1 places.2 settles.is

        at_row : (b : Bool) → has_row p left ≡ b → Here (read opts flags left (p ∷ ps) None false (w ∷ words))
        at_row true again =
            failed _ _ _ (fails_on s _ _ w words quiet next (stays_failed opts flags s t words left (Some (p, w ∷ [])) (min (position + 1) usize_max) false ps places.3 (again_fails s p w places.0 left places.2 again))) (rw (other, long, short, again) refl)
        at_row false new =
            rw (other, long, short, new) (goes s _ _ w words _ quiet next (ih left (put plain_reading p w left) (Some (p, w ∷ [])) (min (position + 1) usize_max) ps (settles_one s p w places.0 left places.2 new) places.3))

    at_flags : bytes_eq w dashes ≡ false → long_of w ≡ None → (b : Bool) → is_flags w ≡ b → Here (read opts flags left ps None false (w ∷ words))
    at_flags other long true is = rw (other, long, is) (refused None (flags_fail opts flags s t rows pending idle position w refl other long is) refl)
    at_flags other long false is = at_place other long is ps places (λ _. true)

    unknown : bytes_eq w dashes ≡ false → (n : Text) (v : Option Text) → long_of w ≡ Some (n, v) → knows opts n ≡ false → knows flags n ≡ false → Fails (turn_fault s [] (at rows pending idle position false) w)
    unknown other n v long is absent = one_fails _ _ (long_unknown_fault s rows pending idle position w n v refl other long (t.unknown n is absent))

    -- the name of a flag
    at_raised : bytes_eq w dashes ≡ false → (n : Text) → long_of w ≡ Some (n, None) → knows flags n ≡ true → Here (read opts flags left ps None false (w ∷ words))
    at_raised other n long is = at_row (has_row n left) refl
      where
        a : Rule
        a = (t.flag n is).0

        found : arg_by_long s.rules n ≡ Some a
        found = (t.flag n is).1

        q : IsFlag s.rules n a
        q = (t.flag n is).2

        fault_is : turn_fault s [] (at rows pending idle position false) w ≡ use_fault false a [] left
        fault_is =
            long_flag_fault s rows pending idle position w n a t.over refl other long found q ∙ or_else-nil _
            ∙ ap (λ ks. or_else ks (use_fault false a [] (settled s.rules (hold rows pending)).rows)) settles.quiet ∙ ap (λ (h : Held). use_fault false a [] h.rows) settles.is

        next : walked s.rules [] (at rows pending idle position false) w ≡ at (put flag_reading n raised_value left) None idle position false
        next =
            long_flag_walked s.rules rows pending position w n a other long found q ∙ ap (λ (h : Held). at (used a [] h.rows) None idle position false) settles.is
            ∙ ap (λ rs. at rs None idle position false) (used_flag s.rules n a left q)

        at_row : (b : Bool) → has_row n left ≡ b → Here (read opts flags left ps None false (w ∷ words))
        at_row true again = rw (other, long, is, again) (refused None (one_fails _ _ (fault_is ∙ raise_again s.rules n a left q again)) refl)
        at_row false new =
            rw (other, long, is, new)
            (goes s _ _ w words _ (fault_is ∙ raise_new s.rules n a left q new) next (ih (put flag_reading n raised_value left) (put flag_reading n raised_value left) None position ps (settles_nothing s (put flag_reading n raised_value left)) places))

    -- an option with its value
    at_given : bytes_eq w dashes ≡ false → (n v : Text) → long_of w ≡ Some (n, Some v) → knows opts n ≡ true → Here (read opts flags left ps None false (w ∷ words))
    at_given other n v long is = at_row (has_row n left) refl
      where
        a : Rule
        a = (t.known n is).0

        found : arg_by_long s.rules n ≡ Some a
        found = (t.known n is).1

        q : IsPlain s.rules n a
        q = (t.known n is).2

        fault_is : turn_fault s [] (at rows pending idle position false) w ≡ use_fault false a (v ∷ []) left
        fault_is =
            long_value_fault s rows pending idle position w n v a t.over refl other long found q ∙ or_else-nil _
            ∙ ap (λ ks. or_else ks (use_fault false a (v ∷ []) (settled s.rules (hold rows pending)).rows)) settles.quiet ∙ ap (λ (h : Held). use_fault false a (v ∷ []) h.rows) settles.is

        next : walked s.rules [] (at rows pending idle position false) w ≡ at (put plain_reading n v left) None idle position false
        next =
            long_value_walked s.rules rows pending position w n v a other long found q ∙ ap (λ (h : Held). at (used a (v ∷ []) h.rows) None idle position false) settles.is
            ∙ ap (λ rs. at rs None idle position false) (used_plain s.rules n a v left q)

        at_row : (b : Bool) → has_row n left ≡ b → Here (read opts flags left ps None false (w ∷ words))
        at_row true again = rw (other, long, is, again) (refused None (one_fails _ _ (fault_is ∙ use_again s.rules n a v left q again)) refl)
        at_row false new =
            rw (other, long, is, new) (goes s _ _ w words _ (fault_is ∙ use_new s.rules n a v left q new) next (ih (put plain_reading n v left) (put plain_reading n v left) None position ps (settles_nothing s (put plain_reading n v left)) places))

    at_bare : bytes_eq w dashes ≡ false → (n : Text) → long_of w ≡ Some (n, None) → knows flags n ≡ false → (b : Bool) → knows opts n ≡ b → Here (read opts flags left ps None false (w ∷ words))
    at_bare other n long absent false is = rw (other, long, absent, is) (refused None (unknown other n None long is absent) refl)
    at_bare other n long absent true is =
        let (a, found, q) = t.known n is in
        let quiet = long_bare_fault s rows pending idle position w n a t.over refl other long found q ∙ or_else-nil _ ∙ settles.quiet in
        let next = long_bare_walked s.rules rows pending position w n a other long found q ∙ ap (λ (h : Held). at h.rows (Some (n, [])) (option n) position false) settles.is in
        rw (other, long, absent, is) (goes s _ _ w words _ quiet next (value left n a position ps q places))

    at_value : bytes_eq w dashes ≡ false → (n v : Text) → long_of w ≡ Some (n, Some v) → (b : Bool) → knows opts n ≡ b → (c : Bool) → knows flags n ≡ c → Here (read opts flags left ps None false (w ∷ words))
    at_value other n v long true is c _ = at_given other n v long is
    at_value other n v long false is false absent = rw (other, long, is) (refused None (unknown other n (Some v) long is absent) refl)
    at_value other n v long false is true flag =
        let (a, found, q) = t.flag n flag in
        rw (other, long, is) (refused None (one_fails _ _ (long_flag_value_fault s rows pending idle position w n v a refl other long found q)) refl)

    at_known : bytes_eq w dashes ≡ false → (n : Text) (v : Option Text) → long_of w ≡ Some (n, v) → (b : Bool) → knows flags n ≡ b → Here (read opts flags left ps None false (w ∷ words))
    at_known other n None long true is = at_raised other n long is
    at_known other n None long false is = at_bare other n long is (knows opts n) refl
    at_known other n (Some v) long b is = at_value other n v long (knows opts n) refl b is

    at_name : bytes_eq w dashes ≡ false → (o : Option (Text × Option Text)) → long_of w ≡ o → Here (read opts flags left ps None false (w ∷ words))
    at_name other None long = at_flags other long (is_flags w) refl
    at_name other (Some (n, v)) long = at_known other n v long (knows flags n) refl

    at_dashes : (b : Bool) → bytes_eq w dashes ≡ b → Here (read opts flags left ps None false (w ∷ words))
    at_dashes true is =
        rw is (goes s _ _ w words _ (dashes_fault s rows pending idle position w refl is) (dashes_walked s.rules rows pending idle position w refl is) (late opts flags s t words rows left pending position ps settles places))
    at_dashes false is = at_name is (long_of w) refl

-- where an option waits for its value
bare_late : (s : Shape) → s.args_override_self ≡ false → (rows : List Row) (n : Text) (a : Rule) (position : ℕ) (ps : List Text) → IsPlain s.rules n a → Places s position ps
    → (words : List Text) → Fails (total s (at rows (Some (n, [])) (option n) position true) words)
unfolding total walk_fault
bare_late s over rows n a position ps q places [] = one_fails _ _ (settle_bare s.rules n a rows q)
bare_late s over rows n a position ps q places (w ∷ words) =
    fails_now s (at rows (Some (n, [])) (option n) position true) w words (late_fails s over rows (Some (n, [])) (option n) position w ps places (one_fails _ _ (settle_bare s.rules n a rows q)))

value-none : (opts flags : List Text) (s : Shape) → ReadsValue opts flags s []
unfolding total walk_fault read
value-none opts flags s rows n a position ps q places = failed _ _ _ (one_fails _ _ (settle_bare s.rules n a rows q)) refl

value-more : (opts flags : List Text) (s : Shape) → IsTable opts flags s → (w : Text) (words : List Text) → ReadsOn opts flags s false words → ReadsValue opts flags s (w ∷ words)
unfolding read
value-more opts flags s t w words ih rows n a position ps q places = at_dashes (bytes_eq w dashes) refl
  where
    start : Walk
    start = at rows (Some (n, [])) (option n) position false

    bare : Fails (settle_fault s.rules false (hold rows (Some (n, []))))
    bare = one_fails _ _ (settle_bare s.rules n a rows q)

    Here : Answer → Type 0
    Here answer = Agrees (total s start (w ∷ words)) (end_rows s start (w ∷ words)) answer

    at_row : bytes_eq w dashes ≡ false → long_of w ≡ None → is_flags w ≡ false → (b : Bool) → has_row n rows ≡ b → Here (read opts flags rows ps (Some n) false (w ∷ words))
    at_row other long short true again =
        failed _ _ _ (fails_on s _ _ w words (value_fault s rows position w n a t.over other long short q) (value_walked s.rules rows position w n a other long short q)
        (stays_failed opts flags s t words rows (Some (n, w ∷ [])) position false ps places (again_fails s n w a rows q again))) (rw (other, long, short, again) refl)
    at_row other long short false new =
        rw (other, long, short, new) (goes s _ _ w words _ (value_fault s rows position w n a t.over other long short q) (value_walked s.rules rows position w n a other long short q)
        (ih rows (put plain_reading n w rows) (Some (n, w ∷ [])) position ps (settles_one s n w a rows q new) places))

    at_flags : bytes_eq w dashes ≡ false → long_of w ≡ None → (b : Bool) → is_flags w ≡ b → Here (read opts flags rows ps (Some n) false (w ∷ words))
    at_flags other long true is = failed _ _ _ (fails_now s _ w words (flags_fail opts flags s t rows (Some (n, [])) (option n) position w refl other long is)) (rw (other, long, is) refl)
    at_flags other long false is = at_row other long is (has_row n rows) refl

    at_name : bytes_eq w dashes ≡ false → (o : Option (Text × Option Text)) → long_of w ≡ o → Here (read opts flags rows ps (Some n) false (w ∷ words))
    at_name other None long = at_flags other long (is_flags w) refl
    at_name other (Some (m, v)) long = failed _ _ _ (fails_now s _ w words (long_fails opts flags s t rows (Some (n, [])) (option n) position w m v refl other long bare)) (rw (other, long) refl)

    at_dashes : (b : Bool) → bytes_eq w dashes ≡ b → Here (read opts flags rows ps (Some n) false (w ∷ words))
    at_dashes true is =
        failed _ _ _ (fails_on s _ _ w words (dashes_fault s rows (Some (n, [])) (option n) position w refl is) (dashes_walked s.rules rows (Some (n, [])) (option n) position w refl is)
        (bare_late s t.over rows n a position ps q places words)) (rw is refl)
    at_dashes false is = at_name is (long_of w) refl

mutual
  reads_on : (opts flags : List Text) (s : Shape) → IsTable opts flags s → (words : List Text) → ReadsOn opts flags s false words
  reads_on opts flags s t [] = at_end opts flags s false
  reads_on opts flags s t (w ∷ words) = open-more opts flags s t w words (reads_on opts flags s t words) (reads_value opts flags s t words)

  reads_value : (opts flags : List Text) (s : Shape) → IsTable opts flags s → (words : List Text) → ReadsValue opts flags s words
  reads_value opts flags s t [] = value-none opts flags s
  reads_value opts flags s t (w ∷ words) = value-more opts flags s t w words (reads_on opts flags s t words)

-- THE LAW: clap's walk over the words has no fault exactly where `read` has an answer, and then has its rows
pub walk_reads : (opts flags : List Text) (s : Shape) (ps : List Text) → IsTable opts flags s → Places s 1 ps → (words : List Text)
    → Agrees (total s (at [] None idle 1 false) words) (end_rows s (at [] None idle 1 false) words) (read opts flags [] ps None false words)
walk_reads opts flags s ps t places words = reads_on opts flags s t words [] [] None 1 ps (settles_nothing s []) places

-- ---- after the walk

abbrev pub no_defaults : List Rule → Bool
no_defaults c = list_all (λ a. is_empty a.defaults) c

same_rows : (b : Bool) (rows : List Row) → (if b then rows else rows) ≡ rows
same_rows true rows = refl
same_rows false rows = refl

default_none : (rows : List Row) (a : Rule) → is_empty a.defaults ≡ true → with_default rows a ≡ rows
default_none rows a e = rw (is_nil a.defaults e) (same_rows (has_row a.id rows) rows)

-- no default is refused
abbrev pub keeps_quiet : List Rule → Bool
keeps_quiet c = list_all (λ a. is_empty (given_default_fault a a.defaults)) c

pub finished_none : (c : List Rule) (rows : List Row) → no_defaults c ≡ true → fold with_default rows c ≡ rows
finished_none [] rows e = refl
finished_none (a ∷ c) rows e =
    let (here, more) = and_parts (is_empty a.defaults) (no_defaults c) e in
    rw (default_none rows a here) (finished_none c rows more)

quiet_default : (a b : Bool) (ks : Kinds) → ks ≡ [] → (if a || b then [] else ks) ≡ []
quiet_default true b ks e = refl
quiet_default false true ks e = refl
quiet_default false false ks e = e

pub defaults_quiet : (c : List Rule) (rows : List Row) → keeps_quiet c ≡ true → defaults_fault rows c ≡ []
unfolding defaults_fault
defaults_quiet [] rows e = refl
defaults_quiet (a ∷ c) rows e =
    let (here, more) = and_parts (is_empty (given_default_fault a a.defaults)) (keeps_quiet c) e in
    rw (quiet_default (has_row a.id rows) (is_empty a.defaults) (given_default_fault a a.defaults) (is_nil _ here)) (defaults_quiet c (with_default rows a) more)

-- what a level comes to: the walk and the settling, and then the check of what is required
pub level_is : (s : Shape) → s.args_override_self ≡ false → keeps_quiet s.rules ≡ true → (words : List Text)
    → level_fault s [] nothing_held words false [] ≡ or_else (total s (at [] None idle 1 false) words) (check_fault s (fold with_default (end_rows s (at [] None idle 1 false) words) s.rules) false)
unfolding total end_rows
level_is s over none words =
    let held = (walk_on s (at [] None idle 1 false) words).held in
    let rows = (settled s.rules held).rows in
    let front = walk_fault s [] (at [] None idle 1 false) words in
    ap (λ b. or_else front (or_else (settle_fault s.rules b held) (or_else (defaults_fault rows s.rules) (check_fault s (finished s.rules held) false)))) over
    ∙ ap (λ d. or_else front (or_else (settle_fault s.rules false held) (or_else d (check_fault s (finished s.rules held) false)))) (defaults_quiet s.rules rows none)
    ∙ sym (or_else-or_else front (settle_fault s.rules false held) (check_fault s (fold with_default rows s.rules) false))

pub none_first : (a b : Kinds) → or_else a b ≡ [] → a ≡ []
none_first [] b e = refl
none_first (k ∷ ks) b e = e
