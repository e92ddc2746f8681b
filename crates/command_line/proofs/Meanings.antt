-- What clap's reading of the words means is what the grammar says of them.
use Rattle.std.proofs.Common.{◌≡◌, ◌∙◌, ◌<◌, ◌≤◌, ◌&&◌, ◌++◌, Bool, true, false, refl, sym, ap, ap₂, subst, arith, length, ◌||◌, length-append, List, [], ◌∷◌, Option, Some, None, if◌then◌else◌, map, option_map, append_assoc}
use Rattle.std.proofs.lemmas.Bool.{false≢true}
use Rattle.std.proofs.lemmas.Grind.{flat_map-append}
use Rattle.std.proofs.lemmas.List.{append-nil}
use Rattle.std.proofs.lemmas.List.Folds.{list_all-append}
use Rattle.std.specs.List.{flat_map, list_all}
use Rattle.std.specs.Option.{option_to_list}
use Rattle.std.specs.Str.{bytes_eq}
use Rattle.clap.specs.Lexer.{long_of}
use Rattle.clap.specs.Walk.{Row, first_of, has_row}
use Rattle.clap.specs.declared.builder.value_parser.Reading.{Reading}
use Rattle.command_line.specs.Words.{Form, Look, Part, Text, at_look, closing, given, is_known, is_one_of, look, names, naming, parts, place_in, placed, places, raised, raised_value, refused, said, standing, value_in, values, with_part}
use Rattle.command_line.specs.declared.command.Command.{Command}
use Rattle.command_line.proofs.Filled.{Distinct, Filled, differ, filled_length, filled_more, filled_other, filled_texts, first_other, first_same, has_other, left_free, left_known, no_row, put_new, row, same_text, text_is}
use Rattle.command_line.proofs.Looks.{Dashed, Looks, dashed, looks}
use Rattle.command_line.proofs.Rows.{Answer, flag_reading, is_dashed, is_flags, plain_reading, put, read}

-- ---- what is asked of a command

pub record IsSound (form : Form) (ps : List Text) : Type 0 where
  pub distinct : Distinct ps
  pub apart : (n : Text) → is_one_of (names form) n ≡ true → is_one_of ps n ≡ false
  -- the meaning looks at no value but those of the options and flags
  pub same : (xs : List Text) (f g : Text → List Text) → ((n : Text) → is_one_of (names form) n ≡ true → f n ≡ g n) → form.meaning xs f ≡ form.meaning xs g
  -- no words mean a command where there are too many, where an option or a flag stands twice, or where a text begins with `-`
  pub many : (xs : List Text) (f : Text → List Text) → length ps < length xs → form.meaning xs f ≡ None
  pub twice : (xs : List Text) (f : Text → List Text) (n : Text) → is_one_of (names form) n ≡ true → 2 ≤ length (f n) → form.meaning xs f ≡ None
  pub place : (front : List Text) (rest : Text) (back : List Text) (f : Text → List Text) → form.meaning (front ++ (45 ∷ rest) ∷ back) f ≡ None
  pub value : (xs : List Text) (f : Text → List Text) (n : Text) (front : List Text) (rest : Text) (back : List Text) → is_one_of form.options n ≡ true
      → f n ≡ front ++ (45 ∷ rest) ∷ back → form.meaning xs f ≡ None

-- what the rows of clap's matches mean
abbrev pub texts_at : List Row → List Text → List Text
texts_at rows ps = flat_map (λ p. option_to_list (first_of p rows)) ps

abbrev pub text_of : List Row → Text → List Text
text_of rows n = option_to_list (first_of n rows)

abbrev pub judged : Form → List Text → Answer → Option Command
judged form ps None = None
judged form ps (Some a) = form.meaning (texts_at a.0 ps) (text_of a.0)

-- ---- where a part means none

none_if : (b : Bool) (x : Option Command) → x ≡ None → (if b then x else None) ≡ None
none_if true x e = e
none_if false x e = refl

said_none : (form : Form) (gs : List Part) → form.meaning (places gs) (values gs) ≡ None → said form (Some gs) ≡ None
said_none form gs e = none_if (list_all (is_known form) gs) (form.meaning (places gs) (values gs)) e

abbrev with_front : List Part → Option (List Part) → Option (List Part)
with_front front o = option_map (λ gs. front ++ gs) o

-- this part behind these means none, whatever follows
abbrev Dead : Form → List Part → Part → Type 0
Dead form done g = (gs : List Part) → said form (Some (done ++ g ∷ gs)) ≡ None

dead : (form : Form) (done : List Part) (g : Part) → Dead form done g → (o : Option (List Part)) → said form (with_front done (with_part g o)) ≡ None
dead form done g none None = refl
dead form done g none (Some gs) = none gs

and_false : (a b : Bool) → b ≡ false → (a && b) ≡ false
and_false true b e = e
and_false false b e = refl

unknown_dead : (form : Form) (done : List Part) (n v : Text) → is_one_of form.options n ≡ false → Dead form done (given n v)
unknown_dead form done n v unknown gs =
    let p = is_known form in
    let all : list_all p (done ++ given n v ∷ gs) ≡ false =
    list_all-append p done (given n v ∷ gs) ∙ and_false (list_all p done) (list_all p (given n v ∷ gs)) (rw unknown refl) in
    rw all refl

places_at : (done : List Part) (w : Text) (gs : List Part) → places (done ++ placed w ∷ gs) ≡ places done ++ w ∷ places gs
places_at done w gs = flat_map-append place_in done (placed w ∷ gs)

values_at : (done : List Part) (n v : Text) (gs : List Part) → values (done ++ given n v ∷ gs) n ≡ values done n ++ v ∷ values gs n
values_at done n v gs = flat_map-append (value_in n) done (given n v ∷ gs) ∙ ap (λ b. values done n ++ ((if b then v ∷ [] else []) ++ values gs n)) (same_text n)

-- a part that gives this name this value: an option, or a flag
record Gives (g : Part) (n v : Text) : Type 0 where
  pub value : (m : Text) → value_in m g ≡ (if bytes_eq n m then v ∷ [] else [])
  pub place : place_in g ≡ []

given_gives : (n v : Text) → Gives (given n v) n v
given_gives n v = record { value = λ m. refl; place = refl }

raised_gives : (n : Text) → Gives (raised n) n raised_value
raised_gives n = record { value = λ m. refl; place = refl }

values_by : (done : List Part) (g : Part) (n v : Text) (gs : List Part) → Gives g n v → values (done ++ g ∷ gs) n ≡ values done n ++ v ∷ values gs n
values_by done g n v gs gives =
    flat_map-append (value_in n) done (g ∷ gs) ∙ ap (λ ys. values done n ++ (ys ++ values gs n)) (gives.value n)
    ∙ ap (λ b. values done n ++ ((if b then v ∷ [] else []) ++ values gs n)) (same_text n)

-- an option is one of the names, and so is a flag
or_left : (a b c : Bool) → (b ≡ true → c ≡ true) → (a || b) ≡ true → (a || c) ≡ true
or_left true b c more is = refl
or_left false b c more is = more is

or_right : (a b : Bool) → b ≡ true → (a || b) ≡ true
or_right true b is = refl
or_right false b is = is

one_more : (options flags : List Text) (n : Text) → is_one_of options n ≡ true → is_one_of (options ++ flags) n ≡ true
one_more [] flags n is = absurd (false≢true is)
one_more (o ∷ options) flags n is = or_left (bytes_eq o n) (is_one_of options n) (is_one_of (options ++ flags) n) (one_more options flags n) is

one_behind : (options flags : List Text) (n : Text) → is_one_of flags n ≡ true → is_one_of (options ++ flags) n ≡ true
one_behind [] flags n is = is
one_behind (o ∷ options) flags n is = or_right (bytes_eq o n) (is_one_of (options ++ flags) n) (one_behind options flags n is)

dash_value_dead : (form : Form) (ps : List Text) → IsSound form ps → (done : List Part) (n v : Text) → is_one_of form.options n ≡ true → Dashed v → Dead form done (given n v)
dash_value_dead form ps s done n v known (rest, is) gs =
    said_none form (done ++ given n v ∷ gs)
    (s.value _ (values (done ++ given n v ∷ gs)) n (values done n) rest (values gs n) known (values_at done n v gs ∙ ap (λ t. values done n ++ t ∷ values gs n) is))

dash_place_dead : (form : Form) (ps : List Text) → IsSound form ps → (done : List Part) (w : Text) → Dashed w → Dead form done (placed w)
dash_place_dead form ps s done w (rest, is) gs =
    said_none form (done ++ placed w ∷ gs)
    (ap (λ xs. form.meaning xs (values (done ++ placed w ∷ gs))) (places_at done w gs ∙ ap (λ t. places done ++ t ∷ places gs) is)
    ∙ s.place (places done) rest (places gs) (values (done ++ placed w ∷ gs)))

twice_long : (xs ys : List Text) (v : Text) → 1 ≤ length xs → 2 ≤ length (xs ++ v ∷ ys)
twice_long xs ys v some = let e = length-append xs (v ∷ ys) in grind (arith, e)

twice_dead : (form : Form) (ps : List Text) → IsSound form ps → (done : List Part) (g : Part) (n v : Text) → Gives g n v → is_one_of (names form) n ≡ true → 1 ≤ length (values done n) → Dead form done g
twice_dead form ps s done g n v gives named some gs =
    said_none form (done ++ g ∷ gs)
    (s.twice _ (values (done ++ g ∷ gs)) n named (subst (λ (xs : List Text). 2 ≤ length xs) (sym (values_by done g n v gs gives)) (twice_long (values done n) (values gs n) v some)))

longer : (ps xs ys : List Text) (w : Text) → length ps ≡ length xs → length ps < length (xs ++ w ∷ ys)
longer ps xs ys w e = let h = length-append xs (w ∷ ys) in grind (arith, h)

many_dead : (form : Form) (ps : List Text) → IsSound form ps → (done : List Part) (w : Text) → length ps ≡ length (places done) → Dead form done (placed w)
many_dead form ps s done w full gs =
    said_none form (done ++ placed w ∷ gs)
    (s.many _ (values (done ++ placed w ∷ gs)) (subst (λ (xs : List Text). length ps < length xs) (sym (places_at done w gs)) (longer ps (places done) (places gs) w full)))

-- ---- the parts so far, and clap's rows

pub record State (form : Form) (ps : List Text) (done : List Part) (rows : List Row) (left : List Text) : Type 0 where
  pub known : list_all (is_known form) done ≡ true
  pub named : (n : Text) → is_one_of (names form) n ≡ true → values done n ≡ text_of rows n
  pub has : (n : Text) → is_one_of (names form) n ≡ true → has_row n rows ≡ true → 1 ≤ length (text_of rows n)
  pub filled : Filled ps left rows (places done)

-- the parts and one more
abbrev and_then : List Part → Part → List Part
and_then done g = done ++ g ∷ []

known_more : (form : Form) (done : List Part) (g : Part) → list_all (is_known form) done ≡ true → is_known form g ≡ true → list_all (is_known form) (and_then done g) ≡ true
known_more form done g all here = list_all-append (is_known form) done (g ∷ []) ∙ rw (all, here) refl

-- what a name is given after one more row
text_other : (how : Reading) (n m v : Text) (rows : List Row) → bytes_eq n m ≡ false → text_of (rows ++ row how n v ∷ []) m ≡ text_of rows m
text_other how n m v rows other = ap option_to_list (first_other how n m v rows other)

value_more : (how : Reading) (done : List Part) (rows : List Row) (g : Part) (n m v : Text) → Gives g n v → has_row n rows ≡ false → (b : Bool) → bytes_eq n m ≡ b → values done m ≡ text_of rows m
    → values (and_then done g) m ≡ text_of (rows ++ row how n v ∷ []) m
value_more how done rows g n m v gives new true e before =
    let is : n ≡ m = text_is n m e in
    let none : text_of rows m ≡ [] = ap (text_of rows) (sym is) ∙ ap option_to_list (no_row n rows new) in
    flat_map-append (value_in m) done (g ∷ []) ∙ ap (λ ys. values done m ++ (ys ++ [])) (gives.value m)
    ∙ ap₂ (λ xs b. xs ++ ((if b then v ∷ [] else []) ++ [])) (before ∙ none) e
    ∙ sym (ap (text_of (rows ++ row how n v ∷ [])) (sym is) ∙ ap option_to_list (first_same how n v rows new))
value_more how done rows g n m v gives new false e before =
    flat_map-append (value_in m) done (g ∷ []) ∙ ap (λ ys. values done m ++ (ys ++ [])) (gives.value m)
    ∙ ap₂ (λ xs b. xs ++ ((if b then v ∷ [] else []) ++ [])) before e ∙ append-nil (text_of rows m) ∙ sym (text_other how n m v rows e)

has_more : (how : Reading) (rows : List Row) (n m v : Text) → has_row n rows ≡ false → (b : Bool) → bytes_eq n m ≡ b → (has_row m rows ≡ true → 1 ≤ length (text_of rows m))
    → has_row m (rows ++ row how n v ∷ []) ≡ true → 1 ≤ length (text_of (rows ++ row how n v ∷ []) m)
has_more how rows n m v new true e before there =
    let one : text_of (rows ++ row how n v ∷ []) m ≡ v ∷ [] = ap (text_of (rows ++ row how n v ∷ [])) (sym (text_is n m e)) ∙ ap option_to_list (first_same how n v rows new) in
    rw one (omega arith)
has_more how rows n m v new false e before there =
    subst (λ (xs : List Text). 1 ≤ length xs) (sym (text_other how n m v rows e)) (before (sym (has_other how n m v rows e) ∙ there))

places_same : (done : List Part) (g : Part) (n v : Text) → Gives g n v → places (and_then done g) ≡ places done
places_same done g n v gives = flat_map-append place_in done (g ∷ []) ∙ ap (λ ys. places done ++ (ys ++ [])) gives.place ∙ append-nil (places done)

state_named : (form : Form) (ps : List Text) → IsSound form ps → (how : Reading) (done : List Part) (rows : List Row) (left : List Text) (g : Part) (n v : Text) → State form ps done rows left
    → Gives g n v → is_known form g ≡ true → is_one_of (names form) n ≡ true → has_row n rows ≡ false → State form ps (and_then done g) (rows ++ row how n v ∷ []) left
state_named form ps s how done rows left g n v t gives known named new = record {
  known = known_more form done g t.known known;
  named = λ m is. value_more how done rows g n m v gives new (bytes_eq n m) refl (t.named m is);
  has = λ m is. has_more how rows n m v new (bytes_eq n m) refl (t.has m is);
  filled = subst (λ xs. Filled ps left (rows ++ row how n v ∷ []) xs) (sym (places_same done g n v gives)) (filled_other how ps left n v rows (places done) (s.apart n named) t.filled);
}

values_same : (done : List Part) (w m : Text) → values (and_then done (placed w)) m ≡ values done m
values_same done w m = flat_map-append (value_in m) done (placed w ∷ []) ∙ append-nil (values done m)

no_place_by : (ps : List Text) (p m : Text) (b : Bool) → bytes_eq p m ≡ b → is_one_of ps p ≡ true → is_one_of ps m ≡ false → b ≡ false
no_place_by ps p m false e known other = refl
no_place_by ps p m true e known other = absurd (false≢true (sym other ∙ subst (λ q. is_one_of ps q ≡ true) (text_is p m e) known))

no_place : (ps : List Text) (p m : Text) → is_one_of ps p ≡ true → is_one_of ps m ≡ false → bytes_eq p m ≡ false
no_place ps p m known other = no_place_by ps p m (bytes_eq p m) refl known other

state_place : (form : Form) (ps : List Text) → IsSound form ps → (done : List Part) (rows : List Row) (p : Text) (left : List Text) (w : Text) → State form ps done rows (p ∷ left)
    → State form ps (and_then done (placed w)) (rows ++ row plain_reading p w ∷ []) left
state_place form ps s done rows p left w t =
    let known = left_known ps p left rows (places done) t.filled in
    let new = left_free ps p left rows (places done) t.filled in
    record {
      known = known_more form done (placed w) t.known refl;
      named = λ m is. values_same done w m ∙ t.named m is ∙ sym (text_other plain_reading p m w rows (no_place ps p m known (s.apart m is)));
      has = λ m is. has_more plain_reading rows p m w new (bytes_eq p m) refl (t.has m is);
      filled = subst (λ xs. Filled ps left (rows ++ row plain_reading p w ∷ []) xs) (sym (places_at done w [])) (filled_more plain_reading ps p left w rows (places done) s.distinct t.filled);
    }

-- ---- the words, one by one

-- clap's reading after these parts means what the grammar says of them and of the others
abbrev pub Means : Form → List Text → Answer → List Part → Option (List Part) → Type 0
Means form ps answer done others = judged form ps answer ≡ said form (with_front done others)

abbrev Opened : Form → List Text → List Text → Type 0
Opened form ps words = (done : List Part) (rows : List Row) (left : List Text) → State form ps done rows left → Means form ps (read form.options form.flags rows left None false words) done (parts form.flags None words)

abbrev Waited : Form → List Text → List Text → Type 0
Waited form ps words = (done : List Part) (rows : List Row) (left : List Text) (n : Text) → State form ps done rows left → is_one_of form.options n ≡ true
    → Means form ps (read form.options form.flags rows left (Some n) false words) done (parts form.flags (Some n) words)

abbrev Closed : Form → List Text → List Text → Type 0
Closed form ps words = (done : List Part) (rows : List Row) (left : List Text) → State form ps done rows left → Means form ps (read form.options form.flags rows left None true words) done (Some (map placed words))

ends : (form : Form) (ps : List Text) → IsSound form ps → (done : List Part) (rows : List Row) (left : List Text) → State form ps done rows left → Means form ps (Some (rows, left)) done (Some [])
ends form ps s done rows left t =
    ap (λ xs. form.meaning xs (text_of rows)) (filled_texts ps left rows (places done) t.filled) ∙ s.same (places done) (text_of rows) (values done) (λ n is. sym (t.named n is))
    ∙ sym (ap (λ b. if b then form.meaning (places done) (values done) else None) t.known) ∙ ap (λ gs. said form (Some gs)) (sym (append-nil done))

-- one part more in front
moved : (form : Form) (done : List Part) (g : Part) (o : Option (List Part)) → said form (with_front (and_then done g) o) ≡ said form (with_front done (with_part g o))
moved form done g None = refl
moved form done g (Some gs) = ap (λ hs. said form (Some hs)) (append_assoc done (g ∷ []) gs)

closed-more : (form : Form) (ps : List Text) → IsSound form ps → (w : Text) (words : List Text) → Closed form ps words → Closed form ps (w ∷ words)
unfolding read
closed-more form ps s w words ih done rows [] t = sym (many_dead form ps s done w (filled_length ps rows (places done) t.filled) (map placed words))
closed-more form ps s w words ih done rows (p ∷ left) t =
    let new = left_free ps p left rows (places done) t.filled in
    rw (new, put_new plain_reading p w rows new) (ih (and_then done (placed w)) (rows ++ row plain_reading p w ∷ []) left (state_place form ps s done rows p left w t) ∙ moved form done (placed w) (Some (map placed words)))

closed : (form : Form) (ps : List Text) → IsSound form ps → (words : List Text) → Closed form ps words
unfolding read
closed form ps s [] = λ done rows left t. ends form ps s done rows left t
closed form ps s (w ∷ words) = closed-more form ps s w words (closed form ps s words)

-- an option with its value, or a flag
gives_means : (form : Form) (ps : List Text) → IsSound form ps → (how : Reading) (g : Part) (n v : Text) (words : List Text) → Gives g n v → Opened form ps words → (done : List Part) (rows : List Row) (left : List Text)
    → State form ps done rows left → is_known form g ≡ true → is_one_of (names form) n ≡ true → (b : Bool) → has_row n rows ≡ b
    → Means form ps (if b then None else read form.options form.flags (put how n v rows) left None false words) done (with_part g (parts form.flags None words))
gives_means form ps s how g n v words gives ih done rows left t known named true has =
    sym (dead form done g (twice_dead form ps s done g n v gives named (subst (λ (xs : List Text). 1 ≤ length xs) (sym (t.named n named)) (t.has n named has))) (parts form.flags None words))
gives_means form ps s how g n v words gives ih done rows left t known named false new =
    rw (put_new how n v rows new) (ih (and_then done g) (rows ++ row how n v ∷ []) left (state_named form ps s how done rows left g n v t gives known named new) ∙ moved form done g (parts form.flags None words))

value_means : (form : Form) (ps : List Text) → IsSound form ps → (n v : Text) (words : List Text) → Opened form ps words → (done : List Part) (rows : List Row) (left : List Text) → State form ps done rows left
    → is_one_of form.options n ≡ true → (b : Bool) → has_row n rows ≡ b
    → Means form ps (if b then None else read form.options form.flags (put plain_reading n v rows) left None false words) done (with_part (given n v) (parts form.flags None words))
value_means form ps s n v words ih done rows left t known b has =
    gives_means form ps s plain_reading (given n v) n v words (given_gives n v) ih done rows left t known (one_more form.options form.flags n known) b has

flag_means : (form : Form) (ps : List Text) → IsSound form ps → (n : Text) (words : List Text) → Opened form ps words → (done : List Part) (rows : List Row) (left : List Text) → State form ps done rows left
    → is_one_of form.flags n ≡ true → (b : Bool) → has_row n rows ≡ b
    → Means form ps (if b then None else read form.options form.flags (put flag_reading n raised_value rows) left None false words) done (with_part (raised n) (parts form.flags None words))
flag_means form ps s n words ih done rows left t known b has =
    gives_means form ps s flag_reading (raised n) n raised_value words (raised_gives n) ih done rows left t known (one_behind form.options form.flags n known) b has

waited-more : (form : Form) (ps : List Text) → IsSound form ps → (w : Text) (words : List Text) → Opened form ps words → Waited form ps (w ∷ words)
unfolding read parts
waited-more form ps s w words ih done rows left n t known = at (is_dashed w) refl
  where
    at : (b : Bool) → is_dashed w ≡ b → Means form ps (read form.options form.flags rows left (Some n) false (w ∷ words)) done (parts form.flags (Some n) (w ∷ words))
    at true is = rw is (sym (dead form done (given n w) (dash_value_dead form ps s done n w known (dashed w is)) (parts form.flags None words)))
    at false is = rw is (value_means form ps s n w words ih done rows left t known (has_row n rows) refl)

-- a word in its place
place_means : (form : Form) (ps : List Text) → IsSound form ps → (w : Text) (words : List Text) → Opened form ps words → (done : List Part) (rows : List Row) (p : Text) (left : List Text)
    → State form ps done rows (p ∷ left) → Means form ps (read form.options form.flags (put plain_reading p w rows) left None false words) done (with_part (placed w) (parts form.flags None words))
place_means form ps s w words ih done rows p left t =
    rw (put_new plain_reading p w rows (left_free ps p left rows (places done) t.filled))
    (ih (and_then done (placed w)) (rows ++ row plain_reading p w ∷ []) left (state_place form ps s done rows p left w t) ∙ moved form done (placed w) (parts form.flags None words))

unknown_waits : (form : Form) (done : List Part) (n : Text) (words : List Text) → is_one_of form.options n ≡ false → said form (with_front done (parts form.flags (Some n) words)) ≡ None
unfolding parts
unknown_waits form done n [] unknown = refl
unknown_waits form done n (v ∷ words) unknown = dead form done (given n v) (unknown_dead form done n v unknown) (parts form.flags None words)

opened-more : (form : Form) (ps : List Text) → IsSound form ps → (w : Text) (words : List Text) → Opened form ps words → Waited form ps words → Opened form ps (w ∷ words)
unfolding read parts
opened-more form ps s w words ih wait done rows left t = at (look w) (looks w)
  where
    Here : Look → Type 0
    Here l = Means form ps (read form.options form.flags rows left None false (w ∷ words)) done (at_look form.flags l w (parts form.flags None words) (λ n. parts form.flags (Some n) words) (map placed words))

    at_value : (n v : Text) → bytes_eq w (45 ∷ 45 ∷ []) ≡ false → long_of w ≡ Some (n, Some v) → (b : Bool) → is_one_of form.options n ≡ b → Here (naming n (Some v))
    at_value n v other long false unknown = rw (other, long, unknown) (sym (dead form done (given n v) (unknown_dead form done n v unknown) (parts form.flags None words)))
    at_value n v other long true known = rw (other, long, known) (value_means form ps s n v words ih done rows left t known (has_row n rows) refl)

    at_name : (n : Text) → bytes_eq w (45 ∷ 45 ∷ []) ≡ false → long_of w ≡ Some (n, None) → is_one_of form.flags n ≡ false → (b : Bool) → is_one_of form.options n ≡ b → Here (naming n None)
    at_name n other long absent false unknown = rw (other, long, absent, unknown) (sym (unknown_waits form done n words unknown))
    at_name n other long absent true known = rw (other, long, absent, known) (wait done rows left n t known)

    at_bare : (n : Text) → bytes_eq w (45 ∷ 45 ∷ []) ≡ false → long_of w ≡ Some (n, None) → (b : Bool) → is_one_of form.flags n ≡ b → Here (naming n None)
    at_bare n other long false absent = at_name n other long absent (is_one_of form.options n) refl
    at_bare n other long true flag = rw (other, long, flag) (flag_means form ps s n words ih done rows left t flag (has_row n rows) refl)

    at_refused : bytes_eq w (45 ∷ 45 ∷ []) ≡ false → long_of w ≡ None → Dashed w → (b : Bool) → is_flags w ≡ b → (left : List Text) → State form ps done rows left
        → judged form ps (read form.options form.flags rows left None false (w ∷ words)) ≡ None
    at_refused other long dash true is left t = rw (other, long, is) refl
    at_refused other long dash false is [] t = rw (other, long, is) refl
    at_refused other long dash false is (p ∷ left) t =
        rw (other, long, is, left_free ps p left rows (places done) t.filled)
        (place_means form ps s w words ih done rows p left t ∙ dead form done (placed w) (dash_place_dead form ps s done w dash) (parts form.flags None words))

    at_standing : bytes_eq w (45 ∷ 45 ∷ []) ≡ false → long_of w ≡ None → is_flags w ≡ false → (left : List Text) → State form ps done rows left
        → Means form ps (read form.options form.flags rows left None false (w ∷ words)) done (with_part (placed w) (parts form.flags None words))
    at_standing other long flags [] t =
        rw (other, long, flags) (sym (dead form done (placed w) (many_dead form ps s done w (filled_length ps rows (places done) t.filled)) (parts form.flags None words)))
    at_standing other long flags (p ∷ left) t = rw (other, long, flags, left_free ps p left rows (places done) t.filled) (place_means form ps s w words ih done rows p left t)

    at : (l : Look) → Looks w l → Here l
    at closing h = rw h.0 (closed form ps s words done rows left t)
    at (naming n None) h = at_bare n h.0 h.1 (is_one_of form.flags n) refl
    at (naming n (Some v)) h = at_value n v h.0 h.1 (is_one_of form.options n) refl
    at refused h = at_refused h.0 h.1 h.2 (is_flags w) refl left t
    at standing h = at_standing h.0 h.1 h.2 left t

waited-none : (form : Form) (ps : List Text) → Waited form ps []
unfolding read parts
waited-none form ps done rows left n t known = refl

opened-none : (form : Form) (ps : List Text) → IsSound form ps → Opened form ps []
unfolding read parts
opened-none form ps s done rows left t = ends form ps s done rows left t

mutual
  opened : (form : Form) (ps : List Text) → IsSound form ps → (words : List Text) → Opened form ps words
  opened form ps s [] = opened-none form ps s
  opened form ps s (w ∷ words) = opened-more form ps s w words (opened form ps s words) (waited form ps s words)

  waited : (form : Form) (ps : List Text) → IsSound form ps → (words : List Text) → Waited form ps words
  waited form ps s [] = waited-none form ps
  waited form ps s (w ∷ words) = waited-more form ps s w words (opened form ps s words)

some_is : (o : Option (List Part)) → with_front [] o ≡ o
some_is None = refl
some_is (Some gs) = refl

unfilled : (ps : List Text) → Filled ps ps [] []
unfilled ps = (refl, free ps)
  where
    free : (ps : List Text) → Rattle.command_line.proofs.Filled.Free ps []
    free [] = tt
    free (p ∷ ps) = (refl, free ps)

-- THE BRIDGE: clap's reading of the words means what the grammar says of them
pub reading_means : (form : Form) (ps : List Text) → IsSound form ps → (words : List Text) → judged form ps (read form.options form.flags [] ps None false words) ≡ said form (parts form.flags None words)
reading_means form ps s words =
    opened form ps s words [] [] ps (record { known = refl; named = λ n is. refl; has = λ n is there. absurd (false≢true there); filled = unfilled ps })
    ∙ ap (said form) (some_is (parts form.flags None words))
