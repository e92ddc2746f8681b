-- The commands mean nothing where a word is too many, an option stands twice, or a text begins with `-`.
use Rattle.std.proofs.Common.{◌≡◌, ℕ, ◌<◌, ◌≤◌, ◌&&◌, ◌||◌, ◌++◌, Bool, true, false, codes, refl, sym, ap, subst, arith, length, List, [], ◌∷◌, Option, Some, None, if◌then◌else◌, nat_le, option_map}
use Rattle.std.proofs.lemmas.Bool.{false≢true}
use Rattle.std.specs.Str.{bytes_eq}
use Rattle.command_line.specs.Words.{Text, asm_form, asm_of, asm_with, at_most_once, board_form, board_of, board_with, decimal_value, demo_form, demo_with, dis_form, dis_with, file_in, is_one_of, is_raised, number_in, raised_value, raw_form, raw_of, raw_with, run_form, run_of, run_with, most_cycles, most_entries, most_number}
use Rattle.command_line.specs.declared.command.BoardCommand.{BoardCommand}
use Rattle.command_line.specs.declared.command.Command.TheVariants.{Dis}
use Rattle.command_line.proofs.Filled.{text_is}
use Rattle.command_line.proofs.Meanings.{IsSound}

-- ---- texts that begin with `-`

no_digit : (a b d : Bool) → (((a && b) && false) && d) ≡ false
no_digit true true d = refl
no_digit true false d = refl
no_digit false b d = refl

number_dash : (limit : ℕ) (rest : Text) → number_in limit (45 ∷ rest) ≡ None
unfolding number_in
number_dash limit rest =
    ap (λ b. if b then Some (decimal_value (45 ∷ rest)) else None)
    (no_digit (nat_le 1 (length (45 ∷ rest))) (nat_le (length (45 ∷ rest)) 19) (nat_le (decimal_value (45 ∷ rest)) limit))

file_dash : (rest : Text) → file_in (45 ∷ rest) ≡ None
unfolding file_in
file_dash rest = refl

-- ---- `raw`

raw_none : (file : Option Text) → raw_of file None ≡ None
raw_none None = refl
raw_none (Some file) = refl

raw_many : (xs : List Text) → 2 < length xs → raw_with xs ≡ None
raw_many [] long = refl
raw_many (a ∷ []) long = refl
raw_many (a ∷ b ∷ []) long = absurd (omega arith)
raw_many (a ∷ b ∷ c ∷ xs) long = refl

raw_dash : (front : List Text) (rest : Text) (back : List Text) → raw_with (front ++ (45 ∷ rest) ∷ back) ≡ None
raw_dash [] rest [] = refl
raw_dash [] rest (b ∷ []) = rw (file_dash rest) refl
raw_dash [] rest (b ∷ c ∷ back) = refl
raw_dash (a ∷ []) rest [] = rw (number_dash most_cycles rest) (raw_none (file_in a))
raw_dash (a ∷ []) rest (b ∷ back) = refl
raw_dash (a ∷ b ∷ []) rest back = refl
raw_dash (a ∷ b ∷ c ∷ front) rest back = refl

pub raw_sound : IsSound raw_form (codes "FILE" ∷ codes "CYCLES" ∷ [])
unfolding raw_form
raw_sound = record {
  distinct = (refl, (refl, tt));
  apart = λ n is. absurd (false≢true is);
  same = λ xs f g e. refl;
  many = λ xs f long. raw_many xs long;
  twice = λ xs f n is. absurd (false≢true is);
  place = λ front rest back f. raw_dash front rest back;
  value = λ xs f n front rest back is. absurd (false≢true is);
}

-- ---- `run`

-- values that no option may have
record Bad (vs : List Text) : Type 0 where
  pub number : (default limit : ℕ) → at_most_once default (number_in limit) vs ≡ None
  pub file : at_most_once None (λ text. option_map Some (file_in text)) vs ≡ None

twice_none : {X : Type 0} (default : X) (value_of : Text → Option X) (vs : List Text) → 2 ≤ length vs → at_most_once default value_of vs ≡ None
twice_none default value_of [] long = absurd (omega arith)
twice_none default value_of (v ∷ []) long = absurd (omega arith)
twice_none default value_of (v ∷ w ∷ vs) long = refl

bad_twice : (vs : List Text) → 2 ≤ length vs → Bad vs
bad_twice vs long = record { number = λ default limit. twice_none default (number_in limit) vs long; file = twice_none None (λ text. option_map Some (file_in text)) vs long }

dash_none : {X : Type 0} (default : X) (value_of : Text → Option X) (front : List Text) (v : Text) (back : List Text) → value_of v ≡ None → at_most_once default value_of (front ++ v ∷ back) ≡ None
dash_none default value_of [] v [] e = e
dash_none default value_of [] v (b ∷ back) e = refl
dash_none default value_of (a ∷ []) v back e = refl
dash_none default value_of (a ∷ b ∷ front) v back e = refl

bad_dash : (front : List Text) (rest : Text) (back : List Text) → Bad (front ++ (45 ∷ rest) ∷ back)
bad_dash front rest back = record {
  number = λ default limit. dash_none default (number_in limit) front (45 ∷ rest) back (number_dash limit rest);
  file = dash_none None (λ text. option_map Some (file_in text)) front (45 ∷ rest) back (ap (option_map Some) (file_dash rest));
}

no_cycles : (b : Option Text) (j : Option ℕ) (w : Option (Option Text)) → run_of b None j w ≡ None
no_cycles None j w = refl
no_cycles (Some b) j w = refl

no_journal : (b : Option Text) (c : Option ℕ) (w : Option (Option Text)) → run_of b c None w ≡ None
no_journal None c w = refl
no_journal (Some b) None w = refl
no_journal (Some b) (Some c) w = refl

no_file : (b : Option Text) (c j : Option ℕ) → run_of b c j None ≡ None
no_file None c j = refl
no_file (Some b) None j = refl
no_file (Some b) (Some c) None = refl
no_file (Some b) (Some c) (Some j) = refl

cycles_none : (xs c j w : List Text) → Bad c → run_with xs c j w ≡ None
cycles_none [] c j w bad = refl
cycles_none (b ∷ []) c j w bad = rw (bad.number 10_000_000 most_cycles) (no_cycles (file_in b) _ _)
cycles_none (a ∷ b ∷ xs) c j w bad = refl

journal_none : (xs c j w : List Text) → Bad j → run_with xs c j w ≡ None
journal_none [] c j w bad = refl
journal_none (b ∷ []) c j w bad = rw (bad.number 1_048_576 most_entries) (no_journal (file_in b) _ _)
journal_none (a ∷ b ∷ xs) c j w bad = refl

write_none : (xs c j w : List Text) → Bad w → run_with xs c j w ≡ None
write_none [] c j w bad = refl
write_none (b ∷ []) c j w bad = rw bad.file (no_file (file_in b) _ _)
write_none (a ∷ b ∷ xs) c j w bad = refl

-- what holds of each option
each_option : (P : Text → Type 0) → P (codes "cycles") → P (codes "journal") → P (codes "write-journal") → (n : Text) (a b c : Bool)
    → bytes_eq (codes "cycles") n ≡ a → bytes_eq (codes "journal") n ≡ b → bytes_eq (codes "write-journal") n ≡ c → (a || (b || (c || false))) ≡ true → P n
each_option P p q r n true b c is _ _ h = subst P (text_is (codes "cycles") n is) p
each_option P p q r n false true c _ is _ h = subst P (text_is (codes "journal") n is) q
each_option P p q r n false false true _ _ is h = subst P (text_is (codes "write-journal") n is) r
each_option P p q r n false false false _ _ _ h = absurd (false≢true h)

option_is : (P : Text → Type 0) → P (codes "cycles") → P (codes "journal") → P (codes "write-journal") → (n : Text) → is_one_of (codes "cycles" ∷ codes "journal" ∷ codes "write-journal" ∷ []) n ≡ true → P n
option_is P p q r n h = each_option P p q r n (bytes_eq (codes "cycles") n) (bytes_eq (codes "journal") n) (bytes_eq (codes "write-journal") n) refl refl refl h

run_many : (xs c j w : List Text) → 1 < length xs → run_with xs c j w ≡ None
run_many [] c j w long = refl
run_many (b ∷ []) c j w long = absurd (omega arith)
run_many (a ∷ b ∷ xs) c j w long = refl

run_dash : (front : List Text) (rest : Text) (back c j w : List Text) → run_with (front ++ (45 ∷ rest) ∷ back) c j w ≡ None
run_dash [] rest [] c j w = rw (file_dash rest) refl
run_dash [] rest (b ∷ back) c j w = refl
run_dash (a ∷ []) rest back c j w = refl
run_dash (a ∷ b ∷ front) rest back c j w = refl

run_bad : (xs : List Text) (f : Text → List Text) (n : Text) → is_one_of (codes "cycles" ∷ codes "journal" ∷ codes "write-journal" ∷ []) n ≡ true → Bad (f n)
    → run_with xs (f (codes "cycles")) (f (codes "journal")) (f (codes "write-journal")) ≡ None
run_bad xs f n is =
    option_is (λ m. Bad (f m) → run_with xs (f (codes "cycles")) (f (codes "journal")) (f (codes "write-journal")) ≡ None) (cycles_none xs _ _ _) (journal_none xs _ _ _) (write_none xs _ _ _) n is

three : (xs : List Text) (a b c d e f : List Text) → a ≡ d → b ≡ e → c ≡ f → run_with xs a b c ≡ run_with xs d e f
three xs a b c d e f p q r = rw (p, q, r) refl

pub run_sound : IsSound run_form (codes "BOARD" ∷ [])
unfolding run_form
run_sound = record {
  distinct = (refl, tt);
  apart = option_is (λ n. is_one_of (codes "BOARD" ∷ []) n ≡ false) refl refl refl;
  same = λ xs f g e. three xs _ _ _ _ _ _ (e (codes "cycles") refl) (e (codes "journal") refl) (e (codes "write-journal") refl);
  many = λ xs f long. run_many xs _ _ _ long;
  twice = λ xs f n is long. run_bad xs f n is (bad_twice (f n) long);
  place = λ front rest back f. run_dash front rest back _ _ _;
  value = λ xs f n front rest back is e. run_bad xs f n is (subst Bad (sym e) (bad_dash front rest back));
}

-- ---- `asm`

asm_many : (xs little : List Text) → 2 < length xs → asm_with xs little ≡ None
asm_many [] little long = refl
asm_many (a ∷ []) little long = refl
asm_many (a ∷ b ∷ []) little long = absurd (omega arith)
asm_many (a ∷ b ∷ c ∷ xs) little long = refl

no_output : (source : Option Text) (little : Option Bool) → asm_of source None little ≡ None
no_output None little = refl
no_output (Some source) little = refl

no_order : (source output : Option Text) → asm_of source output None ≡ None
no_order None output = refl
no_order (Some source) None = refl
no_order (Some source) (Some output) = refl

asm_twice : (xs little : List Text) → 2 ≤ length little → asm_with xs little ≡ None
asm_twice [] little long = refl
asm_twice (a ∷ []) little long = refl
asm_twice (a ∷ b ∷ []) little long =
    rw (twice_none false (λ text. Some (bytes_eq text raised_value)) little long) (no_order (file_in a) (file_in b))
asm_twice (a ∷ b ∷ c ∷ xs) little long = refl

asm_dash : (front : List Text) (rest : Text) (back little : List Text) → asm_with (front ++ (45 ∷ rest) ∷ back) little ≡ None
asm_dash [] rest [] little = refl
asm_dash [] rest (b ∷ []) little = rw (file_dash rest) refl
asm_dash [] rest (b ∷ c ∷ back) little = refl
asm_dash (a ∷ []) rest [] little = rw (file_dash rest) (no_output (file_in a) (is_raised little))
asm_dash (a ∷ []) rest (b ∷ back) little = refl
asm_dash (a ∷ b ∷ []) rest back little = refl
asm_dash (a ∷ b ∷ c ∷ front) rest back little = refl

-- what holds of the flag
flag_is : (P : Text → Type 0) → P (codes "little") → (n : Text) (b : Bool) → bytes_eq (codes "little") n ≡ b → (b || false) ≡ true → P n
flag_is P p n true is h = subst P (text_is (codes "little") n is) p
flag_is P p n false is h = absurd (false≢true h)

asm_again : (xs : List Text) (f : Text → List Text) (n : Text) → is_one_of (codes "little" ∷ []) n ≡ true → 2 ≤ length (f n) → asm_with xs (f (codes "little")) ≡ None
asm_again xs f n is =
    flag_is (λ m. 2 ≤ length (f m) → asm_with xs (f (codes "little")) ≡ None) (asm_twice xs (f (codes "little"))) n (bytes_eq (codes "little") n) refl is

pub asm_sound : IsSound asm_form (codes "SOURCE" ∷ codes "OUTPUT" ∷ [])
unfolding asm_form
asm_sound = record {
  distinct = (refl, (refl, tt));
  apart = λ n is. flag_is (λ m. is_one_of (codes "SOURCE" ∷ codes "OUTPUT" ∷ []) m ≡ false) refl n (bytes_eq (codes "little") n) refl is;
  same = λ xs f g e. ap (asm_with xs) (e (codes "little") refl);
  many = λ xs f long. asm_many xs _ long;
  twice = λ xs f n is long. asm_again xs f n is long;
  place = λ front rest back f. asm_dash front rest back _;
  value = λ xs f n front rest back is. absurd (false≢true is);
}

-- ---- `dis`

dis_many : (xs : List Text) → 1 < length xs → dis_with xs ≡ None
dis_many [] long = refl
dis_many (a ∷ []) long = absurd (omega arith)
dis_many (a ∷ b ∷ xs) long = refl

dis_dash : (front : List Text) (rest : Text) (back : List Text) → dis_with (front ++ (45 ∷ rest) ∷ back) ≡ None
dis_dash [] rest [] = ap (option_map (λ image. Dis image)) (file_dash rest)
dis_dash [] rest (b ∷ back) = refl
dis_dash (a ∷ []) rest back = refl
dis_dash (a ∷ b ∷ front) rest back = refl

pub dis_sound : IsSound dis_form (codes "IMAGE" ∷ [])
unfolding dis_form
dis_sound = record {
  distinct = (refl, tt);
  apart = λ n is. absurd (false≢true is);
  same = λ xs f g e. refl;
  many = λ xs f long. dis_many xs long;
  twice = λ xs f n is. absurd (false≢true is);
  place = λ front rest back f. dis_dash front rest back;
  value = λ xs f n front rest back is. absurd (false≢true is);
}

-- ---- `demo`

demo_many : (xs : List Text) → 1 < length xs → demo_with xs ≡ None
demo_many [] long = refl
demo_many (a ∷ []) long = absurd (omega arith)
demo_many (a ∷ b ∷ xs) long = refl

demo_dash : (front : List Text) (rest : Text) (back : List Text) → demo_with (front ++ (45 ∷ rest) ∷ back) ≡ None
demo_dash [] rest [] = rw (number_dash most_number rest) refl
demo_dash [] rest (b ∷ back) = refl
demo_dash (a ∷ []) rest back = refl
demo_dash (a ∷ b ∷ front) rest back = refl

pub demo_sound : IsSound demo_form (codes "N" ∷ [])
unfolding demo_form
demo_sound = record {
  distinct = (refl, tt);
  apart = λ n is. absurd (false≢true is);
  same = λ xs f g e. refl;
  many = λ xs f long. demo_many xs long;
  twice = λ xs f n is. absurd (false≢true is);
  place = λ front rest back f. demo_dash front rest back;
  value = λ xs f n front rest back is. absurd (false≢true is);
}

-- ---- `profile` and `debug`

no_limit : (kind : BoardCommand) (b : Option Text) (j : Option ℕ) → board_of kind b None j ≡ None
no_limit kind None j = refl
no_limit kind (Some b) j = refl

no_room : (kind : BoardCommand) (b : Option Text) (c : Option ℕ) → board_of kind b c None ≡ None
no_room kind None c = refl
no_room kind (Some b) None = refl
no_room kind (Some b) (Some c) = refl

limit_none : (kind : BoardCommand) (xs c j : List Text) → Bad c → board_with kind xs c j ≡ None
limit_none kind [] c j bad = refl
limit_none kind (b ∷ []) c j bad = rw (bad.number 10_000_000 most_cycles) (no_limit kind (file_in b) _)
limit_none kind (a ∷ b ∷ xs) c j bad = refl

room_none : (kind : BoardCommand) (xs c j : List Text) → Bad j → board_with kind xs c j ≡ None
room_none kind [] c j bad = refl
room_none kind (b ∷ []) c j bad = rw (bad.number 1_048_576 most_entries) (no_room kind (file_in b) _)
room_none kind (a ∷ b ∷ xs) c j bad = refl

-- what holds of each option
each_of_two : (P : Text → Type 0) → P (codes "cycles") → P (codes "journal") → (n : Text) (a b : Bool)
    → bytes_eq (codes "cycles") n ≡ a → bytes_eq (codes "journal") n ≡ b → (a || (b || false)) ≡ true → P n
each_of_two P p q n true b is _ h = subst P (text_is (codes "cycles") n is) p
each_of_two P p q n false true _ is h = subst P (text_is (codes "journal") n is) q
each_of_two P p q n false false _ _ h = absurd (false≢true h)

one_of_two : (P : Text → Type 0) → P (codes "cycles") → P (codes "journal") → (n : Text) → is_one_of (codes "cycles" ∷ codes "journal" ∷ []) n ≡ true → P n
one_of_two P p q n h = each_of_two P p q n (bytes_eq (codes "cycles") n) (bytes_eq (codes "journal") n) refl refl h

board_many : (kind : BoardCommand) (xs c j : List Text) → 1 < length xs → board_with kind xs c j ≡ None
board_many kind [] c j long = refl
board_many kind (b ∷ []) c j long = absurd (omega arith)
board_many kind (a ∷ b ∷ xs) c j long = refl

board_dash : (kind : BoardCommand) (front : List Text) (rest : Text) (back c j : List Text) → board_with kind (front ++ (45 ∷ rest) ∷ back) c j ≡ None
board_dash kind [] rest [] c j = rw (file_dash rest) refl
board_dash kind [] rest (b ∷ back) c j = refl
board_dash kind (a ∷ []) rest back c j = refl
board_dash kind (a ∷ b ∷ front) rest back c j = refl

board_bad : (kind : BoardCommand) (xs : List Text) (f : Text → List Text) (n : Text) → is_one_of (codes "cycles" ∷ codes "journal" ∷ []) n ≡ true → Bad (f n)
    → board_with kind xs (f (codes "cycles")) (f (codes "journal")) ≡ None
board_bad kind xs f n is =
    one_of_two (λ m. Bad (f m) → board_with kind xs (f (codes "cycles")) (f (codes "journal")) ≡ None) (limit_none kind xs _ _) (room_none kind xs _ _) n is

pair : (kind : BoardCommand) (xs : List Text) (a b c d : List Text) → a ≡ c → b ≡ d → board_with kind xs a b ≡ board_with kind xs c d
pair kind xs a b c d p q = rw (p, q) refl

pub board_sound : (kind : BoardCommand) → IsSound (board_form kind) (codes "BOARD" ∷ [])
unfolding board_form
board_sound kind = record {
  distinct = (refl, tt);
  apart = one_of_two (λ n. is_one_of (codes "BOARD" ∷ []) n ≡ false) refl refl;
  same = λ xs f g e. pair kind xs _ _ _ _ (e (codes "cycles") refl) (e (codes "journal") refl);
  many = λ xs f long. board_many kind xs _ _ long;
  twice = λ xs f n is long. board_bad kind xs f n is (bad_twice (f n) long);
  place = λ front rest back f. board_dash kind front rest back _ _;
  value = λ xs f n front rest back is e. board_bad kind xs f n is (subst Bad (sym e) (bad_dash front rest back));
}
