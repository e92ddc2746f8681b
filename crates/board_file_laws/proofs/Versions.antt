-- What the version of a file decides: the most cores and links, and whether a device has a clock.
use Rattle.std.proofs.Common.{◌≡◌, ◌⊎◌, inl, inr, ℕ, ◌<◌, ◌≤◌, ◌==◌, ℤ, pos, negsuc, Bool, true, false, ◌||◌, nat_le, List, [], ◌∷◌, ◌++◌, Option, Some, None, Ordering, Less, Equal, Greater, unwrap_or, if◌then◌else◌, refl, sym, ap, ◌∙◌, arith}
use Rattle.std.proofs.lemmas.Map.Text.{is_eq-slice_cmp}
use Rattle.std.proofs.lemmas.Slice.Eq.{bytes_eq-Decides}
use Rattle.std.specs.Cmp.Lexicographic.{slice_cmp}
use Rattle.std.specs.Option.{ok_or, option_and_then}
use Rattle.std.specs.Ordering.{is_eq, match_ordering, nat_cmp}
use Rattle.std.specs.Result.{result_ok}
use Rattle.std.specs.Str.{bytes_eq}
use Rattle.toml.specs.Data.{Data, Members, as_integer, get_member, no_members, member}
use Rattle.board_file.proofs.Values.{both_nil, true_from_nil}
use Rattle.board_file.specs.Faults.{fault_unless}
use Rattle.board_file.specs.Keys.{clock_keys, key_text, row_keys}
use Rattle.board_file.specs.Read.{number_at, number_in, right, version_in, version_of}
use Rattle.board_file.specs.Rows.{device_clock}
use Rattle.board_file.specs.Rules.{are_few, is_known, most_cores, most_links, stray_faults, version_in_file}
use Rattle.board_file.specs.Tree.{at_key, further}
use Rattle.board_file.specs.declared.fault.BoardRule.{BoardRule}
use Rattle.board_file.specs.declared.fault.BoardRule.TheVariants as broken
use Rattle.board_file.specs.declared.keys.Key.TheVariants as key
use Rattle.board_file.specs.declared.keys.KeyRule.{KeyRule}
use Rattle.board_file.specs.declared.keys.Quantity.TheVariants as quantity
use Rattle.board_file.specs.declared.keys.Rows.{Rows}
use Rattle.board_file.specs.declared.keys.Rows.TheVariants as rows

-- the version is one that is known
abbrev pub IsKnown : ℕ → Type 0
IsKnown n = (n ≡ 1) ⊎ (n ≡ 2)

by_number : (first second : Bool) → IsKnown (unwrap_or (result_ok {E = BoardRule} (ok_or (if first then Some 1 else if second then Some 2 else None) broken.UnknownVersion)) 1)
by_number true second = inl refl
by_number false true = inr refl
by_number false false = inl refl

by_value : (o : Option ℤ) → IsKnown (unwrap_or (result_ok {E = BoardRule} (ok_or (option_and_then version_of o) broken.UnknownVersion)) 1)
by_value None = inl refl
by_value (Some (pos n)) = by_number (n == 1) (n == 2)
by_value (Some (negsuc n)) = inl refl

by_key : (o : Option Data) → IsKnown (unwrap_or (right version_in o) 1)
unfolding version_in
by_key None = inl refl
by_key (Some d) = by_value (as_integer d)

pub known_version : (tree : Members) → IsKnown (version_in_file tree)
unfolding version_in_file
known_version tree = by_key (at_key key.Version tree)

-- the most cores and links
at_most : (m n : ℕ) → nat_le n m ≡ true → n ≤ m
at_most m n e = grind arith

pub few_rows : (version n : ℕ) → are_few version rows.Core n ≡ true → n ≤ most_cores version
unfolding are_few
few_rows version n e = at_most _ n e

pub few_ends : (version n : ℕ) → are_few version rows.Link n ≡ true → n ≤ most_links version
unfolding are_few
few_ends version n e = at_most _ n e

within : (second : Bool) (m least most : ℕ) → least ≤ most → m ≤ (if second then most else least) → m ≤ most
within true m least most l e = e
within false m least most l e = omega (arith, l, e)

pub all_cores : (version n : ℕ) → n ≤ most_cores version → n ≤ 64
all_cores version n e = within (version == 2) n 16 64 (omega arith) e

pub all_links : (version n : ℕ) → n ≤ most_links version → n ≤ 256
all_links version n e = within (version == 2) n 64 256 (omega arith) e

-- a key that the table doesn't have is not there
other_key : (rules : List KeyRule) (s text : List ℕ) (o : Ordering) → is_eq o ≡ bytes_eq s text → is_known rules s ≡ false → is_known rules text ≡ true → (d : Data) (rest : Option Data) → rest ≡ None → match_ordering o rest (Some d) rest ≡ None
other_key rules s text Less same unknown known d rest none = none
other_key rules s text Greater same unknown known d rest none = none
other_key rules s text Equal same unknown known d rest none =
    let text_is : s ≡ text = (bytes_eq-Decides s text).0 (sym same) in
    let clash : true ≡ false = sym known ∙ ap (is_known rules) (sym text_is) ∙ unknown in
    cc

not_there : (at : List ℕ) (rules : List KeyRule) (s : List ℕ) (ms : Members) → is_known rules s ≡ false → stray_faults at rules ms ≡ [] → get_member s ms ≡ None
not_there at rules s no_members unknown e = refl
not_there at rules s (member text d ms) unknown e =
    let parts = both_nil (fault_unless (is_known rules text) broken.UnknownKey (further at text)) (stray_faults at rules ms) e in
    other_key rules s text (slice_cmp nat_cmp s text) (is_eq-slice_cmp s text) unknown (true_from_nil _ _ _ parts.0) d (get_member s ms) (not_there at rules s ms unknown parts.1)

-- a device has no clock in version 1
abbrev pub HasNoClock : Rows → Type 0
HasNoClock r = is_known (row_keys 1 r) (key_text key.Clock) ≡ false

pub timer_unclocked : HasNoClock rows.Timer
unfolding is_known row_keys key_text
timer_unclocked = refl

pub intc_unclocked : HasNoClock rows.Intc
unfolding is_known row_keys key_text
intc_unclocked = refl

pub uart_unclocked : HasNoClock rows.Uart
unfolding is_known row_keys key_text
uart_unclocked = refl

clock_of : (o : Option Data) → o ≡ None → unwrap_or (right (number_in quantity.Clock) o) 1 ≡ 1
clock_of None e = refl
clock_of (Some d) e = grind (arith, e)

pub first_clock : (version : ℕ) (r : Rows) (at : List ℕ) (ms : Members) → HasNoClock r → version ≡ 1 → stray_faults at (row_keys version r) ms ≡ [] → device_clock ms ≡ 1
unfolding device_clock number_at
first_clock version r at ms lacks is e =
    clock_of (at_key key.Clock ms) (not_there at (row_keys 1 r) (key_text key.Clock) ms lacks (rw is at e))
