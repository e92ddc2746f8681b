-- The ends of links, and the cores of events.
use Rattle.std.proofs.Common.{◌≡◌, ℕ, ◌<◌, ◌≤◌, Bool, true, false, ◌&&◌, not, nat_lt, List, [], length, get_or, position, Option, Some, None, option_and_then, refl, arith}
use Rattle.std.proofs.lemmas.List.Quantifiers.{position-Some}
use Rattle.std.specs.Option.{is_some}
use Rattle.std.specs.Str.{bytes_eq}
use Rattle.toml.specs.Data.{Data, Members, as_str}
use Rattle.board_file.specs.Read.{file_at, file_in, number_at, only_if, is_number, right}
use Rattle.board_file.specs.Rows.{core_at, end_made, event_made, event_row, from_end, link_row, place_of, small, to_end}
use Rattle.board_file.specs.Rules.{code_if, has, is_end, is_link, row_code}
use Rattle.board_file.specs.Tree.{at_key}
use Rattle.board_file.specs.declared.board.CoreRow.{CoreRow}
use Rattle.board_file.specs.declared.board.End.TheVariants.{Port, File}
use Rattle.board_file.specs.declared.board.EventRow.{EventRow}
use Rattle.board_file.specs.declared.board.LinkRow.{LinkRow}
use Rattle.board_file.specs.declared.board.Pipeline.TheVariants as pipelines
use Rattle.board_file.specs.declared.fault.BoardRule.{BoardRule}
use Rattle.board_file.specs.declared.fault.BoardRule.TheVariants as broken
use Rattle.board_file.specs.declared.keys.Key.{Key}
use Rattle.board_file.specs.declared.keys.Key.TheVariants as key
use Rattle.board_file.specs.declared.keys.Quantity.TheVariants as quantity
use Rattle.board_file.specs.declared.keys.Rows.TheVariants as rows
use Rattle.board_file_laws.proofs.Numbers.{made_link, name_kept, number_there}
use Rattle.board_file_laws.specs.Sound.{IsOnBoard, IsPortOf}

kept : (holds : Bool) (n k : ℕ) → only_if holds n ≡ Some k → n ≡ k
kept true n k e = grind (arith, e)
kept false n k e = grind (arith, e)

small_kept : (o : Option ℕ) (k : ℕ) → option_and_then small o ≡ Some k → o ≡ Some k
small_kept None k e = grind (arith, e)
small_kept (Some n) k e = let same = kept (nat_lt n 65536) n k e in rw same refl

pub some_row : CoreRow
some_row = record { name = []; image = []; pipeline = pipelines.Plain; clock = 0; memory = 0 }

abbrev pub name_at : List CoreRow → ℕ → List ℕ
name_at cores k = (get_or cores k some_row).name

-- a place that a name has is on the board, and the core there has the name
pub record IsPlace (cores : List CoreRow) (s : List ℕ) (k : ℕ) : Type 0 where
  pub within : k < length cores
  pub same : bytes_eq s (name_at cores k) ≡ true

pub place_there : (cores : List CoreRow) (s : List ℕ) (k : ℕ) → place_of cores s ≡ Some k → IsPlace cores s k
place_there cores s k e =
    let found = position-Some (λ core. bytes_eq s core.name) cores k some_row (small_kept (position (λ core. bytes_eq s core.name) cores) k e) in
    record { within = found.0; same = found.1 }

-- the name at the key of a core
pub record IsNamed (cores : List CoreRow) (o : Option (List ℕ)) (k : ℕ) : Type 0 where
  pub name : List ℕ
  pub there : o ≡ Some name
  pub place : IsPlace cores name k

named : (cores : List CoreRow) (o : Option (List ℕ)) (k : ℕ) → option_and_then (place_of cores) o ≡ Some k → IsNamed cores o k
named cores None k e = grind (arith, e)
named cores (Some s) k e = record { name = s; there = refl; place = place_there cores s k e }

pub core_named : (cores : List CoreRow) (k : Key) (ms : Members) (c : ℕ) → core_at cores k ms ≡ Some c → IsNamed cores (option_and_then as_str (at_key k ms)) c
unfolding core_at
core_named cores k ms c e = named cores (option_and_then as_str (at_key k ms)) c e

-- an end that is a port, and one that is a file
pub port_made : (core port : Option ℕ) (file : Option (List ℕ)) (c p : ℕ) → end_made core port file ≡ Some (Port c p) → (core ≡ Some c) × (port ≡ Some p)
port_made (Some c) (Some p) None d q e = (grind arith, grind arith)
port_made core port (Some f) d q e = grind arith
port_made None port None d q e = grind arith
port_made (Some c) None None d q e = grind arith

pub file_made : (core port : Option ℕ) (file : Option (List ℕ)) (f : List ℕ) → end_made core port file ≡ Some (File f) → file ≡ Some f
file_made core port (Some g) f e = grind arith
file_made (Some c) (Some p) None f e = grind arith
file_made None port None f e = grind arith
file_made (Some c) None None f e = grind arith

file_has : (o : Option Data) (f : List ℕ) → right file_in o ≡ Some f → is_some o ≡ true
file_has None f e = grind (arith, e)
file_has (Some d) f e = refl

port_range : (n : ℕ) → is_number quantity.Port n ≡ true → n < 16
unfolding is_number
port_range n e = grind arith

cycle_range : (n : ℕ) → is_number quantity.Cycle n ≡ true → n ≤ 1000000000000
unfolding is_number
cycle_range n e = grind arith

port_there : (cores : List CoreRow) (kc kp : Key) (ms : Members) (file : Option (List ℕ)) (c p : ℕ) → end_made (core_at cores kc ms) (number_at quantity.Port kp ms) file ≡ Some (Port c p) → (c < length cores) × (p < 16)
port_there cores kc kp ms file c p e =
    let made = port_made (core_at cores kc ms) (number_at quantity.Port kp ms) file c p e in
    ((core_named cores kc ms c made.0).place.within, port_range p (number_there quantity.Port kp ms p made.1))

pub from_port : (cores : List CoreRow) (name : List ℕ) (ms : Members) (link : LinkRow) → link_row cores name ms ≡ Some link → IsPortOf (length cores) link.from
unfolding link_row from_end
from_port cores name ms link e = λ c p is.
    let made = made_link _ _ _ _ link e in
    port_there cores key.From key.FromPort ms (file_at key.FromFile ms) c p (rw is at made.from)

pub to_port : (cores : List CoreRow) (name : List ℕ) (ms : Members) (link : LinkRow) → link_row cores name ms ≡ Some link → IsPortOf (length cores) link.to
unfolding link_row to_end
to_port cores name ms link e = λ c p is.
    let made = made_link _ _ _ _ link e in
    port_there cores key.To key.ToPort ms (file_at key.ToFile ms) c p (rw is at made.to)

-- a link with files at both ends is refused
not_both : (a b c d : Bool) → (a && b && not (c && d)) ≡ true → c ≡ true → d ≡ true → ⊥
not_both a b true true e f g = both_false a b e
  where
    both_false : (a b : Bool) → (a && b && false) ≡ true → ⊥
    both_false true true h = grind arith
    both_false true false h = grind arith
    both_false false b h = grind arith
not_both a b false d e f g = grind arith
not_both a b true false e f g = grind arith

no_code : (holds : Bool) (code : BoardRule) → code_if (not holds) code ≡ None → holds ≡ true
no_code true code e = refl
no_code false code e = grind arith

pub not_two_files : (network : Bool) (cores : List CoreRow) (name : List ℕ) (ms : Members) (link : LinkRow) (f g : List ℕ) → link_row cores name ms ≡ Some link → row_code network rows.Link ms ≡ None → link.from ≡ File f → link.to ≡ File g → ⊥
unfolding link_row from_end to_end file_at row_code is_link
not_two_files network cores name ms link f g e code from to =
    let made = made_link _ _ _ _ link e in
    let one = file_made _ _ _ f (rw from at made.from) in
    let other = file_made _ _ _ g (rw to at made.to) in
    not_both (is_end (has key.From ms) (has key.FromPort ms) (has key.FromFile ms)) (is_end (has key.To ms) (has key.ToPort ms) (has key.ToFile ms)) (has key.FromFile ms) (has key.ToFile ms)
    (no_code _ broken.BadLink code) (file_has (at_key key.FromFile ms) f one) (file_has (at_key key.ToFile ms) g other)

-- an event
made_event : (name : Option (List ℕ)) (core cycle : Option ℕ) (nonmaskable : Option Bool) (event : EventRow) → event_made name core cycle nonmaskable ≡ Some event → (name ≡ Some event.name) × (core ≡ Some event.core) × (cycle ≡ Some event.cycle)
made_event (Some n) (Some c) (Some y) (Some b) event e = (grind arith, grind arith, grind arith)
made_event None core cycle b event e = grind arith
made_event (Some n) None cycle b event e = grind arith
made_event (Some n) (Some c) None b event e = grind arith
made_event (Some n) (Some c) (Some y) None event e = grind arith

pub event_name : (cores : List CoreRow) (name : List ℕ) (ms : Members) (event : EventRow) → event_row cores name ms ≡ Some event → name ≡ event.name
unfolding event_row
event_name cores name ms event e = name_kept name event.name (made_event _ _ _ _ event e).0

pub event_there : (cores : List CoreRow) (name : List ℕ) (ms : Members) (event : EventRow) → event_row cores name ms ≡ Some event → IsOnBoard (length cores) event
unfolding event_row
event_there cores name ms event e =
    let made = made_event _ _ _ _ event e in
    ((core_named cores key.Core ms event.core made.1).place.within, cycle_range event.cycle (number_there quantity.Cycle key.Cycle ms event.cycle made.2))
