-- No two links begin, or end, at one port of a core.
use Rattle.std.proofs.Common.{◌≡◌, inl, inr, ℕ, ◌≤◌, Bool, true, false, ◌&&◌, ◌||◌, not, nat_le, List, [], ◌∷◌, ◌++◌, length, take, flat_map, slice_get, Option, Some, None, option_and_then, codes, refl, sym, ◌∙◌, arith}
use Rattle.std.proofs.lemmas.List.{append_cancel_left, append_cancel_right, length-append, take_all}
use Rattle.std.proofs.lemmas.Slice.Eq.{bytes_eq-Decides}
use Rattle.std.specs.List.{list_any, list_all}
use Rattle.std.specs.Result.{result_ok}
use Rattle.std.specs.Str.{bytes_eq}
use Rattle.toml.specs.Data.{Data, Members, as_str}
use Rattle.board_file.proofs.Paths.{places_are_paths}
use Rattle.board_file.proofs.Values.{both_nil, true_from_nil, given_core}
use Rattle.board_file.specs.Claims.{claim_faults, claims_by, claims_in, collides, core_claim_of, core_claims, gets, puts, same_subject, twice_faults}
use Rattle.board_file.specs.Faults.{is_earlier}
use Rattle.board_file.specs.Keys.{key_text, row_keys, table_key}
use Rattle.board_file.specs.Read.{core_in, core_name_at, core_of, file_at, is_board_name, is_name_byte, judged, key_code, number_at, right}
use Rattle.board_file.specs.Rows.{core_at, end_made, from_end, link_row, to_end}
use Rattle.board_file.specs.Tree.{are_ascending, at_key, has_core, key_place, place, rows_in}
use Rattle.board_file.specs.declared.board.CoreRow.{CoreRow}
use Rattle.board_file.specs.declared.board.End.TheVariants.{Port}
use Rattle.board_file.specs.declared.board.LinkRow.{LinkRow}
use Rattle.board_file.specs.declared.claims.Claim.{Claim}
use Rattle.board_file.specs.declared.claims.Subject.TheVariants.{OfCore}
use Rattle.board_file.specs.declared.claims.Usage.{Usage}
use Rattle.board_file.specs.declared.claims.Usage.TheVariants.{Number}
use Rattle.board_file.specs.declared.fault.BoardRule.{BoardRule}
use Rattle.board_file.specs.declared.fault.BoardRule.TheVariants as broken
use Rattle.board_file.specs.declared.keys.Key.{Key}
use Rattle.board_file.specs.declared.keys.Key.TheVariants as key
use Rattle.board_file.specs.declared.keys.KeyRule.TheVariants.{May}
use Rattle.board_file.specs.declared.keys.Kind.TheVariants as kind
use Rattle.board_file.specs.declared.keys.Quantity.TheVariants as quantity
use Rattle.board_file.specs.declared.keys.Rows.{Rows}
use Rattle.board_file.specs.declared.keys.Rows.TheVariants as rows
use Rattle.board_file_laws.proofs.Ends.{core_named, name_at, port_made}
use Rattle.board_file_laws.proofs.Names.{one_place, same_place}
use Rattle.board_file_laws.proofs.Numbers.{made_link}
use Rattle.board_file_laws.proofs.Origins.{IsAmong, IsFrom, IsRight, among_first, names}
use Rattle.board_file_laws.proofs.Parts.{first_key}

-- the claim of a link on a port of a core
abbrev pub port_claim : Key → List ℕ → List ℕ → ℕ → Claim
port_claim k name core port = record { place = key_place rows.Link name k; on = OfCore core port; sole = true }

abbrev pub link_usage : Key → Key → Usage
link_usage core port = Number rows.Link core port quantity.Port

-- the name of a core that a key gives, where the key has no fault
judged_core : (tree : Members) (o : Option (List ℕ)) (s : List ℕ) → o ≡ Some s → has_core tree s ≡ true → result_ok {E = BoardRule} (judged broken.UnknownCore (core_of tree) o) ≡ Some s
judged_core tree o s e h = rw (e, h) refl

same_some : (m n : List ℕ) → Some m ≡ Some n → m ≡ n
same_some m n e = grind (arith, e)

core_read : (tree : Members) (k : Key) (o : Option Data) (s : List ℕ) → key_code tree (May k kind.CoreName) o ≡ None → option_and_then as_str o ≡ Some s → right (core_in tree) o ≡ Some s
unfolding core_in
core_read tree k None s e f = grind (arith, f)
core_read tree k (Some d) s e f =
    let n = given_core tree k d e in
    let same = same_some n.0 s (sym n.1 ∙ f) in
    judged_core tree (as_str d) s f (rw same at n.2)

claim_made : (tree : Members) (kc kp : Key) (name : List ℕ) (ms : Members) (s : List ℕ) (p : ℕ) → right (core_in tree) (at_key kc ms) ≡ Some s → number_at quantity.Port kp ms ≡ Some p → IsAmong (port_claim kp name s p) (core_claim_of tree (link_usage kc kp) name ms)
unfolding core_claim_of core_name_at
claim_made tree kc kp name ms s p e f = rw (e, f) (inl refl)

-- a link whose end is a port of a core claims this port
pub record IsClaimed (tree : Members) (cores : List CoreRow) (kc kp : Key) (k c p : ℕ) : Type 0 where
  pub name : List ℕ
  pub core : List ℕ
  pub named : is_board_name name ≡ true
  pub place : slice_get (names (rows_in tree rows.Link)) k ≡ Some name
  pub same : bytes_eq core (name_at cores c) ≡ true
  pub claim : IsAmong (port_claim kp name core p) (claims_in (core_claim_of tree (link_usage kc kp)) (rows_in tree rows.Link))

pub claimed : (tree : Members) (cores : List CoreRow) (kc kp : Key) (k c p : ℕ) (name : List ℕ) (ms : Members) (file : Option (List ℕ)) → is_board_name name ≡ true → slice_get (names (rows_in tree rows.Link)) k ≡ Some name
    → ((of : List ℕ → Members → List Claim) (d : Claim) → IsAmong d (of name ms) → IsAmong d (claims_in of (rows_in tree rows.Link)))
    → key_code tree (May kc kind.CoreName) (at_key kc ms) ≡ None → end_made (core_at cores kc ms) (number_at quantity.Port kp ms) file ≡ Some (Port c p) → IsClaimed tree cores kc kp k c p
claimed tree cores kc kp k c p name ms file named place claims code e =
    let made = port_made (core_at cores kc ms) (number_at quantity.Port kp ms) file c p e in
    let core = core_named cores kc ms c made.0 in
    record {
      name = name;
      core = core.name;
      named = named;
      place = place;
      same = core.place.same;
      claim = claims (core_claim_of tree (link_usage kc kp)) _ (claim_made tree kc kp name ms core.name p (core_read tree kc (at_key kc ms) core.name code core.there) made.1);
    }

-- where claims don't collide, no other claim on the same is earlier
pub free : (code : BoardRule) (all cs : List Claim) (c : Claim) → flat_map (claim_faults code all) cs ≡ [] → IsAmong c cs → claim_faults code all c ≡ []
free code all [] c e h = elim h [ ]
free code all (d ∷ ds) c e (inl same) = rw same at (both_nil (claim_faults code all d) (flat_map (claim_faults code all) ds) e).0
free code all (d ∷ ds) c e (inr more) = free code all ds c (both_nil (claim_faults code all d) (flat_map (claim_faults code all) ds) e).1 more

both_false : (a b : Bool) → (a || b) ≡ false → (a ≡ false) × (b ≡ false)
both_false false b e = (refl, e)
both_false true b e = grind arith

pub not_met : (c : Claim) (all : List Claim) (d : Claim) → list_any (collides c) all ≡ false → IsAmong d all → collides c d ≡ false
not_met c [] d e h = elim h [ ]
not_met c (x ∷ xs) d e (inl same) = rw same at (both_false (collides c x) (list_any (collides c) xs) e).0
not_met c (x ∷ xs) d e (inr more) = not_met c xs d (both_false (collides c x) (list_any (collides c) xs) e).1 more

pub not_true : (b : Bool) → not b ≡ true → b ≡ false
not_true true e = grind arith
not_true false e = refl

same_port : (s : List ℕ) (p : ℕ) → same_subject (OfCore s p) (OfCore s p) ≡ true
same_port s p = rw ((bytes_eq-Decides s s).1 refl) (grind arith)

pub earlier_false : (same earlier : Bool) → same ≡ true → (same && (not true || earlier)) ≡ false → earlier ≡ false
earlier_false true earlier e f = f
earlier_false false earlier e f = grind (arith, e)

none_earlier : (code : BoardRule) (all : List Claim) (k : Key) (m n s : List ℕ) (p : ℕ) → twice_faults code all ≡ [] → IsAmong (port_claim k m s p) all → IsAmong (port_claim k n s p) all → is_earlier (key_place rows.Link n k) (key_place rows.Link m k) ≡ false
unfolding twice_faults
none_earlier code all k m n s p e one other =
    let c = port_claim k m s p in
    let alone = not_true (list_any (collides c) all) (true_from_nil _ _ _ (free code all all c e one)) in
    earlier_false (same_subject (OfCore s p) (OfCore s p)) _ (same_port s p) (not_met c all (port_claim k n s p) alone other)

-- the place of a key of a link is its whole path, since names are short
short_path : (a b m c d : List ℕ) → length a ≤ 4 → length b ≤ 1 → length m ≤ 24 → length c ≤ 1 → length d ≤ 9 → length (a ++ b ++ m ++ c ++ d) ≤ 64
short_path a b m c d h1 h2 h3 h4 h5 = rw (length-append (a ++ b ++ m ++ c) d, length-append (a ++ b ++ m) c, length-append (a ++ b) m, length-append a b) (omega (arith, h1, h2, h3, h4, h5))

pub within_path : (a b m n c d : List ℕ) → length a ≤ 4 → length b ≤ 1 → length m ≤ 24 → length n ≤ 24 → length c ≤ 1 → length d ≤ 9 → take 64 (a ++ b ++ m ++ c ++ d) ≡ take 64 (a ++ b ++ n ++ c ++ d) → m ≡ n
within_path a b m n c d h1 h2 h3 h4 h5 h6 e =
    let one = take_all 64 (a ++ b ++ m ++ c ++ d) (short_path a b m c d h1 h2 h3 h5 h6) in
    let other = take_all 64 (a ++ b ++ n ++ c ++ d) (short_path a b n c d h1 h2 h4 h5 h6) in
    let whole : a ++ b ++ m ++ c ++ d ≡ a ++ b ++ n ++ c ++ d = sym one ∙ e ∙ other in
    append_cancel_left (a ++ b) m n (append_cancel_right _ _ c (append_cancel_right _ _ d whole))

short_name : (name : List ℕ) → is_board_name name ≡ true → length name ≤ 24
unfolding is_board_name
short_name name e = parts (nat_le 1 (length name)) (list_all is_name_byte name) e
  where
    parts : (a b : Bool) → (a && nat_le (length name) 24 && b) ≡ true → length name ≤ 24
    parts a b h = grind (arith, h)

pub same_name : (r : Rows) (k : Key) (m n : List ℕ) → length (key_text (table_key r)) ≤ 4 → length (key_text k) ≤ 9 → is_board_name m ≡ true → is_board_name n ≡ true → key_place r m k ≡ key_place r n k → m ≡ n
same_name r k m n table short one other e =
    within_path (key_text (table_key r)) (codes ".") m n (codes ".") (key_text k) table (omega arith) (short_name m one) (short_name n other) (omega arith) short
    (sym (places_are_paths r m k) ∙ e ∙ places_are_paths r n k)

pub short_table : length (key_text (table_key rows.Link)) ≤ 4
unfolding key_text table_key
short_table = omega arith

among_claims : (tree : Members) (kc kp : Key) (c : Claim) → IsAmong c (claims_in (core_claim_of tree (link_usage kc kp)) (rows_in tree rows.Link)) → IsAmong c (core_claims tree (link_usage kc kp ∷ []))
unfolding core_claims claims_by
among_claims tree kc kp c h = among_first c _ [] h

pub lone : (tree : Members) (cores : List CoreRow) (kc kp : Key) → length (key_text kp) ≤ 9 → twice_faults broken.PortTwice (core_claims tree (link_usage kc kp ∷ [])) ≡ [] → are_ascending (rows_in tree rows.Link) ≡ true
    → (j k c p : ℕ) → IsClaimed tree cores kc kp j c p → IsClaimed tree cores kc kp k c p → j ≡ k
lone tree cores kc kp short e ascends j k c p one other =
    let all = core_claims tree (link_usage kc kp ∷ []) in
    let core = (bytes_eq-Decides one.core (name_at cores c)).0 one.same ∙ sym ((bytes_eq-Decides other.core (name_at cores c)).0 other.same) in
    let first = among_claims tree kc kp _ one.claim in
    let second : IsAmong (port_claim kp other.name one.core p) all = rw (sym core) at (among_claims tree kc kp _ other.claim) in
    let before = none_earlier broken.PortTwice all kp other.name one.name one.core p e second first in
    let after = none_earlier broken.PortTwice all kp one.name other.name one.core p e first second in
    let name = same_name rows.Link kp one.name other.name short_table short one.named other.named (same_place _ _ before after) in
    one_place (rows_in tree rows.Link) ascends j k other.name (rw name at one.place) other.place

-- the port that a link begins at, and the port that it ends at
put_claimed : (network : Bool) (tree : Members) (cores : List CoreRow) (k : ℕ) (link : LinkRow) (c p : ℕ) (o : IsFrom (link_row cores) (rows_in tree rows.Link) k link) → IsRight network tree rows.Link o.name o.members → link.from ≡ Port c p → IsClaimed tree cores key.From key.FromPort k c p
unfolding link_row from_end row_keys
put_claimed network tree cores k link c p o right is =
    let made = made_link _ _ _ _ link o.made in
    let depth = first_key tree _ o.members key.Depth _ _ refl right.keys in
    let from = first_key tree _ o.members key.From _ _ refl depth.1 in
    claimed tree cores key.From key.FromPort k c p o.name o.members (file_at key.FromFile o.members) right.named o.place o.claims from.0 (rw is at made.from)

get_claimed : (network : Bool) (tree : Members) (cores : List CoreRow) (k : ℕ) (link : LinkRow) (c p : ℕ) (o : IsFrom (link_row cores) (rows_in tree rows.Link) k link) → IsRight network tree rows.Link o.name o.members → link.to ≡ Port c p → IsClaimed tree cores key.To key.ToPort k c p
unfolding link_row to_end row_keys
get_claimed network tree cores k link c p o right is =
    let made = made_link _ _ _ _ link o.made in
    let depth = first_key tree _ o.members key.Depth _ _ refl right.keys in
    let from = first_key tree _ o.members key.From _ _ refl depth.1 in
    let from_port = first_key tree _ o.members key.FromPort _ _ refl from.1 in
    let from_file = first_key tree _ o.members key.FromFile _ _ refl from_port.1 in
    let to = first_key tree _ o.members key.To _ _ refl from_file.1 in
    claimed tree cores key.To key.ToPort k c p o.name o.members (file_at key.ToFile o.members) right.named o.place o.claims to.0 (rw is at made.to)

pub lone_put : (network : Bool) (tree : Members) (cores : List CoreRow) → twice_faults broken.PortTwice (core_claims tree puts) ≡ [] → are_ascending (rows_in tree rows.Link) ≡ true → (j k : ℕ) (one other : LinkRow) (c p : ℕ)
    → (a : IsFrom (link_row cores) (rows_in tree rows.Link) j one) → IsRight network tree rows.Link a.name a.members → (b : IsFrom (link_row cores) (rows_in tree rows.Link) k other) → IsRight network tree rows.Link b.name b.members
    → one.from ≡ Port c p → other.from ≡ Port c p → j ≡ k
unfolding puts key_text
lone_put network tree cores e ascends j k one other c p a right_a b right_b is_a is_b =
    lone tree cores key.From key.FromPort (omega arith) e ascends j k c p (put_claimed network tree cores j one c p a right_a is_a) (put_claimed network tree cores k other c p b right_b is_b)

pub lone_get : (network : Bool) (tree : Members) (cores : List CoreRow) → twice_faults broken.PortTwice (core_claims tree gets) ≡ [] → are_ascending (rows_in tree rows.Link) ≡ true → (j k : ℕ) (one other : LinkRow) (c p : ℕ)
    → (a : IsFrom (link_row cores) (rows_in tree rows.Link) j one) → IsRight network tree rows.Link a.name a.members → (b : IsFrom (link_row cores) (rows_in tree rows.Link) k other) → IsRight network tree rows.Link b.name b.members
    → one.to ≡ Port c p → other.to ≡ Port c p → j ≡ k
unfolding gets key_text
lone_get network tree cores e ascends j k one other c p a right_a b right_b is_a is_b =
    lone tree cores key.To key.ToPort (omega arith) e ascends j k c p (get_claimed network tree cores j one c p a right_a is_a) (get_claimed network tree cores k other c p b right_b is_b)
