-- What the faults say that stand in the file's own keys and in one table.
use Rattle.std.proofs.Common.{◌≡◌, ◌⊎◌, inl, inr, ℕ, Bool, true, false, not, List, [], ◌∷◌, ◌++◌, Some, None, refl, subst, arith}
use Rattle.toml.specs.Data.{Data, Members, array, as_table, boolean, datetime, float, integer, member, no_members, string, table}
use Rattle.board_file.specs.Faults.{IsOneOf, fault, fault_at, fault_unless}
use Rattle.board_file.specs.Keys.{key_of, row_keys, top_keys}
use Rattle.board_file.specs.Read.{is_board_name, key_code}
use Rattle.board_file.specs.Rules.{are_few, code_if, count_faults, count_members, each_row, inner_faults, is_empty_table, is_known, is_link, is_network, key_faults, keys_faults, many_code, row_code, row_faults, stray_faults, table_faults, top_faults, value_faults, version_in_file}
use Rattle.board_file.specs.Tree.{at_key, further, inside, row_place, rows_in, table_place}
use Rattle.board_file.specs.declared.fault.BoardRule.{BoardRule}
use Rattle.board_file.specs.declared.fault.BoardRule.TheVariants as broken
use Rattle.board_file.specs.declared.fault.Fault.{Fault}
use Rattle.board_file.specs.declared.keys.Key.TheVariants as key
use Rattle.board_file.specs.declared.keys.KeyRule.{KeyRule}
use Rattle.board_file.specs.declared.keys.Rows.{Rows}
use Rattle.board_file.specs.declared.keys.Rows.TheVariants as rows
use Rattle.board_faults.proofs.Found.{at_code, from_each, not_false, one_of_two, unless}
use Rattle.board_faults.proofs.WrongValues.{key_told}
use Rattle.board_faults.specs.Told.{HasKeys, HasRow, IsMember, Tells, a_row, bad_link, bad_name, device_on_network, event_on_network, many_cores, many_links, many_rows, no_cores, no_row, the_file, unknown_key}

-- what a fault says
abbrev pub IsTrue : Members → Fault → Type 0
IsTrue tree f = Tells tree f.rule f.place

-- a fault that is told is true where it is this one
pub is_true : (tree : Members) (code : BoardRule) (at : List ℕ) (f : Fault) → fault code at ≡ f → Tells tree code at → IsTrue tree f
is_true tree code at f same says = subst (IsTrue tree) same says

keys_told : (tree : Members) (before : List ℕ) (keys : Members) (rules : List KeyRule) (f : Fault) → HasKeys tree before keys rules → IsOneOf f (keys_faults tree before keys rules) → IsTrue tree f
unfolding keys_faults key_faults
keys_told tree before keys rules f of_file h =
    let rule = from_each f (key_faults tree before keys) rules h in
    let code = at_code f (key_code tree rule.0 (at_key (key_of rule.0) keys)) _ rule.2 in
    is_true tree code.0 _ f code.2 (key_told tree before keys rules rule.0 code.0 of_file rule.1 code.1)

strays_told : (tree : Members) (before : List ℕ) (keys : Members) (rules : List KeyRule) (f : Fault) → HasKeys tree before keys rules
    → (ms : Members) → ((text : List ℕ) (d : Data) → IsMember text d ms → IsMember text d keys) → IsOneOf f (stray_faults before rules ms) → IsTrue tree f
strays_told tree before keys rules f of_file no_members more h = elim h [ ]
strays_told tree before keys rules f of_file (member text d ms) more h =
    by_side (one_of_two f (fault_unless (is_known rules text) broken.UnknownKey (further before text)) (stray_faults before rules ms) h)
    (λ g. strays_told tree before keys rules f of_file ms (λ t e m. more t e (inr m)) g)
  where
    by_side : IsOneOf f (fault_unless (is_known rules text) broken.UnknownKey (further before text)) ⊎ IsOneOf f (stray_faults before rules ms) → (IsOneOf f (stray_faults before rules ms) → IsTrue tree f) → IsTrue tree f
    by_side (inl here) rest =
        let stray = unless f (is_known rules text) broken.UnknownKey (further before text) here in
        is_true tree broken.UnknownKey _ f stray.1 (unknown_key before keys rules text d of_file (more text d (inl (refl, refl))) stray.0)
    by_side (inr later) rest = rest later

code_holds : (holds : Bool) (c code : BoardRule) → code_if holds c ≡ Some code → (holds ≡ true) × (c ≡ code)
code_holds true c code e = (refl, same_some c code e)
  where
    same_some : (m n : BoardRule) → Some m ≡ Some n → m ≡ n
    same_some m n g = grind (arith, g)
code_holds false c code e = grind (arith, e)

as_code : (tree : Members) (place : List ℕ) (c code : BoardRule) → c ≡ code → Tells tree c place → Tells tree code place
as_code tree place c code same says = let P : BoardRule → Type 0 = λ n. Tells tree n place in subst P same says

standing_told : (tree : Members) (r : Rows) (name : List ℕ) (keys : Members) (code : BoardRule) → HasRow tree r name keys → row_code (is_network tree) r keys ≡ Some code → Tells tree code (row_place r name)
unfolding row_code
standing_told tree rows.Core name keys code row e = grind (arith, e)
standing_told tree rows.Link name keys code row e =
    let h = code_holds (not (is_link keys)) broken.BadLink code e in
    as_code tree _ broken.BadLink code h.1 (bad_link name keys row (not_true (is_link keys) h.0))
  where
    not_true : (b : Bool) → not b ≡ true → b ≡ false
    not_true true g = grind (arith, g)
    not_true false g = refl
standing_told tree rows.Timer name keys code row e =
    let h = code_holds (is_network tree) broken.DeviceOnNetwork code e in as_code tree _ broken.DeviceOnNetwork code h.1 (device_on_network rows.Timer name keys refl row h.0)
standing_told tree rows.Intc name keys code row e =
    let h = code_holds (is_network tree) broken.DeviceOnNetwork code e in as_code tree _ broken.DeviceOnNetwork code h.1 (device_on_network rows.Intc name keys refl row h.0)
standing_told tree rows.Uart name keys code row e =
    let h = code_holds (is_network tree) broken.DeviceOnNetwork code e in as_code tree _ broken.DeviceOnNetwork code h.1 (device_on_network rows.Uart name keys refl row h.0)
standing_told tree rows.Event name keys code row e =
    let h = code_holds (is_network tree) broken.EventOnNetwork code e in as_code tree _ broken.EventOnNetwork code h.1 (event_on_network name keys row h.0)

keys_of_row_told : (tree : Members) (r : Rows) (name : List ℕ) (keys : Members) (f : Fault) → HasRow tree r name keys → IsOneOf f (inner_faults (is_network tree) tree r (row_place r name) keys) → IsTrue tree f
unfolding inner_faults
keys_of_row_told tree r name keys f row h = by_side (one_of_two f (first ++ strays) standing h)
  where
    at : List ℕ
    at = row_place r name

    first : List Fault
    first = keys_faults tree (inside at) keys (row_keys (version_in_file tree) r)

    strays : List Fault
    strays = stray_faults (inside at) (row_keys (version_in_file tree) r) keys

    standing : List Fault
    standing = fault_at (row_code (is_network tree) r keys) at

    of_file : HasKeys tree (inside at) keys (row_keys (version_in_file tree) r)
    of_file = a_row r name keys row

    by_part : IsOneOf f first ⊎ IsOneOf f strays → IsTrue tree f
    by_part (inl here) = keys_told tree (inside at) keys (row_keys (version_in_file tree) r) f of_file here
    by_part (inr later) = strays_told tree (inside at) keys (row_keys (version_in_file tree) r) f of_file keys (λ t d g. g) later

    by_side : IsOneOf f (first ++ strays) ⊎ IsOneOf f standing → IsTrue tree f
    by_side (inl front) = by_part (one_of_two f first strays front)
    by_side (inr last) =
        let code = at_code f (row_code (is_network tree) r keys) at last in
        is_true tree code.0 at f code.2 (standing_told tree r name keys code.0 row code.1)

no_table_told : (tree : Members) (r : Rows) (name : List ℕ) (d : Data) (f : Fault) → IsMember name d (rows_in tree r) → as_table d ≡ None → IsOneOf f (fault broken.WrongType (row_place r name) ∷ []) → IsTrue tree f
no_table_told tree r name d f there none (inl same) = is_true tree broken.WrongType _ f same (no_row r name d there none)
no_table_told tree r name d f there none (inr h) = elim h [ ]

value_of_row_told : (tree : Members) (r : Rows) (name : List ℕ) (d : Data) (f : Fault) → IsMember name d (rows_in tree r) → IsOneOf f (value_faults (is_network tree) tree r (row_place r name) d) → IsTrue tree f
value_of_row_told tree r name (table ms) f there h = keys_of_row_told tree r name ms f (record { value = table ms; there = there; is_table = refl }) h
value_of_row_told tree r name (string s) f there h = no_table_told tree r name (string s) f there refl h
value_of_row_told tree r name (integer z) f there h = no_table_told tree r name (integer z) f there refl h
value_of_row_told tree r name (float x) f there h = no_table_told tree r name (float x) f there refl h
value_of_row_told tree r name (boolean b) f there h = no_table_told tree r name (boolean b) f there refl h
value_of_row_told tree r name (datetime t) f there h = no_table_told tree r name (datetime t) f there refl h
value_of_row_told tree r name (array xs) f there h = no_table_told tree r name (array xs) f there refl h

row_told : (tree : Members) (r : Rows) (name : List ℕ) (d : Data) (f : Fault) → IsMember name d (rows_in tree r) → IsOneOf f (row_faults (is_network tree) tree r name d) → IsTrue tree f
unfolding row_faults
row_told tree r name d f there h = by_side (one_of_two f (fault_unless (is_board_name name) broken.BadValue (row_place r name)) (value_faults (is_network tree) tree r (row_place r name) d) h)
  where
    by_side : IsOneOf f (fault_unless (is_board_name name) broken.BadValue (row_place r name)) ⊎ IsOneOf f (value_faults (is_network tree) tree r (row_place r name) d) → IsTrue tree f
    by_side (inl here) =
        let bad = unless f (is_board_name name) broken.BadValue (row_place r name) here in
        is_true tree broken.BadValue _ f bad.1 (bad_name r name d there bad.0)
    by_side (inr later) = value_of_row_told tree r name d f there later

rows_told : (tree : Members) (r : Rows) (f : Fault) (ms : Members) → ((name : List ℕ) (d : Data) → IsMember name d ms → IsMember name d (rows_in tree r)) → IsOneOf f (each_row (is_network tree) tree r ms) → IsTrue tree f
rows_told tree r f no_members more h = elim h [ ]
rows_told tree r f (member name d ms) more h =
    by_side (one_of_two f (row_faults (is_network tree) tree r name d) (each_row (is_network tree) tree r ms) h) (λ g. rows_told tree r f ms (λ n e m. more n e (inr m)) g)
  where
    by_side : IsOneOf f (row_faults (is_network tree) tree r name d) ⊎ IsOneOf f (each_row (is_network tree) tree r ms) → (IsOneOf f (each_row (is_network tree) tree r ms) → IsTrue tree f) → IsTrue tree f
    by_side (inl here) rest = row_told tree r name d f (more name d (inl (refl, refl))) here
    by_side (inr later) rest = rest later

many_told : (tree : Members) (r : Rows) (f : Fault) → are_few (version_in_file tree) r (count_members (rows_in tree r)) ≡ false → fault (many_code r) (table_place r) ≡ f → IsTrue tree f
unfolding are_few many_code
many_told tree rows.Core f e same = is_true tree broken.TooManyCores _ f same (many_cores (grind (arith, e)))
many_told tree rows.Link f e same = is_true tree broken.TooManyLinks _ f same (many_links (grind (arith, e)))
many_told tree rows.Timer f e same = is_true tree broken.BadValue _ f same (many_rows rows.Timer (grind (arith, e)))
many_told tree rows.Uart f e same = is_true tree broken.BadValue _ f same (many_rows rows.Uart (grind (arith, e)))
many_told tree rows.Event f e same = is_true tree broken.BadValue _ f same (many_rows rows.Event (grind (arith, e)))
many_told tree rows.Intc f e same = grind (arith, e)

pub table_told : (tree : Members) (r : Rows) (f : Fault) → IsOneOf f (table_faults tree r) → IsTrue tree f
unfolding table_faults count_faults
table_told tree r f h = by_side (one_of_two f (each_row (is_network tree) tree r (rows_in tree r)) _ h)
  where
    by_side : IsOneOf f (each_row (is_network tree) tree r (rows_in tree r)) ⊎ IsOneOf f (fault_unless (are_few (version_in_file tree) r (count_members (rows_in tree r))) (many_code r) (table_place r)) → IsTrue tree f
    by_side (inl here) = rows_told tree r f (rows_in tree r) (λ n d g. g) here
    by_side (inr later) = let many = unless f _ (many_code r) (table_place r) later in many_told tree r f many.0 many.1

pub top_told : (tree : Members) (f : Fault) → IsOneOf f (top_faults tree) → IsTrue tree f
unfolding top_faults
top_told tree f h = by_side (one_of_two f (first ++ strays) _ h)
  where
    first : List Fault
    first = keys_faults tree [] tree top_keys

    strays : List Fault
    strays = stray_faults [] top_keys tree

    by_part : IsOneOf f first ⊎ IsOneOf f strays → IsTrue tree f
    by_part (inl here) = keys_told tree [] tree top_keys f the_file here
    by_part (inr later) = strays_told tree [] tree top_keys f the_file tree (λ t d g. g) later

    by_side : IsOneOf f (first ++ strays) ⊎ IsOneOf f (fault_unless (not (is_empty_table (at_key key.Core tree))) broken.Missing (table_place rows.Core)) → IsTrue tree f
    by_side (inl front) = by_part (one_of_two f first strays front)
    by_side (inr last) =
        let none = unless f (not (is_empty_table (at_key key.Core tree))) broken.Missing (table_place rows.Core) last in
        is_true tree broken.Missing _ f none.1 (no_cores (not_false _ none.0))
