-- Where the tree has no fault, each member of its tables has a row.
use Rattle.std.proofs.Common.{◌≡◌, ℕ, ◌+◌, ◌<◌, ◌≤◌, Bool, true, false, ◌||◌, not, nat_le, nat_lt, cond, List, [], ◌∷◌, ◌++◌, length, Option, Some, None, Ordering, Less, Equal, Greater, option_and_then, option_to_list, ◌⊎◌, inl, inr, refl, ap, sym, ◌∙◌, subst, arith}
use Rattle.std.proofs.lemmas.Map.Text.{is_eq-slice_cmp}
use Rattle.std.specs.Cmp.Lexicographic.{slice_cmp}
use Rattle.std.specs.List.{list_any, position_or_len}
use Rattle.std.specs.Option.{is_some}
use Rattle.std.specs.Ordering.{is_eq, match_ordering, nat_cmp}
use Rattle.std.specs.Str.{bytes_eq}
use Rattle.toml.specs.Data.{Data, Members, as_table, get_member, no_members, member, table}
use Rattle.board_file.proofs.Values.{both_nil, true_from_nil, none_from_nil}
use Rattle.board_file.specs.Faults.{fault_at, fault_unless}
use Rattle.board_file.specs.Keys.{row_keys}
use Rattle.board_file.specs.Read.{is_board_name, name_of, only_if}
use Rattle.board_file.specs.Rows.{AreRows, core_made, core_row, place_of, row_in, rows_by, small}
use Rattle.board_file.specs.Rules.{count_members, each_row, inner_faults, keys_faults, row_code, row_faults, stray_faults, value_faults, version_in_file}
use Rattle.board_file.specs.Tree.{has_core, inside, row_place, rows_in}
use Rattle.board_file.specs.declared.board.CoreRow.{CoreRow}
use Rattle.board_file.specs.declared.board.Pipeline.{Pipeline}
use Rattle.board_file.specs.declared.fault.BoardRule.TheVariants as broken
use Rattle.board_file.specs.declared.keys.Rows.{Rows}
use Rattle.board_file.specs.declared.keys.Rows.TheVariants as rows

-- a row without faults is a table, whose name and keys are right
pub record IsRight (network : Bool) (tree : Members) (r : Rows) (name : List ℕ) (d : Data) : Type 0 where
  pub named : is_board_name name ≡ true
  pub members : Members
  pub is_table : as_table d ≡ Some members
  pub keys : keys_faults tree (inside (row_place r name)) members (row_keys (version_in_file tree) r) ≡ []
  pub code : row_code network r members ≡ None

right_table : (network : Bool) (tree : Members) (r : Rows) (name : List ℕ) (ms : Members) → is_board_name name ≡ true → inner_faults network tree r (row_place r name) ms ≡ [] → IsRight network tree r name (table ms)
unfolding inner_faults
right_table network tree r name ms named e =
    let at = row_place r name in
    let rules = row_keys (version_in_file tree) r in
    let front = both_nil (keys_faults tree (inside at) ms rules ++ stray_faults (inside at) rules ms) (fault_at (row_code network r ms) at) e in
    let keys = both_nil (keys_faults tree (inside at) ms rules) (stray_faults (inside at) rules ms) front.0 in
    record { named = named; members = ms; is_table = refl; keys = keys.0; code = none_from_nil (row_code network r ms) at front.1 }

right_value : (network : Bool) (tree : Members) (r : Rows) (name : List ℕ) (d : Data) → is_board_name name ≡ true → value_faults network tree r (row_place r name) d ≡ [] → IsRight network tree r name d
right_value network tree r name (table ms) named e = right_table network tree r name ms named e
right_value network tree r name d named e = grind arith

right_row : (network : Bool) (tree : Members) (r : Rows) (name : List ℕ) (d : Data) → row_faults network tree r name d ≡ [] → IsRight network tree r name d
unfolding row_faults
right_row network tree r name d e =
    let parts = both_nil (fault_unless (is_board_name name) broken.BadValue (row_place r name)) (value_faults network tree r (row_place r name) d) e in
    right_value network tree r name d (true_from_nil (is_board_name name) broken.BadValue (row_place r name) parts.0) parts.1

-- how a row is made of a table that is right
pub record Makes {R : Type 0} (network : Bool) (tree : Members) (r : Rows) (means : List ℕ → Members → Option R) : Type 0 where
  pub made : (name : List ℕ) (ms : Members) → is_board_name name ≡ true → keys_faults tree (inside (row_place r name)) ms (row_keys (version_in_file tree) r) ≡ [] → row_code network r ms ≡ None → (row : R) × (means name ms ≡ Some row)

one_row : {R : Type 0} (network : Bool) (tree : Members) (r : Rows) (means : List ℕ → Members → Option R) → Makes network tree r means → (name : List ℕ) (d : Data) → IsRight network tree r name d → (row : R) × (row_in means name (as_table d) ≡ Some row)
one_row network tree r means how name d h =
    let m = how.made name h.members h.named h.keys h.code in
    (m.0, rw h.is_table m.1)

pub all_rows : {R : Type 0} (network : Bool) (tree : Members) (r : Rows) (means : List ℕ → Members → Option R) → Makes network tree r means → (ms : Members) → each_row network tree r ms ≡ [] → AreRows means ms (rows_by means ms)
all_rows network tree r means how no_members e = tt
all_rows network tree r means how (member name d ms) e =
    let parts = both_nil (row_faults network tree r name d) (each_row network tree r ms) e in
    let first = one_row network tree r means how name d (right_row network tree r name d parts.0) in
    subst (λ o. AreRows means (member name d ms) (option_to_list o ++ rows_by means ms)) (sym first.1) (first.1, all_rows network tree r means how ms parts.1)

-- there are as many rows as members
pub same_count : {R : Type 0} (means : List ℕ → Members → Option R) (ms : Members) (xs : List R) → AreRows means ms xs → length xs ≡ count_members ms
same_count means no_members [] h = refl
same_count means no_members (x ∷ xs) h = elim h [ ]
same_count means (member name d ms) [] h = elim h [ ]
same_count means (member name d ms) (x ∷ xs) h = let more = same_count means ms xs h.1 in grind (arith, more)

-- a core's row has the core's name
made_name : (name image : Option (List ℕ)) (pipeline : Option Pipeline) (clock memory : ℕ) (core : CoreRow) → core_made name image pipeline clock memory ≡ Some core → name ≡ Some core.name
made_name (Some n) (Some i) (Some p) clock memory core e = grind arith
made_name None i p clock memory core e = grind arith
made_name (Some n) None p clock memory core e = grind arith
made_name (Some n) (Some i) None clock memory core e = grind arith

same_name : (name found : List ℕ) → name_of name ≡ Some found → found ≡ name
same_name name found e = picked (is_board_name name) e
  where
    picked : (holds : Bool) → only_if holds name ≡ Some found → found ≡ name
    picked true h = grind (arith, h)
    picked false h = grind (arith, h)

core_name : (name : List ℕ) (o : Option Members) (core : CoreRow) → row_in (core_row []) name o ≡ Some core → core.name ≡ name
unfolding core_row
core_name name None core e = grind arith
core_name name (Some ms) core e = same_name name core.name (made_name (name_of name) _ _ _ _ core e)

-- a core that is there has its place among the cores
met : (o : Ordering) (rest : Option Data) (d : Data) → is_some (match_ordering o rest (Some d) rest) ≡ true → (is_eq o ≡ true) ⊎ (is_some rest ≡ true)
met Less rest d e = inr e
met Equal rest d e = inl refl
met Greater rest d e = inr e

or_first : (a b : Bool) → a ≡ true → (a || b) ≡ true
or_first true b e = refl
or_first false b e = grind arith

or_second : (a b : Bool) → b ≡ true → (a || b) ≡ true
or_second true b e = refl
or_second false b e = e

first_or_later : (s l : List ℕ) (later : Bool) (core : CoreRow) → core.name ≡ l → (is_eq (slice_cmp nat_cmp s l) ≡ true) ⊎ (later ≡ true) → (bytes_eq s core.name || later) ≡ true
first_or_later s l later core named (inl same) = or_first _ _ (ap (bytes_eq s) named ∙ sym (is_eq-slice_cmp s l) ∙ same)
first_or_later s l later core named (inr more) = or_second _ _ more

later_too : (a b c : Bool) → (b ≡ true → c ≡ true) → (a ≡ true) ⊎ (b ≡ true) → (a ≡ true) ⊎ (c ≡ true)
later_too a b c f (inl h) = inl h
later_too a b c f (inr h) = inr (f h)

some_core : (s : List ℕ) (ms : Members) (cores : List CoreRow) → AreRows (core_row []) ms cores → is_some (get_member s ms) ≡ true → list_any (λ core. bytes_eq s core.name) cores ≡ true
some_core s no_members cores h e = grind arith
some_core s (member l d ms) [] h e = elim h [ ]
some_core s (member l d ms) (core ∷ cores) h e =
    first_or_later s l _ core (core_name l (as_table d) core h.0)
    (later_too _ _ _ (λ more. some_core s ms cores h.1 more) (met (slice_cmp nat_cmp s l) (get_member s ms) d e))

found_or_later : (b later : Bool) (at n : ℕ) → (later ≡ true → at < n) → (b || later) ≡ true → cond (not b) (1 + at) 0 < 1 + n
found_or_later true later at n f h = omega arith
found_or_later false later at n f h = let more = f h in omega (arith, more)

before_end : (p : CoreRow → Bool) (cores : List CoreRow) → list_any p cores ≡ true → position_or_len p cores < length cores
before_end p [] e = grind arith
before_end p (core ∷ cores) e =
    let here = found_or_later (p core) (list_any p cores) (position_or_len p cores) (length cores) (λ more. before_end p cores more) e in
    grind (arith, here)

pub record ArePlaced (tree : Members) (cores : List CoreRow) : Type 0 where
  pub placed : (s : List ℕ) → has_core tree s ≡ true → (k : ℕ) × (place_of cores s ≡ Some k)

place_below : (at n : ℕ) → at < n → n ≤ 64 → option_and_then small (cond (nat_lt at n) (Some at) None) ≡ Some at
place_below at n below few = grind arith

pub cores_placed : (tree : Members) (cores : List CoreRow) → AreRows (core_row []) (rows_in tree rows.Core) cores → nat_le (count_members (rows_in tree rows.Core)) 64 ≡ true → ArePlaced tree cores
unfolding has_core
cores_placed tree cores h few =
    let count = same_count (core_row []) (rows_in tree rows.Core) cores h in
    let short : length cores ≤ 64 = grind (arith, count, few) in
    record {
      placed = λ s there.
          let below = before_end (λ core. bytes_eq s core.name) cores (some_core s (rows_in tree rows.Core) cores h there) in
          (position_or_len (λ core. bytes_eq s core.name) cores, place_below _ _ below short);
    }
