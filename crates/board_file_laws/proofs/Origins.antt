-- Where a row of a board comes from: a member of the table, which has no fault.
use Rattle.std.proofs.Common.{◌≡◌, ◌⊎◌, inl, inr, ℕ, zero, suc, Bool, true, List, [], ◌∷◌, ◌++◌, slice_get, Option, Some, None, refl, arith}
use Rattle.toml.specs.Data.{Data, Members, as_table, no_members, member, table}
use Rattle.board_file.proofs.Values.{both_nil, true_from_nil, none_from_nil}
use Rattle.board_file.specs.Claims.{claims_in}
use Rattle.board_file.specs.Faults.{fault_at, fault_unless}
use Rattle.board_file.specs.Keys.{row_keys}
use Rattle.board_file.specs.Read.{is_board_name}
use Rattle.board_file.specs.Rows.{AreRows, row_in}
use Rattle.board_file.specs.Rules.{each_row, inner_faults, keys_faults, row_code, row_faults, stray_faults, value_faults, version_in_file}
use Rattle.board_file.specs.Tree.{inside, row_place}
use Rattle.board_file.specs.declared.claims.Claim.{Claim}
use Rattle.board_file.specs.declared.fault.BoardRule.TheVariants as broken
use Rattle.board_file.specs.declared.keys.Rows.{Rows}

abbrev pub names : Members → List (List ℕ)
names no_members = []
names (member name d ms) = name ∷ names ms

abbrev pub IsAmong : Claim → List Claim → Type 0
IsAmong c [] = ⊥
IsAmong c (d ∷ ds) = (d ≡ c) ⊎ IsAmong c ds

pub among_first : (c : Claim) (xs ys : List Claim) → IsAmong c xs → IsAmong c (xs ++ ys)
among_first c [] ys h = elim h [ ]
among_first c (x ∷ xs) ys (inl same) = inl same
among_first c (x ∷ xs) ys (inr more) = inr (among_first c xs ys more)

pub among_later : (c : Claim) (xs ys : List Claim) → IsAmong c ys → IsAmong c (xs ++ ys)
among_later c [] ys h = h
among_later c (x ∷ xs) ys h = inr (among_later c xs ys h)

-- a row of a table without faults has a right name and right keys, and may stand
pub record IsRight (network : Bool) (tree : Members) (r : Rows) (name : List ℕ) (ms : Members) : Type 0 where
  pub named : is_board_name name ≡ true
  pub keys : keys_faults tree (inside (row_place r name)) ms (row_keys (version_in_file tree) r) ≡ []
  pub strays : stray_faults (inside (row_place r name)) (row_keys (version_in_file tree) r) ms ≡ []
  pub code : row_code network r ms ≡ None

pub right_row : (network : Bool) (tree : Members) (r : Rows) (name : List ℕ) (ms : Members) → row_faults network tree r name (table ms) ≡ [] → IsRight network tree r name ms
unfolding row_faults inner_faults
right_row network tree r name ms e =
    let at = row_place r name in
    let parts = both_nil (fault_unless (is_board_name name) broken.BadValue at) (value_faults network tree r at (table ms)) e in
    let rules = row_keys (version_in_file tree) r in
    let front = both_nil (keys_faults tree (inside at) ms rules ++ stray_faults (inside at) rules ms) (fault_at (row_code network r ms) at) parts.1 in
    let keys = both_nil (keys_faults tree (inside at) ms rules) (stray_faults (inside at) rules ms) front.0 in
    record { named = true_from_nil (is_board_name name) broken.BadValue at parts.0; keys = keys.0; strays = keys.1; code = none_from_nil (row_code network r ms) at front.1 }

-- the row at a place is made of the member at this place of the table
pub record IsFrom {R : Type 0} (means : List ℕ → Members → Option R) (all : Members) (k : ℕ) (row : R) : Type 0 where
  pub name : List ℕ
  pub members : Members
  pub made : means name members ≡ Some row
  pub place : slice_get (names all) k ≡ Some name
  pub right : (network : Bool) (tree : Members) (r : Rows) → each_row network tree r all ≡ [] → IsRight network tree r name members
  pub claims : (of : List ℕ → Members → List Claim) (c : Claim) → IsAmong c (of name members) → IsAmong c (claims_in of all)

from_first : {R : Type 0} (means : List ℕ → Members → Option R) (name : List ℕ) (d : Data) (rest : Members) (row : R) → row_in means name (as_table d) ≡ Some row → IsFrom means (member name d rest) zero row
from_first means name (table ms) rest row e =
    record {
      name = name;
      members = ms;
      made = e;
      place = refl;
      right = λ network tree r f. right_row network tree r name ms (both_nil (row_faults network tree r name (table ms)) (each_row network tree r rest) f).0;
      claims = λ of c h. among_first c (of name ms) (claims_in of rest) h;
    }
from_first means name d rest row e = grind arith

from_later : {R : Type 0} (means : List ℕ → Members → Option R) (name : List ℕ) (d : Data) (rest : Members) (k : ℕ) (row : R) → IsFrom means rest k row → IsFrom means (member name d rest) (suc k) row
from_later means name d rest k row h =
    record {
      name = h.name;
      members = h.members;
      made = h.made;
      place = h.place;
      right = λ network tree r f. h.right network tree r (both_nil (row_faults network tree r name d) (each_row network tree r rest) f).1;
      claims = λ of c g. among_later c _ (claims_in of rest) (h.claims of c g);
    }

pub origin : {R : Type 0} (means : List ℕ → Members → Option R) (ms : Members) (xs : List R) → AreRows means ms xs → (k : ℕ) (row : R) → slice_get xs k ≡ Some row → IsFrom means ms k row
origin means no_members [] h k row e = grind arith
origin means no_members (x ∷ xs) h k row e = elim h [ ]
origin means (member name d ms) [] h k row e = elim h [ ]
origin means (member name d ms) (x ∷ xs) h zero row e = from_first means name d ms row (rw e at h.0)
origin means (member name d ms) (x ∷ xs) h (suc k) row e = from_later means name d ms k row (origin means ms xs h.1 k row e)
