-- What stands where in the tree of a board file, and the places of faults.
use Rattle.std.specs.Prelude.{ℕ, List, ◌++◌, take, Option, Some, None, IsUtf8, ◌≡◌, Bool, true, ◌&&◌, is_some, codes, unwrap_or}
use Rattle.toml.specs.Data.{Data, Members, as_table, no_members, member, get_member, is_before}
use Rattle.toml.specs.Parse.{parse_document}
use Rattle.board_file.specs.Keys.{key_text, table_key}
use Rattle.board_file.specs.declared.keys.Key.{Key}
use Rattle.board_file.specs.declared.keys.Rows.{Rows}
use Rattle.board_file.specs.declared.keys.Rows.TheVariants as rows

-- the bytes are the TOML of this tree
abbrev pub IsTomlOf : List ℕ → Members → Type 0
IsTomlOf file tree = IsUtf8 file × (parse_document file ≡ Some tree)

abbrev pub IsToml : List ℕ → Type 0
IsToml file = (tree : Members) × IsTomlOf file tree

abbrev pub at_key : Key → Members → Option Data
at_key k ms = get_member (key_text k) ms

-- the members of a table; a value of another kind has none
abbrev pub members_in : Option Data → Members
members_in None = no_members
members_in (Some d) = unwrap_or (as_table d) no_members

-- the rows of a table of the file, by their names
unfoldable pub rows_in : Members → Rows → Members
rows_in tree r = members_in (at_key (table_key r) tree)

unfoldable pub has_core : Members → List ℕ → Bool
has_core tree name = is_some (get_member name (rows_in tree rows.Core))

-- the names of the members ascend in byte order
abbrev pub are_ascending : Members → Bool
are_ascending no_members = true
are_ascending (member name d ms) = is_before name ms && are_ascending ms

-- A place is a path, of which 64 bytes are kept. More of a path is kept as far as there is room.
abbrev pub place : List ℕ → List ℕ
place path = take 64 path

abbrev pub further : List ℕ → List ℕ → List ℕ
further at more = place (at ++ more)

-- the place in front of what is inside
abbrev pub inside : List ℕ → List ℕ
inside at = further at (codes ".")

unfoldable pub table_place : Rows → List ℕ
table_place r = place (key_text (table_key r))

unfoldable pub row_place : Rows → List ℕ → List ℕ
row_place r name = further (inside (table_place r)) name

unfoldable pub key_place : Rows → List ℕ → Key → List ℕ
key_place r name k = further (inside (row_place r name)) (key_text k)

-- the whole path of a key
abbrev pub key_path : Rows → List ℕ → Key → List ℕ
key_path r name k = key_text (table_key r) ++ codes "." ++ name ++ codes "." ++ key_text k
