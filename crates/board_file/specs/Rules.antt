-- The faults that stand in one table: in its rows, in their keys, and in their number.
use Rattle.std.specs.Prelude.{ℕ, Bool, true, false, ◌+◌, ◌==◌, ◌&&◌, not, nat_le, unwrap_or, List, [], ◌∷◌, ◌++◌, flat_map, Option, Some, None, is_some, if◌then◌else◌}
use Rattle.std.specs.List.{list_any}
use Rattle.std.specs.Str.{bytes_eq}
use Rattle.toml.specs.Data.{Data, Members, table, as_table, no_members, member}
use Rattle.board_file.specs.Faults.{fault, fault_at, fault_unless}
use Rattle.board_file.specs.Keys.{key_of, key_text, row_keys, top_keys}
use Rattle.board_file.specs.Read.{flag_in, is_board_name, key_code, right, version_in}
use Rattle.board_file.specs.Tree.{at_key, further, inside, row_place, rows_in, table_place}
use Rattle.board_file.specs.declared.fault.BoardRule.{BoardRule}
use Rattle.board_file.specs.declared.fault.BoardRule.TheVariants as broken
use Rattle.board_file.specs.declared.fault.Fault.{Fault}
use Rattle.board_file.specs.declared.keys.Key.{Key}
use Rattle.board_file.specs.declared.keys.Key.TheVariants as key
use Rattle.board_file.specs.declared.keys.KeyRule.{KeyRule}
use Rattle.board_file.specs.declared.keys.Rows.{Rows}
use Rattle.board_file.specs.declared.keys.Rows.TheVariants as rows

-- each key that a table has is there and right
unfoldable pub key_faults : Members → List ℕ → Members → KeyRule → List Fault
key_faults tree before ms rule = fault_at (key_code tree rule (at_key (key_of rule) ms)) (further before (key_text (key_of rule)))

unfoldable pub keys_faults : Members → List ℕ → Members → List KeyRule → List Fault
keys_faults tree before ms rules = flat_map (key_faults tree before ms) rules

-- no key is there that the table doesn't have
unfoldable pub is_known : List KeyRule → List ℕ → Bool
is_known rules text = list_any (λ rule. bytes_eq (key_text (key_of rule)) text) rules

abbrev pub stray_faults : List ℕ → List KeyRule → Members → List Fault
stray_faults before rules no_members = []
stray_faults before rules (member text d ms) = fault_unless (is_known rules text) broken.UnknownKey (further before text) ++ stray_faults before rules ms

-- an end of a link is a file, or else a core with a port
abbrev pub is_end : Bool → Bool → Bool → Bool
is_end core port file = if file then not core && not port else core && port

abbrev pub has : Key → Members → Bool
has k ms = is_some (at_key k ms)

unfoldable pub is_link : Members → Bool
is_link ms =
    is_end (has key.From ms) (has key.FromPort ms) (has key.FromFile ms)
    && is_end (has key.To ms) (has key.ToPort ms) (has key.ToFile ms)
    && not (has key.FromFile ms && has key.ToFile ms)

abbrev pub code_if : Bool → BoardRule → Option BoardRule
code_if fails rule = if fails then Some rule else None

-- the code of a row that its table or a network board doesn't let stand
unfoldable pub row_code : Bool → Rows → Members → Option BoardRule
row_code network rows.Core ms = None
row_code network rows.Link ms = code_if (not (is_link ms)) broken.BadLink
row_code network rows.Event ms = code_if network broken.EventOnNetwork
row_code network _ ms = code_if network broken.DeviceOnNetwork

-- the version of the file's format
unfoldable pub version_in_file : Members → ℕ
version_in_file tree = unwrap_or (right version_in (at_key key.Version tree)) 1

-- one row: its name, its keys, and whether it may stand
unfoldable pub inner_faults : Bool → Members → Rows → List ℕ → Members → List Fault
inner_faults network tree r at ms =
    keys_faults tree (inside at) ms (row_keys (version_in_file tree) r)
    ++ stray_faults (inside at) (row_keys (version_in_file tree) r) ms
    ++ fault_at (row_code network r ms) at

abbrev pub value_faults : Bool → Members → Rows → List ℕ → Data → List Fault
value_faults network tree r at (table ms) = inner_faults network tree r at ms
value_faults network tree r at _ = fault broken.WrongType at ∷ []

unfoldable pub row_faults : Bool → Members → Rows → List ℕ → Data → List Fault
row_faults network tree r name d = fault_unless (is_board_name name) broken.BadValue (row_place r name) ++ value_faults network tree r (row_place r name) d

abbrev pub each_row : Bool → Members → Rows → Members → List Fault
each_row network tree r no_members = []
each_row network tree r (member name d ms) = row_faults network tree r name d ++ each_row network tree r ms

abbrev pub count_members : Members → ℕ
count_members no_members = 0
count_members (member text d ms) = 1 + count_members ms

-- the most cores and links of a board
abbrev pub most_cores : ℕ → ℕ
most_cores version = if version == 2 then 64 else 16

abbrev pub most_links : ℕ → ℕ
most_links version = if version == 2 then 256 else 64

-- whether a table of a file has no more rows than it may, and the code of more
unfoldable pub are_few : ℕ → Rows → ℕ → Bool
are_few version rows.Core n = nat_le n (most_cores version)
are_few version rows.Link n = nat_le n (most_links version)
are_few version rows.Timer n = nat_le n 64
are_few version rows.Uart n = nat_le n 64
are_few version rows.Event n = nat_le n 256
are_few version rows.Intc n = true

unfoldable pub many_code : Rows → BoardRule
many_code rows.Core = broken.TooManyCores
many_code rows.Link = broken.TooManyLinks
many_code _ = broken.BadValue

unfoldable pub count_faults : Members → Rows → List Fault
count_faults tree r = fault_unless (are_few (version_in_file tree) r (count_members (rows_in tree r))) (many_code r) (table_place r)

unfoldable pub is_network : Members → Bool
is_network tree = unwrap_or (right flag_in (at_key key.Network tree)) false

unfoldable pub table_faults : Members → Rows → List Fault
table_faults tree r = each_row (is_network tree) tree r (rows_in tree r) ++ count_faults tree r

-- the keys of the file itself; an empty table of cores is none
abbrev pub is_empty : Option Members → Bool
is_empty None = false
is_empty (Some ms) = count_members ms == 0

abbrev pub is_empty_table : Option Data → Bool
is_empty_table None = false
is_empty_table (Some d) = is_empty (as_table d)

unfoldable pub top_faults : Members → List Fault
top_faults tree =
    keys_faults tree [] tree top_keys
    ++ stray_faults [] top_keys tree
    ++ fault_unless (not (is_empty_table (at_key key.Core tree))) broken.Missing (table_place rows.Core)
