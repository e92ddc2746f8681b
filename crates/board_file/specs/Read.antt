-- What the value of a key means, or the code of what is wrong with it.
use Rattle.std.specs.Prelude.{ℕ, ℤ, pos, ◌%◌, ◌==◌, ◌&&◌, ◌||◌, Bool, true, false, nat_le, List, length, Option, Some, None, ok_or, option_and_then, Result, Err, if◌then◌else◌, codes}
use Rattle.std.specs.List.{list_all}
use Rattle.std.specs.Result.{result_ok, result_err}
use Rattle.std.specs.Str.{bytes_eq}
use Rattle.toml.specs.Data.{Data, Members, as_str, as_integer, as_bool, as_table}
use Rattle.host_io.specs.Names.{is_file_name}
use Rattle.board_file.specs.Tree.{at_key, has_core}
use Rattle.board_file.specs.declared.board.Pipeline.{Pipeline}
use Rattle.board_file.specs.declared.board.Pipeline.TheVariants as pipeline
use Rattle.board_file.specs.declared.board.Turn.{Turn}
use Rattle.board_file.specs.declared.board.Turn.TheVariants as turn
use Rattle.board_file.specs.declared.fault.BoardRule.{BoardRule}
use Rattle.board_file.specs.declared.fault.BoardRule.TheVariants as broken
use Rattle.board_file.specs.declared.keys.Key.{Key}
use Rattle.board_file.specs.declared.keys.KeyRule.{KeyRule}
use Rattle.board_file.specs.declared.keys.KeyRule.TheVariants.{Needs, May}
use Rattle.board_file.specs.declared.keys.Kind.{Kind}
use Rattle.board_file.specs.declared.keys.Kind.TheVariants as kind
use Rattle.board_file.specs.declared.keys.Quantity.{Quantity}
use Rattle.board_file.specs.declared.keys.Quantity.TheVariants as quantity

abbrev pub only_if : {X : Type 0} → Bool → X → Option X
only_if holds x = if holds then Some x else None

-- 1 to 24 of a to z, 0 to 9 and `_`
abbrev pub is_name_byte : ℕ → Bool
is_name_byte b = (nat_le 97 b && nat_le b 122) || (nat_le 48 b && nat_le b 57) || b == 95

unfoldable pub is_board_name : List ℕ → Bool
is_board_name bs = nat_le 1 (length bs) && nat_le (length bs) 24 && list_all is_name_byte bs

abbrev pub name_of : List ℕ → Option (List ℕ)
name_of s = only_if (is_board_name s) s

-- the numbers of each quantity
unfoldable pub is_number : Quantity → ℕ → Bool
is_number quantity.Port n = nat_le n 15
is_number quantity.Irq n = nat_le n 31
is_number quantity.Base n = nat_le n 4_294_963_200 && n % 4096 == 0
is_number quantity.Clock n = nat_le 1 n && nat_le n 1_000_000
is_number quantity.Depth n = nat_le 1 n && nat_le n 4096
is_number quantity.Cycle n = nat_le n 1_000_000_000_000
is_number quantity.Memory n = nat_le 4096 n && nat_le n 67_108_864 && n % 4096 == 0

-- the code of a number that is none of them
unfoldable pub number_code : Quantity → BoardRule
number_code quantity.Memory = broken.BadMemory
number_code _ = broken.BadValue

abbrev pub number_of : Quantity → ℤ → Option ℕ
number_of q (pos n) = only_if (is_number q n) n
number_of q _ = None

abbrev pub file_of : List ℕ → Option (List ℕ)
file_of s = only_if (is_file_name s) s

abbrev pub core_of : Members → List ℕ → Option (List ℕ)
core_of tree s = only_if (has_core tree s) s

abbrev pub pipeline_of : List ℕ → Option Pipeline
pipeline_of s =
    if bytes_eq s (codes "plain") then Some pipeline.Plain
    else if bytes_eq s (codes "three") then Some pipeline.Three
    else if bytes_eq s (codes "five") then Some pipeline.Five
    else if bytes_eq s (codes "eight") then Some pipeline.Eight
    else None

abbrev pub turn_of : List ℕ → Option Turn
turn_of s =
    if bytes_eq s (codes "ascending") then Some turn.Ascending
    else if bytes_eq s (codes "descending") then Some turn.Descending
    else if bytes_eq s (codes "rotating") then Some turn.Rotating
    else None

-- whether a break is non-maskable
abbrev pub break_of : List ℕ → Option Bool
break_of s = if bytes_eq s (codes "nonmaskable") then Some true else if bytes_eq s (codes "break") then Some false else None

abbrev pub version_of : ℤ → Option ℕ
version_of (pos n) = if n == 1 then Some 1 else if n == 2 then Some 2 else None
version_of _ = None

-- the fault of a value of another kind is its type, and this is the fault of one of the kind that isn't right
abbrev pub judged : {X Y : Type 0} → BoardRule → (X → Option Y) → Option X → Result Y BoardRule
judged rule means None = Err broken.WrongType
judged rule means (Some x) = ok_or (means x) rule

unfoldable pub flag_in : Data → Result Bool BoardRule
flag_in d = ok_or (as_bool d) broken.WrongType

unfoldable pub number_in : Quantity → Data → Result ℕ BoardRule
number_in q d = judged (number_code q) (number_of q) (as_integer d)

unfoldable pub file_in : Data → Result (List ℕ) BoardRule
file_in d = judged broken.BadFileName file_of (as_str d)

unfoldable pub core_in : Members → Data → Result (List ℕ) BoardRule
core_in tree d = judged broken.UnknownCore (core_of tree) (as_str d)

unfoldable pub pipeline_in : Data → Result Pipeline BoardRule
pipeline_in d = judged broken.UnknownPipeline pipeline_of (as_str d)

unfoldable pub turn_in : Data → Result Turn BoardRule
turn_in d = judged broken.UnknownOrder turn_of (as_str d)

unfoldable pub break_in : Data → Result Bool BoardRule
break_in d = judged broken.BadValue break_of (as_str d)

-- a version of another kind is no other fault than a version that isn't known
unfoldable pub version_in : Data → Result ℕ BoardRule
version_in d = ok_or (option_and_then version_of (as_integer d)) broken.UnknownVersion

unfoldable pub table_in : Data → Result Members BoardRule
table_in d = ok_or (as_table d) broken.WrongType

-- the code of a value that isn't right
unfoldable pub value_code : Members → Kind → Data → Option BoardRule
value_code tree kind.Flag d = result_err (flag_in d)
value_code tree (kind.Number q) d = result_err (number_in q d)
value_code tree kind.File d = result_err (file_in d)
value_code tree kind.CoreName d = result_err (core_in tree d)
value_code tree kind.PipelineName d = result_err (pipeline_in d)
value_code tree kind.OrderName d = result_err (turn_in d)
value_code tree kind.BreakName d = result_err (break_in d)
value_code tree kind.VersionNumber d = result_err (version_in d)
value_code tree kind.Rows d = result_err (table_in d)

-- the code of a key that is missing and may not be
unfoldable pub missing_code : Kind → BoardRule
missing_code kind.VersionNumber = broken.UnknownVersion
missing_code _ = broken.Missing

unfoldable pub key_code : Members → KeyRule → Option Data → Option BoardRule
key_code tree (Needs k v) None = Some (missing_code v)
key_code tree (May k v) None = None
key_code tree (Needs k v) (Some d) = value_code tree v d
key_code tree (May k v) (Some d) = value_code tree v d

-- the meaning of a value that is there and right
abbrev pub right : {X : Type 0} → (Data → Result X BoardRule) → Option Data → Option X
right means None = None
right means (Some d) = result_ok (means d)

unfoldable pub number_at : Quantity → Key → Members → Option ℕ
number_at q k ms = right (number_in q) (at_key k ms)

unfoldable pub file_at : Key → Members → Option (List ℕ)
file_at k ms = right file_in (at_key k ms)

unfoldable pub core_name_at : Members → Key → Members → Option (List ℕ)
core_name_at tree k ms = right (core_in tree) (at_key k ms)
