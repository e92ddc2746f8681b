-- The devices of a core beside its memory and its interrupt controller, and the sum of all memories.
use Rattle.std.specs.Prelude.{ℕ, Bool, true, false, ◌+◌, nat_le, List, Option, Some, None, option_and_then}
use Rattle.std.specs.List.{list_any}
use Rattle.std.specs.Result.{result_ok}
use Rattle.std.specs.Str.{bytes_eq}
use Rattle.toml.specs.Data.{Data, Members, as_table, get_member, no_members, member}
use Rattle.board_file.specs.Faults.{fault_unless}
use Rattle.board_file.specs.Read.{number_in}
use Rattle.board_file.specs.Tree.{at_key, rows_in, table_place}
use Rattle.board_file.specs.declared.claims.Claim.{Claim}
use Rattle.board_file.specs.declared.claims.Subject.{Subject}
use Rattle.board_file.specs.declared.claims.Subject.TheVariants.{OfCore}
use Rattle.board_file.specs.declared.fault.BoardRule.TheVariants as broken
use Rattle.board_file.specs.declared.fault.Fault.{Fault}
use Rattle.board_file.specs.declared.keys.Key.TheVariants as key
use Rattle.board_file.specs.declared.keys.Quantity.TheVariants as quantity
use Rattle.board_file.specs.declared.keys.Rows.TheVariants as rows

abbrev pub same_core : Subject → Subject → Bool
same_core (OfCore c n) (OfCore d m) = bytes_eq c d
same_core _ _ = false

-- an input of a core that has no controller
abbrev pub lone_faults : List Claim → Claim → List Fault
lone_faults there c = fault_unless (list_any (λ d. same_core c.on d.on) there) broken.Missing c.place

-- the memory size of a core's row, 65,536 where the file doesn't say; none where it isn't right
abbrev pub size_or_default : Option Data → Option ℕ
size_or_default None = Some 65536
size_or_default (Some d) = result_ok (number_in quantity.Memory d)

abbrev pub size_in : Option Members → Option ℕ
size_in None = None
size_in (Some ms) = size_or_default (at_key key.Memory ms)

unfoldable pub memory_of : Members → List ℕ → Option ℕ
memory_of tree core = size_in (option_and_then as_table (get_member core (rows_in tree rows.Core)))

-- a base below the memory of its core
abbrev pub is_clear : Option ℕ → ℕ → Bool
is_clear None base = true
is_clear (Some size) base = nat_le size base

abbrev pub clears_memory : Members → Subject → Bool
clears_memory tree (OfCore core base) = is_clear (memory_of tree core) base
clears_memory tree _ = true

abbrev pub below_faults : Members → Claim → List Fault
below_faults tree c = fault_unless (clears_memory tree c.on) broken.BadBase c.place

-- the sum of the memories of the cores, where each is right
abbrev pub both : Option ℕ → Option ℕ → Option ℕ
both (Some a) (Some b) = Some (a + b)
both _ _ = None

abbrev pub memory_sum : Members → Option ℕ
memory_sum no_members = Some 0
memory_sum (member name d ms) = both (size_in (as_table d)) (memory_sum ms)

abbrev pub is_affordable : Option ℕ → Bool
is_affordable None = true
is_affordable (Some n) = nat_le n 1_073_741_824

unfoldable pub sum_faults : Members → List Fault
sum_faults tree = fault_unless (is_affordable (memory_sum (rows_in tree rows.Core))) broken.BadMemory (table_place rows.Core)
