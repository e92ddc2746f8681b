-- All faults of the tree of a board file, and the answer to a file that is refused.
use Rattle.std.specs.Prelude.{◌≡◌, ℕ, true, List, [], ◌++◌, flat_map}
use Rattle.toml.specs.Data.{Members}
use Rattle.board_file.specs.Bus.{below_faults, lone_faults, sum_faults}
use Rattle.board_file.specs.Claims.{bases, controllers, core_claims, file_claims, gets, irqs, puts, twice_faults}
use Rattle.board_file.specs.Faults.{IsLeast, code_of, refusal}
use Rattle.board_file.specs.Keys.{tables}
use Rattle.board_file.specs.Rows.{IsBoardOf}
use Rattle.board_file.specs.Rules.{table_faults, top_faults}
use Rattle.board_file.specs.Tree.{IsToml, IsTomlOf, are_ascending, rows_in}
use Rattle.board_file.specs.declared.board.BoardFile.{BoardFile}
use Rattle.board_file.specs.declared.fault.BoardFault.{BoardFault}
use Rattle.board_file.specs.declared.fault.BoardFault.TheVariants.{Refused, NoMemory}
use Rattle.board_file.specs.declared.fault.BoardRule.TheVariants as broken
use Rattle.board_file.specs.declared.fault.Fault.{Fault}
use Rattle.board_file.specs.declared.keys.Rows.{Rows}

-- the faults of the file's own keys, and those that stand in one table
unfoldable pub within_tables : Members → List Fault
within_tables tree = top_faults tree ++ flat_map (table_faults tree) tables

-- two rows that name one file or one port
unfoldable pub naming_faults : Members → List Fault
naming_faults tree =
    twice_faults broken.FileTwice (file_claims tree)
    ++ twice_faults broken.PortTwice (core_claims tree puts)
    ++ twice_faults broken.PortTwice (core_claims tree gets)

-- two devices with one base, and bases in the memory of their core
unfoldable pub base_faults : Members → List Fault
base_faults tree = twice_faults broken.BadBase (core_claims tree bases) ++ flat_map (below_faults tree) (core_claims tree bases)

-- two controllers of a core, two devices on one of its inputs, and a device on an input of no controller
unfoldable pub irq_faults : Members → List Fault
irq_faults tree =
    twice_faults broken.InterruptTwice (core_claims tree controllers)
    ++ twice_faults broken.InterruptTwice (core_claims tree irqs)
    ++ flat_map (lone_faults (core_claims tree controllers)) (core_claims tree irqs)

-- all faults of a tree
unfoldable pub faults : Members → List Fault
faults tree = within_tables tree ++ naming_faults tree ++ base_faults tree ++ irq_faults tree ++ sum_faults tree

-- a file is read: it is the TOML of a tree that has no fault, and the board has the rows of that tree, whose names ascend
pub record IsRead (file : List ℕ) (board : BoardFile) : Type 0 where
  pub tree : Members
  pub is_toml : IsTomlOf file tree
  pub is_right : faults tree ≡ []
  pub is_board : IsBoardOf tree board
  pub ascends : (r : Rows) → are_ascending (rows_in tree r) ≡ true

-- why a file is refused: want of memory, bytes that are no TOML, or the least fault
pub data IsRefusal (file : List ℕ) : BoardFault → Type 0 where
  no_memory : IsRefusal file NoMemory
  not_toml : (IsToml file → ⊥) → IsRefusal file (Refused (code_of broken.NotToml) [])
  least_fault : (tree : Members) (f : Fault) → IsTomlOf file tree → IsLeast f (faults tree) → IsRefusal file (refusal f)
