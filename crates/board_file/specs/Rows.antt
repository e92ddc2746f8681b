-- The board of a tree: each row of each table by its keys.
use Rattle.std.specs.Prelude.{ℕ, Bool, false, ⊤, ◌≡◌, ◌==◌, ◌&&◌, nat_lt, List, [], ◌∷◌, ◌++◌, position, Option, Some, None, option_and_then, option_to_list, unwrap_or}
use Rattle.std.specs.Str.{bytes_eq}
use Rattle.toml.specs.Data.{Members, as_str, as_table, no_members, member}
use Rattle.board_file.specs.Read.{break_in, file_at, name_of, number_at, only_if, pipeline_in, right, turn_in}
use Rattle.board_file.specs.Rules.{is_network, version_in_file}
use Rattle.board_file.specs.Tree.{at_key, rows_in}
use Rattle.board_file.specs.declared.board.BoardFile.{BoardFile}
use Rattle.board_file.specs.declared.board.CoreRow.{CoreRow}
use Rattle.board_file.specs.declared.board.End.{End}
use Rattle.board_file.specs.declared.board.End.TheVariants as end
use Rattle.board_file.specs.declared.board.EventRow.{EventRow}
use Rattle.board_file.specs.declared.board.IntcRow.{IntcRow}
use Rattle.board_file.specs.declared.board.LinkRow.{LinkRow}
use Rattle.board_file.specs.declared.board.Pipeline.{Pipeline}
use Rattle.board_file.specs.declared.board.TimerRow.{TimerRow}
use Rattle.board_file.specs.declared.board.Turn.{Turn}
use Rattle.board_file.specs.declared.board.Turn.TheVariants as turns
use Rattle.board_file.specs.declared.board.UartRow.{UartRow}
use Rattle.board_file.specs.declared.keys.Key.{Key}
use Rattle.board_file.specs.declared.keys.Key.TheVariants as key
use Rattle.board_file.specs.declared.keys.Quantity.TheVariants as quantity
use Rattle.board_file.specs.declared.keys.Rows.TheVariants as rows

-- a core's place in the cores of the board, by the name at a key
abbrev pub small : ℕ → Option ℕ
small k = only_if (nat_lt k 65536) k

abbrev pub place_of : List CoreRow → List ℕ → Option ℕ
place_of cores s = option_and_then small (position (λ core. bytes_eq s core.name) cores)

unfoldable pub core_at : List CoreRow → Key → Members → Option ℕ
core_at cores k ms = option_and_then (place_of cores) (option_and_then as_str (at_key k ms))

-- a core; its clock is 1 and its memory 65,536 bytes where the file doesn't say
abbrev pub core_made : Option (List ℕ) → Option (List ℕ) → Option Pipeline → ℕ → ℕ → Option CoreRow
core_made (Some name) (Some image) (Some pipeline) clock memory = Some (record { name = name; image = image; pipeline = pipeline; clock = clock; memory = memory })
core_made _ _ _ _ _ = None

unfoldable pub core_row : List CoreRow → List ℕ → Members → Option CoreRow
core_row cores name ms =
    core_made (name_of name) (file_at key.Image ms) (right pipeline_in (at_key key.Pipeline ms))
    (unwrap_or (number_at quantity.Clock key.Clock ms) 1) (unwrap_or (number_at quantity.Memory key.Memory ms) 65536)

-- an end of a link is a file, or else a port of a core
abbrev pub end_made : Option ℕ → Option ℕ → Option (List ℕ) → Option End
end_made core port (Some file) = Some (end.File file)
end_made (Some core) (Some port) None = Some (end.Port core port)
end_made _ _ None = None

unfoldable pub from_end : List CoreRow → Members → Option End
from_end cores ms = end_made (core_at cores key.From ms) (number_at quantity.Port key.FromPort ms) (file_at key.FromFile ms)

unfoldable pub to_end : List CoreRow → Members → Option End
to_end cores ms = end_made (core_at cores key.To ms) (number_at quantity.Port key.ToPort ms) (file_at key.ToFile ms)

-- the end of a link is that port of that core
abbrev pub is_port : ℕ → ℕ → End → Bool
is_port core port (end.Port c p) = c == core && p == port
is_port core port (end.File name) = false

-- a link; its depth is 16 where the file doesn't say
abbrev pub link_made : Option (List ℕ) → ℕ → Option End → Option End → Option LinkRow
link_made (Some name) depth (Some from) (Some to) = Some (record { name = name; depth = depth; from = from; to = to })
link_made _ _ _ _ = None

unfoldable pub link_row : List CoreRow → List ℕ → Members → Option LinkRow
link_row cores name ms = link_made (name_of name) (unwrap_or (number_at quantity.Depth key.Depth ms) 16) (from_end cores ms) (to_end cores ms)

-- the clock of a device, which is 1 where the file doesn't say
unfoldable pub device_clock : Members → ℕ
device_clock ms = unwrap_or (number_at quantity.Clock key.Clock ms) 1

abbrev pub timer_made : Option (List ℕ) → Option ℕ → Option ℕ → Option ℕ → ℕ → Option TimerRow
timer_made (Some name) (Some core) (Some base) irq clock = Some (record { name = name; core = core; base = base; irq = irq; clock = clock })
timer_made _ _ _ _ _ = None

unfoldable pub timer_row : List CoreRow → List ℕ → Members → Option TimerRow
timer_row cores name ms =
    timer_made (name_of name) (core_at cores key.Core ms) (number_at quantity.Base key.Base ms) (number_at quantity.Irq key.Irq ms)
    (device_clock ms)

abbrev pub intc_made : Option (List ℕ) → Option ℕ → Option ℕ → ℕ → Option IntcRow
intc_made (Some name) (Some core) (Some base) clock = Some (record { name = name; core = core; base = base; clock = clock })
intc_made _ _ _ _ = None

unfoldable pub intc_row : List CoreRow → List ℕ → Members → Option IntcRow
intc_row cores name ms = intc_made (name_of name) (core_at cores key.Core ms) (number_at quantity.Base key.Base ms) (device_clock ms)

-- a UART; its `every` is 64 where the file doesn't say
abbrev pub uart_made : Option (List ℕ) → Option ℕ → Option ℕ → Option (List ℕ) → Option ℕ → Option (List ℕ) → ℕ → ℕ → Option UartRow
uart_made (Some name) (Some core) (Some base) (Some output) irq input every clock =
    Some (record { name = name; core = core; base = base; output = output; irq = irq; input = input; every = every; clock = clock })
uart_made _ _ _ _ _ _ _ _ = None

unfoldable pub uart_row : List CoreRow → List ℕ → Members → Option UartRow
uart_row cores name ms =
    uart_made (name_of name) (core_at cores key.Core ms) (number_at quantity.Base key.Base ms) (file_at key.Output ms)
    (number_at quantity.Irq key.Irq ms) (file_at key.Input ms) (unwrap_or (number_at quantity.Clock key.Every ms) 64)
    (device_clock ms)

abbrev pub event_made : Option (List ℕ) → Option ℕ → Option ℕ → Option Bool → Option EventRow
event_made (Some name) (Some core) (Some cycle) (Some nonmaskable) = Some (record { name = name; core = core; cycle = cycle; nonmaskable = nonmaskable })
event_made _ _ _ _ = None

unfoldable pub event_row : List CoreRow → List ℕ → Members → Option EventRow
event_row cores name ms = event_made (name_of name) (core_at cores key.Core ms) (number_at quantity.Cycle key.Cycle ms) (right break_in (at_key key.Kind ms))

-- the rows of a table that are right, in the order of the table
abbrev pub row_in : {R : Type 0} → (List ℕ → Members → Option R) → List ℕ → Option Members → Option R
row_in means name None = None
row_in means name (Some ms) = means name ms

abbrev pub rows_by : {R : Type 0} → (List ℕ → Members → Option R) → Members → List R
rows_by means no_members = []
rows_by means (member name d ms) = option_to_list (row_in means name (as_table d)) ++ rows_by means ms

-- one row for each member of a table, in the order of the table
abbrev pub AreRows : {R : Type 0} → (List ℕ → Members → Option R) → Members → List R → Type 0
AreRows means no_members [] = ⊤
AreRows means (member name d ms) (row ∷ more) = (row_in means name (as_table d) ≡ Some row) × AreRows means ms more
AreRows means _ _ = ⊥

unfoldable pub turn_in_file : Members → Turn
turn_in_file tree = unwrap_or (right turn_in (at_key key.Order tree)) turns.Ascending

-- the board with the rows that are right
abbrev pub board_with : Members → List CoreRow → BoardFile
board_with tree cores =
    record {
      version = version_in_file tree;
      turn = turn_in_file tree;
      network = is_network tree;
      cores = cores;
      links = rows_by (link_row cores) (rows_in tree rows.Link);
      timers = rows_by (timer_row cores) (rows_in tree rows.Timer);
      intcs = rows_by (intc_row cores) (rows_in tree rows.Intc);
      uarts = rows_by (uart_row cores) (rows_in tree rows.Uart);
      events = rows_by (event_row cores) (rows_in tree rows.Event);
    }

unfoldable pub board_of : Members → BoardFile
board_of tree = board_with tree (rows_by (core_row []) (rows_in tree rows.Core))

-- the board of a tree has each row of each table of the tree, in the order of the table
pub record IsBoardOf (tree : Members) (board : BoardFile) : Type 0 where
  pub version : board.version ≡ version_in_file tree
  pub turn : board.turn ≡ turn_in_file tree
  pub network : board.network ≡ is_network tree
  pub cores : AreRows (core_row []) (rows_in tree rows.Core) board.cores
  pub links : AreRows (link_row board.cores) (rows_in tree rows.Link) board.links
  pub timers : AreRows (timer_row board.cores) (rows_in tree rows.Timer) board.timers
  pub intcs : AreRows (intc_row board.cores) (rows_in tree rows.Intc) board.intcs
  pub uarts : AreRows (uart_row board.cores) (rows_in tree rows.Uart) board.uarts
  pub events : AreRows (event_row board.cores) (rows_in tree rows.Event) board.events
