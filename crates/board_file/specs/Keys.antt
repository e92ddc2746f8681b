-- The tables of a board file and their keys.
use Rattle.std.specs.Prelude.{ℕ, ◌==◌, List, [], ◌∷◌, ◌++◌, if◌then◌else◌, codes}
use Rattle.board_file.specs.declared.keys.Key.{Key}
use Rattle.board_file.specs.declared.keys.Key.TheVariants as key
use Rattle.board_file.specs.declared.keys.KeyRule.{KeyRule}
use Rattle.board_file.specs.declared.keys.KeyRule.TheVariants.{Needs, May}
use Rattle.board_file.specs.declared.keys.Kind.TheVariants as kind
use Rattle.board_file.specs.declared.keys.Quantity.TheVariants as quantity
use Rattle.board_file.specs.declared.keys.Rows.{Rows}
use Rattle.board_file.specs.declared.keys.Rows.TheVariants as rows

-- how a key is written
unfoldable pub key_text : Key → List ℕ
key_text key.Base = codes "base"
key_text key.Clock = codes "clock"
key_text key.Core = codes "core"
key_text key.Cycle = codes "cycle"
key_text key.Depth = codes "depth"
key_text key.Event = codes "event"
key_text key.Every = codes "every"
key_text key.From = codes "from"
key_text key.FromFile = codes "from_file"
key_text key.FromPort = codes "from_port"
key_text key.Image = codes "image"
key_text key.Input = codes "input"
key_text key.Intc = codes "intc"
key_text key.Irq = codes "irq"
key_text key.Kind = codes "kind"
key_text key.Link = codes "link"
key_text key.Memory = codes "memory"
key_text key.Network = codes "network"
key_text key.Order = codes "order"
key_text key.Output = codes "output"
key_text key.Pipeline = codes "pipeline"
key_text key.Timer = codes "timer"
key_text key.To = codes "to"
key_text key.ToFile = codes "to_file"
key_text key.ToPort = codes "to_port"
key_text key.Uart = codes "uart"
key_text key.Version = codes "version"

unfoldable pub tables : List Rows
tables = rows.Core ∷ rows.Link ∷ rows.Timer ∷ rows.Intc ∷ rows.Uart ∷ rows.Event ∷ []

-- the key of the file under which the rows of a table stand, by their names
unfoldable pub table_key : Rows → Key
table_key rows.Core = key.Core
table_key rows.Link = key.Link
table_key rows.Timer = key.Timer
table_key rows.Intc = key.Intc
table_key rows.Uart = key.Uart
table_key rows.Event = key.Event

abbrev pub key_of : KeyRule → Key
key_of (Needs k v) = k
key_of (May k v) = k

-- the keys of the file itself
unfoldable pub top_keys : List KeyRule
top_keys =
    Needs key.Version kind.VersionNumber ∷
    May key.Order kind.OrderName ∷
    May key.Network kind.Flag ∷
    Needs key.Core kind.Rows ∷
    May key.Link kind.Rows ∷
    May key.Timer kind.Rows ∷
    May key.Intc kind.Rows ∷
    May key.Uart kind.Rows ∷
    May key.Event kind.Rows ∷
    []

-- a device has a clock of its own from version 2 on
abbrev pub clock_keys : ℕ → List KeyRule
clock_keys version = if version == 2 then May key.Clock (kind.Number quantity.Clock) ∷ [] else []

-- the keys of the rows of each table in a version of the format
unfoldable pub row_keys : ℕ → Rows → List KeyRule
row_keys version rows.Core =
    Needs key.Image kind.File ∷
    Needs key.Pipeline kind.PipelineName ∷
    May key.Clock (kind.Number quantity.Clock) ∷
    May key.Memory (kind.Number quantity.Memory) ∷
    []
row_keys version rows.Link =
    May key.Depth (kind.Number quantity.Depth) ∷
    May key.From kind.CoreName ∷
    May key.FromPort (kind.Number quantity.Port) ∷
    May key.FromFile kind.File ∷
    May key.To kind.CoreName ∷
    May key.ToPort (kind.Number quantity.Port) ∷
    May key.ToFile kind.File ∷
    []
row_keys version rows.Timer =
    (Needs key.Core kind.CoreName ∷
    Needs key.Base (kind.Number quantity.Base) ∷
    May key.Irq (kind.Number quantity.Irq) ∷
    []) ++ clock_keys version
row_keys version rows.Intc =
    (Needs key.Core kind.CoreName ∷
    Needs key.Base (kind.Number quantity.Base) ∷
    []) ++ clock_keys version
row_keys version rows.Uart =
    (Needs key.Core kind.CoreName ∷
    Needs key.Base (kind.Number quantity.Base) ∷
    Needs key.Output kind.File ∷
    May key.Irq (kind.Number quantity.Irq) ∷
    May key.Input kind.File ∷
    May key.Every (kind.Number quantity.Clock) ∷
    []) ++ clock_keys version
row_keys version rows.Event =
    Needs key.Core kind.CoreName ∷
    Needs key.Cycle (kind.Number quantity.Cycle) ∷
    Needs key.Kind kind.BreakName ∷
    []
