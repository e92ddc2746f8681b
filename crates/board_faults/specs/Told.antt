-- What each code of a fault says of a board file.
use Rattle.std.specs.Prelude.{◌≡◌, ◌⊎◌, ℕ, ◌<◌, Bool, true, false, ℤ, List, [], ◌∷◌, Some, None, option_and_then, is_some}
use Rattle.toml.specs.Data.{Data, Members, as_bool, as_integer, as_str, as_table, no_members, member}
use Rattle.board_file.specs.Board.{IsRefusal}
use Rattle.board_file.specs.Bus.{memory_of, memory_sum}
use Rattle.board_file.specs.Faults.{code_of, is_earlier}
use Rattle.board_file.specs.Keys.{key_of, key_text, row_keys, top_keys}
use Rattle.board_file.specs.Read.{break_of, core_name_at, file_at, file_of, is_board_name, number_at, number_of, pipeline_of, turn_of, version_of}
use Rattle.board_file.specs.Rules.{count_members, is_empty_table, is_known, is_link, is_network, most_cores, most_links, version_in_file}
use Rattle.board_file.specs.Tree.{IsToml, IsTomlOf, at_key, further, has_core, inside, key_place, row_place, rows_in, table_place}
use Rattle.board_file.specs.declared.fault.BoardFault.TheVariants.{Refused}
use Rattle.board_file.specs.declared.fault.BoardRule.{BoardRule}
use Rattle.board_file.specs.declared.fault.BoardRule.TheVariants as broken
use Rattle.board_file.specs.declared.keys.Key.{Key}
use Rattle.board_file.specs.declared.keys.Key.TheVariants as key
use Rattle.board_file.specs.declared.keys.KeyRule.{KeyRule}
use Rattle.board_file.specs.declared.keys.KeyRule.TheVariants.{May, Needs}
use Rattle.board_file.specs.declared.keys.Kind.{Kind}
use Rattle.board_file.specs.declared.keys.Kind.TheVariants as kind
use Rattle.board_file.specs.declared.keys.Quantity.{Quantity}
use Rattle.board_file.specs.declared.keys.Quantity.TheVariants as quantity
use Rattle.board_file.specs.declared.keys.Rows.{Rows}
use Rattle.board_file.specs.declared.keys.Rows.TheVariants as rows

abbrev pub IsIn : {X : Type 0} → X → List X → Type 0
IsIn x [] = ⊥
IsIn x (y ∷ ys) = (y ≡ x) ⊎ IsIn x ys

-- a member of this name, with this value
abbrev pub IsMember : List ℕ → Data → Members → Type 0
IsMember name d no_members = ⊥
IsMember name d (member n e ms) = ((n ≡ name) × (e ≡ d)) ⊎ IsMember name d ms

-- a table of the file has a row of this name, with these keys
pub record HasRow (tree : Members) (r : Rows) (name : List ℕ) (keys : Members) : Type 0 where
  pub value : Data
  pub there : IsMember name value (rows_in tree r)
  pub is_table : as_table value ≡ Some keys

-- what has keys: the file itself, and each row, by the version; and the path in front of its keys
pub data HasKeys (tree : Members) : List ℕ → Members → List KeyRule → Type 0 where
  the_file : HasKeys tree [] tree top_keys
  a_row : (r : Rows) (name : List ℕ) (keys : Members) → HasRow tree r name keys → HasKeys tree (inside (row_place r name)) keys (row_keys (version_in_file tree) r)

abbrev pub kind_of : KeyRule → Kind
kind_of (Needs k v) = v
kind_of (May k v) = v

-- at this place stands a key whose value is to be of this kind, and this value
pub record HasValue (tree : Members) (place : List ℕ) (v : Kind) (d : Data) : Type 0 where
  pub before : List ℕ
  pub keys : Members
  pub rules : List KeyRule
  pub of_file : HasKeys tree before keys rules
  pub rule : KeyRule
  pub known : IsIn rule rules
  pub of_kind : kind_of rule ≡ v
  pub there : at_key (key_of rule) keys ≡ Some d
  pub at : further before (key_text (key_of rule)) ≡ place

-- at this place a key is missing that is needed there
pub record LacksKey (tree : Members) (place : List ℕ) (v : Kind) : Type 0 where
  pub before : List ℕ
  pub keys : Members
  pub rules : List KeyRule
  pub of_file : HasKeys tree before keys rules
  pub needed : Key
  pub known : IsIn (Needs needed v) rules
  pub missing : at_key needed keys ≡ None
  pub at : further before (key_text needed) ≡ place

-- whether a value has the TOML type of a kind
abbrev pub has_type : Kind → Data → Bool
has_type kind.Flag d = is_some (as_bool d)
has_type (kind.Number q) d = is_some (as_integer d)
has_type kind.Rows d = is_some (as_table d)
has_type kind.VersionNumber d = true
has_type _ d = is_some (as_str d)

abbrev pub is_version : Kind → Bool
is_version kind.VersionNumber = true
is_version _ = false

abbrev pub is_memory : Quantity → Bool
is_memory quantity.Memory = true
is_memory _ = false

-- a row names a core of the board at one key, and a right number at another, whose path is the place
pub record Uses (tree : Members) (r : Rows) (of_core of_number : Key) (q : Quantity) (place core : List ℕ) (n : ℕ) : Type 0 where
  pub name : List ℕ
  pub keys : Members
  pub row : HasRow tree r name keys
  pub core_named : core_name_at tree of_core keys ≡ Some core
  pub number_given : number_at q of_number keys ≡ Some n
  pub at : key_place r name of_number ≡ place

-- a link begins, or ends, at a port of a core
abbrev pub Puts : Members → List ℕ → List ℕ → ℕ → Type 0
Puts tree = Uses tree rows.Link key.From key.FromPort quantity.Port

abbrev pub Gets : Members → List ℕ → List ℕ → ℕ → Type 0
Gets tree = Uses tree rows.Link key.To key.ToPort quantity.Port

-- a device of a core stands at a base
pub data HasBase (tree : Members) (place core : List ℕ) (base : ℕ) : Type 0 where
  timer_base : Uses tree rows.Timer key.Core key.Base quantity.Base place core base → HasBase tree place core base
  controller_base : Uses tree rows.Intc key.Core key.Base quantity.Base place core base → HasBase tree place core base
  uart_base : Uses tree rows.Uart key.Core key.Base quantity.Base place core base → HasBase tree place core base

-- a device of a core leads to an input of its interrupt controller
pub data HasIrq (tree : Members) (place core : List ℕ) (input : ℕ) : Type 0 where
  timer_irq : Uses tree rows.Timer key.Core key.Irq quantity.Irq place core input → HasIrq tree place core input
  uart_irq : Uses tree rows.Uart key.Core key.Irq quantity.Irq place core input → HasIrq tree place core input

-- an interrupt controller of a core
pub record Controls (tree : Members) (place core : List ℕ) : Type 0 where
  pub name : List ℕ
  pub keys : Members
  pub row : HasRow tree rows.Intc name keys
  pub core_named : core_name_at tree key.Core keys ≡ Some core
  pub at : key_place rows.Intc name key.Core ≡ place

-- a row names a file at a key, whose path is the place
pub record NamesFile (tree : Members) (r : Rows) (k : Key) (place file : List ℕ) : Type 0 where
  pub name : List ℕ
  pub keys : Members
  pub row : HasRow tree r name keys
  pub named : file_at k keys ≡ Some file
  pub at : key_place r name k ≡ place

-- a file that a run writes
pub data IsOutput (tree : Members) (place file : List ℕ) : Type 0 where
  link_output : NamesFile tree rows.Link key.ToFile place file → IsOutput tree place file
  uart_output : NamesFile tree rows.Uart key.Output place file → IsOutput tree place file

-- a file that a run reads
pub data IsInput (tree : Members) (place file : List ℕ) : Type 0 where
  link_input : NamesFile tree rows.Link key.FromFile place file → IsInput tree place file
  uart_input : NamesFile tree rows.Uart key.Input place file → IsInput tree place file
  core_image : NamesFile tree rows.Core key.Image place file → IsInput tree place file

-- a device of a core
abbrev pub is_device : Rows → Bool
is_device rows.Timer = true
is_device rows.Intc = true
is_device rows.Uart = true
is_device _ = false

-- the most rows of the tables whose number has the code 606
abbrev pub AreMany : Rows → ℕ → Type 0
AreMany rows.Timer n = 64 < n
AreMany rows.Uart n = 64 < n
AreMany rows.Event n = 256 < n
AreMany _ n = ⊥

-- what a fault at a place says of the tree of a file
pub data Tells (tree : Members) : BoardRule → List ℕ → Type 0 where
  -- the version is missing, or is none that is known
  no_version : (place : List ℕ) → LacksKey tree place kind.VersionNumber → Tells tree broken.UnknownVersion place
  other_version : (place : List ℕ) (d : Data) → HasValue tree place kind.VersionNumber d → option_and_then version_of (as_integer d) ≡ None → Tells tree broken.UnknownVersion place
  -- a key that isn't in the table
  unknown_key : (before : List ℕ) (keys : Members) (rules : List KeyRule) (text : List ℕ) (d : Data) → HasKeys tree before keys rules → IsMember text d keys → is_known rules text ≡ false → Tells tree broken.UnknownKey (further before text)
  -- a key that is needed is missing; no core; an input of a core that has no interrupt controller
  missing_key : (place : List ℕ) (v : Kind) → is_version v ≡ false → LacksKey tree place v → Tells tree broken.Missing place
  no_cores : is_empty_table (at_key key.Core tree) ≡ true → Tells tree broken.Missing (table_place rows.Core)
  no_controller : (place core : List ℕ) (input : ℕ) → HasIrq tree place core input → ((other : List ℕ) → Controls tree other core → ⊥) → Tells tree broken.Missing place
  -- a value of another type than the key's
  other_type : (place : List ℕ) (v : Kind) (d : Data) → HasValue tree place v d → has_type v d ≡ false → Tells tree broken.WrongType place
  no_row : (r : Rows) (name : List ℕ) (d : Data) → IsMember name d (rows_in tree r) → as_table d ≡ None → Tells tree broken.WrongType (row_place r name)
  -- a number outside its range, a kind of break that isn't known, a bad name of a row, too many rows
  bad_number : (place : List ℕ) (q : Quantity) (d : Data) (z : ℤ) → is_memory q ≡ false → HasValue tree place (kind.Number q) d → as_integer d ≡ Some z → number_of q z ≡ None → Tells tree broken.BadValue place
  bad_break : (place : List ℕ) (d : Data) (s : List ℕ) → HasValue tree place kind.BreakName d → as_str d ≡ Some s → break_of s ≡ None → Tells tree broken.BadValue place
  bad_name : (r : Rows) (name : List ℕ) (d : Data) → IsMember name d (rows_in tree r) → is_board_name name ≡ false → Tells tree broken.BadValue (row_place r name)
  many_rows : (r : Rows) → AreMany r (count_members (rows_in tree r)) → Tells tree broken.BadValue (table_place r)
  -- an output that an earlier output names, or an input or image
  output_twice : (place other file : List ℕ) → IsOutput tree place file → IsOutput tree other file → is_earlier other place ≡ true → Tells tree broken.FileTwice place
  output_is_read : (place other file : List ℕ) → IsOutput tree place file → IsInput tree other file → Tells tree broken.FileTwice place
  -- a core that isn't there
  no_core : (place : List ℕ) (d : Data) (s : List ℕ) → HasValue tree place kind.CoreName d → as_str d ≡ Some s → has_core tree s ≡ false → Tells tree broken.UnknownCore place
  -- two links that begin, or end, at one port of a core, of which this one's path is the later
  put_twice : (place other core : List ℕ) (port : ℕ) → Puts tree place core port → Puts tree other core port → is_earlier other place ≡ true → Tells tree broken.PortTwice place
  get_twice : (place other core : List ℕ) (port : ℕ) → Gets tree place core port → Gets tree other core port → is_earlier other place ≡ true → Tells tree broken.PortTwice place
  -- a link that doesn't have at each end a file, or else a core with a port, or that has files at both ends
  bad_link : (name : List ℕ) (keys : Members) → HasRow tree rows.Link name keys → is_link keys ≡ false → Tells tree broken.BadLink (row_place rows.Link name)
  -- a pipeline, an order that isn't known
  bad_pipeline : (place : List ℕ) (d : Data) (s : List ℕ) → HasValue tree place kind.PipelineName d → as_str d ≡ Some s → pipeline_of s ≡ None → Tells tree broken.UnknownPipeline place
  bad_order : (place : List ℕ) (d : Data) (s : List ℕ) → HasValue tree place kind.OrderName d → as_str d ≡ Some s → turn_of s ≡ None → Tells tree broken.UnknownOrder place
  -- two devices of a core at one base, of which this one's path is the later; a base below the core's memory size
  base_twice : (place other core : List ℕ) (base : ℕ) → HasBase tree place core base → HasBase tree other core base → is_earlier other place ≡ true → Tells tree broken.BadBase place
  base_in_memory : (place core : List ℕ) (base size : ℕ) → HasBase tree place core base → memory_of tree core ≡ Some size → base < size → Tells tree broken.BadBase place
  -- two controllers of a core, or two devices at one input of it, of which this one's path is the later
  controller_twice : (place other core : List ℕ) → Controls tree place core → Controls tree other core → is_earlier other place ≡ true → Tells tree broken.InterruptTwice place
  irq_twice : (place other core : List ℕ) (input : ℕ) → HasIrq tree place core input → HasIrq tree other core input → is_earlier other place ≡ true → Tells tree broken.InterruptTwice place
  -- more cores, more links than the version lets be
  many_cores : most_cores (version_in_file tree) < count_members (rows_in tree rows.Core) → Tells tree broken.TooManyCores (table_place rows.Core)
  many_links : most_links (version_in_file tree) < count_members (rows_in tree rows.Link) → Tells tree broken.TooManyLinks (table_place rows.Link)
  -- a device, an event on a network board
  device_on_network : (r : Rows) (name : List ℕ) (keys : Members) → is_device r ≡ true → HasRow tree r name keys → is_network tree ≡ true → Tells tree broken.DeviceOnNetwork (row_place r name)
  event_on_network : (name : List ℕ) (keys : Members) → HasRow tree rows.Event name keys → is_network tree ≡ true → Tells tree broken.EventOnNetwork (row_place rows.Event name)
  -- a size that no memory has; memories that have more than 1 GiB together
  bad_memory : (place : List ℕ) (d : Data) (z : ℤ) → HasValue tree place (kind.Number quantity.Memory) d → as_integer d ≡ Some z → number_of quantity.Memory z ≡ None → Tells tree broken.BadMemory place
  large_memories : (total : ℕ) → memory_sum (rows_in tree rows.Core) ≡ Some total → 1_073_741_824 < total → Tells tree broken.BadMemory (table_place rows.Core)
  -- a name that no file has
  bad_file : (place : List ℕ) (d : Data) (s : List ℕ) → HasValue tree place kind.File d → as_str d ≡ Some s → file_of s ≡ None → Tells tree broken.BadFileName place

-- what a code with a place says of a file: it is no TOML, or the TOML of a tree with that fault
pub data IsTold (file : List ℕ) : ℕ → List ℕ → Type 0 where
  no_toml : (IsToml file → ⊥) → IsTold file (code_of broken.NotToml) []
  faulty : (tree : Members) (rule : BoardRule) (place : List ℕ) → IsTomlOf file tree → Tells tree rule place → IsTold file (code_of rule) place

-- each refusal is true of its file
abbrev pub RefusalsAreTold : Type 0
RefusalsAreTold = (file : List ℕ) (code : ℕ) (place : List ℕ) → IsRefusal file (Refused code place) → IsTold file code place
