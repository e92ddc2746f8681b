-- The link law: what a journal says that each link holds, and where each access to a link may stand.
use Rattle.std.specs.Prelude.{◌≡◌, ℕ, ◌<◌, ◌≤◌, ◌==◌, Bool, true, false, if◌then◌else◌, List, [], ◌∷◌, ◌++◌, length, drop, filter, Option, Some, None, slice_get}
use Rattle.std.specs.List.{filter_map}
use Rattle.axi_link.specs.declared.item.Item.{Item}
use Rattle.axi_link.specs.Channel.{Channel}
use Rattle.board_file.specs.declared.board.LinkRow.{LinkRow}
use Rattle.run_journal.specs.declared.entry.Entry.{Entry}
use Rattle.run_journal.specs.declared.entry.What.{What}
use Rattle.run_journal.specs.declared.entry.What.TheVariants.{Got, Sent, Seen, Room, Missed, Wait, HostSent, HostGot}
use Rattle.board_machine.specs.Fabric.{link_from, link_to}

abbrev pub is_link : ℕ → Option ℕ → Bool
is_link link None = false
is_link link (Some k) = k == link

-- the item that an entry of a core puts into a link, and whether it takes one out
abbrev pub put_by : List LinkRow → ℕ → ℕ → What → Option Item
put_by rows link core (Sent port item) = if is_link link (link_from rows core port) then Some item else None
put_by rows link core (HostSent k item) = if k == link then Some item else None
put_by rows link core _ = None

abbrev pub takes_from : List LinkRow → ℕ → ℕ → What → Bool
takes_from rows link core (Got port item) = is_link link (link_to rows core port)
takes_from rows link core (HostGot k item) = k == link
takes_from rows link core _ = false

abbrev pub put_into : List LinkRow → ℕ → List Entry → List Item
put_into rows link = filter_map (λ (e : Entry). put_by rows link e.core e.what)

abbrev pub taken_from : List LinkRow → ℕ → List Entry → ℕ
taken_from rows link journal = length (filter (λ (e : Entry). takes_from rows link e.core e.what) journal)

-- the items that a link holds after a journal: those that were put in, without as many first ones as were taken
abbrev pub holds : List LinkRow → ℕ → List Entry → List Item
holds rows link journal = drop (taken_from rows link journal) (put_into rows link journal)

abbrev pub depth_of : Option LinkRow → ℕ
depth_of None = 0
depth_of (Some r) = r.depth

-- a link after a journal; a port that leads nowhere is a link of depth 0
abbrev pub link_recorded : List LinkRow → List Entry → Option ℕ → Channel
link_recorded rows journal None = record { depth = 0; items = [] }
link_recorded rows journal (Some link) = record { depth = depth_of (slice_get rows link); items = holds rows link journal }

abbrev pub HasFirst : Item → Channel → Type 0
HasFirst item c = slice_get c.items 0 ≡ Some item

abbrev pub HasRoom : Channel → Type 0
HasRoom c = length c.items < c.depth

-- the link to a port is empty, or the one from it is full
abbrev pub IsShut : List LinkRow → List Entry → ℕ → ℕ → Bool → Type 0
IsShut rows before core port true = let c = link_recorded rows before (link_from rows core port) in length c.items ≡ c.depth
IsShut rows before core port false = (link_recorded rows before (link_to rows core port)).items ≡ []

-- an entry may stand after these entries: an item that came out was the first, an item that went in found room, and an
-- access missed or waited only at an empty or full link
abbrev pub MayStand : List LinkRow → List Entry → ℕ → What → Type 0
MayStand rows before core (Got port item) = HasFirst item (link_recorded rows before (link_to rows core port))
MayStand rows before core (Seen port item) = HasFirst item (link_recorded rows before (link_to rows core port))
MayStand rows before core (HostGot link item) = HasFirst item (link_recorded rows before (Some link))
MayStand rows before core (Sent port item) = HasRoom (link_recorded rows before (link_from rows core port))
MayStand rows before core (Room port) = HasRoom (link_recorded rows before (link_from rows core port))
MayStand rows before core (HostSent link item) = HasRoom (link_recorded rows before (Some link))
MayStand rows before core (Missed port full) = IsShut rows before core port full
MayStand rows before core (Wait on) = IsShut rows before core on.port on.full
MayStand rows before core _ = Unit {0}

-- no link holds more than its depth
abbrev pub LinksFit : List LinkRow → List Entry → Type 0
LinksFit rows journal = (link : ℕ) → length (holds rows link journal) ≤ depth_of (slice_get rows link)

-- the law: at each place of the journal no link holds more than its depth, and each entry stands where it may
pub record LinkLaw (rows : List LinkRow) (journal : List Entry) : Type 0 where
  pub fits : (before later : List Entry) → journal ≡ before ++ later → LinksFit rows before
  pub stands : (before later : List Entry) (e : Entry) → journal ≡ before ++ e ∷ later → MayStand rows before e.core e.what
