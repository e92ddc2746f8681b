-- All of a board but its cores: links, files, devices, breaks, lines and the journal; and what an entry leaves of it.
use Rattle.std.specs.Prelude.{◌≡◌, ℕ, zero, suc, ◌+◌, ◌-◌, ◌==◌, ◌&&◌, ◌||◌, not, Bool, true, false, if◌then◌else◌, List, [], ◌∷◌, ◌++◌, Option, Some, None, slice_get, slice_set, position, nat_lt, filter}
use Rattle.std.specs.Option.{is_some}
use Rattle.std.specs.List.{fold, list_any}
use Rattle.axi_link.specs.declared.item.Item.{Item}
use Rattle.axi_link.specs.Channel.{Channel, has_room, oldest, with_newest, without_oldest}
use Rattle.core_regs.specs.declared.causes.Take.{Take}
use Rattle.core_regs.specs.declared.causes.Take.TheVariants.{Interrupt, Break, NonMaskable}
use Rattle.core_regs.specs.declared.causes.WaitOn.{WaitOn}
use Rattle.isa_step.specs.declared.acts.Act.{Act}
use Rattle.isa_step.specs.declared.acts.Act.TheVariants as acts
use Rattle.isa_step.specs.declared.acts.Action.{Action}
use Rattle.isa_step.specs.declared.acts.Action.TheVariants as action
use Rattle.isa_step.specs.declared.acts.Breaks.{Breaks}
use Rattle.isa_step.specs.declared.acts.Hopes.{Hopes}
use Rattle.isa_step.specs.Shown.{Shown}
use Rattle.isa_step.specs.Effects.{Effect}
use Rattle.run_journal.specs.declared.entry.Entry.{Entry}
use Rattle.run_journal.specs.declared.entry.What.{What}
use Rattle.run_journal.specs.declared.entry.What.TheVariants.{Got, Sent, Seen, Room, Missed, Read, ReadRefused, Wrote, WriteRefused, Took, Raised, Slept, Stopped, Wait, LineUp, LineDown, HostSent, HostGot}
use Rattle.board_file.specs.declared.board.End.{End}
use Rattle.board_file.specs.declared.board.End.TheVariants.{Port, File}
use Rattle.board_machine.specs.declared.events.HostPart.{HostPart}
use Rattle.board_machine.specs.declared.events.HostPart.TheVariants.{Sends, Takes, Nothing}
use Rattle.board_file.specs.declared.board.EventRow.{EventRow}
use Rattle.board_file.specs.declared.board.IntcRow.{IntcRow}
use Rattle.board_file.specs.declared.board.LinkRow.{LinkRow}
use Rattle.bus_map.specs.declared.device.Access.TheVariants.{Read as ReadAt, Write as WriteAt}
pub use Rattle.board_file.specs.Rows.{is_port}
use Rattle.board_machine.specs.Places.{touch}
use Rattle.board_machine.specs.Bus.{DeviceRows, Devices, accessed_at, answer_at, offset_in, spot_at}

-- the input file of a link: its items, and how many of them went into the link
pub record Feed : Type 0 where
  pub items : List Item
  pub place : ℕ

-- the rows of the links and of the devices, the cycle number, the links, their input files, the devices, the latched
-- interrupt lines and the pending breaks of each core, the breaks that are left, the journal, and how many more entries
-- it has room for
pub record Fabric : Type 0 where
  pub rows : List LinkRow
  pub bus : DeviceRows
  pub cycle : ℕ
  pub links : List Channel
  pub feeds : List Feed
  pub devices : Devices
  pub lines : List Bool
  pub pending : List Breaks
  pub left : List EventRow
  pub journal : List Entry
  pub spare : ℕ

-- what a core sees

-- the link that leads to a port of a core, and the one that leads from it
abbrev pub link_to : List LinkRow → ℕ → ℕ → Option ℕ
link_to rows core port = position (λ r. is_port core port r.to) rows

abbrev pub link_from : List LinkRow → ℕ → ℕ → Option ℕ
link_from rows core port = position (λ r. is_port core port r.from) rows

abbrev pub channel_at : List Channel → Option ℕ → Option Channel
channel_at links None = None
channel_at links (Some k) = slice_get links k

-- a port that leads nowhere is a link of depth 0: always empty, and always full
abbrev pub first_in : Option Channel → Option Item
first_in None = None
first_in (Some c) = oldest c

abbrev pub room_in : Option Channel → Bool
room_in None = false
room_in (Some c) = has_room c

abbrev pub no_breaks : Breaks
no_breaks = record { maskable = false; nonmaskable = false }

abbrev pub or_none : Option Breaks → Breaks
or_none None = no_breaks
or_none (Some b) = b

abbrev pub or_low : Option Bool → Bool
or_low None = false
or_low (Some high) = high

abbrev pub is_break : ℕ → Bool → EventRow → Bool
is_break core true r = r.core == core && r.nonmaskable
is_break core false r = r.core == core && not r.nonmaskable

abbrev pub is_on : ℕ → IntcRow → Bool
is_on core r = r.core == core

abbrev pub breaks_at : Fabric → ℕ → Breaks
breaks_at f core = or_none (slice_get f.pending core)

abbrev pub has_controller : Fabric → ℕ → Bool
has_controller f core = list_any (is_on core) f.bus.intcs

-- what can still come: whether the core has a controller, and of each kind of break whether one is pending or left
abbrev pub hopes_at : Fabric → ℕ → Hopes
hopes_at f core = record {
  interrupt = has_controller f core;
  maskable = (breaks_at f core).maskable || list_any (is_break core false) f.left;
  nonmaskable = (breaks_at f core).nonmaskable || list_any (is_break core true) f.left;
}

-- the interrupt line of a core, as it was latched; only a controller drives it, so without one it is low
abbrev pub line_at : Fabric → ℕ → Bool
line_at f core = has_controller f core && or_low (slice_get f.lines core)

-- what the ports of a core show
abbrev pub shown : Fabric → ℕ → Shown
shown f core = record {
  line = line_at f core;
  breaks = breaks_at f core;
  hopes = hopes_at f core;
  first = λ port. first_in (channel_at f.links (link_to f.rows core port));
  room = λ port. room_in (channel_at f.links (link_from f.rows core port));
  bus_word = λ addr. answer_at f.devices (ReadAt (offset_in addr)) (spot_at f.bus core addr);
  bus_takes = λ addr word. is_some (answer_at f.devices (WriteAt (offset_in addr) word) (spot_at f.bus core addr));
}

-- what an entry leaves

-- one link changed
abbrev pub changed : (Channel → Channel) → List Channel → Option ℕ → List Channel
changed change links None = links
changed change links (Some k) = touch change k links

abbrev pub links_after : List LinkRow → ℕ → What → List Channel → List Channel
links_after rows core (Got port item) links = changed without_oldest links (link_to rows core port)
links_after rows core (Sent port item) links = changed (with_newest item) links (link_from rows core port)
links_after rows core (HostSent link item) links = touch (with_newest item) link links
links_after rows core (HostGot link item) links = touch without_oldest link links
links_after rows core _ links = links

abbrev pub advanced : Feed → Feed
advanced d = record d { place = d.place + 1 }

abbrev pub feeds_after : What → List Feed → List Feed
feeds_after (HostSent link item) feeds = touch advanced link feeds
feeds_after _ feeds = feeds

-- a take of a break clears its flag
abbrev pub cleared : Take → Breaks → Breaks
cleared Interrupt b = b
cleared Break b = record b { maskable = false }
cleared NonMaskable b = record b { nonmaskable = false }

abbrev pub pending_after : ℕ → What → List Breaks → List Breaks
pending_after core (Took t) pending = touch (cleared t) core pending
pending_after core _ pending = pending

-- an access to the bus changes the device that answers it
abbrev pub devices_after : DeviceRows → ℕ → What → Devices → Devices
devices_after bus core (Read addr word) devices = accessed_at devices (ReadAt (offset_in addr)) (spot_at bus core addr)
devices_after bus core (Wrote addr word) devices = accessed_at devices (WriteAt (offset_in addr) word) (spot_at bus core addr)
devices_after bus core _ devices = devices

-- where a line is latched
abbrev pub line_told : What → Option Bool
line_told LineUp = Some true
line_told LineDown = Some false
line_told _ = None

abbrev pub line_set : ℕ → Option Bool → List Bool → List Bool
line_set core None lines = lines
line_set core (Some high) lines = slice_set lines core high

abbrev pub entry_of : ℕ → ℕ → ℕ → What → Entry
entry_of cycle core act what = record { cycle = cycle; core = core; act = act; what = what }

-- with one more entry in the journal
abbrev pub noted : ℕ → ℕ → What → Fabric → Fabric
noted core act what f = record f { journal = f.journal ++ entry_of f.cycle core act what ∷ []; spare = f.spare - 1 }

-- the fabric after an entry, and what it says is done
abbrev pub entered : ℕ → ℕ → What → Fabric → Fabric
entered core act what f = record (noted core act what f) {
  links = links_after f.rows core what f.links;
  feeds = feeds_after what f.feeds;
  pending = pending_after core what f.pending;
  devices = devices_after f.bus core what f.devices;
  lines = line_set core (line_told what) f.lines;
}

abbrev pub entered_some : ℕ → ℕ → Option What → Fabric → Fabric
entered_some core act None f = f
entered_some core act (Some what) f = entered core act what f

-- the entry of an action at the ports
abbrev pub entry_of_action : Action → What
entry_of_action (action.Took t) = Took t
entry_of_action (action.Got port item) = Got port item
entry_of_action (action.Sent port item) = Sent port item
entry_of_action (action.Seen port item) = Seen port item
entry_of_action (action.Room port) = Room port
entry_of_action (action.Missed port full) = Missed port full
entry_of_action (action.Read addr word) = Read addr word
entry_of_action (action.ReadRefused addr) = ReadRefused addr
entry_of_action (action.Wrote addr word) = Wrote addr word
entry_of_action (action.WriteRefused addr word) = WriteRefused addr word

abbrev pub entries_of_action : Option Action → Option What
entries_of_action None = None
entries_of_action (Some a) = Some (entry_of_action a)

-- what an act enters itself: a raise, a sleep and a stop; a take is entered as an action
abbrev pub entry_of_act : Act → Option What
entry_of_act acts.Retired = None
entry_of_act acts.Slept = Some Slept
entry_of_act (acts.Took t) = None
entry_of_act (acts.Raised esr) = Some (Raised esr)
entry_of_act (acts.Stopped cause) = Some (Stopped cause)

-- the fabric after an act: its action at the ports, and then the act itself
abbrev pub act_leaves : ℕ → ℕ → Effect → Fabric → Fabric
act_leaves core act effect f = entered_some core act (entry_of_act effect.done.act) (entered_some core act (entries_of_action effect.action) f)

-- waits

abbrev pub is_wait : What → Bool
is_wait (Wait on) = true
is_wait _ = false

abbrev pub kept_after : ℕ → Option ℕ → Entry → Option ℕ
kept_after core kept e = if e.core == core && is_wait e.what then Some e.act else kept

-- the act number that the last Wait entry of a core bears
unfoldable pub logged_wait : ℕ → List Entry → Option ℕ
logged_wait core journal = fold (kept_after core) None journal

abbrev pub is_act : Option ℕ → ℕ → Bool
is_act None act = false
is_act (Some a) act = a == act

-- a wait is kept from its entry to the core's next act: the core's last Wait entry bears the number of the act to come
abbrev pub is_logged : ℕ → ℕ → List Entry → Bool
is_logged core act journal = is_act (logged_wait core journal) act

-- a list that says for each core which act its last Wait entry bears
pub record KeepsWaits (waits : List (Option ℕ)) (journal : List Entry) : Type 0 where
  pub each : (core : ℕ) (kept : Option ℕ) → slice_get waits core ≡ Some kept → kept ≡ logged_wait core journal

-- the fabric after a tick that waits: the wait is entered where none is kept
abbrev pub waited : ℕ → ℕ → WaitOn → Fabric → Fabric
waited core act on f = if is_logged core act f.journal then f else entered core act (Wait on) f

-- the host

-- entries of the host have no core, and 0 as their act
abbrev pub no_core : ℕ
no_core = 65535

-- the next item of an input file
abbrev pub next_of : Option Feed → Option Item
next_of None = None
next_of (Some d) = slice_get d.items d.place

abbrev pub sent_of : ℕ → Option Item → Option What
sent_of link None = None
sent_of link (Some item) = Some (HostSent link item)

abbrev pub got_of : ℕ → Option Item → Option What
got_of link None = None
got_of link (Some item) = Some (HostGot link item)

-- a link from a file gets the file's items, and a link to a file gives its items
abbrev pub part_by : End → End → HostPart
part_by (File name) to = Sends
part_by (Port core port) (File name) = Takes
part_by (Port core port) (Port other place) = Nothing

abbrev pub part_at : Option LinkRow → HostPart
part_at None = Nothing
part_at (Some r) = part_by r.from r.to

-- the next item of the file where there is room, and the first item of the link
abbrev pub next_sent : Fabric → ℕ → Option Item
next_sent f link = if room_in (slice_get f.links link) then next_of (slice_get f.feeds link) else None

abbrev pub move_by : Fabric → ℕ → HostPart → Option What
move_by f link Sends = sent_of link (next_sent f link)
move_by f link Takes = got_of link (first_in (slice_get f.links link))
move_by f link Nothing = None

-- the one move that the host can do at a link
abbrev pub move_of : Fabric → ℕ → Option What
move_of f link = move_by f link (part_at (slice_get f.rows link))

abbrev pub moved : ℕ → Fabric → Fabric
moved link f = entered_some no_core 0 (move_of f link) f

-- the host's moves at the first links, in board order
abbrev pub host_moves : Fabric → ℕ → Fabric
host_moves f zero = f
host_moves f (suc link) = moved link (host_moves f link)

-- the breaks

abbrev pub is_to_come : ℕ → EventRow → Bool
is_to_come cycle r = nat_lt cycle r.cycle

abbrev pub has_come : ℕ → EventRow → Bool
has_come cycle r = not (is_to_come cycle r)

abbrev pub flagged : Bool → Breaks → Breaks
flagged true b = record b { nonmaskable = true }
flagged false b = record b { maskable = true }

abbrev pub given : List Breaks → EventRow → List Breaks
given pending r = touch (flagged r.nonmaskable) r.core pending

-- the breaks whose cycle has come become pending; one that comes while another is pending adds nothing
abbrev pub breaks_come : Fabric → Fabric
breaks_come f = record f {
  pending = fold given f.pending (filter (has_come f.cycle) f.left);
  left = filter (is_to_come f.cycle) f.left;
}

abbrev pub next_cycle : Fabric → Fabric
next_cycle f = record f { cycle = f.cycle + 1 }
