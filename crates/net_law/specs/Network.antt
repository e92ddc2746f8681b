-- The reference network of a board, a Kahn network: cores and the files' ends are its processes, and each link carries a
-- history. It has no clock, no slack and no journal.
use Rattle.std.specs.Prelude.{ℕ, ◌+◌, Bool, false, if◌then◌else◌, List, [], ◌∷◌, ◌++◌, length, map, drop, Option, Some, None, slice_get, slice_set}
use Rattle.std.specs.List.{range_with_len}
use Rattle.std.specs.Option.{option_and_then, option_map, option_map_or}
use Rattle.axi_link.specs.declared.item.Item.{Item}
use Rattle.axi_link.specs.Channel.{Channel}
use Rattle.isa_step.specs.declared.acts.Action.{Action}
use Rattle.isa_step.specs.declared.acts.Action.TheVariants.{Got, Sent}
use Rattle.isa_step.specs.Shown.{Shown}
use Rattle.isa_step.specs.Effects.{View, Due, Does, after}
use Rattle.isa_step.specs.Due.{due}
use Rattle.board_file.specs.declared.board.BoardFile.{BoardFile}
use Rattle.board_file.specs.declared.board.LinkRow.{LinkRow}
use Rattle.board_machine.specs.declared.events.HostPart.{HostPart}
use Rattle.board_machine.specs.declared.events.HostPart.TheVariants.{Sends, Takes}
use Rattle.board_machine.specs.Places.{touch}
use Rattle.board_machine.specs.Fabric.{Feed, channel_at, first_in, link_from, link_to, no_breaks, part_at, room_in}
use Rattle.board_machine.specs.World.{Inputs, feeds_of}
use Rattle.net_law.specs.Rounds.{rounds}

-- a link: its history is all that was ever sent to it, and so many items of that were taken
pub record Pipe : Type 0 where
  pub depth : ℕ
  pub sent : List Item
  pub taken : ℕ

-- a core: its view, and its acts so far
pub record Process : Type 0 where
  pub view : View
  pub acts : ℕ

pub record Net : Type 0 where
  pub processes : List Process
  pub pipes : List Pipe

-- what never changes: the rows of the links, and the input file of each
pub record Plan : Type 0 where
  pub rows : List LinkRow
  pub feeds : List Feed

-- who acts: a core, or the end of a link in an input file or in an output file
pub data Actor : Type 0 where
  Core : (core : ℕ) → Actor
  Source : (link : ℕ) → Actor
  Sink : (link : ℕ) → Actor

abbrev pub took : Pipe → Pipe
took p = record p { taken = p.taken + 1 }

abbrev pub gave : Item → Pipe → Pipe
gave item p = record p { sent = p.sent ++ item ∷ [] }

-- the links after what a core did at its ports; a port that leads nowhere takes all and gives nothing
abbrev pub pipes_after : List LinkRow → ℕ → Option Action → List Pipe → List Pipe
pipes_after rows core (Some (Got port item)) pipes = option_map_or (λ link. touch took link pipes) (link_to rows core port) pipes
pipes_after rows core (Some (Sent port item)) pipes = option_map_or (λ link. touch (gave item) link pipes) (link_from rows core port) pipes
pipes_after rows core _ pipes = pipes

-- what a link holds
abbrev pub channel_of : Pipe → Channel
channel_of p = record { depth = p.depth; items = drop p.taken p.sent }

-- what a core sees that is joined by links alone: no line, no break and no bus
abbrev pub calm : (ℕ → Option Item) → (ℕ → Bool) → Shown
calm first room = record { line = false; breaks = no_breaks; hopes = record { interrupt = false; maskable = false; nonmaskable = false }; first = first; room = room; bus_word = λ addr. None; bus_takes = λ addr word. false }

abbrev pub ports_of : List LinkRow → List Channel → ℕ → Shown
ports_of rows links core = calm (λ port. first_in (channel_at links (link_to rows core port))) (λ port. room_in (channel_at links (link_from rows core port)))

-- a core does the act that is due
abbrev pub does : Plan → ℕ → Net → Process → Due → Option Net
does plan core net p (Does effect) = Some (record { processes = slice_set net.processes core (record { view = after p.view effect; acts = p.acts + 1 }); pipes = pipes_after plan.rows core effect.action net.pipes })
does plan core net p _ = None

-- an input file's end sends the file's next item if there is room
abbrev pub to_come : Option Feed → Option Pipe → Option Item
to_come feed pipe = option_and_then (λ (d : Feed). option_and_then (λ (p : Pipe). slice_get d.items (length p.sent)) pipe) feed

abbrev pub source_acts : Plan → ℕ → Net → HostPart → Option Net
source_acts plan link net Sends = if room_in (slice_get (map channel_of net.pipes) link) then option_map (λ item. record net { pipes = touch (gave item) link net.pipes }) (to_come (slice_get plan.feeds link) (slice_get net.pipes link)) else None
source_acts plan link net _ = None

-- an output file's end takes the oldest item
abbrev pub sink_acts : Plan → ℕ → Net → HostPart → Option Net
sink_acts plan link net Takes = option_map (λ item. record net { pipes = touch took link net.pipes }) (first_in (slice_get (map channel_of net.pipes) link))
sink_acts plan link net _ = None

-- one action, if the actor can do one
abbrev pub acts : Plan → Actor → Net → Option Net
acts plan (Core core) net = option_and_then (λ (p : Process). does plan core net p (due p.view (ports_of plan.rows (map channel_of net.pipes) core))) (slice_get net.processes core)
acts plan (Source link) net = source_acts plan link net (part_at (slice_get plan.rows link))
acts plan (Sink link) net = sink_acts plan link net (part_at (slice_get plan.rows link))

-- everyone, in the order of a round
abbrev pub everyone : ℕ → ℕ → List Actor
everyone cores links = map Core (range_with_len 0 cores) ++ map Source (range_with_len 0 links) ++ map Sink (range_with_len 0 links)

abbrev pub start : List LinkRow → List View → Net
start rows views = record { processes = map (λ v. record { view = v; acts = 0 }) views; pipes = map (λ (r : LinkRow). record { depth = r.depth; sent = []; taken = 0 }) rows }

-- the reference network after so many rounds
abbrev pub plain : BoardFile → List View → Inputs → ℕ → Net
plain b views inputs r = rounds (acts (record { rows = b.links; feeds = feeds_of b.links inputs.links })) (everyone (length views) (length b.links)) (start b.links views) r

-- the history of a link
abbrev pub history : Net → ℕ → List Item
history net link = option_map_or (λ (p : Pipe). p.sent) (slice_get net.pipes link) []
