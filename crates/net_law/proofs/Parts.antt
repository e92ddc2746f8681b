-- Names for the parts of the reference network's definition that lemmas speak of.
use Rattle.std.specs.Prelude.{ℕ, Bool, if◌then◌else◌, List, [], map, Option, None}
use Rattle.std.specs.Option.{option_and_then, option_map, option_map_or}
use Rattle.axi_link.specs.declared.item.Item.{Item}
use Rattle.isa_step.specs.Effects.{View}
use Rattle.isa_step.specs.Due.{due}
use Rattle.board_file.specs.declared.board.BoardFile.{BoardFile}
use Rattle.board_file.specs.declared.board.LinkRow.{LinkRow}
use Rattle.board_machine.specs.Places.{touch}
use Rattle.board_machine.specs.World.{Inputs, feeds_of}
use Rattle.net_law.specs.Network.{Net, Pipe, Plan, Process, channel_of, does, gave, ports_of, took}

-- one act

abbrev pub through : (Pipe → Pipe) → Option ℕ → List Pipe → List Pipe
through change o pipes = option_map_or (λ link. touch change link pipes) o pipes

abbrev pub core_acts : Plan → ℕ → Net → Option Process → Option Net
core_acts b core n o = option_and_then (λ (p : Process). does b core n p (due p.view (ports_of b.rows (map channel_of n.pipes) core))) o

abbrev pub sends : ℕ → Net → Bool → Option Item → Option Net
sends link n room o = if room then option_map (λ item. record n { pipes = touch (gave item) link n.pipes }) o else None

abbrev pub takes : ℕ → Net → Option Item → Option Net
takes link n o = option_map (λ item. record n { pipes = touch took link n.pipes }) o

-- the beginning

abbrev pub began : View → Process
began v = record { view = v; acts = 0 }

abbrev pub unused : LinkRow → Pipe
unused r = record { depth = r.depth; sent = []; taken = 0 }

abbrev pub plan_of : BoardFile → Inputs → Plan
plan_of b inputs = record { rows = b.links; feeds = feeds_of b.links inputs.links }

abbrev pub sent_through : Option Pipe → List Item
sent_through o = option_map_or (λ (p : Pipe). p.sent) o []
