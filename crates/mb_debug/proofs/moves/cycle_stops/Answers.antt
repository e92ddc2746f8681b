use Rattle.std.proofs.Common.{◌∙◌, ap, map}
use Rattle.probe_set.specs.Sets.{items_of, named}
use Rattle.mb_debug.specs.Breaks.{place_of}
use Rattle.mb_debug.proofs.Breaking.{places_stay}
use Rattle.mb_debug.proofs.Cycling.{next_scene, stops_by}
use Rattle.mb_debug.proofs.moves.cycle_stops.Goals as goal

pub returns-clause-moved : goal.returns-clause-moved
returns-clause-moved g c = next_scene c.args.board.now c.cycle-asked.new.self (map (λ a. named a.name ((goal.Probe-dyn g (a.probe.vtable, a.probe.value)).state_of a.probe.value)) (items_of c.args.probes.now.probes)) (map (λ a. named a.name ((goal.Probe-dyn g (a.probe.vtable, a.probe.value)).state_of a.probe.value)) (items_of c.cycle-asked.new.probes.probes)) c.cycle-asked.ensures.steps c.cycle-asked.ensures.told

pub returns-clause-stops : goal.returns-clause-stops
returns-clause-stops g c =
    stops_by c.args.board.now c.cycle-asked.new.self (map (λ a. named a.name ((goal.Probe-dyn g (a.probe.vtable, a.probe.value)).state_of a.probe.value)) (items_of c.args.probes.now.probes)) c.args.breaks.now c.note.new.breaks c.cycle-asked.result c.is_any_hit-hit.result c.either.result
    c.cycle-asked.ensures.steps c.cycle-asked.ensures.asked c.note.ensures c.is_any_hit-hit.ensures c.either.ensures

pub returns-clause-places : goal.returns-clause-places
returns-clause-places g c = ap (map place_of) c.note.ensures ∙ places_stay c.args.board.now c.args.breaks.now
