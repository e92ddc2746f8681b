use Rattle.std.proofs.Common.{arith, refl, sym, ◌∙◌, inl, inr, map}
use Rattle.probe_set.specs.Sets.{items_of, named}
use Rattle.mb_debug.specs.Breaks.{place_of}
use Rattle.mb_debug.specs.Scenes.{scene}
use Rattle.mb_debug.proofs.Cycling.{along_more, along_none, goes, no_end, run_on, run_stopped, some_end, stop_at, unstopped_more, unstopped_none}
use Rattle.mb_debug.proofs.moves.run.Goals as goal

pub loop-k-init : goal.loop-k-init
loop-k-init g c =
    (omega arith, refl, along_none _ _ (record { can = c.requires.can; clocks = c.entry_count.ensures.clocks; room = c.requires.room }), unstopped_none _ _)

pub returns-then-is_some-clause-moved : goal.returns-then-is_some-clause-moved
returns-then-is_some-clause-moved g c =
    run_on _ _ _ _ (scene c.loop-k.board (map (λ a. named a.name ((goal.Probe-dyn g (a.probe.vtable, a.probe.value)).state_of a.probe.value)) (items_of c.loop-k.probes.probes))) _ c.loop-k.invariant.0 c.loop-k.invariant.2 c.loop-k.invariant.3
    (inr (some_end c.args.limit c.loop-k.board _ _ c.end_at.ensures c.is_some.ensures c.if-is_some.true))

pub returns-then-is_some-clause-places : goal.returns-then-is_some-clause-places
returns-then-is_some-clause-places g c = c.loop-k.invariant.1

pub cycle_stops-requires-clause-can : goal.cycle_stops-requires-clause-can
cycle_stops-requires-clause-can g c = (goes _ (scene c.loop-k.board (map (λ a. named a.name ((goal.Probe-dyn g (a.probe.vtable, a.probe.value)).state_of a.probe.value)) (items_of c.loop-k.probes.probes))) c.loop-k.invariant.2.ready (no_end c.args.limit c.loop-k.board _ _ c.end_at.ensures c.is_some.ensures c.if-is_some.false)).can

pub cycle_stops-requires-clause-room : goal.cycle_stops-requires-clause-room
cycle_stops-requires-clause-room g c = c.loop-k.invariant.2.ready.room

pub returns-then-cycle_stops-clause-moved : goal.returns-then-cycle_stops-clause-moved
returns-then-cycle_stops-clause-moved g c =
    run_stopped _ _ _ _ (scene c.cycle_stops.new.board (map (λ a. named a.name ((goal.Probe-dyn g (a.probe.vtable, a.probe.value)).state_of a.probe.value)) (items_of c.cycle_stops.new.probes.probes))) c.loop-k._k c.loop-k-test.true
    (along_more _ _ (scene c.loop-k.board (map (λ a. named a.name ((goal.Probe-dyn g (a.probe.vtable, a.probe.value)).state_of a.probe.value)) (items_of c.loop-k.probes.probes))) (scene c.cycle_stops.new.board (map (λ a. named a.name ((goal.Probe-dyn g (a.probe.vtable, a.probe.value)).state_of a.probe.value)) (items_of c.cycle_stops.new.probes.probes))) _ c.loop-k.invariant.2
    (no_end c.args.limit c.loop-k.board _ _ c.end_at.ensures c.is_some.ensures c.if-is_some.false) c.cycle_stops.ensures.moved)
    c.loop-k.invariant.3
    (stop_at _ _ _ _ (scene c.loop-k.board (map (λ a. named a.name ((goal.Probe-dyn g (a.probe.vtable, a.probe.value)).state_of a.probe.value)) (items_of c.loop-k.probes.probes))) _ _ c.loop-k.invariant.2 c.loop-k.invariant.1 c.cycle_stops.ensures.stops ∙ c.if-cycle_stops.true)

pub returns-then-cycle_stops-clause-places : goal.returns-then-cycle_stops-clause-places
returns-then-cycle_stops-clause-places g c = c.cycle_stops.ensures.places ∙ c.loop-k.invariant.1

pub loop-k-preserved : goal.loop-k-preserved
loop-k-preserved g c = (
  omega (arith, c.loop-k-test.true),
  c.cycle_stops.ensures.places ∙ c.loop-k.invariant.1,
  along_more _ _ (scene c.loop-k.board (map (λ a. named a.name ((goal.Probe-dyn g (a.probe.vtable, a.probe.value)).state_of a.probe.value)) (items_of c.loop-k.probes.probes))) (scene c.cycle_stops.new.board (map (λ a. named a.name ((goal.Probe-dyn g (a.probe.vtable, a.probe.value)).state_of a.probe.value)) (items_of c.cycle_stops.new.probes.probes))) _ c.loop-k.invariant.2
      (no_end c.args.limit c.loop-k.board _ _ c.end_at.ensures c.is_some.ensures c.if-is_some.false) c.cycle_stops.ensures.moved,
  unstopped_more _ _ _ c.loop-k.invariant.3
      (stop_at _ _ _ _ (scene c.loop-k.board (map (λ a. named a.name ((goal.Probe-dyn g (a.probe.vtable, a.probe.value)).state_of a.probe.value)) (items_of c.loop-k.probes.probes))) _ _ c.loop-k.invariant.2 c.loop-k.invariant.1 c.cycle_stops.ensures.stops ∙ c.if-cycle_stops.false),
)

pub returns-clause-moved : goal.returns-clause-moved
returns-clause-moved g c =
    run_on _ _ _ _ (scene c.loop-k.board (map (λ a. named a.name ((goal.Probe-dyn g (a.probe.vtable, a.probe.value)).state_of a.probe.value)) (items_of c.loop-k.probes.probes))) _ c.loop-k.invariant.0 c.loop-k.invariant.2 c.loop-k.invariant.3 (inl (omega (arith, c.loop-k.invariant.0, c.loop-k-test.false)))

pub returns-clause-places : goal.returns-clause-places
returns-clause-places g c = c.loop-k.invariant.1
