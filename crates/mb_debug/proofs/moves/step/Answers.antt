use Rattle.std.proofs.Common.{arith, sym, inl, inr, map, Some, refl}
use Rattle.probe_set.specs.Sets.{items_of, named}
use Rattle.mb_debug.specs.Scenes.{scene}
use Rattle.mb_debug.proofs.Cycling.{along_more, along_none, goes, next_scene, no_end, some_end, steps_on}
use Rattle.mb_debug.proofs.moves.step.Goals as goal

pub loop-k-init : goal.loop-k-init
loop-k-init g c = (omega arith, along_none _ _ (record { can = c.requires.can; clocks = c.entry_count.ensures.clocks; room = c.requires.room }))

pub returns-then-is_some : goal.returns-then-is_some
returns-then-is_some g c = record {
  moved = steps_on _ _ _ (scene c.loop-k.board (map (λ a. named a.name ((goal.Probe-dyn g (a.probe.vtable, a.probe.value)).state_of a.probe.value)) (items_of c.loop-k.probes.probes))) _ c.loop-k.invariant.0 c.loop-k.invariant.1
      (inr (some_end c.args.limit c.loop-k.board _ _ c.end_at.ensures c.is_some.ensures c.if-is_some.true));
}

pub cycle-requires-clause-can : goal.cycle-requires-clause-can
cycle-requires-clause-can g c = (goes _ (scene c.loop-k.board (map (λ a. named a.name ((goal.Probe-dyn g (a.probe.vtable, a.probe.value)).state_of a.probe.value)) (items_of c.loop-k.probes.probes))) c.loop-k.invariant.1.ready (no_end c.args.limit c.loop-k.board _ _ c.end_at.ensures c.is_some.ensures c.if-is_some.false)).can

pub cycle-requires-clause-room : goal.cycle-requires-clause-room
cycle-requires-clause-room g c = c.loop-k.invariant.1.ready.room

pub loop-k-preserved : goal.loop-k-preserved
loop-k-preserved g c = (
  omega (arith, c.loop-k-test.true),
  along_more _ _ (scene c.loop-k.board (map (λ a. named a.name ((goal.Probe-dyn g (a.probe.vtable, a.probe.value)).state_of a.probe.value)) (items_of c.loop-k.probes.probes))) (scene c.cycle.new.self (map (λ a. named a.name ((goal.Probe-dyn g (a.probe.vtable, a.probe.value)).state_of a.probe.value)) (items_of c.cycle.new.probes.probes))) _ c.loop-k.invariant.1
      (no_end c.args.limit c.loop-k.board _ _ c.end_at.ensures c.is_some.ensures c.if-is_some.false)
      (next_scene c.loop-k.board c.cycle.new.self (map (λ a. named a.name ((goal.Probe-dyn g (a.probe.vtable, a.probe.value)).state_of a.probe.value)) (items_of c.loop-k.probes.probes)) (map (λ a. named a.name ((goal.Probe-dyn g (a.probe.vtable, a.probe.value)).state_of a.probe.value)) (items_of c.cycle.new.probes.probes)) c.cycle.ensures.steps c.cycle.ensures.told),
)

pub returns : goal.returns
returns g c = record {
  moved = steps_on _ _ _ (scene c.loop-k.board (map (λ a. named a.name ((goal.Probe-dyn g (a.probe.vtable, a.probe.value)).state_of a.probe.value)) (items_of c.loop-k.probes.probes))) _ c.loop-k.invariant.0 c.loop-k.invariant.1 (inl (omega (arith, c.loop-k.invariant.0, c.loop-k-test.false)));
}
