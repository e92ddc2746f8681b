use Rattle.std.proofs.Common.{[], map, ap, refl, sym, take, ◌∷◌, ◌++◌, ◌+◌}
use Rattle.probe_set.specs.Sets.{items_of, named}
use Rattle.mb_debug.specs.Breaks.{place_of}
use Rattle.mb_debug.specs.Scripts.{session}
use Rattle.mb_debug.proofs.Scripting.{Done, all_done, cut_by, cut_cycles, done_more, done_none, take_next}
use Rattle.mb_debug.proofs.run.run_script.Goals as goal

pub loop-command-init : goal.loop-command-init
loop-command-init g c =
    rw c.new-breaks.ensures.items
    (done_none c.args.names.now c.args.limit (session c.args.b.now (map (λ a. named a.name ((goal.Probe-dyn g (a.probe.vtable, a.probe.value)).state_of a.probe.value)) (items_of c.args.probes.now.probes)) []) (g.O.Sink.state c.args.out.now)
    (record { can = c.requires.can; clocks = c.entry_count.ensures.clocks; room = c.requires.room }))

pub do_one-requires-clause-can : goal.do_one-requires-clause-can
do_one-requires-clause-can g c = c.loop-command.invariant.ready.can

pub do_one-requires-clause-room : goal.do_one-requires-clause-room
do_one-requires-clause-room g c = c.loop-command.invariant.ready.room

pub returns-in_err-do_one-clause-ran : goal.returns-in_err-do_one-clause-ran
returns-in_err-do_one-clause-ran g c = (
  map place_of c.do_one.new.breaks.items,
  rw (sym c.as_slice-command-items.ensures)
      (cut_by c.args.names.now c.args.limit c.as_slice-command-items.result.now c.loop-command.command-index c.command-item.result (session c.args.b.now (map (λ a. named a.name ((goal.Probe-dyn g (a.probe.vtable, a.probe.value)).state_of a.probe.value)) (items_of c.args.probes.now.probes)) []) (session c.loop-command.b (map (λ a. named a.name ((goal.Probe-dyn g (a.probe.vtable, a.probe.value)).state_of a.probe.value)) (items_of c.loop-command.probes.probes)) (map place_of c.loop-command.breaks.items)) (session c.do_one.new.board (map (λ a. named a.name ((goal.Probe-dyn g (a.probe.vtable, a.probe.value)).state_of a.probe.value)) (items_of c.do_one.new.probes.probes)) (map place_of c.do_one.new.breaks.items)) (g.O.Sink.state c.args.out.now) (g.O.Sink.state c.loop-command.out) (g.O.Sink.state c.do_one.new.out)
      (take_next _ _ _ _ c.loop-command-test.true c.command-item.is) c.loop-command.invariant c.from_residual.result c.in_err-do_one.field-0.0 c.from_residual.ensures.1 c.in_err-do_one.ensures),
)

pub returns-in_err-do_one-clause-cycles : goal.returns-in_err-do_one-clause-cycles
returns-in_err-do_one-clause-cycles g c =
    cut_cycles c.args.names.now c.args.limit c.as_slice-command-items.result.now c.loop-command.command-index c.command-item.result (session c.args.b.now (map (λ a. named a.name ((goal.Probe-dyn g (a.probe.vtable, a.probe.value)).state_of a.probe.value)) (items_of c.args.probes.now.probes)) []) (session c.loop-command.b (map (λ a. named a.name ((goal.Probe-dyn g (a.probe.vtable, a.probe.value)).state_of a.probe.value)) (items_of c.loop-command.probes.probes)) (map place_of c.loop-command.breaks.items)) (session c.do_one.new.board (map (λ a. named a.name ((goal.Probe-dyn g (a.probe.vtable, a.probe.value)).state_of a.probe.value)) (items_of c.do_one.new.probes.probes)) (map place_of c.do_one.new.breaks.items)) (g.O.Sink.state c.args.out.now) (g.O.Sink.state c.loop-command.out) (g.O.Sink.state c.do_one.new.out)
    (take_next _ _ _ _ c.loop-command-test.true c.command-item.is) c.loop-command.invariant c.in_err-do_one.field-0.0 c.in_err-do_one.ensures

pub loop-command-preserved : goal.loop-command-preserved
loop-command-preserved g c =
    rw (sym (take_next c.as_slice-command-items.result.now c.loop-command.command-index c.command-item.result _ c.loop-command-test.true c.command-item.is))
    (done_more c.args.names.now c.args.limit (take c.loop-command.command-index c.as_slice-command-items.result.now) c.command-item.result (session c.args.b.now (map (λ a. named a.name ((goal.Probe-dyn g (a.probe.vtable, a.probe.value)).state_of a.probe.value)) (items_of c.args.probes.now.probes)) []) (session c.loop-command.b (map (λ a. named a.name ((goal.Probe-dyn g (a.probe.vtable, a.probe.value)).state_of a.probe.value)) (items_of c.loop-command.probes.probes)) (map place_of c.loop-command.breaks.items)) (session c.do_one.new.board (map (λ a. named a.name ((goal.Probe-dyn g (a.probe.vtable, a.probe.value)).state_of a.probe.value)) (items_of c.do_one.new.probes.probes)) (map place_of c.do_one.new.breaks.items)) (g.O.Sink.state c.args.out.now) (g.O.Sink.state c.loop-command.out) (g.O.Sink.state c.do_one.new.out)
    c.loop-command.invariant c.in_ok-do_one.ensures)

pub returns-clause-ran : goal.returns-clause-ran
returns-clause-ran g c = (
  map place_of c.loop-command.breaks.items,
  rw (sym c.as_slice-command-items.ensures)
      (all_done c.args.names.now c.args.limit c.loop-command.command-index c.as_slice-command-items.result.now (session c.args.b.now (map (λ a. named a.name ((goal.Probe-dyn g (a.probe.vtable, a.probe.value)).state_of a.probe.value)) (items_of c.args.probes.now.probes)) []) (session c.loop-command.b (map (λ a. named a.name ((goal.Probe-dyn g (a.probe.vtable, a.probe.value)).state_of a.probe.value)) (items_of c.loop-command.probes.probes)) (map place_of c.loop-command.breaks.items)) (g.O.Sink.state c.args.out.now) (g.O.Sink.state c.loop-command.out)
      c.last_end.result c.loop-command-test.false c.loop-command.invariant c.last_end.ensures),
)

pub returns-clause-cycles : goal.returns-clause-cycles
returns-clause-cycles g c = c.loop-command.invariant.cycles
