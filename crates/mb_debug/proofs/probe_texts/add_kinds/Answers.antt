use Rattle.std.proofs.Common.{◌∙◌}
use Rattle.mb_debug.specs.Prints.{kind_of}
use Rattle.probe_set.specs.Sets.{items_of, named}
use Rattle.mb_debug.proofs.KindLines.{all_lines_of}
use Rattle.mb_debug.proofs.probe_texts.add_kinds.Goals as goal

pub returns : goal.returns
returns g c =
    all_lines_of (λ a. named a.name ((goal.Probe-dyn g (a.probe.vtable, a.probe.value)).state_of a.probe.value)) kind_of c.attached-one-items.result.now
    (items_of c.args.probes.now.probes) c.loop-one.one-index _ _ c.attached-one-items.ensures c.loop-one-test.false c.loop-one.invariant
