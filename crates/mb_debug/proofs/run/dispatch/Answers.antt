use Rattle.std.proofs.Common.{map, not, ap, refl, ◌∙◌}
use Rattle.std.specs.Str.{bytes_eq}
use Rattle.probe_set.specs.Sets.{items_of, named}
use Rattle.mb_debug.specs.Breaks.{place_of}
use Rattle.mb_debug.specs.Scripts.{session}
use Rattle.mb_debug.proofs.Scripting.{filter_of_mapped}
use Rattle.mb_debug.proofs.run.dispatch.Goals as goal

pub returns-in-Detach-clause-ok : goal.returns-in-Detach-clause-ok
returns-in-Detach-clause-ok g c =
    rw c.in-Detach.is
    (ap (λ ns. session c.args.board.now ns (map place_of c.args.breaks.now.items))
    (ap (map (λ a. named a.name ((goal.Probe-dyn g (a.probe.vtable, a.probe.value)).state_of a.probe.value))) c.detach-was.ensures.left ∙ filter_of_mapped (λ a. named a.name ((goal.Probe-dyn g (a.probe.vtable, a.probe.value)).state_of a.probe.value)) (λ a. not (bytes_eq a.name c.in-Detach.name)) (λ n. not (bytes_eq n.name c.in-Detach.name)) (items_of c.args.probes.now.probes) (λ a. refl)))
