use Rattle.ring_demo.proofs.Rings.{all_new, can_build, started}
use Rattle.ring_demo.proofs.run.build_ring.Goals as goal

pub build-requires : goal.build-requires
build-requires c =
    record {
      file = can_build c.args.turn c.args.number c.in_ok-file.file c.in_ok-file.ensures;
      cores = all_new c.args.number c.cores_of.result c.in_ok-file.file c.args.turn c.in_ok-cores.cores.items c.in_ok-file.ensures c.cores_of.ensures.count c.in_ok-cores.ensures.new;
    }

pub returns-in-Ok : goal.returns-in-Ok
returns-in-Ok c =
    started c.args.turn c.args.number c.cores_of.result c.in_ok-file.file c.in_ok-cores.cores.items
    (record { links = c.no_inputs-inputs.result.links; uarts = c.no_inputs-inputs.result.uarts }) c.in-Ok.board c.in_ok-file.ensures c.cores_of.ensures.count
    c.in_ok-cores.ensures.views c.no_inputs-inputs.ensures.links c.no_inputs-inputs.ensures.uarts c.in-Ok.ensures
