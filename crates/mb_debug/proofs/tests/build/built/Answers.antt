use Rattle.std.proofs.Common.{arith, map}
use Rattle.core_iface.specs.Plain.{plain_state}
use Rattle.exact_machine.proofs.Starting.{can_run}
use Rattle.mb_debug.proofs.tests.build.built.Goals as goal

pub returns-in-Ok-clause-can : goal.returns-in-Ok-clause-can
returns-in-Ok-clause-can c =
    let few = c.if-setup-gt1000000.false in
    can_run c.in_ok-file.file (map (λ core. (plain_state core).view) c.in_ok-cores.cores.items) (record { links = c.in_ok-inputs.inputs.links; uarts = c.in_ok-inputs.inputs.uarts }) c.args.setup.now.entries c.args.setup.now.limit c.in-Ok.board c.in-Ok.ensures (omega (arith, few))
