use Rattle.isa_step.proofs.RestLaws.{is_rest}
use Rattle.isa_step.proofs.laws.rest_is_final.Goals as goal

pub returns : goal.returns
returns g c = is_rest _ (g.met.P.Sees.announced c.args.ports.now)
