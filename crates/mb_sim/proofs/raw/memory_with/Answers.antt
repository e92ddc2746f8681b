use Rattle.mb_sim.proofs.Images.{filled}
use Rattle.mb_sim.proofs.raw.memory_with.Goals as goal

pub returns : goal.returns
returns c = filled 65_536 c.args.image.now c.in-Ok.memory c.fill.new.self c.in-Ok.ensures.made.0 c.requires c.fill.ensures.memory
