use Rattle.std.proofs.Common.{◌∙◌}
use Rattle.ring_demo.proofs.Images.{filled}
use Rattle.ring_demo.proofs.program.memory_with.Goals as goal

pub returns : goal.returns
returns c = filled c.args.words.now c.as_slice.result.now c.in-Ok.memory c.fill.new.self (c.as_slice.ensures.value ∙ c.in_ok-image.ensures) c.in-Ok.ensures.made.0 c.requires c.fill.ensures.memory
