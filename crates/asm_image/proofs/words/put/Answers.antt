use Rattle.asm_image.proofs.Holding.{puts_plain}
use Rattle.asm_image.proofs.words.put.Goals as goal

pub returns : goal.returns
returns c = puts_plain c.args.order c.args.out.now.items c.add_bytes.new.out.items c.args.bytes.now c.in_ok-add_bytes.ensures
