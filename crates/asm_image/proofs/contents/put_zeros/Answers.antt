use Rattle.asm_image.proofs.Holding.{all_zeros, zero_more}
use Rattle.asm_image.proofs.contents.put_zeros.Goals as goal

pub returns : goal.returns
returns c = all_zeros c.args.order c.args.count c.loop-k.k c.args.out.now.items c.loop-k.out.items c.loop-k-test.false c.loop-k.invariant

pub loop-k-preserved : goal.loop-k-preserved
loop-k-preserved c = zero_more c.args.count c.loop-k.k c.loop-k.out.items c.push.new.self.items _ c.loop-k-test.true c.loop-k.invariant c.in_ok-push.ensures.items
