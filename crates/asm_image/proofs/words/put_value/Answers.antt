use Rattle.asm_image.proofs.Holding.{puts_long}
use Rattle.asm_image.proofs.Spelled.{low_fits}
use Rattle.asm_image.proofs.words.put_value.Goals as goal

pub returns-then-long : goal.returns-then-long
returns-then-long c =
    rw c.if-long.true
    (puts_long c.args.order c.args.out.now.items c.put_code.new.out.items c.put_code-then-long.new.out.items c.args.instr c.imm-prefix.result c.with_low-low.result c.args.value c.imm-prefix.ensures.prefix c.with_low-low.ensures
    c.in_ok-put_code.ensures c.in_ok-put_code-2.ensures)

pub put_code-requires-then-long : goal.put_code-requires-then-long
put_code-requires-then-long c = low_fits c.args.instr c.with_low-low.result c.args.value c.requires c.with_low-low.ensures

pub put_code-requires-2 : goal.put_code-requires-2
put_code-requires-2 c = low_fits c.args.instr c.with_low-low.result c.args.value c.requires c.with_low-low.ensures
