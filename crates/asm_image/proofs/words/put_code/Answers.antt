use Rattle.std.proofs.Common.{◌<◌, ◌^◌, rules}
use Rattle.asm_image.proofs.Holding.{puts_word}
use Rattle.asm_image.proofs.words.put_code.Goals as goal

pub returns : goal.returns
returns c =
    let fits : c.word_of-word.result < 2 ^ 32 = search rules in
    puts_word c.args.order c.args.out.now.items c.add_bytes.new.out.items c.word_bytes-bytes.result c.word_of-word.result c.args.instr fits c.word_of-word.ensures c.word_bytes-bytes.ensures c.in_ok-add_bytes.ensures
