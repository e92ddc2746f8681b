use Rattle.std.proofs.Common.{◌∙◌, arith}
use Rattle.alu_units.proofs.WordsLemmas.{signed_order}
use Rattle.alu_units.proofs.words.is_greater.Goals as goal

pub returns-then-signed : goal.returns-then-signed
returns-then-signed c = rw c.if-signed.true (c.less_signed.ensures ∙ signed_order c.args.b c.args.a (omega arith) (omega arith))
