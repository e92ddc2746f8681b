use Rattle.std.proofs.Common.{arith}
use Rattle.alu_units.proofs.WordsLemmas.{compared_is}
use Rattle.alu_units.proofs.words.compare.Goals as goal

pub returns : goal.returns
returns c = compared_is c.args.a c.args.b c.from-top.result c.args.signed c.is_greater.result (omega arith) c.is_greater.ensures c.from-top.ensures
