use Rattle.std.proofs.Common.{arith}
use Rattle.alu_units.proofs.ZerosLemmas.{leading_is}
use Rattle.alu_units.proofs.words.count_zeros.Goals as goal

pub returns : goal.returns
returns c = leading_is c.args.a (omega arith)
