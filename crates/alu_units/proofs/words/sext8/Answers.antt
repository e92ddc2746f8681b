use Rattle.std.proofs.Common.{arith}
use Rattle.std.proofs.lemmas.Nat.{and_mask}
use Rattle.alu_units.proofs.WordsLemmas.{high_byte, low_byte}
use Rattle.alu_units.proofs.words.sext8.Goals as goal

pub returns-then-low-ge128 : goal.returns-then-low-ge128
returns-then-low-ge128 c = rw (and_mask c.args.a 8) (high_byte c.args.a (omega (arith, and_mask c.args.a 8)))

pub returns-else-low-ge128 : goal.returns-else-low-ge128
returns-else-low-ge128 c = rw (and_mask c.args.a 8) (low_byte c.args.a (omega (arith, and_mask c.args.a 8)))
