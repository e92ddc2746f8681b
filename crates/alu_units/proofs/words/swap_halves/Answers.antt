use Rattle.std.proofs.Common.{◌∙◌, arith}
use Rattle.alu_units.proofs.WordsLemmas.{turned}
use Rattle.alu_units.proofs.words.swap_halves.Goals as goal

pub returns : goal.returns
returns c = c.rotate_left.ensures ∙ turned c.args.a (omega arith)
