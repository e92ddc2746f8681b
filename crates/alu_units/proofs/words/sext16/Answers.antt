use Rattle.std.proofs.Common.{◌∙◌, ap}
use Rattle.std.proofs.lemmas.Nat.{and_mask}
use Rattle.mb_word.specs.Word.{sign_extend_16}
use Rattle.alu_units.proofs.WordsLemmas.{half}
use Rattle.alu_units.proofs.words.sext16.Goals as goal

pub returns : goal.returns
returns c = c.sign16.ensures ∙ ap sign_extend_16 (and_mask c.args.a 16) ∙ half c.args.a
