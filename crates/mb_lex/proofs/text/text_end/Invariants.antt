use Rattle.std.proofs.Common.{◌≡◌, drop, false}
use Rattle.mb_lex.specs.Literals.{text_end}
use Rattle.mb_lex.proofs.Texts.{counted}
use Rattle.mb_lex.proofs.text.text_end.Given as goal

abbrev pub invariant-loop-k : goal.invariant-loop-k
invariant-loop-k l = text_end false l.text ≡ counted l.k (text_end l.escaped (drop l.k l.text))
