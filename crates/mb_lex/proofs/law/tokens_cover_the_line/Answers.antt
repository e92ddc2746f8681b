use Rattle.mb_lex.proofs.Covering.{tokens_cover}
use Rattle.mb_lex.proofs.law.tokens_cover_the_line.Goals as goal

pub returns : goal.returns
returns c = tokens_cover
