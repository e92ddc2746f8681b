use Rattle.std.proofs.Common.{ap}
use Rattle.std.specs.Prelude.{option_copied}
use Rattle.debug_script.proofs.Words.{one_last, one_more}
use Rattle.debug_script.proofs.parts.one_word.Goals as goal

pub returns-in-None : goal.returns-in-None
returns-in-None c = one_last _ _ _ _ (ap option_copied c.in_ok-text.was) c.cut.ensures.first c.cut.ensures.after (ap option_copied c.in-None.is)

pub returns-in-Some : goal.returns-in-Some
returns-in-Some c = one_more _ _ _ _ (ap option_copied c.in_ok-text.was) c.cut.ensures.first c.cut.ensures.after _ (ap option_copied c.in-Some.is)
