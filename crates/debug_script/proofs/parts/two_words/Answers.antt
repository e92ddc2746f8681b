use Rattle.std.proofs.Common.{ap, ◌∙◌, option_map}
use Rattle.std.specs.Prelude.{option_copied}
use Rattle.debug_script.proofs.Words.{two_of}
use Rattle.debug_script.proofs.parts.two_words.Goals as goal

pub returns-in_err-one_word : goal.returns-in_err-one_word
returns-in_err-one_word c =
    ap (option_map _) c.from_residual-in_err-one_word.ensures
    ∙ two_of _ _ _ _ (ap option_copied c.in_ok-text.was) c.cut.ensures.first c.cut.ensures.after _ c.in_err-one_word.ensures

pub returns : goal.returns
returns c = two_of _ _ _ _ (ap option_copied c.in_ok-text.was) c.cut.ensures.first c.cut.ensures.after _ c.in_ok-one_word.ensures
