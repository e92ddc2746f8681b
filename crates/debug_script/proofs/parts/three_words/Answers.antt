use Rattle.std.proofs.Common.{ap, ◌∙◌, option_map}
use Rattle.std.specs.Prelude.{option_copied}
use Rattle.debug_script.proofs.Words.{three_of}
use Rattle.debug_script.proofs.parts.three_words.Goals as goal

pub returns-in_err-second : goal.returns-in_err-second
returns-in_err-second c =
    ap (option_map _) c.from_residual-in_err-second.ensures
    ∙ three_of _ _ _ _ (ap option_copied c.in_ok-text.was) c.cut.ensures.first c.cut.ensures.after _ c.in_err-second.ensures

pub returns : goal.returns
returns c = three_of _ _ _ _ (ap option_copied c.in_ok-text.was) c.cut.ensures.first c.cut.ensures.after _ c.in_ok-second.ensures
