use Rattle.std.proofs.Common.{◌≡◌, ◌∙◌, rules, ap, ap₂, codes}
use Rattle.std.proofs.lemmas.Result.{IfOk-weaker}
use Rattle.clap.specs.Words.{app_of, rule_of, new_app, new_rule, with_rule}
use Rattle.clap.specs.Simple.{app_of_fields}
use Rattle.command_line.specs.Splits.{demo_app, without_help}
use Rattle.command_line.proofs.split.demo_command.Goals as goal

pub returns : goal.returns
unfolding demo_app
returns c =
    let number : rule_of c.new-number.result ≡ new_rule (codes "N") = search rules in
    let bare : app_of c.disable_help_flag.result ≡ without_help (new_app (codes "demo")) = ap app_of_fields c.disable_help_flag.ensures ∙ ap without_help c.new.ensures.app in
    IfOk-weaker c.arg.result _ _ (λ m h. h.shape (search rules) ∙ ap₂ with_rule bare number) c.arg.ensures
