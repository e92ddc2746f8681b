use Rattle.std.proofs.Common.{◌≡◌, ◌∙◌, rules, ap, ap₂, codes}
use Rattle.std.proofs.lemmas.Result.{IfOk-weaker}
use Rattle.clap.specs.Words.{app_of, rule_of, new_app, new_rule, with_rule}
use Rattle.clap.specs.Simple.{app_of_fields}
use Rattle.command_line.specs.Splits.{raw_app, without_help}
use Rattle.command_line.proofs.split.raw_command.Goals as goal

pub returns : goal.returns
unfolding raw_app
returns c =
    let file : rule_of c.new-file.result ≡ new_rule (codes "FILE") = search rules in
    let cycles : rule_of c.new-cycles.result ≡ new_rule (codes "CYCLES") = search rules in
    let bare : app_of c.disable_help_flag.result ≡ without_help (new_app (codes "raw")) = ap app_of_fields c.disable_help_flag.ensures ∙ ap without_help c.new.ensures.app in
    let one = c.in_ok-arg.ensures.shape (search rules) ∙ ap₂ with_rule bare file in
    IfOk-weaker c.arg-2.result _ _ (λ m h. h.shape (search rules) ∙ ap₂ with_rule one cycles) c.arg-2.ensures
