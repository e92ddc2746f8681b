use Rattle.std.proofs.Common.{◌≡◌, ◌∙◌, rules, ap, ap₂, codes}
use Rattle.std.proofs.lemmas.Result.{IfOk-weaker}
use Rattle.clap.specs.Words.{app_of, rule_of, new_app, new_rule, with_rule}
use Rattle.clap.specs.Simple.{app_of_fields}
use Rattle.command_line.specs.Splits.{asm_app, flag, without_help}
use Rattle.command_line.proofs.split.asm_command.Goals as goal

pub returns : goal.returns
unfolding asm_app
returns c =
    let source : rule_of c.new-source.result ≡ new_rule (codes "SOURCE") = search rules in
    let output : rule_of c.new-output.result ≡ new_rule (codes "OUTPUT") = search rules in
    let little : rule_of c.action-little.result ≡ flag (codes "little") = search rules in
    let bare : app_of c.disable_help_flag.result ≡ without_help (new_app (codes "asm")) = ap app_of_fields c.disable_help_flag.ensures ∙ ap without_help c.new-2.ensures.app in
    let one = c.in_ok-arg.ensures.shape (search rules) ∙ ap₂ with_rule bare source in
    let two = c.in_ok-arg-2.ensures.shape (search rules) ∙ ap₂ with_rule one output in
    IfOk-weaker c.arg-3.result _ _ (λ m h. h.shape (search rules) ∙ ap₂ with_rule two little) c.arg-3.ensures
