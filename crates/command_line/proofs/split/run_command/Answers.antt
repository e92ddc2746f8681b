use Rattle.std.proofs.Common.{◌≡◌, ◌∙◌, rules, ap, ap₂, codes}
use Rattle.std.proofs.lemmas.Result.{IfOk-weaker}
use Rattle.clap.specs.Words.{app_of, rule_of, new_app, new_rule, with_rule}
use Rattle.clap.specs.Simple.{app_of_fields}
use Rattle.command_line.specs.Splits.{option, run_app, without_help}
use Rattle.command_line.proofs.split.run_command.Goals as goal

pub returns : goal.returns
unfolding run_app
returns c =
    let board : rule_of c.new-board.result ≡ new_rule (codes "BOARD") = search rules in
    let cycles : rule_of c.long-cycles.result ≡ option (codes "cycles") = search rules in
    let journal : rule_of c.long-journal.result ≡ option (codes "journal") = search rules in
    let write : rule_of c.long-write_journal.result ≡ option (codes "write-journal") = search rules in
    let bare : app_of c.disable_help_flag.result ≡ without_help (new_app (codes "run")) = ap app_of_fields c.disable_help_flag.ensures ∙ ap without_help c.new-4.ensures.app in
    let one = c.in_ok-arg.ensures.shape (search rules) ∙ ap₂ with_rule bare board in
    let two = c.in_ok-arg-2.ensures.shape (search rules) ∙ ap₂ with_rule one cycles in
    let three = c.in_ok-arg-3.ensures.shape (search rules) ∙ ap₂ with_rule two journal in
    IfOk-weaker c.arg-4.result _ _ (λ m h. h.shape (search rules) ∙ ap₂ with_rule three write) c.arg-4.ensures
