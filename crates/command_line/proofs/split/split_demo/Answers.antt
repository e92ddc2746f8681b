use Rattle.std.proofs.Common.{◌≡◌, ◌∙◌, List, map, ap, sym, codes, true, false}
use Rattle.std.proofs.lemmas.Bool.{false≢true}
use Rattle.clap.specs.Words.{Text, app_of, fault_of, first_of, found_of, is_simple, is_simple_and_free, matches_of}
use Rattle.clap.specs.declared.error.kind.ErrorKind.TheVariants.{OutOfMemory}
use Rattle.clap.proofs.WalkLemmas.{first_value-rows}
use Rattle.command_line.specs.Splits.{faults, demo_app, value_of}
use Rattle.command_line.proofs.Simples.{demo_is_free, demo_is_simple}
use Rattle.command_line.proofs.Taken.{only_memory}
use Rattle.command_line.proofs.split.split_demo.Goals as goal

pub returns-in-Ok-try_get_matches_from-clause-ok : goal.returns-in-Ok-try_get_matches_from-clause-ok
unfolding faults value_of
returns-in-Ok-try_get_matches_from-clause-ok c =
    let words : List Text = map (λ w. w.now) c.args.words.now in
    let app_is : app_of c.in-Ok.command ≡ demo_app = c.in-Ok.ensures in
    let parse = c.in-Ok-try_get_matches_from in
    let rows = (parse.ensures.matches (ap is_simple app_is ∙ demo_is_simple)).0 ∙ ap (λ a. matches_of a words) app_is in
    record {
      taken = ap (λ a. fault_of a words) (sym app_is) ∙ parse.ensures.kinds (ap is_simple_and_free app_is ∙ demo_is_free);
      number = c.get_str.ensures ∙ first_value-rows (found_of parse.matches) (codes "N") ∙ ap (first_of (codes "N")) rows;
    }

pub returns-clause-usage : goal.returns-clause-usage
unfolding faults
returns-clause-usage c = λ _ none.
    let words : List Text = map (λ w. w.now) c.args.words.now in
    let app_is : app_of c.in-Ok.command ≡ demo_app = c.in-Ok.ensures in
    let fails = c.in-Err.ensures.kinds (ap is_simple_and_free app_is ∙ demo_is_free) in
    let memory = only_memory _ c.in-Err.error (ap (λ a. fault_of a words) app_is ∙ none) fails in
    let kind : c.kind.result ≡ OutOfMemory = c.kind.ensures ∙ memory in
    let told : c.eq.result ≡ false = c.if-eq.false in
    let is : c.eq.result ≡ true = rw kind at c.eq.ensures in
    false≢true (sym told ∙ is)
