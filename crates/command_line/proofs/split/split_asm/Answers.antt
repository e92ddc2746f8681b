use Rattle.std.proofs.Common.{◌≡◌, ◌∙◌, List, map, ap, sym, codes, true, false}
use Rattle.std.proofs.lemmas.Bool.{false≢true}
use Rattle.std.specs.Option.{option_map_or}
use Rattle.std.specs.Str.{bytes_eq}
use Rattle.clap.specs.Words.{Text, app_of, fault_of, first_of, found_of, is_simple, is_simple_and_free, matches_of}
use Rattle.clap.specs.declared.error.kind.ErrorKind.TheVariants.{OutOfMemory}
use Rattle.clap.proofs.WalkLemmas.{first_value-rows}
use Rattle.command_line.specs.Words.{raised_value}
use Rattle.command_line.specs.Splits.{faults, asm_app, value_of}
use Rattle.command_line.proofs.Simples.{asm_is_free, asm_is_simple}
use Rattle.command_line.proofs.Taken.{only_memory}
use Rattle.command_line.proofs.split.split_asm.Goals as goal

pub returns-in-Ok-try_get_matches_from-clause-ok : goal.returns-in-Ok-try_get_matches_from-clause-ok
unfolding faults value_of
returns-in-Ok-try_get_matches_from-clause-ok c =
    let words : List Text = map (λ w. w.now) c.args.words.now in
    let app_is : app_of c.in-Ok.command ≡ asm_app = c.in-Ok.ensures in
    let parse = c.in-Ok-try_get_matches_from in
    let rows = (parse.ensures.matches (ap is_simple app_is ∙ asm_is_simple)).0 ∙ ap (λ a. matches_of a words) app_is in
    record {
      taken = ap (λ a. fault_of a words) (sym app_is) ∙ parse.ensures.kinds (ap is_simple_and_free app_is ∙ asm_is_free);
      source = c.get_str.ensures ∙ first_value-rows (found_of parse.matches) (codes "SOURCE") ∙ ap (first_of (codes "SOURCE")) rows;
      output = c.get_str-in-Ok-try_get_matches_from.ensures ∙ first_value-rows (found_of parse.matches) (codes "OUTPUT") ∙ ap (first_of (codes "OUTPUT")) rows;
      little = c.is_raised.ensures
          ∙ ap (λ o. option_map_or (λ text. bytes_eq text raised_value) o false) (c.get_str-in-Ok-try_get_matches_from-2.ensures ∙ first_value-rows (found_of parse.matches) (codes "little") ∙ ap (first_of (codes "little")) rows);
    }

pub returns-clause-usage : goal.returns-clause-usage
unfolding faults
returns-clause-usage c = λ _ none.
    let words : List Text = map (λ w. w.now) c.args.words.now in
    let app_is : app_of c.in-Ok.command ≡ asm_app = c.in-Ok.ensures in
    let fails = c.in-Err.ensures.kinds (ap is_simple_and_free app_is ∙ asm_is_free) in
    let memory = only_memory _ c.in-Err.error (ap (λ a. fault_of a words) app_is ∙ none) fails in
    let kind : c.kind.result ≡ OutOfMemory = c.kind.ensures ∙ memory in
    let told : c.eq.result ≡ false = c.if-eq.false in
    let is : c.eq.result ≡ true = rw kind at c.eq.ensures in
    false≢true (sym told ∙ is)
