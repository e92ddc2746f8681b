-- The words of a line, from the first on.
use Rattle.std.proofs.Common.{◌≡◌, ℕ, ◌<◌, List, [], ◌∷◌, length, arith, Option, Some, None, option_map, sym, ap, ◌∙◌}
use Rattle.std.specs.Prelude.{Result, Err}
use Rattle.debug_script.proofs.Splits.{parts_cut}
use Rattle.debug_script.specs.Commands.{Two, alone, by_verb, one, three, two, verb_of}
use Rattle.debug_script.specs.Parts.{after_part, first_part, parts_after}
use Rattle.debug_script.specs.Scripts.{by_words, line_read, result_map}
use Rattle.debug_script.specs.declared.command.Command.{Command}
use Rattle.debug_script.specs.declared.command.Verb.{Verb}
use Rattle.debug_script.specs.declared.fault.ScriptRule.{ScriptRule}
use Rattle.debug_script.specs.declared.names.ScriptNames.{ScriptNames}
use Rattle.debug_script.specs.declared.progress.Progress.{Progress}
use Rattle.debug_script.specs.declared.fault.ScriptRule.TheVariants.{WrongWordCount}

-- the meaning of a line that has bytes, from its first word and what stands behind
pub line_words : (names : ScriptNames) (p : Progress) (line first : List ℕ) (words : Option (List ℕ)) (verb : Option Verb) (r : Result Command ScriptRule) → 0 < length line → first ≡ first_part 32 line → words ≡ after_part 32 line → verb ≡ verb_of first → r ≡ by_verb names p (parts_after 32 words) verb → result_map Some r ≡ line_read names p line
unfolding line_read
line_words names p [] first words verb r some f a v is = absurd (omega (arith, some))
line_words names p (b ∷ line) first words verb r some f a v is =
    let cut = parts_cut 32 (b ∷ line) in
    ap (result_map Some)
    (is ∙ ap (by_verb names p (parts_after 32 words)) v
    ∙ ap (λ w. by_verb names p (parts_after 32 w) (verb_of first)) a
    ∙ ap (λ w. by_verb names p (parts_after 32 (after_part 32 (b ∷ line))) (verb_of w)) f
    ∙ sym (ap (by_words names p) cut))

pub alone_refused : (command : Command) (o : Option (List ℕ)) (text : List ℕ) → o ≡ Some text → Err WrongWordCount ≡ alone command (parts_after 32 o)
alone_refused command o text is = sym (ap (λ x. alone command (parts_after 32 x)) is ∙ ap (alone command) (parts_cut 32 text))

module _ (o : Option (List ℕ)) (text first : List ℕ) (rest : Option (List ℕ)) (is : o ≡ Some text) (f : first ≡ first_part 32 text) (a : rest ≡ after_part 32 text) where
  words_cut : parts_after 32 o ≡ first ∷ parts_after 32 rest
  words_cut = ap (parts_after 32) is ∙ parts_cut 32 text ∙ ap (λ w. w ∷ parts_after 32 (after_part 32 text)) (sym f) ∙ ap (λ r. first ∷ parts_after 32 r) (sym a)

  pub one_last : rest ≡ None → Some first ≡ one (parts_after 32 o)
  one_last none = sym (ap one (words_cut ∙ ap (λ r. first ∷ parts_after 32 r) none))

  pub one_more : (more : List ℕ) → rest ≡ Some more → None ≡ one (parts_after 32 o)
  one_more more some = sym (ap one (words_cut ∙ ap (λ r. first ∷ parts_after 32 r) some ∙ ap (λ ws. first ∷ ws) (parts_cut 32 more)))

  pub two_of : (second : Option (List ℕ)) → second ≡ one (parts_after 32 rest) → option_map (λ b. record { first = first; second = b }) second ≡ two (parts_after 32 o)
  two_of second so = ap (option_map (λ b. record { first = first; second = b })) so ∙ sym (ap two words_cut)

  pub three_of : (others : Option Two) → others ≡ two (parts_after 32 rest) → option_map (λ (t : Two). record { first = first; second = t.first; third = t.second }) others ≡ three (parts_after 32 o)
  three_of others so = ap (option_map (λ (t : Two). record { first = first; second = t.first; third = t.second })) so ∙ sym (ap three words_cut)
