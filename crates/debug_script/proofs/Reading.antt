-- Lines, one after the other.
use Rattle.std.proofs.Common.{◌≡◌, ℕ, ◌+◌, ◌≤◌, ◌<◌, ◌==◌, true, false, if◌then◌else◌, arith, List, [], ◌∷◌, ◌++◌, length, Option, Some, None, refl, sym, ap, ◌∙◌, append_assoc, append-nil}
use Rattle.std.specs.Prelude.{Result, Ok, Err}
use Rattle.debug_script.proofs.Splits.{parts_cut}
use Rattle.debug_script.specs.Commands.{after}
use Rattle.debug_script.specs.declared.command.Command.TheVariants.{Break, Detach}
use Rattle.debug_script.specs.Parts.{after_part, first_part, parts_after}
use Rattle.debug_script.specs.Scripts.{line_read, line_then, lines_read, noted, refusal, result_map, with_first}
use Rattle.debug_script.specs.declared.command.Command.{Command}
use Rattle.debug_script.specs.declared.fault.ScriptFault.{ScriptFault}
use Rattle.debug_script.specs.declared.fault.ScriptRule.{ScriptRule}
use Rattle.debug_script.specs.declared.names.ScriptNames.{ScriptNames}
use Rattle.debug_script.specs.declared.progress.Progress.{Progress}

-- a script of which some lines are read: `done` are their commands
abbrev pub Reads : ScriptNames → Result (List Command) ScriptFault → List Command → Progress → ℕ → Option (List ℕ) → Type 0
Reads names all done p number rest = all ≡ result_map (λ cs. done ++ cs) (lines_read names p number (parts_after 10 rest))

pub reads_begin : (r : Result (List Command) ScriptFault) → r ≡ result_map (λ cs. [] ++ cs) r
reads_begin (Ok cs) = refl
reads_begin (Err e) = refl

joined : (done : List Command) (command : Option Command) (r : Result (List Command) ScriptFault) → result_map (λ cs. done ++ cs) (result_map (with_first command) r) ≡ result_map (λ cs. (done ++ with_first command []) ++ cs) r
joined done None (Ok cs) = ap (λ l. Ok (l ++ cs)) (sym (append-nil done))
joined done None (Err e) = refl
joined done (Some c) (Ok cs) = ap Ok (sym (append_assoc done (c ∷ []) cs))
joined done (Some c) (Err e) = refl

module _ (names : ScriptNames) (all : Result (List Command) ScriptFault) (done : List Command) (p : Progress) (number : ℕ) (o : Option (List ℕ)) (left : List ℕ) (is_left : o ≡ Some left) where
  by_first : all ≡ result_map (λ cs. done ++ cs) (lines_read names p number (parts_after 10 o)) → all ≡ result_map (λ cs. done ++ cs) (line_then number (line_read names p (first_part 10 left)) (λ command. lines_read names (noted command p) (number + 1) (parts_after 10 (after_part 10 left))))
  by_first so_far = so_far ∙ ap (λ x. result_map (λ cs. done ++ cs) (lines_read names p number (parts_after 10 x))) is_left ∙ ap (λ lines. result_map (λ cs. done ++ cs) (lines_read names p number lines)) (parts_cut 10 left)

  -- one more line is read
  pub reads_more : (line : List ℕ) (rest : Option (List ℕ)) (command : Option Command) (new : List Command) (q : Progress) → all ≡ result_map (λ cs. done ++ cs) (lines_read names p number (parts_after 10 o)) → line ≡ first_part 10 left → rest ≡ after_part 10 left → Ok command ≡ line_read names p line → new ≡ done ++ with_first command [] → q ≡ noted command p → all ≡ result_map (λ cs. new ++ cs) (lines_read names q (number + 1) (parts_after 10 rest))
  reads_more line rest command new q so_far first after is grown moved =
      by_first so_far
      ∙ ap (λ r. result_map (λ cs. done ++ cs) (line_then number r (λ command. lines_read names (noted command p) (number + 1) (parts_after 10 (after_part 10 left))))) (sym (is ∙ ap (line_read names p) first))
      ∙ joined done command (lines_read names (noted command p) (number + 1) (parts_after 10 (after_part 10 left)))
      ∙ ap (λ l. result_map (λ cs. l ++ cs) (lines_read names (noted command p) (number + 1) (parts_after 10 (after_part 10 left)))) (sym grown)
      ∙ ap (λ (s : Progress). result_map (λ cs. new ++ cs) (lines_read names s (number + 1) (parts_after 10 (after_part 10 left)))) (sym moved)
      ∙ ap (λ t. result_map (λ cs. new ++ cs) (lines_read names q (number + 1) (parts_after 10 t))) (sym after)

  -- the line is refused
  pub reads_refused : (line : List ℕ) (rule : ScriptRule) → all ≡ result_map (λ cs. done ++ cs) (lines_read names p number (parts_after 10 o)) → line ≡ first_part 10 left → Err rule ≡ line_read names p line → all ≡ Err (refusal rule number)
  reads_refused line rule so_far first is =
      by_first so_far
      ∙ ap (λ r. result_map (λ cs. done ++ cs) (line_then number r (λ command. lines_read names (noted command p) (number + 1) (parts_after 10 (after_part 10 left))))) (sym (is ∙ ap (line_read names p) first))

-- no line is left
pub reads_end : (all : Result (List Command) ScriptFault) (done : List Command) → all ≡ result_map (λ cs. done ++ cs) (Ok []) → all ≡ Ok done
reads_end all done so_far = so_far ∙ ap Ok (append-nil done)

-- how many bytes are left, and one more where there is a line
abbrev pub left_len : Option (List ℕ) → ℕ
left_len (Some text) = length text + 1
left_len None = 0

pub after_is_shorter : (separator : ℕ) (text : List ℕ) → left_len (after_part separator text) ≤ length text
after_is_shorter separator [] = omega arith
after_is_shorter separator (b ∷ text) =
    elim (b == separator) as (λ c. left_len (if c then Some text else after_part separator text) ≤ length (b ∷ text)) [
      | true ↦ omega arith
      | false ↦ omega (arith, after_is_shorter separator text)
    ]

pub shorter : (o rest : Option (List ℕ)) (left : List ℕ) → o ≡ Some left → rest ≡ after_part 10 left → left_len rest < left_len o
shorter o rest left is_left after = omega (arith, ap left_len is_left, ap left_len after, after_is_shorter 10 left)

few_with : (command : Command) (p : Progress) → (after command p).breaks ≤ p.breaks + 1
few_with (Break core addr) p = omega arith
few_with (Detach name) p = omega arith
few_with _ p = omega arith

pub few_after : (command : Option Command) (p : Progress) → (noted command p).breaks ≤ p.breaks + 1
few_after None p = omega arith
few_after (Some command) p = few_with command p
