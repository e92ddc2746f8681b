-- Journals that have the take law, and journals that it refuses, whatever the views are that its words ask for.
use Rattle.std.specs.Prelude.{◌≡◌, ℕ, Bool, false, true, List, [], ◌∷◌}
use Rattle.core_regs.specs.declared.causes.Take.TheVariants.{Interrupt, Break, NonMaskable}
use Rattle.isa_step.specs.Effects.{View}
use Rattle.board_file.specs.declared.board.EventRow.{EventRow}
use Rattle.run_journal.specs.declared.entry.Entry.{Entry}
use Rattle.run_journal.specs.declared.entry.What.{What}
use Rattle.run_journal.specs.declared.entry.What.TheVariants.{Took, LineUp, LineDown}
use Rattle.board_machine.specs.History.{may_take_at}
use Rattle.journal_laws.specs.TakeLaw.{TakeLaw, may_break, may_interrupt}

-- an entry of core 0
abbrev pub at_act : ℕ → ℕ → What → Entry
at_act cycle act what = record { cycle = cycle; core = 0; act = act; what = what }

-- the board file has one break, of a core, in cycle 5
abbrev pub one_break : ℕ → Bool → List EventRow
one_break core nonmaskable = record { name = []; core = core; cycle = 5; nonmaskable = nonmaskable } ∷ []

abbrev pub takes_interrupt : ℕ → Entry
takes_interrupt act = at_act 9 act (Took Interrupt)

pub record TakeLawIsTested : Type 0 where
  pub in_time : (first : View) → may_interrupt first ≡ true → TakeLaw [] first 0 1 (at_act 8 0 LineUp ∷ takes_interrupt 0 ∷ [])
  pub break_in_time : (first : View) → may_break first ≡ true → TakeLaw (one_break 0 false) first 0 1 (at_act 5 0 (Took Break) ∷ [])
  -- the line rose before act 0, which let an interrupt in and took none
  pub one_act_late : (first : View) → may_interrupt first ≡ true → TakeLaw [] first 0 2 (at_act 8 0 LineUp ∷ takes_interrupt 1 ∷ []) → ⊥
  pub never_taken : (first : View) → may_interrupt first ≡ true → TakeLaw [] first 0 1 (at_act 8 0 LineUp ∷ []) → ⊥
  pub one_act_early : (first : View) → TakeLaw [] first 0 1 (at_act 8 1 LineUp ∷ takes_interrupt 0 ∷ []) → ⊥
  pub of_no_line : (first : View) → TakeLaw [] first 0 1 (takes_interrupt 0 ∷ []) → ⊥
  pub of_fallen_line : (first : View) → TakeLaw [] first 0 1 (at_act 7 0 LineUp ∷ at_act 8 0 LineDown ∷ takes_interrupt 0 ∷ []) → ⊥
  pub not_let_in : (first : View) → may_interrupt first ≡ false → TakeLaw [] first 0 1 (at_act 8 0 LineUp ∷ takes_interrupt 0 ∷ []) → ⊥
  pub after_its_acts : (first : View) → TakeLaw [] first 0 0 (takes_interrupt 0 ∷ []) → ⊥
  pub taken_twice : (first : View) → TakeLaw (one_break 0 false) first 0 2 (at_act 5 0 (Took Break) ∷ at_act 6 1 (Took Break) ∷ []) → ⊥
  pub before_its_cycle : (first : View) → TakeLaw (one_break 0 false) first 0 1 (at_act 4 0 (Took Break) ∷ []) → ⊥
  pub of_other_core : (first : View) → TakeLaw (one_break 1 false) first 0 1 (at_act 5 0 (Took Break) ∷ []) → ⊥
  pub of_other_kind : (first : View) → TakeLaw (one_break 0 false) first 0 1 (at_act 5 0 (Took NonMaskable) ∷ []) → ⊥
  pub break_masked : (first : View) → may_break first ≡ false → TakeLaw (one_break 0 false) first 0 1 (at_act 5 0 (Took Break) ∷ []) → ⊥
  pub in_a_slot : (first : View) → may_take_at first ≡ false → TakeLaw (one_break 0 true) first 0 1 (at_act 5 0 (Took NonMaskable) ∷ []) → ⊥
