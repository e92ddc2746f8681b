-- Journals in which no break is passed over, and journals that are refused since one is.
use Rattle.std.specs.Prelude.{◌≡◌, false, true, [], ◌∷◌}
use Rattle.core_regs.specs.declared.causes.Take.TheVariants.{Interrupt, Break}
use Rattle.isa_step.specs.Effects.{View}
use Rattle.run_journal.specs.declared.entry.What.TheVariants.{Took, Raised}
use Rattle.board_machine.specs.History.{may_take_at}
use Rattle.journal_laws.specs.BreakLaw.{BreakLaw}
use Rattle.journal_laws.specs.TakeLaw.{may_break}
use Rattle.journal_laws.specs.LinkTests.{waits_get}
use Rattle.journal_laws.specs.TakeTests.{at_act, one_break}

pub record BreakLawIsTested : Type 0 where
  pub taken : (first : View) → BreakLaw (one_break 0 false) (first ∷ []) (at_act 5 0 (Took Break) ∷ [])
  pub not_yet : (first : View) → BreakLaw (one_break 0 false) (first ∷ []) (at_act 4 0 (Raised 1) ∷ [])
  pub held_off : (first : View) → may_break first ≡ false → BreakLaw (one_break 0 false) (first ∷ []) (at_act 7 0 (Raised 1) ∷ [])
  pub passed_over : (first : View) → may_break first ≡ true → BreakLaw (one_break 0 false) (first ∷ []) (at_act 5 0 (Raised 1) ∷ []) → ⊥
  pub waits_instead : (first : View) → may_break first ≡ true → BreakLaw (one_break 0 false) (first ∷ []) (at_act 7 0 waits_get ∷ []) → ⊥
  pub interrupt_first : (first : View) → may_break first ≡ true → BreakLaw (one_break 0 false) (first ∷ []) (at_act 7 0 (Took Interrupt) ∷ []) → ⊥
  pub nonmaskable_passed_over : (first : View) → may_take_at first ≡ true → BreakLaw (one_break 0 true) (first ∷ []) (at_act 7 0 (Took Break) ∷ []) → ⊥
