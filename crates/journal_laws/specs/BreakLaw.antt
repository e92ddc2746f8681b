-- That no break is passed over in a run by cycles.
use Rattle.std.specs.Prelude.{◌≡◌, ℕ, ◌+◌, ◌==◌, ◌&&◌, not, Bool, true, false, List, ◌∷◌, ◌++◌, Some, nat_lt, slice_get}
use Rattle.std.specs.List.{AllByRecursion, list_any}
use Rattle.core_regs.specs.declared.causes.Take.TheVariants.{Break, NonMaskable}
use Rattle.isa_step.specs.Effects.{View}
use Rattle.board_file.specs.declared.board.EventRow.{EventRow}
use Rattle.run_journal.specs.declared.entry.Entry.{Entry}
use Rattle.run_journal.specs.declared.entry.What.{What}
use Rattle.run_journal.specs.declared.entry.What.TheVariants.{Took}
use Rattle.board_machine.specs.Fabric.{is_break}
use Rattle.board_machine.specs.History.{may_take_at, view_told}
use Rattle.journal_laws.specs.Progress.{by_tick}
use Rattle.journal_laws.specs.TakeLaw.{may_break, takes_break}

-- a take of the break's kind by the core, before this act and not before the break's cycle
abbrev pub takes_it : ℕ → Bool → ℕ → EventRow → Entry → Bool
takes_it core nonmaskable act r e = e.core == core && takes_break nonmaskable e.what && nat_lt e.act act && nat_lt r.cycle (e.cycle + 1)

abbrev pub was_taken : List Entry → ℕ → Bool → ℕ → EventRow → Bool
was_taken journal core nonmaskable act r = list_any (takes_it core nonmaskable act r) journal

abbrev pub lets_in : Bool → View → Bool
lets_in true v = may_take_at v
lets_in false v = may_break v

-- a take of a break of this kind, or one that goes first
abbrev pub goes_first : Bool → What → Bool
goes_first nonmaskable (Took NonMaskable) = true
goes_first nonmaskable (Took Break) = not nonmaskable
goes_first nonmaskable _ = false

-- at an entry of a core's act, or of a wait before it: each break that has come, that the view lets in and before which no
-- other take goes, was taken before
pub record PassesNone (breaks : List EventRow) (first : View) (before : List Entry) (e : Entry) : Type 0 where
  pub view : View
  pub determined : view_told first before e.core e.act ≡ Some view
  pub none : (nonmaskable : Bool) → lets_in nonmaskable view ≡ true → goes_first nonmaskable e.what ≡ false
      → AllByRecursion (λ (r : EventRow). is_break e.core nonmaskable r && nat_lt r.cycle (e.cycle + 1) ≡ true → was_taken before e.core nonmaskable e.act r ≡ true) breaks

pub record BreakLaw (breaks : List EventRow) (views : List View) (journal : List Entry) : Type 0 where
  pub each : (before later : List Entry) (e : Entry) (first : View) → journal ≡ before ++ e ∷ later → by_tick e.what ≡ true → slice_get views e.core ≡ Some first → PassesNone breaks first before e
