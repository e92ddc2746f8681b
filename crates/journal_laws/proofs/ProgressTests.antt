-- The progress bound keeps journals that are right, and refuses others.
use Rattle.std.proofs.Common.{◌≡◌, ℕ, zero, suc, ◌+◌, ◌*◌, ◌≤◌, List, [], ◌∷◌, Some, refl, subst, arith, true, slice_get}
use Rattle.std.specs.List.{AllByRecursion}
use Rattle.std.proofs.lemmas.Option.{same_Some}
use Rattle.core_regs.specs.declared.causes.Take.TheVariants.{Interrupt}
use Rattle.isa_step.specs.Effects.{View}
use Rattle.run_journal.specs.declared.entry.Entry.{Entry}
use Rattle.run_journal.specs.declared.entry.What.TheVariants.{Got, Took, Slept, Raised}
use Rattle.journal_laws.specs.Progress.{IsInPace, ProgressBound, by_tick}
use Rattle.journal_laws.specs.LinkTests.{file_link, item, waits_get}
use Rattle.journal_laws.specs.TakeTests.{at_act}
use Rattle.journal_laws.specs.ProgressTests.{ProgressBoundIsTested, awake, each_cycle, each_second, host_sends}
use Rattle.journal_laws.proofs.Pace.{all_at}

-- the bound for the one core, where a tick made the entry
abbrev IsFine : (ℕ → List ℕ) → List Entry → Entry → Type 0
IsFine order journal e = by_tick e.what ≡ true → IsInPace order file_link awake journal e

the_view : (core : ℕ) (first : View) → slice_get (awake ∷ []) core ≡ Some first → awake ≡ first
the_view zero first q = same_Some _ _ q
the_view (suc core) first q = cc

fine : (order : ℕ → List ℕ) (journal : List Entry) → AllByRecursion (IsFine order journal) journal → ProgressBound order file_link (awake ∷ []) journal
fine order journal h = record {
  each = λ before later e first q t v. subst (λ view. IsInPace order file_link view journal e) (the_view e.core first v) (all_at (IsFine order journal) before later journal e q h t);
}

-- numbers that are known
bound_of : (a r k n m : ℕ) → a ≡ n → r ≡ m → n ≤ 64 * (k + 1) + m → a ≤ 64 * (k + 1) + r
bound_of a r k n m x y h = omega (arith, x, y, h)

broken_of : (a r k n m : ℕ) → a ≡ n → r ≡ m → a ≤ 64 * (k + 1) + r → n ≤ 64 * (k + 1) + m
broken_of a r k n m x y h = omega (arith, x, y, h)

pub progress_bound_is_tested : ProgressBoundIsTested
progress_bound_is_tested = record {
  in_time = fine each_cycle (at_act 63 0 (Raised 1) ∷ []) (λ t. bound_of _ _ 0 64 0 refl refl (omega arith), tt);
  two_acts = fine each_cycle (at_act 127 1 (Raised 1) ∷ []) (λ t. bound_of _ _ 1 128 0 refl refl (omega arith), tt);
  one_tick_late = λ bound. absurd (omega (arith, broken_of _ _ 0 65 0 refl refl (bound.each [] [] (at_act 64 0 (Raised 1)) awake refl refl refl)));
  held_up = λ bound. absurd (omega (arith, broken_of _ _ 1 129 0 refl refl (bound.each (at_act 63 0 (Raised 1) ∷ []) [] (at_act 128 1 (Raised 1)) awake refl refl refl)));
  slow_in_time = fine each_second (at_act 126 0 (Raised 1) ∷ []) (λ t. bound_of _ _ 0 64 0 refl refl (omega arith), tt);
  slow_late = λ bound. absurd (omega (arith, broken_of _ _ 0 65 0 refl refl (bound.each [] [] (at_act 128 0 (Raised 1)) awake refl refl refl)));
  waited = fine each_cycle (at_act 0 0 waits_get ∷ host_sends 100 ∷ at_act 100 0 (Got 3 (item 7)) ∷ []) (λ t. bound_of _ _ 0 1 0 refl refl (omega arith), ((λ t. cc), (λ t. bound_of _ _ 0 101 100 refl refl (omega arith), tt)));
  waited_on = λ bound. absurd (omega (arith, broken_of _ _ 0 101 1 refl refl (bound.each (at_act 0 0 waits_get ∷ host_sends 1 ∷ []) [] (at_act 100 0 (Got 3 (item 7))) awake refl refl refl)));
  slept = fine each_cycle (at_act 0 0 Slept ∷ at_act 200 1 (Took Interrupt) ∷ []) (λ t. bound_of _ _ 0 1 0 refl refl (omega arith), (λ t. bound_of _ _ 1 201 199 refl refl (omega arith), tt));
  slept_on = λ bound. absurd (omega (arith, broken_of _ _ 2 201 0 refl refl (bound.each (at_act 0 0 Slept ∷ at_act 1 1 (Took Interrupt) ∷ []) [] (at_act 200 2 (Raised 1)) awake refl refl refl)));
}
