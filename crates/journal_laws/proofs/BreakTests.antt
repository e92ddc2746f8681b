-- The break law keeps journals that are right, and refuses others.
use Rattle.std.proofs.Common.{◌≡◌, ℕ, zero, suc, ◌+◌, ◌&&◌, nat_lt, List, [], ◌∷◌, Some, refl, ap, sym, ◌∙◌, subst, inl, inr, Bool, true, false, slice_get}
use Rattle.std.specs.List.{AllByRecursion}
use Rattle.std.proofs.lemmas.Option.{same_Some}
use Rattle.core_regs.specs.declared.causes.Take.TheVariants.{Interrupt, Break}
use Rattle.isa_step.specs.Effects.{View}
use Rattle.board_file.specs.declared.board.EventRow.{EventRow}
use Rattle.run_journal.specs.declared.entry.Entry.{Entry}
use Rattle.run_journal.specs.declared.entry.What.{What}
use Rattle.run_journal.specs.declared.entry.What.TheVariants.{Took, Raised}
use Rattle.board_machine.specs.Fabric.{is_break}
use Rattle.board_machine.specs.History.{view_told}
use Rattle.journal_laws.specs.BreakLaw.{BreakLaw, PassesNone, goes_first, lets_in, was_taken}
use Rattle.journal_laws.specs.BreakTests.{BreakLawIsTested}
use Rattle.journal_laws.specs.LinkTests.{waits_get}
use Rattle.journal_laws.specs.Progress.{by_tick}
use Rattle.journal_laws.specs.TakeLaw.{may_break}
use Rattle.journal_laws.specs.TakeTests.{at_act, one_break}
use Rattle.journal_laws.proofs.TakeTests.{first_determined, no_such}
use Rattle.journal_laws.proofs.Lists.{no_split_at, split_at_more}

-- the one view, and the one entry
one_view : (core : ℕ) (first v : View) → slice_get (first ∷ []) core ≡ Some v → first ≡ v
one_view zero first v q = same_Some _ _ q
one_view (suc core) first v q = cc

one_entry : (breaks : List EventRow) (first : View) (e : Entry) → PassesNone breaks first [] e → BreakLaw breaks (first ∷ []) (e ∷ [])
one_entry breaks first e p = record {
  each = λ before later d v q t r. elim (split_at_more before later [] d e q) [
    | inl s ↦ subst (λ v. PassesNone breaks v before d) (one_view d.core first v r) (subst (λ before. PassesNone breaks first before d) (sym s.0) (subst (PassesNone breaks first []) (sym s.1) p))
    | inr s ↦ absurd (no_split_at before s.0 d s.1)
  ];
}

-- what is asked of the first entry
of_first : (breaks : List EventRow) (first : View) (e : Entry) → by_tick e.what ≡ true → e.core ≡ 0 → BreakLaw breaks (first ∷ []) (e ∷ []) → PassesNone breaks first [] e
of_first breaks first e t c law = law.each [] [] e first refl t (ap (slice_get (first ∷ [])) c)

the_view : (breaks : List EventRow) (first : View) (e : Entry) (p : PassesNone breaks first [] e) → e.core ≡ 0 → e.act ≡ 0 → p.view ≡ first
the_view breaks first e p c a =
    let z : view_told first [] 0 0 ≡ Some p.view = ap (λ core. view_told first [] core 0) (sym c) ∙ ap (view_told first [] e.core) (sym a) ∙ p.determined in
    same_Some _ _ (sym z ∙ first_determined first [])

let_in : (kind : Bool) (breaks : List EventRow) (first : View) (e : Entry) (p : PassesNone breaks first [] e) → e.core ≡ 0 → e.act ≡ 0 → lets_in kind first ≡ true → lets_in kind p.view ≡ true
let_in kind breaks first e p c a h = ap (lets_in kind) (the_view breaks first e p c a) ∙ h

not_both : (b : Bool) → b ≡ true → b ≡ false → ⊥
not_both b x y = let z : true ≡ false = sym x ∙ y in cc

the_break : Bool → EventRow
the_break nonmaskable = record { name = []; core = 0; cycle = 5; nonmaskable = nonmaskable }

-- what the law asks of a first entry with the first view
abbrev Passed : List EventRow → View → ℕ → What → Bool → Type 0
Passed breaks first cycle what kind = lets_in kind first ≡ true → goes_first kind what ≡ false → AllByRecursion (λ (r : EventRow). is_break 0 kind r && nat_lt r.cycle (cycle + 1) ≡ true → was_taken [] 0 kind 0 r ≡ true) breaks

passes : (breaks : List EventRow) (first : View) (cycle : ℕ) (what : What) → ((kind : Bool) → Passed breaks first cycle what kind) → BreakLaw breaks (first ∷ []) (at_act cycle 0 what ∷ [])
passes breaks first cycle what h = one_entry breaks first (at_act cycle 0 what) (record { view = first; determined = first_determined first []; none = h })

taken_in_time : (first : View) (kind : Bool) → Passed (one_break 0 false) first 5 (Took Break) kind
taken_in_time first true l g = ((λ c. absurd (no_such c)), tt)
taken_in_time first false l g = ((λ c. absurd (not_both true refl g)), tt)

none_yet : (first : View) (kind : Bool) → Passed (one_break 0 false) first 4 (Raised 1) kind
none_yet first true l g = ((λ c. absurd (no_such c)), tt)
none_yet first false l g = ((λ c. absurd (no_such c)), tt)

none_let_in : (first : View) → may_break first ≡ false → (kind : Bool) → Passed (one_break 0 false) first 7 (Raised 1) kind
none_let_in first h true l g = ((λ c. absurd (no_such c)), tt)
none_let_in first h false l g = ((λ c. absurd (not_both (may_break first) l h)), tt)

-- a first entry that the law refuses
refuses : (nonmaskable : Bool) (first : View) (cycle : ℕ) (what : What) → by_tick what ≡ true → lets_in nonmaskable first ≡ true → goes_first nonmaskable what ≡ false
    → is_break 0 nonmaskable (the_break nonmaskable) && nat_lt 5 (cycle + 1) ≡ true → BreakLaw (one_break 0 nonmaskable) (first ∷ []) (at_act cycle 0 what ∷ []) → ⊥
unfolding the_break
refuses nonmaskable first cycle what t l g c law =
    let e : Entry = at_act cycle 0 what in
    let p = of_first (one_break 0 nonmaskable) first e t refl law in
    no_such ((p.none nonmaskable (let_in nonmaskable (one_break 0 nonmaskable) first e p refl refl l) g).0 c)

pub break_law_is_tested : BreakLawIsTested
unfolding the_break
break_law_is_tested = record {
  taken = λ first. passes (one_break 0 false) first 5 (Took Break) (taken_in_time first);
  not_yet = λ first. passes (one_break 0 false) first 4 (Raised 1) (none_yet first);
  held_off = λ first h. passes (one_break 0 false) first 7 (Raised 1) (none_let_in first h);
  passed_over = λ first h. refuses false first 5 (Raised 1) refl h refl refl;
  waits_instead = λ first h. refuses false first 7 waits_get refl h refl refl;
  interrupt_first = λ first h. refuses false first 7 (Took Interrupt) refl h refl refl;
  nonmaskable_passed_over = λ first h. refuses true first 7 (Took Break) refl h refl refl;
}
