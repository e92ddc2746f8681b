-- The take law keeps journals that are right, and refuses others.
use Rattle.std.proofs.Common.{◌≡◌, ℕ, ◌<◌, ◌≤◌, List, [], ◌∷◌, Some, refl, ap, sym, ◌∙◌, subst, arith, Bool, true, false, ◌&&◌, ◌==◌}
use Rattle.std.proofs.lemmas.Bool.{ne_eqb}
use Rattle.std.proofs.lemmas.Option.{same_Some}
use Rattle.core_regs.specs.declared.causes.Take.TheVariants.{Break, NonMaskable}
use Rattle.isa_step.specs.Effects.{View}
use Rattle.isa_step.specs.History.{state_after}
use Rattle.board_file.specs.declared.board.EventRow.{EventRow}
use Rattle.run_journal.specs.declared.entry.Entry.{Entry}
use Rattle.run_journal.specs.declared.entry.What.TheVariants.{Took, LineUp, LineDown}
use Rattle.run_journal.specs.Files.{is_of_act, is_response, tape}
use Rattle.board_machine.proofs.Journals.{skips}
use Rattle.board_machine.proofs.Lists.{and_false_left, and_false_right}
use Rattle.board_machine.specs.History.{may_take_at, view_told}
use Rattle.journal_laws.specs.TakeLaw.{IsRightAct, TakeLaw, breaks_of, breaks_taken, may_break, may_interrupt}
use Rattle.journal_laws.specs.TakeTests.{TakeLawIsTested, at_act, one_break, takes_interrupt}

pub first_determined : (first : View) (journal : List Entry) → view_told first journal 0 0 ≡ Some first
unfolding state_after
first_determined first journal = refl

-- the view before the first act is the first one
first_view : (breaks : List EventRow) (first : View) (journal : List Entry) (r : IsRightAct breaks first journal 0 0) → r.view ≡ first
first_view breaks first journal r = same_Some _ _ (sym r.determined ∙ first_determined first journal)

one_act : (breaks : List EventRow) (first : View) (journal : List Entry) → IsRightAct breaks first journal 0 0 → (act : ℕ) → act < 1 → IsRightAct breaks first journal 0 act
one_act breaks first journal r act l = let e : 0 ≡ act = omega (arith, l) in subst (IsRightAct breaks first journal 0) e r

-- entries of the first act are of no later one

of_first : (act : ℕ) (e : Entry) → 1 ≤ act → e.act ≡ 0 → is_of_act 0 act e ≡ false
of_first act e l z = and_false_left (e.core == 0 && e.act == act) (is_response e.what) (and_false_right (e.core == 0) (e.act == act) (ne_eqb e.act act (λ x. omega (arith, l, z, x))))

one_entry : (e : Entry) → e.act ≡ 0 → (act : ℕ) → 1 ≤ act → tape (e ∷ []) 0 act ≡ []
one_entry e z act l = skips 0 act e [] (of_first act e l z)

two_entries : (d e : Entry) → d.act ≡ 0 → e.act ≡ 0 → (act : ℕ) → 1 ≤ act → tape (d ∷ e ∷ []) 0 act ≡ []
two_entries d e y z act l = skips 0 act d (e ∷ []) (of_first act d l y) ∙ one_entry e z act l

none_taken : (kind : Bool) → 0 ≤ 0
none_taken kind = omega arith

taken_in_time : (first : View) → may_interrupt first ≡ true → TakeLaw [] first 0 1 (at_act 8 0 LineUp ∷ takes_interrupt 0 ∷ [])
taken_in_time first h = record {
  right = one_act [] first (at_act 8 0 LineUp ∷ takes_interrupt 0 ∷ []) (record { view = first; determined = first_determined first (at_act 8 0 LineUp ∷ takes_interrupt 0 ∷ []); takes = (h, tt); passes = λ x. cc });
  no_more = two_entries (at_act 8 0 LineUp) (takes_interrupt 0) refl refl;
  enough = none_taken;
}

one_taken : (kind : Bool) → breaks_taken (at_act 5 0 (Took Break) ∷ []) 0 kind ≤ breaks_of (one_break 0 false) 0 kind
one_taken true = let h : 0 ≤ 0 = omega arith in h
one_taken false = let h : 1 ≤ 1 = omega arith in h

break_taken_in_time : (first : View) → may_break first ≡ true → TakeLaw (one_break 0 false) first 0 1 (at_act 5 0 (Took Break) ∷ [])
break_taken_in_time first h = record {
  right = one_act (one_break 0 false) first (at_act 5 0 (Took Break) ∷ []) (record { view = first; determined = first_determined first (at_act 5 0 (Took Break) ∷ []); takes = ((h, refl), tt); passes = λ x. cc });
  no_more = one_entry (at_act 5 0 (Took Break)) refl;
  enough = one_taken;
}

not_both : (a b : Bool) → a ≡ b → a ≡ true → b ≡ false → ⊥
not_both a b e x y = let z : true ≡ false = sym x ∙ e ∙ y in cc

-- a first act that lets an interrupt in
lets_in : (first : View) (journal : List Entry) (r : IsRightAct [] first journal 0 0) → may_interrupt r.view ≡ may_interrupt first
lets_in first journal r = ap may_interrupt (first_view [] first journal r)

passed_over : (first : View) (journal : List Entry) (r : IsRightAct [] first journal 0 0) → may_interrupt first ≡ true → may_interrupt r.view ≡ false → ⊥
passed_over first journal r h n = not_both (may_interrupt first) (may_interrupt r.view) (sym (lets_in first journal r)) h n

first_act : (breaks : List EventRow) (first : View) (journal : List Entry) → TakeLaw breaks first 0 1 journal → IsRightAct breaks first journal 0 0
first_act breaks first journal law = law.right 0 (omega arith)

some_left : (e : Entry) → e ∷ [] ≡ [] → ⊥
some_left e h = cc

pub no_such : false ≡ true → ⊥
no_such e = cc

pub take_law_is_tested : TakeLawIsTested
take_law_is_tested = record {
  in_time = taken_in_time;
  break_in_time = break_taken_in_time;
  one_act_late = λ first h law. let r = law.right 0 (omega arith) in passed_over first (at_act 8 0 LineUp ∷ takes_interrupt 1 ∷ []) r h (r.passes refl);
  never_taken = λ first h law. let r = first_act [] first (at_act 8 0 LineUp ∷ []) law in passed_over first (at_act 8 0 LineUp ∷ []) r h (r.passes refl);
  one_act_early = λ first law. no_such (first_act [] first (at_act 8 1 LineUp ∷ takes_interrupt 0 ∷ []) law).takes.0;
  of_no_line = λ first law. no_such (first_act [] first (takes_interrupt 0 ∷ []) law).takes.0;
  of_fallen_line = λ first law. no_such (first_act [] first (at_act 7 0 LineUp ∷ at_act 8 0 LineDown ∷ takes_interrupt 0 ∷ []) law).takes.0;
  not_let_in = λ first h law. let r = first_act [] first (at_act 8 0 LineUp ∷ takes_interrupt 0 ∷ []) law in not_both (may_interrupt r.view) (may_interrupt first) (lets_in first (at_act 8 0 LineUp ∷ takes_interrupt 0 ∷ []) r) r.takes.0 h;
  after_its_acts = λ first law. some_left (takes_interrupt 0) (law.no_more 0 (omega arith));
  taken_twice = λ first law. absurd (let h : 2 ≤ 1 = law.enough false in omega (arith, h));
  before_its_cycle = λ first law. no_such (first_act (one_break 0 false) first (at_act 4 0 (Took Break) ∷ []) law).takes.0.1;
  of_other_core = λ first law. no_such (first_act (one_break 1 false) first (at_act 5 0 (Took Break) ∷ []) law).takes.0.1;
  of_other_kind = λ first law. no_such (first_act (one_break 0 false) first (at_act 5 0 (Took NonMaskable) ∷ []) law).takes.0.1;
  break_masked = λ first h law. let r = first_act (one_break 0 false) first (at_act 5 0 (Took Break) ∷ []) law in not_both (may_break r.view) (may_break first) (ap may_break (first_view (one_break 0 false) first (at_act 5 0 (Took Break) ∷ []) r)) r.takes.0.0 h;
  in_a_slot = λ first h law. let r = first_act (one_break 0 true) first (at_act 5 0 (Took NonMaskable) ∷ []) law in not_both (may_take_at r.view) (may_take_at first) (ap may_take_at (first_view (one_break 0 true) first (at_act 5 0 (Took NonMaskable) ∷ []) r)) r.takes.0.0 h;
}
