-- The breaks whose cycle comes: no flag is set without one, and none counts twice.
use Rattle.std.proofs.Common.{◌≡◌, ℕ, ◌+◌, ◌≤◌, ◌&&◌, not, List, [], ◌∷◌, filter, Option, Some, None, refl, ap, sym, ◌∙◌, inl, inr, ◌⊎◌, arith, slice_get, Bool, true, false, cond, nat_lt}
use Rattle.std.specs.List.{fold, list_any}
use Rattle.std.proofs.lemmas.Bool.{cases_eq, eq-eqb, lt-ltb, ltb-false, ltb-true}
use Rattle.isa_step.specs.declared.acts.Breaks.{Breaks}
use Rattle.isa_step.specs.Effects.{View}
use Rattle.board_file.specs.declared.board.EventRow.{EventRow}
use Rattle.board_machine.specs.Places.{set_some}
use Rattle.board_machine.specs.Fabric.{Fabric, breaks_come, flagged, given, has_come, is_break, is_to_come, next_cycle, or_none}
use Rattle.board_machine.proofs.Lists.{and_left, and_right, slice_get_set_same, slice_get_set_other}
use Rattle.journal_laws.specs.Progress.{as_one}
use Rattle.journal_laws.specs.TakeLaw.{breaks_of, has_break}
use Rattle.journal_laws.proofs.Truths.{or_cases, or_left, or_right}
use Rattle.journal_laws.proofs.Takes.{Account, flag_at, flag_of}

pub any_more : {X : Type 0} (p q : X → Bool) (rs : List X) → ((r : X) → p r ≡ true → q r ≡ true) → list_any p rs ≡ true → list_any q rs ≡ true
any_more p q [] i h = h
any_more p q (r ∷ rs) i h = elim (or_cases (p r) (list_any p rs) h) [
  | inl e ↦ or_left (q r) (list_any q rs) (i r e)
  | inr e ↦ or_right (q r) (list_any q rs) (any_more p q rs i e)
]

-- the next cycle

later_come : (core cycle : ℕ) (kind : Bool) (r : EventRow) → is_break core kind r && nat_lt r.cycle (cycle + 1) ≡ true → is_break core kind r && nat_lt r.cycle (cycle + 1 + 1) ≡ true
later_come core cycle kind r h =
    let l = ltb-true r.cycle (cycle + 1) (and_right (is_break core kind r) (nat_lt r.cycle (cycle + 1)) h) in
    rw (and_left (is_break core kind r) (nat_lt r.cycle (cycle + 1)) h, lt-ltb r.cycle (cycle + 1 + 1) (omega (arith, l))) refl

pub next_account : (breaks : List EventRow) (first : View) (core acts : ℕ) (line : Bool) (f : Fabric) → Account breaks first core acts line f → Account breaks first core acts line (next_cycle f)
next_account breaks first core acts line f a = record {
  right = a.right;
  has_line = a.has_line;
  is_high = a.is_high;
  enough = a.enough;
  come = λ kind h. any_more (λ (r : EventRow). is_break core kind r && nat_lt r.cycle (f.cycle + 1)) (λ (r : EventRow). is_break core kind r && nat_lt r.cycle (f.cycle + 1 + 1)) breaks (later_come core f.cycle kind) (a.come kind h);
  all_from = a.all_from;
}

-- one break: a flag that is set now was set, or is this break's

flag_raised : (nonmaskable kind : Bool) (b : Breaks) → flag_of kind (flagged nonmaskable b) ≡ true → (flag_of kind b ≡ true) ⊎ (kind ≡ nonmaskable)
unfolding flag_of
flag_raised true true b h = inr refl
flag_raised true false b h = inl h
flag_raised false true b h = inl h
flag_raised false false b h = inr refl

break_by : (core : ℕ) (kind nonmaskable : Bool) (r : EventRow) → r.core ≡ core → kind ≡ nonmaskable → r.nonmaskable ≡ nonmaskable → is_break core kind r ≡ true
break_by core true true r e k n = rw (eq-eqb r.core core e) n
break_by core true false r e k n = cc
break_by core false true r e k n = cc
break_by core false false r e k n = rw (eq-eqb r.core core e) (ap not n)

raised_at : (nonmaskable : Bool) (k core : ℕ) (pending : List Breaks) (kind : Bool) (o : Option Breaks) → slice_get pending k ≡ o → (core ≡ k) ⊎ (core ≡ k → ⊥) → flag_at (set_some pending k (flagged nonmaskable) o) core kind ≡ true → (flag_at pending core kind ≡ true) ⊎ ((core ≡ k) × (kind ≡ nonmaskable))
raised_at nonmaskable k core pending kind None e c h = inl h
raised_at nonmaskable k core pending kind (Some b) e (inr n) h = inl (ap (λ (o : Option Breaks). flag_of kind (or_none o)) (sym (slice_get_set_other pending core k (flagged nonmaskable b) n)) ∙ h)
raised_at nonmaskable k core pending kind (Some b) e (inl c) h =
    let now : flag_of kind (flagged nonmaskable b) ≡ true =
    ap (λ (o : Option Breaks). flag_of kind (or_none o)) (sym (slice_get_set_same pending k b (flagged nonmaskable b) e)) ∙ ap (λ j. flag_at (set_some pending k (flagged nonmaskable) (Some b)) j kind) (sym c) ∙ h in
    elim (flag_raised nonmaskable kind b now) [
      | inl f ↦ inl (ap (λ j. flag_at pending j kind) c ∙ ap (λ (o : Option Breaks). flag_of kind (or_none o)) e ∙ f)
      | inr f ↦ inr (c, f)
    ]

one_given : (core : ℕ) (kind : Bool) (pending : List Breaks) (r : EventRow) → flag_at (given pending r) core kind ≡ true → (flag_at pending core kind ≡ true) ⊎ (is_break core kind r ≡ true)
one_given core kind pending r h = elim (raised_at r.nonmaskable r.core core pending kind (slice_get pending r.core) refl (cases_eq core r.core) h) [
  | inl f ↦ inl f
  | inr c ↦ inr (break_by core kind r.nonmaskable r (sym c.0) c.1 refl)
]

-- all breaks that come

pub all_given : (core : ℕ) (kind : Bool) (rs : List EventRow) (pending : List Breaks) → flag_at (fold given pending rs) core kind ≡ true → (flag_at pending core kind ≡ true) ⊎ (list_any (is_break core kind) rs ≡ true)
all_given core kind [] pending h = inl h
all_given core kind (r ∷ rs) pending h = elim (all_given core kind rs (given pending r) h) [
  | inr a ↦ inr (or_right (is_break core kind r) (list_any (is_break core kind) rs) a)
  | inl f ↦ elim (one_given core kind pending r f) [
    | inl g ↦ inl g
    | inr b ↦ inr (or_left (is_break core kind r) (list_any (is_break core kind) rs) b)
  ]
]

count_by : (core : ℕ) (kind : Bool) (r : EventRow) (rs : List EventRow) (t : Bool) → is_break core kind r ≡ t → breaks_of (r ∷ rs) core kind ≡ as_one t + breaks_of rs core kind
count_by core kind r rs true h = rw h (omega arith)
count_by core kind r rs false h = rw h (omega arith)

one_counts : (a b c : Bool) → (a ≡ true → (b ≡ true) ⊎ (c ≡ true)) → as_one a ≤ as_one b + as_one c
one_counts false b c h = omega arith
one_counts true b c h = elim (h refl) [
  | inl e ↦ rw e (omega arith)
  | inr e ↦ rw e (omega arith)
]

given_counts : (core : ℕ) (kind : Bool) (rs : List EventRow) (pending : List Breaks) → as_one (flag_at (fold given pending rs) core kind) ≤ as_one (flag_at pending core kind) + breaks_of rs core kind
given_counts core kind [] pending = omega arith
given_counts core kind (r ∷ rs) pending =
    let rest = given_counts core kind rs (given pending r) in
    let one = one_counts (flag_at (given pending r) core kind) (flag_at pending core kind) (is_break core kind r) (one_given core kind pending r) in
    rw (count_by core kind r rs (is_break core kind r) refl) (omega (arith, rest, one))

-- those that have come and those to come

pub keep_by : (q : EventRow → Bool) (r : EventRow) (rs : List EventRow) (t : Bool) → q r ≡ t → filter q (r ∷ rs) ≡ cond t (r ∷ filter q rs) (filter q rs)
keep_by q r rs true h = rw h refl
keep_by q r rs false h = rw h refl

halves_by : (core cycle : ℕ) (kind : Bool) (r : EventRow) (rs : List EventRow) (t : Bool) → is_to_come cycle r ≡ t
    → breaks_of (filter (has_come cycle) rs) core kind + breaks_of (filter (is_to_come cycle) rs) core kind ≡ breaks_of rs core kind
    → breaks_of (filter (has_come cycle) (r ∷ rs)) core kind + breaks_of (filter (is_to_come cycle) (r ∷ rs)) core kind ≡ breaks_of (r ∷ rs) core kind
halves_by core cycle kind r rs true h ih =
    rw (keep_by (has_come cycle) r rs false (ap not h), keep_by (is_to_come cycle) r rs true h, count_by core kind r (filter (is_to_come cycle) rs) (is_break core kind r) refl, count_by core kind r rs (is_break core kind r) refl) (omega (arith, ih))
halves_by core cycle kind r rs false h ih =
    rw (keep_by (has_come cycle) r rs true (ap not h), keep_by (is_to_come cycle) r rs false h, count_by core kind r (filter (has_come cycle) rs) (is_break core kind r) refl, count_by core kind r rs (is_break core kind r) refl) (omega (arith, ih))

halves : (core cycle : ℕ) (kind : Bool) (rs : List EventRow) → breaks_of (filter (has_come cycle) rs) core kind + breaks_of (filter (is_to_come cycle) rs) core kind ≡ breaks_of rs core kind
halves core cycle kind [] = refl
halves core cycle kind (r ∷ rs) = halves_by core cycle kind r rs (is_to_come cycle r) refl (halves core cycle kind rs)

-- a break among those that have come stands with a cycle not above this one
come_by : (core cycle : ℕ) (kind : Bool) (r : EventRow) (rs : List EventRow) (t : Bool) → is_to_come cycle r ≡ t
    → (list_any (is_break core kind) (filter (has_come cycle) rs) ≡ true → has_break rs core kind cycle ≡ true)
    → list_any (is_break core kind) (filter (has_come cycle) (r ∷ rs)) ≡ true → has_break (r ∷ rs) core kind cycle ≡ true
come_by core cycle kind r rs true e ih h = or_right (is_break core kind r && nat_lt r.cycle (cycle + 1)) (has_break rs core kind cycle) (ih (ap (list_any (is_break core kind)) (sym (keep_by (has_come cycle) r rs false (ap not e))) ∙ h))
come_by core cycle kind r rs false e ih h = elim (or_cases (is_break core kind r) (list_any (is_break core kind) (filter (has_come cycle) rs)) (ap (list_any (is_break core kind)) (sym (keep_by (has_come cycle) r rs true (ap not e))) ∙ h)) [
  | inl b ↦ or_left (is_break core kind r && nat_lt r.cycle (cycle + 1)) (has_break rs core kind cycle) (rw (b, lt-ltb r.cycle (cycle + 1) (omega (arith, ltb-false cycle r.cycle e))) refl)
  | inr a ↦ or_right (is_break core kind r && nat_lt r.cycle (cycle + 1)) (has_break rs core kind cycle) (ih a)
]

come_break : (core cycle : ℕ) (kind : Bool) (rs : List EventRow) → list_any (is_break core kind) (filter (has_come cycle) rs) ≡ true → has_break rs core kind cycle ≡ true
come_break core cycle kind [] h = cc
come_break core cycle kind (r ∷ rs) h = come_by core cycle kind r rs (is_to_come cycle r) refl (come_break core cycle kind rs) h

kept_by : (p q : EventRow → Bool) (r : EventRow) (rs : List EventRow) (t : Bool) → q r ≡ t → (list_any p (filter q rs) ≡ true → list_any p rs ≡ true) → list_any p (filter q (r ∷ rs)) ≡ true → list_any p (r ∷ rs) ≡ true
kept_by p q r rs false e ih h = or_right (p r) (list_any p rs) (ih (ap (list_any p) (sym (keep_by q r rs false e)) ∙ h))
kept_by p q r rs true e ih h = elim (or_cases (p r) (list_any p (filter q rs)) (ap (list_any p) (sym (keep_by q r rs true e)) ∙ h)) [
  | inl x ↦ or_left (p r) (list_any p rs) x
  | inr x ↦ or_right (p r) (list_any p rs) (ih x)
]

pub any_kept : (p q : EventRow → Bool) (rs : List EventRow) → list_any p (filter q rs) ≡ true → list_any p rs ≡ true
any_kept p q [] h = h
any_kept p q (r ∷ rs) h = kept_by p q r rs (q r) refl (any_kept p q rs) h

pub come_account : (breaks : List EventRow) (first : View) (core acts : ℕ) (line : Bool) (f : Fabric) → Account breaks first core acts line f → Account breaks first core acts line (breaks_come f)
come_account breaks first core acts line f a = record {
  right = a.right;
  has_line = a.has_line;
  is_high = a.is_high;
  enough = λ kind.
      let n = a.enough kind in
      let c = given_counts core kind (filter (has_come f.cycle) f.left) f.pending in
      let h = halves core f.cycle kind f.left in
      omega (arith, n, c, h);
  come = λ kind h. elim (all_given core kind (filter (has_come f.cycle) f.left) f.pending h) [
    | inl g ↦ a.come kind g
    | inr g ↦ a.all_from (λ (r : EventRow). is_break core kind r && nat_lt r.cycle (f.cycle + 1)) (come_break core f.cycle kind f.left g)
  ];
  all_from = λ p h. a.all_from p (any_kept p (is_to_come f.cycle) f.left h);
}
