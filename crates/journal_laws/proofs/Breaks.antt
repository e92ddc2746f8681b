-- Which breaks of a core that have come are pending, and which were taken.
use Rattle.std.proofs.Common.{◌≡◌, ℕ, ◌+◌, ◌<◌, ◌≤◌, ◌==◌, ◌&&◌, not, List, [], ◌∷◌, ◌++◌, length, filter, Option, Some, None, refl, ap, sym, ◌∙◌, subst, inl, inr, ◌⊎◌, arith, slice_get, slice_set, Bool, true, false, cond, nat_lt, length-set}
use Rattle.std.specs.List.{AllByRecursion, fold}
use Rattle.std.proofs.lemmas.List.Folds.{list_any-append}
use Rattle.std.proofs.lemmas.Bool.{cases_eq, eqb-true, lt-ltb, ltb-true, ltb-false, le-ltb}
use Rattle.isa_step.specs.declared.acts.Breaks.{Breaks}
use Rattle.board_file.specs.declared.board.EventRow.{EventRow}
use Rattle.run_journal.specs.declared.entry.Entry.{Entry}
use Rattle.board_machine.specs.Places.{set_some}
use Rattle.board_machine.specs.Fabric.{Fabric, breaks_come, flagged, given, has_come, is_break, is_to_come, or_none}
use Rattle.board_machine.proofs.Lists.{slice_get_in, slice_get_set_same, slice_get_set_other}
use Rattle.journal_laws.specs.BreakLaw.{takes_it, was_taken}
use Rattle.journal_laws.specs.TakeLaw.{takes_break}
use Rattle.journal_laws.proofs.BreaksCome.{any_more, keep_by}
use Rattle.journal_laws.proofs.Recorded.{alike}
use Rattle.journal_laws.proofs.Takes.{flag_at, flag_of}
use Rattle.journal_laws.proofs.Truths.{and_both, and_yes, not_true, or_left}

-- a break that has come is pending, or it was taken
abbrev pub IsServed : ℕ → Bool → ℕ → List Breaks → List Entry → EventRow → Type 0
IsServed i kind act pending journal r = (flag_at pending i kind ≡ true) ⊎ (was_taken journal i kind act r ≡ true)

-- so is each of a core below a cycle
pub record Serves (breaks : List EventRow) (n i act : ℕ) (f : Fabric) : Type 0 where
  pub each : (kind : Bool) → AllByRecursion (λ (r : EventRow). is_break i kind r && nat_lt r.cycle n ≡ true → IsServed i kind act f.pending f.journal r) breaks

pub all_map : {X : Type 0} (P Q : X → Type 0) (xs : List X) → ((x : X) → P x → Q x) → AllByRecursion P xs → AllByRecursion Q xs
all_map P Q [] m h = tt
all_map P Q (x ∷ xs) m h = (m x h.0, all_map P Q xs m h.1)

takes_later : (i : ℕ) (kind : Bool) (act more : ℕ) (r : EventRow) (e : Entry) → act ≤ more → takes_it i kind act r e ≡ true → takes_it i kind more r e ≡ true
takes_later i kind act more r e l h =
    let p = and_both (e.core == i && takes_break kind e.what && nat_lt e.act act) (nat_lt r.cycle (e.cycle + 1)) h in
    let q = and_both (e.core == i && takes_break kind e.what) (nat_lt e.act act) p.0 in
    let a = ltb-true e.act act q.1 in
    and_yes (e.core == i && takes_break kind e.what && nat_lt e.act more) (nat_lt r.cycle (e.cycle + 1)) (and_yes (e.core == i && takes_break kind e.what) (nat_lt e.act more) q.0 (lt-ltb e.act more (omega (arith, a, l)))) p.1

pub taken_later : (journal es : List Entry) (i : ℕ) (kind : Bool) (act more : ℕ) (r : EventRow) → act ≤ more → was_taken journal i kind act r ≡ true → was_taken (journal ++ es) i kind more r ≡ true
taken_later journal es i kind act more r l h =
    list_any-append (takes_it i kind more r) journal es
    ∙ or_left (was_taken journal i kind more r) (was_taken es i kind more r) (any_more (takes_it i kind act r) (takes_it i kind more r) journal (λ e. takes_later i kind act more r e l) h)

pub serves_later : (breaks : List EventRow) (n i act more : ℕ) (f g : Fabric) (es : List Entry) → act ≤ more → ((kind : Bool) → flag_at f.pending i kind ≡ true → flag_at g.pending i kind ≡ true) → g.journal ≡ f.journal ++ es → Serves breaks n i act f → Serves breaks n i more g
serves_later breaks n i act more f g es l p j k = record {
  each = λ kind. all_map _ _ breaks (λ r h c. elim (h c) [
    | inl x ↦ inl (p kind x)
    | inr x ↦ inr (subst (λ j. was_taken j i kind more r ≡ true) (sym j) (taken_later f.journal es i kind act more r l x))
  ]) (k.each kind);
}

-- breaks come

flag_on : (nonmaskable kind : Bool) (b : Breaks) → flag_of kind b ≡ true → flag_of kind (flagged nonmaskable b) ≡ true
unfolding flag_of
flag_on true true b h = refl
flag_on true false b h = h
flag_on false true b h = h
flag_on false false b h = refl

touched_on : (nonmaskable : Bool) (k i : ℕ) (pending : List Breaks) (kind : Bool) (o : Option Breaks) → slice_get pending k ≡ o → (i ≡ k) ⊎ (i ≡ k → ⊥) → flag_at pending i kind ≡ true → flag_at (set_some pending k (flagged nonmaskable) o) i kind ≡ true
touched_on nonmaskable k i pending kind None e c h = h
touched_on nonmaskable k i pending kind (Some b) e (inr n) h = ap (λ (o : Option Breaks). flag_of kind (or_none o)) (slice_get_set_other pending i k (flagged nonmaskable b) n) ∙ h
touched_on nonmaskable k i pending kind (Some b) e (inl c) h =
    let was : flag_of kind b ≡ true = ap (λ (o : Option Breaks). flag_of kind (or_none o)) (sym e) ∙ ap (λ j. flag_at pending j kind) (sym c) ∙ h in
    ap (λ j. flag_at (slice_set pending k (flagged nonmaskable b)) j kind) c
    ∙ ap (λ (o : Option Breaks). flag_of kind (or_none o)) (slice_get_set_same pending k b (flagged nonmaskable b) e)
    ∙ flag_on nonmaskable kind b was

given_on : (rs : List EventRow) (pending : List Breaks) (i : ℕ) (kind : Bool) → flag_at pending i kind ≡ true → flag_at (fold given pending rs) i kind ≡ true
given_on [] pending i kind h = h
given_on (r ∷ rs) pending i kind h = given_on rs (given pending r) i kind (touched_on r.nonmaskable r.core i pending kind (slice_get pending r.core) refl (cases_eq i r.core) h)

flag_own : (kind : Bool) (i : ℕ) (r : EventRow) (b : Breaks) → is_break i kind r ≡ true → flag_of kind (flagged r.nonmaskable b) ≡ true
unfolding flag_of
flag_own true i r b h = ap (λ t. flag_of true (flagged t b)) (and_both (r.core == i) r.nonmaskable h).1
flag_own false i r b h = ap (λ t. flag_of false (flagged t b)) (not_true r.nonmaskable (and_both (r.core == i) (not r.nonmaskable) h).1)

of_core : (kind : Bool) (i : ℕ) (r : EventRow) → is_break i kind r ≡ true → r.core ≡ i
of_core true i r h = eqb-true r.core i (and_both (r.core == i) r.nonmaskable h).0
of_core false i r h = eqb-true r.core i (and_both (r.core == i) (not r.nonmaskable) h).0

set_flag : (nonmaskable : Bool) (pending : List Breaks) (i : ℕ) (kind : Bool) (o : Option Breaks) (b : Breaks) → slice_get pending i ≡ o → o ≡ Some b → flag_of kind (flagged nonmaskable b) ≡ true → flag_at (set_some pending i (flagged nonmaskable) o) i kind ≡ true
set_flag nonmaskable pending i kind None b e q h = cc
set_flag nonmaskable pending i kind (Some c) b e q h =
    let same : c ≡ b = cc in
    ap (λ (o : Option Breaks). flag_of kind (or_none o)) (slice_get_set_same pending i c (flagged nonmaskable c) e) ∙ ap (λ c. flag_of kind (flagged nonmaskable c)) same ∙ h

one_given : (r : EventRow) (pending : List Breaks) (i : ℕ) (kind : Bool) → i < length pending → is_break i kind r ≡ true → flag_at (given pending r) i kind ≡ true
one_given r pending i kind l h =
    let there = slice_get_in pending i l in
    subst (λ k. flag_at (set_some pending k (flagged r.nonmaskable) (slice_get pending k)) i kind ≡ true) (sym (of_core kind i r h))
    (set_flag r.nonmaskable pending i kind (slice_get pending i) there.0 refl there.1 (flag_own kind i r there.0 h))

set_length : (nonmaskable : Bool) (k : ℕ) (pending : List Breaks) (o : Option Breaks) → length (set_some pending k (flagged nonmaskable) o) ≡ length pending
set_length nonmaskable k pending None = refl
set_length nonmaskable k pending (Some b) = length-set pending k (flagged nonmaskable b)

given_length : (r : EventRow) (pending : List Breaks) → length (given pending r) ≡ length pending
given_length r pending = set_length r.nonmaskable r.core pending (slice_get pending r.core)

-- each break among those that come is pending then
all_given_by : (p : EventRow → Bool) (r : EventRow) (rs : List EventRow) (pending : List Breaks) (i : ℕ) (kind t : Bool) → p r ≡ t → i < length pending
    → ((pending : List Breaks) → i < length pending → AllByRecursion (λ (r : EventRow). is_break i kind r ≡ true → p r ≡ true → flag_at (fold given pending (filter p rs)) i kind ≡ true) rs)
    → AllByRecursion (λ (x : EventRow). is_break i kind x ≡ true → p x ≡ true → flag_at (fold given pending (filter p (r ∷ rs))) i kind ≡ true) (r ∷ rs)
all_given_by p r rs pending i kind false e l ih = (
  (λ b h. let z : false ≡ true = sym e ∙ h in cc),
  all_map _ _ rs (λ x f b h. ap (λ xs. flag_at (fold given pending xs) i kind) (keep_by p r rs false e) ∙ f b h) (ih pending l),
)
all_given_by p r rs pending i kind true e l ih =
    let more : i < length (given pending r) = subst (λ n. i < n) (sym (given_length r pending)) l in (
      (λ b h. ap (λ xs. flag_at (fold given pending xs) i kind) (keep_by p r rs true e) ∙ given_on (filter p rs) (given pending r) i kind (one_given r pending i kind l b)),
      all_map _ _ rs (λ x f b h. ap (λ xs. flag_at (fold given pending xs) i kind) (keep_by p r rs true e) ∙ f b h) (ih (given pending r) more),
    )

come_pending : (p : EventRow → Bool) (rs : List EventRow) (pending : List Breaks) (i : ℕ) (kind : Bool) → i < length pending → AllByRecursion (λ (r : EventRow). is_break i kind r ≡ true → p r ≡ true → flag_at (fold given pending (filter p rs)) i kind ≡ true) rs
come_pending p [] pending i kind l = tt
come_pending p (r ∷ rs) pending i kind l = all_given_by p r rs pending i kind (p r) refl l (λ pending l. come_pending p rs pending i kind l)

-- the breaks that are left are those of a later cycle

abbrev pub is_later : ℕ → EventRow → Bool
is_later n r = not (nat_lt r.cycle n)

both_by : (p q s : EventRow → Bool) (r : EventRow) (rs : List EventRow) (t : Bool) → q r ≡ t → s r ≡ (q r && p r) → filter p (filter q rs) ≡ filter s rs → filter p (filter q (r ∷ rs)) ≡ filter s (r ∷ rs)
both_by p q s r rs false e h ih = ap (filter p) (keep_by q r rs false e) ∙ ih ∙ sym (keep_by s r rs false (h ∙ ap (λ b. b && p r) e))
both_by p q s r rs true e h ih =
    ap (filter p) (keep_by q r rs true e) ∙ keep_by p r (filter q rs) (p r) refl
    ∙ ap (λ xs. cond (p r) (r ∷ xs) xs) ih
    ∙ sym (keep_by s r rs (p r) (h ∙ ap (λ b. b && p r) e))

both_filters : (p q s : EventRow → Bool) (rs : List EventRow) → ((r : EventRow) → s r ≡ (q r && p r)) → filter p (filter q rs) ≡ filter s rs
both_filters p q s [] h = refl
both_filters p q s (r ∷ rs) h = both_by p q s r rs (q r) refl (h r) (both_filters p q s rs h)

not_below : (a b : ℕ) → not (nat_lt a b) ≡ true → b ≤ a
not_below a b h = let l = ltb-false a b (not_true (nat_lt a b) h) in omega (arith, l)

later_than : (c : ℕ) (r : EventRow) → is_later (c + 1) r ≡ (is_later c r && is_to_come c r)
later_than c r = alike (is_later (c + 1) r) (is_later c r && is_to_come c r)
    (λ h. let l = not_below r.cycle (c + 1) h in and_yes (is_later c r) (is_to_come c r) (ap not (le-ltb r.cycle c (omega (arith, l)))) (lt-ltb c r.cycle (omega (arith, l))))
    (λ h. let l = ltb-true c r.cycle (and_both (is_later c r) (is_to_come c r) h).1 in ap not (le-ltb r.cycle (c + 1) (omega (arith, l))))

pub left_later : (breaks left : List EventRow) (c : ℕ) → left ≡ filter (is_later c) breaks → filter (is_to_come c) left ≡ filter (is_later (c + 1)) breaks
left_later breaks left c e = ap (filter (is_to_come c)) e ∙ both_filters (is_to_come c) (is_later c) (is_later (c + 1)) breaks (later_than c)

abbrev comes_now : ℕ → EventRow → Bool
comes_now c r = is_later c r && has_come c r

come_served_by : (i : ℕ) (kind : Bool) (act c : ℕ) (pending now : List Breaks) (journal : List Entry) (r : EventRow) (t : Bool) → nat_lt r.cycle c ≡ t
    → (flag_at pending i kind ≡ true → flag_at now i kind ≡ true) → (is_break i kind r && nat_lt r.cycle c ≡ true → IsServed i kind act pending journal r)
    → (is_break i kind r ≡ true → comes_now c r ≡ true → flag_at now i kind ≡ true) → is_break i kind r && nat_lt r.cycle (c + 1) ≡ true → IsServed i kind act now journal r
come_served_by i kind act c pending now journal r true e on old new h =
    let b = (and_both (is_break i kind r) (nat_lt r.cycle (c + 1)) h).0 in
    elim (old (and_yes (is_break i kind r) (nat_lt r.cycle c) b e)) [
      | inl x ↦ inl (on x)
      | inr x ↦ inr x
    ]
come_served_by i kind act c pending now journal r false e on old new h =
    let b = and_both (is_break i kind r) (nat_lt r.cycle (c + 1)) h in
    let l = ltb-true r.cycle (c + 1) b.1 in
    inl (new b.0 (and_yes (is_later c r) (has_come c r) (ap not e) (ap not (le-ltb c r.cycle (omega (arith, l))))))

all_both : {X : Type 0} (P Q R : X → Type 0) (xs : List X) → ((x : X) → P x → Q x → R x) → AllByRecursion P xs → AllByRecursion Q xs → AllByRecursion R xs
all_both P Q R [] m h k = tt
all_both P Q R (x ∷ xs) m h k = (m x h.0 k.0, all_both P Q R xs m h.1 k.1)

-- after the breaks of a cycle have come, those of this cycle are served too
pub come_serves : (breaks : List EventRow) (i act : ℕ) (f : Fabric) → f.left ≡ filter (is_later f.cycle) breaks → i < length f.pending → Serves breaks f.cycle i act f → Serves breaks (f.cycle + 1) i act (breaks_come f)
come_serves breaks i act f e l k =
    let c = f.cycle in
    let same : filter (has_come c) f.left ≡ filter (comes_now c) breaks = ap (filter (has_come c)) e ∙ both_filters (has_come c) (is_later c) (comes_now c) breaks (λ r. refl) in
    record {
      each = λ kind.
          all_both _ _ _ breaks
          (λ r old new. come_served_by i kind act c f.pending (fold given f.pending (filter (has_come c) f.left)) f.journal r (nat_lt r.cycle c) refl (given_on (filter (has_come c) f.left) f.pending i kind) old new)
          (k.each kind)
          (subst (λ xs. AllByRecursion (λ (r : EventRow). is_break i kind r ≡ true → comes_now c r ≡ true → flag_at (fold given f.pending xs) i kind ≡ true) breaks) (sym same) (come_pending (comes_now c) breaks f.pending i kind l));
    }
