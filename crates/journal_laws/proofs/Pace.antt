-- What further entries leave of the ticks that were counted.
use Rattle.std.proofs.Common.{◌≡◌, ℕ, zero, suc, ◌+◌, ◌*◌, ◌<◌, ◌≤◌, ◌==◌, ◌&&◌, ◌||◌, not, List, [], ◌∷◌, ◌++◌, filter, Some, refl, ap, sym, ◌∙◌, subst, inl, inr, ◌⊎◌, arith, slice_get, Bool, true, false, cond, nat_lt}
use Rattle.std.specs.List.{AllByRecursion}
use Rattle.std.proofs.lemmas.List.Folds.{list_any-append}
use Rattle.std.proofs.lemmas.List.Sums.{fold-append}
use Rattle.std.proofs.lemmas.Bool.{eq-eqb, ne_eqb, eqb-true, lt-ltb, ltb-true, le-ltb}
use Rattle.isa_step.specs.Effects.{View}
use Rattle.board_file.specs.declared.board.LinkRow.{LinkRow}
use Rattle.run_journal.specs.declared.entry.Entry.{Entry}
use Rattle.run_journal.specs.declared.entry.What.{What}
use Rattle.board_machine.proofs.Lists.{and_false_left, and_false_right}
use Rattle.journal_laws.specs.Progress.{IsInPace, ProgressBound, as_one, before_tick, by_tick, comes_before, earlier, has, is_own, is_rest, rests_below, rests_in, through_tick, ticks_below, recorded}
use Rattle.journal_laws.proofs.Lists.{filter_skips, split_at_more}
use Rattle.journal_laws.proofs.Truths.{and_both, and_yes, or_cases, or_false, or_left, or_no, or_right}

-- an entry after the tick of core i in cycle c
pub record IsLate (order : ℕ → List ℕ) (i c : ℕ) (e : Entry) : Type 0 where
  pub before : comes_before order i c e ≡ false
  pub own : is_own i c e ≡ false

pub later_cycle : (order : ℕ → List ℕ) (i c : ℕ) (e : Entry) → c < e.cycle → IsLate order i c e
later_cycle order i c e l =
    let n : e.cycle == c ≡ false = ne_eqb e.cycle c (λ z. omega (arith, z, l)) in
    record {
      before = or_no (nat_lt e.cycle c) (e.cycle == c && (not (by_tick e.what) || earlier (order c) e.core i)) (le-ltb e.cycle c (omega (arith, l))) (and_false_left (e.cycle == c) (not (by_tick e.what) || earlier (order c) e.core i) n);
      own = and_false_right (e.core == i) (e.cycle == c && by_tick e.what) (and_false_left (e.cycle == c) (by_tick e.what) n);
    }

pub tick_late : (order : ℕ → List ℕ) (rows : List LinkRow) (first : View) (i c : ℕ) (journal : List Entry) (e : Entry) → IsLate order i c e → is_rest order rows first i c (journal ++ e ∷ []) ≡ is_rest order rows first i c journal
tick_late order rows first i c journal e l =
    ap (λ (b : List Entry). rests_in rows first i b (through_tick order i c (journal ++ e ∷ []))) (filter_skips (comes_before order i c) journal e l.before)
    ∙ ap (rests_in rows first i (before_tick order i c journal)) (filter_skips (λ (e : Entry). comes_before order i c e || is_own i c e) journal e (or_no (comes_before order i c e) (is_own i c e) l.before l.own))

pub rests_late : (order : ℕ → List ℕ) (rows : List LinkRow) (first : View) (i c : ℕ) (journal : List Entry) (e : Entry) → c ≤ e.cycle → rests_below order rows first i (journal ++ e ∷ []) c ≡ rests_below order rows first i journal c
rests_late order rows first i zero journal e l = refl
rests_late order rows first i (suc c) journal e l =
    ap (λ b. rests_below order rows first i (journal ++ e ∷ []) c + as_one (has i (order c) && b)) (tick_late order rows first i c journal e (later_cycle order i c e (omega (arith, l))))
    ∙ ap (λ n. n + as_one (has i (order c) && is_rest order rows first i c journal)) (rests_late order rows first i c journal e (omega (arith, l)))

-- a journal all of whose entries stand before a tick
pub all_more : {X : Type 0} (p : X → Bool) (xs : List X) (x : X) → AllByRecursion (λ x. p x ≡ true) xs → p x ≡ true → AllByRecursion (λ x. p x ≡ true) (xs ++ x ∷ [])
all_more p [] x a h = (h, tt)
all_more p (y ∷ ys) x a h = (a.0, all_more p ys x a.1 h)

pub all_imply : {X : Type 0} (p q : X → Bool) (xs : List X) → ((x : X) → p x ≡ true → q x ≡ true) → AllByRecursion (λ x. p x ≡ true) xs → AllByRecursion (λ x. q x ≡ true) xs
all_imply p q [] i a = tt
all_imply p q (y ∷ ys) i a = (i y a.0, all_imply p q ys i a.1)

pub filter_all : {X : Type 0} (p : X → Bool) (xs : List X) → AllByRecursion (λ x. p x ≡ true) xs → filter p xs ≡ xs
filter_all p [] a = refl
filter_all p (y ∷ ys) a = rw a.0 (ap (λ zs. y ∷ zs) (filter_all p ys a.1))

-- entries up to now: the cycles before, and in this one all but the ticks of cores that have not ticked
abbrev pub is_past : ℕ → List ℕ → Entry → Bool
is_past c done e = nat_lt e.cycle c || (e.cycle == c && (not (by_tick e.what) || has e.core done))

-- the order of a cycle, cut at a core
is_earlier : (done rest : List ℕ) (a i : ℕ) → has i done ≡ false → has a done ≡ true → earlier (done ++ i ∷ rest) a i ≡ true
is_earlier [] rest a i n h = cc
is_earlier (x ∷ xs) rest a i n h =
    let p = or_false (x == i) (has i xs) n in
    and_yes (not (x == i)) (x == a || earlier (xs ++ i ∷ rest) a i) (ap not p.0) (elim (or_cases (x == a) (has a xs) h) [
      | inl e ↦ or_left (x == a) (earlier (xs ++ i ∷ rest) a i) e
      | inr e ↦ or_right (x == a) (earlier (xs ++ i ∷ rest) a i) (is_earlier xs rest a i p.1 e)
    ])

not_earlier : (done rest : List ℕ) (a i : ℕ) → has i done ≡ true → has a done ≡ false → earlier (done ++ rest) a i ≡ false
not_earlier [] rest a i h n = cc
not_earlier (x ∷ xs) rest a i h n =
    let p = or_false (x == a) (has a xs) n in
    elim (or_cases (x == i) (has i xs) h) [
      | inl e ↦ and_false_left (not (x == i)) (x == a || earlier (xs ++ rest) a i) (ap not e)
      | inr e ↦ and_false_right (not (x == i)) (x == a || earlier (xs ++ rest) a i) (or_no (x == a) (earlier (xs ++ rest) a i) p.0 (not_earlier xs rest a i e p.1))
    ]

not_itself : (xs : List ℕ) (i : ℕ) → earlier xs i i ≡ false
not_itself [] i = refl
not_itself (x ∷ xs) i = by_first x xs i (x == i) refl (not_itself xs i)
  where
    by_first : (x : ℕ) (xs : List ℕ) (i : ℕ) (t : Bool) → x == i ≡ t → earlier xs i i ≡ false → earlier (x ∷ xs) i i ≡ false
    by_first x xs i true e ih = and_false_left (not (x == i)) (x == i || earlier xs i i) (ap not e)
    by_first x xs i false e ih = and_false_right (not (x == i)) (x == i || earlier xs i i) (or_no (x == i) (earlier xs i i) e ih)

pub has_end : (done : List ℕ) (i : ℕ) → has i (done ++ i ∷ []) ≡ true
has_end done i = list_any-append (λ j. j == i) done (i ∷ []) ∙ or_right (has i done) (has i (i ∷ [])) (or_left (i == i) false (eq-eqb i i refl))

pub has_mid : (done rest : List ℕ) (i : ℕ) → has i (done ++ i ∷ rest) ≡ true
has_mid done rest i = list_any-append (λ j. j == i) done (i ∷ rest) ∙ or_right (has i done) (has i (i ∷ rest)) (or_left (i == i) (has i rest) (eq-eqb i i refl))

pub has_other : (done : List ℕ) (a i : ℕ) → (a ≡ i → ⊥) → has i (done ++ a ∷ []) ≡ has i done
has_other done a i n = list_any-append (λ j. j == i) done (a ∷ []) ∙ or_nothing (has i done) (a == i) (ne_eqb a i n)
  where
    or_nothing : (x y : Bool) → y ≡ false → x || (y || false) ≡ x
    or_nothing true y e = refl
    or_nothing false y e = rw e refl

pub has_more : (done : List ℕ) (a i : ℕ) → has i done ≡ true → has i (done ++ a ∷ []) ≡ true
has_more done a i h = list_any-append (λ j. j == i) done (a ∷ []) ∙ or_left (has i done) (has i (a ∷ [])) h

-- an entry of core a in its tick is late for the cores that ticked
pub tick_entry_late : (order : ℕ → List ℕ) (c : ℕ) (done rest : List ℕ) (a i : ℕ) (e : Entry) → order c ≡ done ++ a ∷ rest → e.core ≡ a → e.cycle ≡ c → by_tick e.what ≡ true → (a ≡ i → ⊥) → has a done ≡ false → has i done ≡ true → IsLate order i c e
tick_entry_late order c done rest a i e o k y t n d h = record {
  before = or_no (nat_lt e.cycle c) (e.cycle == c && (not (by_tick e.what) || earlier (order c) e.core i)) (le-ltb e.cycle c (omega (arith, y))) (and_false_right (e.cycle == c) (not (by_tick e.what) || earlier (order c) e.core i) (or_no (not (by_tick e.what)) (earlier (order c) e.core i) (ap not t) (ap (λ xs. earlier xs e.core i) o ∙ ap (λ j. earlier (done ++ a ∷ rest) j i) k ∙ not_earlier done (a ∷ rest) a i h d)));
  own = and_false_left (e.core == i) (e.cycle == c && by_tick e.what) (ne_eqb e.core i (λ z. n (sym k ∙ z)));
}

-- all that is past stands before the next core's tick
pub past_before : (order : ℕ → List ℕ) (c : ℕ) (done rest : List ℕ) (i : ℕ) (e : Entry) → order c ≡ done ++ i ∷ rest → has i done ≡ false → is_past c done e ≡ true → comes_before order i c e ≡ true
past_before order c done rest i e o n p = elim (or_cases (nat_lt e.cycle c) (e.cycle == c && (not (by_tick e.what) || has e.core done)) p) [
  | inl l ↦ or_left (nat_lt e.cycle c) (e.cycle == c && (not (by_tick e.what) || earlier (order c) e.core i)) l
  | inr q ↦
      let b = and_both (e.cycle == c) (not (by_tick e.what) || has e.core done) q in
      or_right (nat_lt e.cycle c) (e.cycle == c && (not (by_tick e.what) || earlier (order c) e.core i)) (and_yes (e.cycle == c) (not (by_tick e.what) || earlier (order c) e.core i) b.0 (elim (or_cases (not (by_tick e.what)) (has e.core done) b.1) [
        | inl t ↦ or_left (not (by_tick e.what)) (earlier (order c) e.core i) t
        | inr h ↦ or_right (not (by_tick e.what)) (earlier (order c) e.core i) (ap (λ xs. earlier xs e.core i) o ∙ is_earlier done rest e.core i n h)
      ]))
]

pub own_not_before : (order : ℕ → List ℕ) (i c : ℕ) (e : Entry) → e.core ≡ i → e.cycle ≡ c → by_tick e.what ≡ true → comes_before order i c e ≡ false
own_not_before order i c e k y t = or_no (nat_lt e.cycle c) (e.cycle == c && (not (by_tick e.what) || earlier (order c) e.core i)) (le-ltb e.cycle c (omega (arith, y))) (and_false_right (e.cycle == c) (not (by_tick e.what) || earlier (order c) e.core i) (or_no (not (by_tick e.what)) (earlier (order c) e.core i) (ap not t) (ap (λ j. earlier (order c) j i) k ∙ not_itself (order c) i)))

pub own_is : (i c : ℕ) (e : Entry) → e.core ≡ i → e.cycle ≡ c → by_tick e.what ≡ true → is_own i c e ≡ true
own_is i c e k y t = and_yes (e.core == i) (e.cycle == c && by_tick e.what) (eq-eqb e.core i k) (and_yes (e.cycle == c) (by_tick e.what) (eq-eqb e.cycle c y) t)

pub past_cycle : (c : ℕ) (done : List ℕ) (e : Entry) → is_past c done e ≡ true → e.cycle ≤ c
past_cycle c done e p = elim (or_cases (nat_lt e.cycle c) (e.cycle == c && (not (by_tick e.what) || has e.core done)) p) [
  | inl l ↦ (let h = ltb-true e.cycle c l in omega (arith, h))
  | inr q ↦ (let h = eqb-true e.cycle c (and_both (e.cycle == c) (not (by_tick e.what) || has e.core done) q).0 in omega (arith, h))
]

pub past_more : (c : ℕ) (done : List ℕ) (a : ℕ) (e : Entry) → is_past c done e ≡ true → is_past c (done ++ a ∷ []) e ≡ true
past_more c done a e p = elim (or_cases (nat_lt e.cycle c) (e.cycle == c && (not (by_tick e.what) || has e.core done)) p) [
  | inl l ↦ or_left (nat_lt e.cycle c) (e.cycle == c && (not (by_tick e.what) || has e.core (done ++ a ∷ []))) l
  | inr q ↦
      let b = and_both (e.cycle == c) (not (by_tick e.what) || has e.core done) q in
      or_right (nat_lt e.cycle c) (e.cycle == c && (not (by_tick e.what) || has e.core (done ++ a ∷ []))) (and_yes (e.cycle == c) (not (by_tick e.what) || has e.core (done ++ a ∷ [])) b.0 (elim (or_cases (not (by_tick e.what)) (has e.core done) b.1) [
        | inl t ↦ or_left (not (by_tick e.what)) (has e.core (done ++ a ∷ [])) t
        | inr h ↦ or_right (not (by_tick e.what)) (has e.core (done ++ a ∷ [])) (has_more done a e.core h)
      ]))
]

pub past_entry : (c : ℕ) (done : List ℕ) (e : Entry) → e.cycle ≡ c → (by_tick e.what ≡ false) ⊎ (has e.core done ≡ true) → is_past c done e ≡ true
past_entry c done e y h = or_right (nat_lt e.cycle c) (e.cycle == c && (not (by_tick e.what) || has e.core done)) (and_yes (e.cycle == c) (not (by_tick e.what) || has e.core done) (eq-eqb e.cycle c y) (elim h [
  | inl t ↦ or_left (not (by_tick e.what)) (has e.core done) (ap not t)
  | inr t ↦ or_right (not (by_tick e.what)) (has e.core done) t
]))

pub past_next : (c : ℕ) (done : List ℕ) (e : Entry) → is_past c done e ≡ true → is_past (c + 1) [] e ≡ true
past_next c done e p = let l = past_cycle c done e p in or_left (nat_lt e.cycle (c + 1)) (e.cycle == c + 1 && (not (by_tick e.what) || has e.core [])) (lt-ltb e.cycle (c + 1) (omega (arith, l)))

pub all_at : {X : Type 0} (P : X → Type 0) (before later : List X) (xs : List X) (x : X) → xs ≡ before ++ x ∷ later → AllByRecursion P xs → P x
all_at P [] later [] x e a = cc
all_at P [] later (y ∷ ys) x e a = let i : y ≡ x = cc in subst P i a.0
all_at P (b ∷ bs) later [] x e a = cc
all_at P (b ∷ bs) later (y ∷ ys) x e a = let i : ys ≡ bs ++ x ∷ later = cc in all_at P bs later ys x i a.1

-- a fold over a core's own entries, with one more
pub recorded_more : {X : Type 0} (step : X → What → X) (i : ℕ) (x : X) (journal : List Entry) (e : Entry) → recorded step i x (journal ++ e ∷ []) ≡ cond (e.core == i) (step (recorded step i x journal) e.what) (recorded step i x journal)
recorded_more step i x journal e = fold-append (λ x (e : Entry). cond (e.core == i) (step x e.what) x) x journal (e ∷ [])

-- an entry of the law, after one more entry of this cycle
pub in_pace_more : (order : ℕ → List ℕ) (rows : List LinkRow) (first : View) (journal : List Entry) (d e : Entry) → d.cycle ≤ e.cycle → IsInPace order rows first journal d → IsInPace order rows first (journal ++ e ∷ []) d
in_pace_more order rows first journal d e l h = subst (λ n. ticks_below order d.core (d.cycle + 1) ≤ 64 * (d.act + 1) + n) (sym (rests_late order rows first d.core d.cycle journal e l)) h

pub law_more : (order : ℕ → List ℕ) (rows : List LinkRow) (views : List View) (c : ℕ) (done : List ℕ) (journal : List Entry) (e : Entry) → AllByRecursion (λ e. is_past c done e ≡ true) journal → e.cycle ≡ c
    → ((first : View) → by_tick e.what ≡ true → slice_get views e.core ≡ Some first → IsInPace order rows first journal e) → ProgressBound order rows views journal → ProgressBound order rows views (journal ++ e ∷ [])
law_more order rows views c done journal e past y new law = record {
  each = λ before later d first q t v. elim (split_at_more before later journal d e q) [
    | inl p ↦ subst (λ d. IsInPace order rows first (journal ++ e ∷ []) d) (sym p.1) (in_pace_more order rows first journal e e (omega arith) (new first (ap (λ (d : Entry). by_tick d.what) (sym p.1) ∙ t) (ap (λ (d : Entry). slice_get views d.core) (sym p.1) ∙ v)))
    | inr p ↦
        let l = past_cycle c done d (all_at (λ e. is_past c done e ≡ true) before p.0 journal d p.1 past) in
        in_pace_more order rows first journal d e (omega (arith, l, y)) (law.each before p.0 d first p.1 t v)
  ];
}
