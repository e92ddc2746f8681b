-- Of ranges that share no byte, the last that begins below a range's end decides whether the range meets one of them.
use Rattle.std.proofs.Common.{◌≡◌, ℕ, ◌+◌, ◌<◌, ◌≤◌, ◌&&◌, Bool, true, false, List, [], ◌∷◌, ◌++◌, nat_cmp, nat_lt, refl, arith, sym, ◌∙◌, ap, ⊎_elim, get_or, take, Option, Some, None, slice_index_or, length}
use Rattle.std.proofs.lemmas.Bool.{cases_eq, cases_lt, lt-ltb, le-ltb, ltb-false, ltb-true}
use Rattle.std.proofs.lemmas.Grind.{take_at_read}
use Rattle.std.proofs.lemmas.List.Elements.{All-append, All-cons, All-nil, Contains-append_left, Contains-append_right}
use Rattle.std.proofs.lemmas.List.Folds.{list_any_at, list_any_none}
use Rattle.std.proofs.lemmas.List.{get_or_default}
use Rattle.std.proofs.Math.Nat.{eq-or-lt_of_le}
use Rattle.std.specs.BTreeMap.{BTreeMap, Updates, get, is_at}
use Rattle.std.specs.List.{All, Contains, list_any}
use Rattle.byte_ranges.specs.Ranges.{HasRange, IsKept, Keeps, LastBelow, has_bytes, shares_byte}
use Rattle.byte_ranges.specs.declared.kept.Range.{Range}

found : (test : Range → Bool) (gs : List Range) (g : Range) → Contains gs g → test g ≡ true → list_any test gs ≡ true
found test gs g m e = list_any_at test gs m.0 g m.1 (rw (m.2) e)

false_true : false ≡ true → ⊥
false_true e = grind arith

none_below : (n m : ℕ) → m ≤ n → n < m → ⊥
none_below n m p q = omega arith

not_less : (a b : ℕ) → a ≡ b → a < b → ⊥
not_less a b e l = omega arith

at_most : (a b : ℕ) → (b < a → ⊥) → a ≤ b
at_most a b h = ⊎_elim (λ (over : b < a). absurd (h over)) (λ (fine : a ≤ b). fine) (cases_lt b a)

-- the test of two ranges, as numbers
abbrev meet : ℕ → ℕ → ℕ → ℕ → Bool
meet a m b n = nat_lt a m && nat_lt b n && nat_lt a n && nat_lt b m

none_some : (o : Option ℕ) (x : ℕ) → o ≡ None → o ≡ Some x → ⊥
none_some o x e f = grind arith

some_same : (o : Option ℕ) (x y : ℕ) → o ≡ Some x → o ≡ Some y → x ≡ y
some_same o x y e f = grind arith

meets : (a m b n : ℕ) → a < m → b < n → a < n → b < m → meet a m b n ≡ true
meets a m b n p q r s = rw (lt-ltb a m p, lt-ltb b n q, lt-ltb a n r, lt-ltb b m s) refl

apart : (a m b n : ℕ) → ((a < m → b < n → a < n → b < m → ⊥) → meet a m b n ≡ false)
apart a m b n h = grind arith

apart_means : (a m b n : ℕ) → meet a m b n ≡ false → a < m → b < n → a < n → b < m → ⊥
apart_means a m b n e p q r s = grind (arith, meets a m b n p q r s)

-- a range without bytes meets none
pub no_bytes_meet : (gs : List Range) (h : Range) → has_bytes h ≡ false → list_any (shares_byte h) gs ≡ false
no_bytes_meet gs h none = list_any_none (shares_byte h) gs (λ k d within. apart h.from h.to _ _ (λ p q r s. omega (arith, ltb-false h.from h.to none)))

-- no range begins below the range's end
pub none_meets : (gs : List Range) (end_at : ℕ → Option ℕ) (h : Range) (address : ℕ) → Keeps gs end_at → address ≡ h.to
    → ((start : ℕ) → start < address → end_at start ≡ None) → list_any (shares_byte h) gs ≡ false
none_meets gs end_at h address keeps a none = list_any_none (shares_byte h) gs (λ k d within.
    let g = slice_index_or gs k d in
    apart h.from h.to g.from g.to (λ p q r s. none_some _ _ (none g.from (rw (a) s)) (keeps.all k d within q)))

-- a range that begins below an address ends no later than the last such
before_last : (gs : List Range) (end_at : ℕ → Option ℕ) (address end begin stop : ℕ) → Keeps gs end_at → LastBelow end_at address end
    → begin < address → end_at begin ≡ Some stop → stop ≤ end
before_last gs end_at address end begin stop keeps last low there =
    let own = keeps.only last.start end last.here in
    ⊎_elim
    (λ (same : begin ≡ last.start). omega (arith, some_same (end_at begin) stop end there (ap end_at same ∙ last.here)))
    (λ (less : begin < last.start). omega (arith, keeps.apart begin stop last.start end there last.here less, own.some, own.starts, own.ends))
    (eq-or-lt_of_le (last.last begin low (rw (there) refl)))

-- the last range that begins below a range's end meets it exactly where one of the ranges does
pub last_decides : (gs : List Range) (end_at : ℕ → Option ℕ) (h : Range) (end : ℕ) → Keeps gs end_at → h.from < h.to
    → LastBelow end_at h.to end → nat_lt h.from end ≡ list_any (shares_byte h) gs
last_decides gs end_at h end keeps some last =
    let own = keeps.only last.start end last.here in
    ⊎_elim
    (λ (less : h.from < end). lt-ltb _ _ less ∙ sym (found (shares_byte h) gs own.range own.member
    (meets h.from h.to own.range.from own.range.to some own.some (omega (arith, own.ends)) (omega (arith, own.starts, last.below)))))
    (λ (past : end ≤ h.from). le-ltb _ _ past ∙ sym (list_any_none (shares_byte h) gs (λ k d within.
    let g = slice_index_or gs k d in
    apart h.from h.to g.from g.to
    (λ p q r s. omega (arith, before_last gs end_at h.to end g.from g.to keeps last s (keeps.all k d within q))))))
    (cases_lt h.from end)

-- the same, as the numbers are read
pub last_read : (gs : List Range) (end_at : ℕ → Option ℕ) (h : Range) (start address end : ℕ) → Keeps gs end_at → has_bytes h ≡ true
    → start ≡ h.from → address ≡ h.to → LastBelow end_at address end → nat_lt start end ≡ list_any (shares_byte h) gs
last_read gs end_at h start address end keeps some s a last =
    ap (λ x. nat_lt x end) s ∙ last_decides gs end_at h end keeps (ltb-true h.from h.to some) (record { start = last.start; below = rw (sym a) last.below; here = last.here; last = λ next below there. last.last next (rw (a) below) there })

-- a range that meets none has each of them on one side
clear : (gs : List Range) (h g : Range) → list_any (shares_byte h) gs ≡ false → Contains gs g → h.from < h.to → g.from < g.to
    → h.from < g.to → g.from < h.to → ⊥
clear gs h g none member p q r s = false_true (sym none ∙ found (shares_byte h) gs g member (meets h.from h.to g.from g.to p q r s))

widened : (gs : List Range) (h : Range) (start end : ℕ) → HasRange gs start end → HasRange (gs ++ h ∷ []) start end
widened gs h start end r = record { range = r.range; member = Contains-append_left gs (h ∷ []) r.range r.member; some = r.some; starts = r.starts; ends = r.ends }

-- a range without bytes adds no range
pub keeps_same : (gs : List Range) (h : Range) (end_at : ℕ → Option ℕ) → has_bytes h ≡ false → Keeps gs end_at → Keeps (gs ++ h ∷ []) end_at
keeps_same gs h end_at none keeps = record {
  all = All-append (IsKept end_at) gs (h ∷ []) keeps.all (All-cons (IsKept end_at) h [] (λ some. absurd (none_below h.from h.to (ltb-false h.from h.to none) some)) (All-nil _));
  only = λ start end here. widened gs h start end (keeps.only start end here);
  apart = keeps.apart;
}

old_stay : (gs : List Range) (h : Range) (end_at after : ℕ → Option ℕ) → h.from < h.to → list_any (shares_byte h) gs ≡ false
    → ((start : ℕ) → (h.from ≡ start → ⊥) → after start ≡ end_at start) → Keeps gs end_at → All (IsKept after) gs
old_stay gs h end_at after some none others keeps = λ k d within bytes.
    let g = slice_index_or gs k d in
    others g.from (λ same. clear gs h g none (k, within, get_or_default gs k g d within) some bytes (omega (arith, same)) (omega (arith, same))) ∙ keeps.all k d within bytes

only_more : (gs : List Range) (h : Range) (end_at after : ℕ → Option ℕ) → h.from < h.to → after h.from ≡ Some h.to
    → ((start : ℕ) → (h.from ≡ start → ⊥) → after start ≡ end_at start) → Keeps gs end_at
    → (start end : ℕ) → after start ≡ Some end → HasRange (gs ++ h ∷ []) start end
only_more gs h end_at after some new others keeps start end here = ⊎_elim
    (λ (same : h.from ≡ start). record {
      range = h;
      member = Contains-append_right gs (h ∷ []) h (0, omega arith, refl);
      some = some;
      starts = same;
      ends = some_same (after start) h.to end (sym (ap after same) ∙ new) here;
    })
    (λ (other : h.from ≡ start → ⊥). widened gs h start end (keeps.only start end (sym (others start other) ∙ here)))
    (cases_eq h.from start)

apart_more : (gs : List Range) (h : Range) (end_at after : ℕ → Option ℕ) → h.from < h.to → list_any (shares_byte h) gs ≡ false
    → after h.from ≡ Some h.to → ((start : ℕ) → (h.from ≡ start → ⊥) → after start ≡ end_at start) → Keeps gs end_at
    → (start end next last : ℕ) → after start ≡ Some end → after next ≡ Some last → start < next → end ≤ next
apart_more gs h end_at after some none new others keeps start end next last here there less = ⊎_elim
    (λ (first : h.from ≡ start).
    let own = keeps.only next last (sym (others next (λ second. not_less start next (sym first ∙ second) less)) ∙ there) in
    let ends = some_same (after start) h.to end (sym (ap after first) ∙ new) here in
    at_most end next (λ over. clear gs h own.range none own.member some own.some
    (omega (arith, own.some, own.starts, own.ends)) (omega (arith, own.starts, ends))))
    (λ (old : h.from ≡ start → ⊥).
    let own = keeps.only start end (sym (others start old) ∙ here) in ⊎_elim
    (λ (second : h.from ≡ next). at_most end next (λ over. clear gs h own.range none own.member some own.some
    (omega (arith, own.ends)) (omega (arith, own.starts))))
    (λ (other : h.from ≡ next → ⊥). keeps.apart start end next last (sym (others start old) ∙ here) (sym (others next other) ∙ there) less)
    (cases_eq h.from next))
    (cases_eq h.from start)

-- the range of a range that meets none is added
pub keeps_more : (gs : List Range) (h : Range) (end_at after : ℕ → Option ℕ) → h.from < h.to → list_any (shares_byte h) gs ≡ false
    → after h.from ≡ Some h.to → ((start : ℕ) → (h.from ≡ start → ⊥) → after start ≡ end_at start) → Keeps gs end_at → Keeps (gs ++ h ∷ []) after
keeps_more gs h end_at after some none new others keeps = record {
  all = All-append (IsKept after) gs (h ∷ []) (old_stay gs h end_at after some none others keeps) (All-cons (IsKept after) h [] (λ bytes. new) (All-nil (IsKept after)));
  only = only_more gs h end_at after some new others keeps;
  apart = apart_more gs h end_at after some none new others keeps;
}

not_at : (a b : ℕ) → (a ≡ b → ⊥) → is_at (nat_cmp a) b ≡ false
not_at a b h = grind arith

-- the same, as a map is written
pub keeps_inserted : (gs : List Range) (h : Range) (old new : BTreeMap ℕ ℕ) (start end : ℕ) → has_bytes h ≡ true → list_any (shares_byte h) gs ≡ false
    → start ≡ h.from → end ≡ h.to → Updates nat_cmp old new start (Some end) → Keeps gs (get nat_cmp old) → Keeps (gs ++ h ∷ []) (get nat_cmp new)
keeps_inserted gs h old new start end some none s e update keeps =
    keeps_more gs h (get nat_cmp old) (get nat_cmp new) (ltb-true h.from h.to some) none
    (ap (get nat_cmp new) (sym s) ∙ update.1 ∙ ap Some e) (λ q other. update.2 q (not_at start q (λ same. other (sym s ∙ same)))) keeps

pub keeps_next : (gs : List Range) (i : ℕ) (d : Range) (end_at : ℕ → Option ℕ) → i < length gs
    → Keeps (take i gs ++ get_or gs i d ∷ []) end_at → Keeps (take (i + 1) gs) end_at
keeps_next gs i d end_at within keeps = rw ((take_at_read gs i d within).1) keeps
