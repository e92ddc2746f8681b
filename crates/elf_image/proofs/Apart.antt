-- Of ranges that share no byte, the last that begins below a segment's end decides whether the segment meets one of them.
use Rattle.std.proofs.Common.{◌≡◌, ℕ, ◌+◌, ◌<◌, ◌≤◌, ◌&&◌, Bool, true, false, List, [], ◌∷◌, ◌++◌, nat_cmp, nat_lt, refl, arith, sym, ◌∙◌, ap, ⊎_elim, get_or, take, Option, Some, None, slice_index_or, length}
use Rattle.std.proofs.lemmas.Bool.{cases_eq, cases_lt, lt-ltb, le-ltb, ltb-false, ltb-true}
use Rattle.std.proofs.lemmas.Grind.{take_at_read}
use Rattle.std.proofs.lemmas.List.Elements.{All-append, All-cons, All-nil, Contains-append_left, Contains-append_right}
use Rattle.std.proofs.lemmas.List.Folds.{list_any_at, list_any_none}
use Rattle.std.proofs.lemmas.List.{get_or_default}
use Rattle.std.proofs.Math.Nat.{eq-or-lt_of_le}
use Rattle.std.specs.BTreeMap.{BTreeMap, Updates, get, is_at}
use Rattle.std.specs.List.{All, Contains, list_any}
use Rattle.elf_image.specs.Ranges.{HasRange, IsKept, Keeps, LastBelow}
use Rattle.elf_image.specs.Tests.{end_of, has_bytes, shares_byte}
use Rattle.elf_image.specs.declared.segment.ProgramHeader.{ProgramHeader}

found : (test : ProgramHeader → Bool) (gs : List ProgramHeader) (g : ProgramHeader) → Contains gs g → test g ≡ true → list_any test gs ≡ true
found test gs g m e = list_any_at test gs m.0 g m.1 (rw (m.2) e)

false_true : false ≡ true → ⊥
false_true e = grind arith

none_below : (n : ℕ) → n ≤ 0 → 0 < n → ⊥
none_below n p q = omega arith

not_less : (a b : ℕ) → a ≡ b → a < b → ⊥
not_less a b e l = omega arith

at_most : (a b : ℕ) → (b < a → ⊥) → a ≤ b
at_most a b h = ⊎_elim (λ (over : b < a). absurd (h over)) (λ (fine : a ≤ b). fine) (cases_lt b a)

-- the test of two ranges, as numbers
abbrev meet : ℕ → ℕ → ℕ → ℕ → Bool
meet a m b n = nat_lt 0 m && nat_lt 0 n && nat_lt a (b + n) && nat_lt b (a + m)

none_some : (o : Option ℕ) (x : ℕ) → o ≡ None → o ≡ Some x → ⊥
none_some o x e f = grind arith

some_same : (o : Option ℕ) (x y : ℕ) → o ≡ Some x → o ≡ Some y → x ≡ y
some_same o x y e f = grind arith

meets : (a m b n : ℕ) → 0 < m → 0 < n → a < b + n → b < a + m → meet a m b n ≡ true
meets a m b n p q r s = rw (lt-ltb 0 m p, lt-ltb 0 n q, lt-ltb a (b + n) r, lt-ltb b (a + m) s) refl

apart : (a m b n : ℕ) → ((0 < m → 0 < n → a < b + n → b < a + m → ⊥) → meet a m b n ≡ false)
apart a m b n h = grind arith

apart_means : (a m b n : ℕ) → meet a m b n ≡ false → 0 < m → 0 < n → a < b + n → b < a + m → ⊥
apart_means a m b n e p q r s = grind (arith, meets a m b n p q r s)

-- a segment without bytes meets none
pub no_bytes_meet : (gs : List ProgramHeader) (h : ProgramHeader) → has_bytes h ≡ false → list_any (shares_byte h) gs ≡ false
no_bytes_meet gs h none = list_any_none (shares_byte h) gs (λ k d within. apart h.p_vaddr h.p_memsz _ _ (λ p q r s. omega (arith, ltb-false 0 h.p_memsz none)))

-- no range begins below the segment's end
pub none_meets : (gs : List ProgramHeader) (end_at : ℕ → Option ℕ) (h : ProgramHeader) (address : ℕ) → Keeps gs end_at → address ≡ end_of h
    → ((start : ℕ) → start < address → end_at start ≡ None) → list_any (shares_byte h) gs ≡ false
none_meets gs end_at h address keeps a none = list_any_none (shares_byte h) gs (λ k d within.
    let g = slice_index_or gs k d in
    apart h.p_vaddr h.p_memsz g.p_vaddr g.p_memsz (λ p q r s. none_some _ _ (none g.p_vaddr (rw (a) s)) (keeps.all k d within q)))

-- a range that begins below an address ends no later than the last such
before_last : (gs : List ProgramHeader) (end_at : ℕ → Option ℕ) (address end begin stop : ℕ) → Keeps gs end_at → LastBelow end_at address end
    → begin < address → end_at begin ≡ Some stop → stop ≤ end
before_last gs end_at address end begin stop keeps last low there =
    let own = keeps.only last.start end last.here in
    ⊎_elim
    (λ (same : begin ≡ last.start). omega (arith, some_same (end_at begin) stop end there (ap end_at same ∙ last.here)))
    (λ (less : begin < last.start). omega (arith, keeps.apart begin stop last.start end there last.here less, own.some, own.starts, own.ends))
    (eq-or-lt_of_le (last.last begin low (rw (there) refl)))

-- the last range that begins below a segment's end meets it exactly where one of the segments does
pub last_decides : (gs : List ProgramHeader) (end_at : ℕ → Option ℕ) (h : ProgramHeader) (end : ℕ) → Keeps gs end_at → 0 < h.p_memsz
    → LastBelow end_at (end_of h) end → nat_lt h.p_vaddr end ≡ list_any (shares_byte h) gs
last_decides gs end_at h end keeps some last =
    let own = keeps.only last.start end last.here in
    ⊎_elim
    (λ (less : h.p_vaddr < end). lt-ltb _ _ less ∙ sym (found (shares_byte h) gs own.segment own.member
    (meets h.p_vaddr h.p_memsz own.segment.p_vaddr own.segment.p_memsz some own.some (omega (arith, own.ends)) (omega (arith, own.starts, last.below)))))
    (λ (past : end ≤ h.p_vaddr). le-ltb _ _ past ∙ sym (list_any_none (shares_byte h) gs (λ k d within.
    let g = slice_index_or gs k d in
    apart h.p_vaddr h.p_memsz g.p_vaddr g.p_memsz
    (λ p q r s. omega (arith, before_last gs end_at (end_of h) end g.p_vaddr (end_of g) keeps last s (keeps.all k d within q))))))
    (cases_lt h.p_vaddr end)

-- the same, as the numbers are read
pub last_read : (gs : List ProgramHeader) (end_at : ℕ → Option ℕ) (h : ProgramHeader) (start address end : ℕ) → Keeps gs end_at → has_bytes h ≡ true
    → start ≡ h.p_vaddr → address ≡ end_of h → LastBelow end_at address end → nat_lt start end ≡ list_any (shares_byte h) gs
last_read gs end_at h start address end keeps some s a last =
    ap (λ x. nat_lt x end) s ∙ last_decides gs end_at h end keeps (ltb-true 0 h.p_memsz some) (record { start = last.start; below = rw (sym a) last.below; here = last.here; last = λ next below there. last.last next (rw (a) below) there })

-- a segment that meets none has each of them on one side
clear : (gs : List ProgramHeader) (h g : ProgramHeader) → list_any (shares_byte h) gs ≡ false → Contains gs g → 0 < h.p_memsz → 0 < g.p_memsz
    → h.p_vaddr < end_of g → g.p_vaddr < end_of h → ⊥
clear gs h g none member p q r s = false_true (sym none ∙ found (shares_byte h) gs g member (meets h.p_vaddr h.p_memsz g.p_vaddr g.p_memsz p q r s))

widened : (gs : List ProgramHeader) (h : ProgramHeader) (start end : ℕ) → HasRange gs start end → HasRange (gs ++ h ∷ []) start end
widened gs h start end r = record { segment = r.segment; member = Contains-append_left gs (h ∷ []) r.segment r.member; some = r.some; starts = r.starts; ends = r.ends }

-- a segment without bytes adds no range
pub keeps_same : (gs : List ProgramHeader) (h : ProgramHeader) (end_at : ℕ → Option ℕ) → has_bytes h ≡ false → Keeps gs end_at → Keeps (gs ++ h ∷ []) end_at
keeps_same gs h end_at none keeps = record {
  all = All-append (IsKept end_at) gs (h ∷ []) keeps.all (All-cons (IsKept end_at) h [] (λ some. absurd (none_below h.p_memsz (ltb-false 0 h.p_memsz none) some)) (All-nil _));
  only = λ start end here. widened gs h start end (keeps.only start end here);
  apart = keeps.apart;
}

old_stay : (gs : List ProgramHeader) (h : ProgramHeader) (end_at after : ℕ → Option ℕ) → 0 < h.p_memsz → list_any (shares_byte h) gs ≡ false
    → ((start : ℕ) → (h.p_vaddr ≡ start → ⊥) → after start ≡ end_at start) → Keeps gs end_at → All (IsKept after) gs
old_stay gs h end_at after some none others keeps = λ k d within bytes.
    let g = slice_index_or gs k d in
    others g.p_vaddr (λ same. clear gs h g none (k, within, get_or_default gs k g d within) some bytes (omega (arith, same)) (omega (arith, same))) ∙ keeps.all k d within bytes

only_more : (gs : List ProgramHeader) (h : ProgramHeader) (end_at after : ℕ → Option ℕ) → 0 < h.p_memsz → after h.p_vaddr ≡ Some (end_of h)
    → ((start : ℕ) → (h.p_vaddr ≡ start → ⊥) → after start ≡ end_at start) → Keeps gs end_at
    → (start end : ℕ) → after start ≡ Some end → HasRange (gs ++ h ∷ []) start end
only_more gs h end_at after some new others keeps start end here = ⊎_elim
    (λ (same : h.p_vaddr ≡ start). record {
      segment = h;
      member = Contains-append_right gs (h ∷ []) h (0, omega arith, refl);
      some = some;
      starts = same;
      ends = some_same (after start) (end_of h) end (sym (ap after same) ∙ new) here;
    })
    (λ (other : h.p_vaddr ≡ start → ⊥). widened gs h start end (keeps.only start end (sym (others start other) ∙ here)))
    (cases_eq h.p_vaddr start)

apart_more : (gs : List ProgramHeader) (h : ProgramHeader) (end_at after : ℕ → Option ℕ) → 0 < h.p_memsz → list_any (shares_byte h) gs ≡ false
    → after h.p_vaddr ≡ Some (end_of h) → ((start : ℕ) → (h.p_vaddr ≡ start → ⊥) → after start ≡ end_at start) → Keeps gs end_at
    → (start end next last : ℕ) → after start ≡ Some end → after next ≡ Some last → start < next → end ≤ next
apart_more gs h end_at after some none new others keeps start end next last here there less = ⊎_elim
    (λ (first : h.p_vaddr ≡ start).
    let own = keeps.only next last (sym (others next (λ second. not_less start next (sym first ∙ second) less)) ∙ there) in
    let ends = some_same (after start) (end_of h) end (sym (ap after first) ∙ new) here in
    at_most end next (λ over. clear gs h own.segment none own.member some own.some
    (omega (arith, own.some, own.starts, own.ends)) (omega (arith, own.starts, ends))))
    (λ (old : h.p_vaddr ≡ start → ⊥).
    let own = keeps.only start end (sym (others start old) ∙ here) in ⊎_elim
    (λ (second : h.p_vaddr ≡ next). at_most end next (λ over. clear gs h own.segment none own.member some own.some
    (omega (arith, own.ends)) (omega (arith, own.starts))))
    (λ (other : h.p_vaddr ≡ next → ⊥). keeps.apart start end next last (sym (others start old) ∙ here) (sym (others next other) ∙ there) less)
    (cases_eq h.p_vaddr next))
    (cases_eq h.p_vaddr start)

-- the range of a segment that meets none is added
pub keeps_more : (gs : List ProgramHeader) (h : ProgramHeader) (end_at after : ℕ → Option ℕ) → 0 < h.p_memsz → list_any (shares_byte h) gs ≡ false
    → after h.p_vaddr ≡ Some (end_of h) → ((start : ℕ) → (h.p_vaddr ≡ start → ⊥) → after start ≡ end_at start) → Keeps gs end_at → Keeps (gs ++ h ∷ []) after
keeps_more gs h end_at after some none new others keeps = record {
  all = All-append (IsKept after) gs (h ∷ []) (old_stay gs h end_at after some none others keeps) (All-cons (IsKept after) h [] (λ bytes. new) (All-nil (IsKept after)));
  only = only_more gs h end_at after some new others keeps;
  apart = apart_more gs h end_at after some none new others keeps;
}

not_at : (a b : ℕ) → (a ≡ b → ⊥) → is_at (nat_cmp a) b ≡ false
not_at a b h = grind arith

-- the same, as a map is written
pub keeps_inserted : (gs : List ProgramHeader) (h : ProgramHeader) (old new : BTreeMap ℕ ℕ) (start end : ℕ) → has_bytes h ≡ true → list_any (shares_byte h) gs ≡ false
    → start ≡ h.p_vaddr → end ≡ end_of h → Updates nat_cmp old new start (Some end) → Keeps gs (get nat_cmp old) → Keeps (gs ++ h ∷ []) (get nat_cmp new)
keeps_inserted gs h old new start end some none s e update keeps =
    keeps_more gs h (get nat_cmp old) (get nat_cmp new) (ltb-true 0 h.p_memsz some) none
    (ap (get nat_cmp new) (sym s) ∙ update.1 ∙ ap Some e) (λ q other. update.2 q (not_at start q (λ same. other (sym s ∙ same)))) keeps

pub keeps_next : (gs : List ProgramHeader) (i : ℕ) (d : ProgramHeader) (end_at : ℕ → Option ℕ) → i < length gs
    → Keeps (take i gs ++ get_or gs i d ∷ []) end_at → Keeps (take (i + 1) gs) end_at
keeps_next gs i d end_at within keeps = rw ((take_at_read gs i d within).1) keeps
