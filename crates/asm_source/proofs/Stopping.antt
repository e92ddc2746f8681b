-- Behind the first part that shares a byte no fault of a part can be the first.
use Rattle.std.proofs.Common.{◌≡◌, ℕ, zero, suc, ◌+◌, Bool, true, false, List, [], ◌∷◌, ◌++◌, length, get_or, Option, None, Some, refl, sym, ◌∙◌, inl, inr, arith}
use Rattle.std.specs.Prelude.{flat_map, nat_lt, ◌&&◌, if◌then◌else◌}
use Rattle.std.specs.List.{All, fold, list_any, range_with_len}
use Rattle.std.proofs.lemmas.Bool.{cases_Bool}
use Rattle.std.proofs.lemmas.Bool.Decides.{nat_tests}
use Rattle.std.proofs.lemmas.List.Elements.{All-append, All-cons}
use Rattle.std.proofs.lemmas.List.Sums.{fold-append}
use Rattle.byte_ranges.specs.declared.kept.Range.{Range}
use Rattle.byte_ranges.specs.Ranges.{has_bytes, shares_byte}
use Rattle.asm_layout.specs.Layout.{Numbers}
use Rattle.asm_source.specs.declared.fault.Fault.{Fault}
use Rattle.asm_source.specs.declared.fault.Rule.TheVariants.{SharedByte, TooMuch}
use Rattle.asm_source.specs.declared.item.Span.{Span}
use Rattle.asm_source.specs.declared.item.Written.{Written}
use Rattle.asm_source.specs.Faults.{comes_first, lesser}
use Rattle.asm_source.specs.Laws.{AreInOrder, PartsMayStop, stands_before}
use Rattle.asm_source.specs.Second.{all_part_faults, all_second_faults, fault_if, is_part, item_faults, kept_with, part_faults, place_of, second_faults, spans_from, written}

-- ---- places

behind_itself : (w : Written) → stands_before w w ≡ false
behind_itself w = grind (arith, nat_tests)

behind_both : (u v w : Written) → stands_before u v ≡ false → stands_before v w ≡ false → stands_before u w ≡ false
behind_both u v w one other = grind (arith, nat_tests)

none_of : {X : Type 0} (P : X → Type 0) → All P []
none_of P k d lt = absurd (omega (arith, lt))

rest_of : {X : Type 0} (P : X → Type 0) (x : X) (xs : List X) → All P (x ∷ xs) → All P xs
rest_of P x xs all k d lt = all (suc k) d (omega (arith, lt))

-- ---- parts in the order of their lines

abbrev Behind : Written → List Span → Type 0
Behind w ps = All (λ (p : Span). stands_before p.org w ≡ false) ps

abbrev InOrder : List Span → Type 0
InOrder [] = Unit {0}
InOrder (p ∷ ps) = Behind p.org ps × InOrder ps

further : (v w : Written) (ps : List Span) → stands_before v w ≡ false → Behind v ps → Behind w ps
further v w ps at behind k d lt = behind_both (get_or ps k d).org v w (behind k d lt) at

add : (p : Span) (ps : List Span) → Behind p.org ps → Behind p.org (p ∷ ps)
add p ps behind = All-cons (λ (q : Span). stands_before q.org p.org ≡ false) p ps (behind_itself p.org) behind

either : (b : Bool) (p : Span) (ps qs : List Span) → InOrder ps → Behind p.org ps → InOrder qs → Behind p.org qs
    → InOrder (if b then p ∷ ps else qs) × Behind p.org (if b then p ∷ ps else qs)
either true p ps qs order behind _ _ = ((behind, order), add p ps behind)
either false p ps qs _ _ order behind = (order, behind)

module _ (all : List Written) (F : Numbers) where
  spans_in_order : (k from : ℕ) (org : Written) (ws : List Written) → All (λ v. stands_before v org ≡ false) ws → AreInOrder ws
      → InOrder (spans_from all F k from org ws) × Behind org (spans_from all F k from org ws)
  unfolding spans_from
  spans_in_order k from org [] behind order =
      let none = none_of (λ (q : Span). stands_before q.org org ≡ false) in
      ((none, tt), add (record { range = record { from = from; to = place_of all F k }; org = org }) [] none)
  spans_in_order k from org (w ∷ ws) behind order =
      let later : AreInOrder ws = λ i j d lt within. order (suc i) (suc j) d (omega (arith, lt)) (omega (arith, within)) in
      let last = spans_in_order (k + 1) (place_of all F (k + 1)) w ws (λ j d within. order zero (suc j) d (omega arith) (omega (arith, within))) later in
      let same = spans_in_order (k + 1) from org ws (rest_of (λ v. stands_before v org ≡ false) w ws behind) later in
      either (is_part w.item) (record { range = record { from = from; to = place_of all F k }; org = org }) _ _
      last.0 (further w org _ (behind zero w (omega arith)) last.1) same.0 same.1

-- ---- faults

abbrev shared : Written → Fault
shared w = record { line = w.line; column = w.column; rule = SharedByte }

shared_late : (b : Bool) (v w : Written) → stands_before v w ≡ false → All (λ g. comes_first g (shared w) ≡ false) (fault_if b SharedByte v)
shared_late true v w at = All-cons (λ g. comes_first g (shared w) ≡ false) (shared v) [] (grind (arith, nat_tests)) (none_of (λ g. comes_first g (shared w) ≡ false))
shared_late false v w at = none_of (λ g. comes_first g (shared w) ≡ false)

many_late : (b : Bool) (v w : Written) → stands_before v w ≡ false → All (λ g. comes_first g (shared w) ≡ false) (fault_if b TooMuch v)
many_late true v w at =
    All-cons (λ g. comes_first g (shared w) ≡ false) (record { line = v.line; column = v.column; rule = TooMuch }) [] (grind (arith, nat_tests)) (none_of (λ g. comes_first g (shared w) ≡ false))
many_late false v w at = none_of (λ g. comes_first g (shared w) ≡ false)

-- no fault of a part comes before a shared byte at an item that stands before them
all_late : (w : Written) (kept : ℕ) (earlier : List Range) (ps : List Span) → Behind w ps → All (λ g. comes_first g (shared w) ≡ false) (all_part_faults kept earlier ps)
unfolding all_part_faults
all_late w kept earlier [] behind = none_of (λ g. comes_first g (shared w) ≡ false)
all_late w kept earlier (p ∷ ps) behind =
    let P : Fault → Type 0 = λ g. comes_first g (shared w) ≡ false in
    let here : stands_before p.org w ≡ false = behind zero p (omega arith) in
    All-append P _ _
    (All-append P _ _ (shared_late (list_any (shares_byte p.range) earlier) p.org w here) (many_late (has_bytes p.range && nat_lt 65_534 (kept + 1)) p.org w here))
    (all_late w (kept_with p.range kept) (earlier ++ p.range ∷ []) ps (rest_of (λ (q : Span). stands_before q.org w ≡ false) p ps behind))

-- a fault that none comes before stays the least
stays : (f : Fault) (more : List Fault) → All (λ g. comes_first g f ≡ false) more → fold lesser (Some f) more ≡ Some f
stays f [] late = refl
stays f (g ∷ more) late = rw (late zero g (omega arith)) (stays f more (rest_of (λ h. comes_first h f ≡ false) g more late))

not_before : (f g h : Fault) → comes_first f g ≡ false → comes_first h f ≡ false → comes_first h g ≡ false
not_before f g h one other = grind (arith, nat_tests)

stays_least : (noted : Option Fault) (f : Fault) (more : List Fault) → All (λ g. comes_first g f ≡ false) more → fold lesser (lesser noted f) more ≡ lesser noted f
stays_least None f more late = stays f more late
stays_least (Some g) f more late = elim (cases_Bool (comes_first f g)) [
  | inl before ↦ rw before (stays f more late)
  | inr behind ↦ rw behind (stays g more (λ k d lt. not_before f g (get_or more k d) behind (late k d lt)))
]

-- ---- the stop

stop_by : (b : Bool) (noted : Option Fault) (f : Fault) (much rest cut : List Fault) → All (λ g. comes_first g f ≡ false) (much ++ rest)
    → ((n : Option Fault) → fold lesser n cut ≡ fold lesser n rest)
    → fold lesser noted (if b then f ∷ [] else much ++ cut) ≡ fold lesser noted ((if b then f ∷ [] else []) ++ much ++ rest)
stop_by true noted f much rest cut late same = sym (stays_least noted f (much ++ rest) late)
stop_by false noted f much rest cut late same = fold-append lesser noted much cut ∙ same (fold lesser noted much) ∙ sym (fold-append lesser noted much rest)

parts_stop : (noted : Option Fault) (kept : ℕ) (earlier : List Range) (ps : List Span) → InOrder ps
    → fold lesser noted (part_faults kept earlier ps) ≡ fold lesser noted (all_part_faults kept earlier ps)
unfolding part_faults all_part_faults
parts_stop noted kept earlier [] order = refl
parts_stop noted kept earlier (p ∷ ps) order =
    let P : Fault → Type 0 = λ g. comes_first g (shared p.org) ≡ false in
    let with = kept_with p.range kept in
    let met = earlier ++ p.range ∷ [] in
    stop_by (list_any (shares_byte p.range) earlier) noted (shared p.org) (fault_if (has_bytes p.range && nat_lt 65_534 (kept + 1)) TooMuch p.org) (all_part_faults with met ps) (part_faults with met ps)
    (All-append P _ _ (many_late (has_bytes p.range && nat_lt 65_534 (kept + 1)) p.org p.org (behind_itself p.org)) (all_late p.org with met ps order.0))
    (λ n. parts_stop n with met ps order.1)

first_behind : (all : List Written) → AreInOrder all → All (λ v. stands_before v (written all 0) ≡ false) all
first_behind [] order = none_of (λ v. stands_before v (written [] 0) ≡ false)
first_behind (w ∷ ws) order =
    All-cons (λ v. stands_before v w ≡ false) w ws (behind_itself w) (λ j d within. order zero (suc j) d (omega arith) (omega (arith, within)))

pub parts_may_stop : PartsMayStop
unfolding second_faults all_second_faults
parts_may_stop all F order =
    let items = flat_map (item_faults all F) (range_with_len 0 (length all)) in
    let parts = spans_from all F 0 0 (written all 0) all in
    fold-append lesser None items (part_faults 0 [] parts)
    ∙ parts_stop (fold lesser None items) 0 [] parts (spans_in_order all F 0 0 (written all 0) all (first_behind all order) order).0
    ∙ sym (fold-append lesser None items (all_part_faults 0 [] parts))
