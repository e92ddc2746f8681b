-- Parts, one by one.
use Rattle.std.proofs.Common.{◌≡◌, ℕ, ◌+◌, ◌<◌, ◌≤◌, true, false, ◌&&◌, List, [], ◌∷◌, ◌++◌, length, drop, get_or, Option, None, refl, sym, ap, ◌∙◌, arith, append_assoc, drop-cons, add-one}
use Rattle.std.specs.Prelude.{nat_lt}
use Rattle.std.specs.List.{list_any}
use Rattle.std.proofs.lemmas.List.{drop_all}
use Rattle.std.proofs.lemmas.List.Sums.{fold-append}
use Rattle.byte_ranges.specs.declared.kept.Range.{Range}
use Rattle.byte_ranges.specs.Ranges.{has_bytes, shares_byte}
use Rattle.asm_layout.specs.Layout.{Numbers}
use Rattle.asm_source.specs.declared.fault.Fault.{Fault}
use Rattle.asm_source.specs.declared.fault.Rule.TheVariants.{SharedByte, TooMuch}
use Rattle.op_table.specs.declared.op.Op.TheVariants.{Add}
use Rattle.asm_source.specs.declared.item.Item.TheVariants.{Instruction}
use Rattle.asm_source.specs.declared.item.Span.{Span}
use Rattle.asm_source.specs.declared.item.Written.{Written}
use Rattle.asm_source.specs.Faults.{least_after, lesser}
use Rattle.asm_source.specs.Second.{fault_if, is_part, kept_with, part_faults, place_of, spans_from}

pub cut : {X : Type 0} (xs : List X) (k : ℕ) (d : X) → k < length xs → drop k xs ≡ get_or xs k d ∷ drop (k + 1) xs
cut xs k d within = drop-cons xs k d within ∙ ap (λ n. get_or xs k d ∷ drop n xs) (sym (add-one k))

-- ---- where they begin and end

abbrev pub span : ℕ → ℕ → Written → Span
span from to org = record { range = record { from = from; to = to }; org = org }

-- a part ends, and the next begins
pub span_more : (all : List Written) (F : Numbers) (k : ℕ) (d w : Written) (from to next : ℕ) (org : Written) (old new total : List Span) → k < length all → is_part (get_or all k d).item ≡ true
    → to ≡ place_of all F k → next ≡ place_of all F (k + 1) → w ≡ get_or all k d → old ++ spans_from all F k from org (drop k all) ≡ total → new ≡ old ++ span from to org ∷ []
    → new ++ spans_from all F (k + 1) next w (drop (k + 1) all) ≡ total
unfolding spans_from
span_more all F k d w from to next org old new total within part ends begins is before added =
    let left = spans_from all F (k + 1) next w (drop (k + 1) all) in
    let split : spans_from all F k from org (drop k all) ≡ span from to org ∷ left = rw (cut all k d within, part, ends, begins, is) refl in
    ap (λ xs. xs ++ left) added ∙ append_assoc old (span from to org ∷ []) left ∙ ap (λ xs. old ++ xs) (sym split) ∙ before

pub span_same : (all : List Written) (F : Numbers) (k : ℕ) (d : Written) (from : ℕ) (org : Written) (old total : List Span) → k < length all → is_part (get_or all k d).item ≡ false
    → old ++ spans_from all F k from org (drop k all) ≡ total → old ++ spans_from all F (k + 1) from org (drop (k + 1) all) ≡ total
unfolding spans_from
span_same all F k d from org old total within none before =
    let split : spans_from all F k from org (drop k all) ≡ spans_from all F (k + 1) from org (drop (k + 1) all) = rw (cut all k d within, none) refl in
    ap (λ xs. old ++ xs) (sym split) ∙ before

pub span_last : (all : List Written) (F : Numbers) (k from to : ℕ) (org : Written) (old new total : List Span) → length all ≤ k → k ≤ length all → to ≡ place_of all F (length all)
    → old ++ spans_from all F k from org (drop k all) ≡ total → new ≡ old ++ span from to org ∷ [] → new ≡ total
unfolding spans_from
span_last all F k from to org old new total past within ends before added =
    let same : length all ≡ k = omega arith in
    let split : spans_from all F k from org (drop k all) ≡ span from to org ∷ [] = rw (drop_all k all past, ends, same) refl in
    added ∙ ap (λ xs. old ++ xs) (sym split) ∙ before

-- ---- their faults

-- what is read past the last
abbrev pub none_spanned : Span
none_spanned = record { range = record { from = 0; to = 0 }; org = record { item = Instruction (record { op = Add; rd = 0; ra = 0; rb = 0; imm = 0; flags = 0 }) None false; line = 0; column = 0 } }

pub shares : (kept : ℕ) (earlier : List Range) (ps : List Span) (k : ℕ) (d : Span) (first new total : Option Fault) → k < length ps → list_any (shares_byte (get_or ps k d).range) earlier ≡ true
    → least_after first (part_faults kept earlier (drop k ps)) ≡ total → new ≡ least_after first (fault_if true SharedByte (get_or ps k d).org) → new ≡ total
unfolding part_faults
shares kept earlier ps k d first new total within is before noted =
    let here : part_faults kept earlier (drop k ps) ≡ fault_if true SharedByte (get_or ps k d).org = rw (cut ps k d within, is) refl in
    noted ∙ ap (least_after first) (sym here) ∙ before

pub apart : (kept count : ℕ) (earlier : List Range) (ps : List Span) (k : ℕ) (d : Span) (first new total : Option Fault) → k < length ps → list_any (shares_byte (get_or ps k d).range) earlier ≡ false
    → least_after first (part_faults kept earlier (drop k ps)) ≡ total
    → new ≡ least_after first (fault_if (has_bytes (get_or ps k d).range && nat_lt 65_534 (kept + 1)) TooMuch (get_or ps k d).org) → count ≡ kept_with (get_or ps k d).range kept
    → least_after new (part_faults count (earlier ++ (get_or ps k d).range ∷ []) (drop (k + 1) ps)) ≡ total
unfolding part_faults
apart kept count earlier ps k d first new total within is before noted counted =
    let here = fault_if (has_bytes (get_or ps k d).range && nat_lt 65_534 (kept + 1)) TooMuch (get_or ps k d).org in
    let left = part_faults (kept_with (get_or ps k d).range kept) (earlier ++ (get_or ps k d).range ∷ []) (drop (k + 1) ps) in
    let split : part_faults kept earlier (drop k ps) ≡ here ++ left = rw (cut ps k d within, is) refl in
    ap (λ n. least_after new (part_faults n (earlier ++ (get_or ps k d).range ∷ []) (drop (k + 1) ps))) counted
    ∙ ap (λ o. least_after o left) noted ∙ sym (fold-append lesser first here left) ∙ ap (least_after first) (sym split) ∙ before

pub all_apart : (kept : ℕ) (earlier : List Range) (ps : List Span) (k : ℕ) (first total : Option Fault) → length ps ≤ k → least_after first (part_faults kept earlier (drop k ps)) ≡ total → first ≡ total
unfolding part_faults
all_apart kept earlier ps k first total past before =
    let none : part_faults kept earlier (drop k ps) ≡ [] = rw (drop_all k ps past) refl in
    ap (least_after first) (sym none) ∙ before
