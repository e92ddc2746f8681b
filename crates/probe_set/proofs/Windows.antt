-- A window of 16 entries, which is full, and one more entry.
use Rattle.std.proofs.Common.{◌≡◌, ℕ, ◌+◌, ◌-◌, ◌≤◌, List, [], ◌∷◌, ◌++◌, length, take, drop, slice_set, refl, sym, ap, ◌∙◌, arith, length-append}
use Rattle.std.proofs.Math.Seq.{set-append_seam}
use Rattle.std.proofs.lemmas.List.{take_all}
use Rattle.run_journal.specs.declared.entry.Entry.{Entry}
use Rattle.probe_set.specs.Folds.{kept_with, newest}

-- the last place of a list of 16 that was turned by one
set_last : (rest : List Entry) (x e : Entry) → length rest ≡ 15 → slice_set (rest ++ x ∷ []) 15 e ≡ rest ++ e ∷ []
set_last rest x e n = ap (λ k. slice_set (rest ++ x ∷ []) k e) (sym n) ∙ set-append_seam rest x [] e

-- the newest 16 of 17 are those behind the first
behind_first : (x : Entry) (rest : List Entry) (k : ℕ) → k ≡ 17 → drop (k - 16) (x ∷ rest) ≡ rest
behind_first x rest k n = ap (λ m. drop (m - 16) (x ∷ rest)) n

pub kept_full : (es turned : List Entry) (e : Entry) (len : ℕ) → len ≤ 16 → 16 ≤ len → length es ≡ 16 → turned ≡ drop 1 es ++ take 1 es → take len (slice_set turned 15 e) ≡ kept_with e (take len es)
kept_full [] turned e len low high n is = absurd (omega arith)
kept_full (x ∷ rest) turned e len low high n is =
    let short : length rest ≡ 15 = omega arith in
    let sets : slice_set turned 15 e ≡ rest ++ e ∷ [] = ap (λ t. slice_set t 15 e) is ∙ set_last rest x e short in
    let size : length (rest ++ e ∷ []) ≡ 16 = omega (arith, length-append rest (e ∷ [])) in
    let now : take len (slice_set turned 15 e) ≡ rest ++ e ∷ [] = ap (take len) sets ∙ take_all len (rest ++ e ∷ []) (omega arith) in
    let was : take len (x ∷ rest) ≡ x ∷ rest = take_all len (x ∷ rest) (omega arith) in
    now ∙ sym (ap (kept_with e) was ∙ behind_first x (rest ++ e ∷ []) (length ((x ∷ rest) ++ e ∷ [])) (omega (arith, length-append (x ∷ rest) (e ∷ []))))
