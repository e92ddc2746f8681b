-- What is loaded of a file that the shelf tells.
use Rattle.std.proofs.Common.{◌≡◌, ◌∙◌, ◌≤◌, ◌<◌, ℕ, List, Option, Some, IfSome, ap, subst, sym, unwrap_or, length, arith}
use Rattle.host_io.specs.Outside.{Files, IsLonger, ShelfState}
use Rattle.source_tools.specs.Complete.{IsThere}
use Rattle.source_tools.specs.Loaded.{Holds}

-- the bytes that were loaded are those that are there
pub same_bytes : (name bytes found : List ℕ) (limit : ℕ) (old new : ShelfState) → IsThere name bytes old new → Holds old.files name limit found → found ≡ bytes
same_bytes name bytes found limit old new t held =
    let P : Option Files → Type 0 = λ o. IfSome o (λ files. files name ≡ Some found) in
    ap (λ o. unwrap_or o found) (sym (subst P t.told held.0) ∙ t.there)

-- bytes within the limit are not longer
pub within : (name bytes : List ℕ) (limit : ℕ) (old new : ShelfState) → IsThere name bytes old new → length bytes ≤ limit → IfSome old.files (λ files. IsLonger (files name) limit) → ⊥
within name bytes limit old new t small long =
    let P : Option Files → Type 0 = λ o. IfSome o (λ files. IsLonger (files name) limit) in
    let Q : Option (List ℕ) → Type 0 = λ o. IsLonger o limit in
    let past : limit < length bytes = subst Q t.there (subst P t.told long) in
    absurd (omega arith)

-- bytes past the limit are not loaded
pub past : (name bytes found : List ℕ) (limit : ℕ) (old new : ShelfState) → IsThere name bytes old new → limit < length bytes → Holds old.files name limit found → ⊥
past name bytes found limit old new t long held =
    let P : List ℕ → Type 0 = λ xs. length xs ≤ limit in
    let small : length bytes ≤ limit = subst P (same_bytes name bytes found limit old new t held) held.1 in
    absurd (omega arith)
