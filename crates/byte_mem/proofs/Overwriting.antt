-- Bytes read and written in a part of a list.
use Rattle.std.proofs.Common.{arith, rules, ap, sym, refl, ◌∙◌, ℕ, ◌≡◌, ◌+◌, ◌-◌, ◌≤◌, ◌<◌, true, List, ◌++◌, length, take, drop, slice_range, slice_get, ◌⊎◌, inl, inr, Some}
use Rattle.std.proofs.Math.ListN.{get_or}
use Rattle.std.proofs.Math.Seq.{take-append-add, drop-append-add}
use Rattle.std.proofs.lemmas.Bool.{cases_lt, cond-true, cond_both, le-leb, leb-true}
use Rattle.std.proofs.lemmas.List.{append_assoc, drop-append-le, take-append-le, length-append, length-drop, length-take, length-take-le, take_at, drop_at, places}
use Rattle.std.proofs.lemmas.Option.{slice_get-get_or, slice_get_past}
use Rattle.std.proofs.lemmas.List.Edits.{sets, sets-eq}
use Rattle.byte_mem.specs.Access.{fits, overwritten}

pub fits_within : (m : List ℕ) (addr count : ℕ) → addr + count ≤ length m → fits m addr count ≡ true
fits_within m addr count within = le-leb count (length m - addr) (omega arith)

pub overwritten_within : (m : List ℕ) (addr : ℕ) (bytes : List ℕ) → addr + length bytes ≤ length m
    → overwritten m addr bytes ≡ take addr m ++ bytes ++ drop (addr + length bytes) m
overwritten_within m addr bytes within = cond-true (fits m addr (length bytes)) _ _ (fits_within m addr (length bytes) within)

-- one byte after another
pub sets_overwrite : (m : List ℕ) (addr : ℕ) (bytes : List ℕ) → addr + length bytes ≤ length m → sets m addr bytes ≡ overwritten m addr bytes
sets_overwrite m addr bytes within = sets-eq bytes m addr within ∙ sym (overwritten_within m addr bytes within)

-- within the middle one of three parts
pub range_inside : (p w r : List ℕ) (at count : ℕ) → at + count ≤ length w
    → slice_range (p ++ (w ++ r)) (length p + at) (length p + at + count) ≡ slice_range w at (at + count)
range_inside p w r at count within =
    let count_is : (length p + at + count) - (length p + at) ≡ (at + count) - at = omega arith in
    let rest : drop (length p + at) (p ++ (w ++ r)) ≡ drop at w ++ r = drop-append-add p (w ++ r) at ∙ drop-append-le at w r (omega arith) in
    let long = length-drop at w in
    rw (count_is, rest) (take-append-le ((at + count) - at) (drop at w) r (omega arith))

pub overwritten_inside : (p w r : List ℕ) (at : ℕ) (bytes : List ℕ) → at + length bytes ≤ length w
    → overwritten (p ++ (w ++ r)) (length p + at) bytes ≡ p ++ (overwritten w at bytes ++ r)
overwritten_inside p w r at bytes within =
    let long = length-append p (w ++ r) in
    let inner = length-append w r in
    let sum : length p + at + length bytes ≡ length p + (at + length bytes) = omega arith in
    rw (
      overwritten_within (p ++ (w ++ r)) (length p + at) bytes (omega arith),
      overwritten_within w at bytes within,
      sum,
      drop-append-add p (w ++ r) (at + length bytes),
      take-append-add p (w ++ r) at,
      take-append-le at w r (omega arith),
      drop-append-le (at + length bytes) w r within,
    )
    (simp append_assoc)

length_parts : (m : List ℕ) (addr : ℕ) (bytes : List ℕ) → length bytes ≤ length m - addr
    → length (take addr m ++ bytes ++ drop (addr + length bytes) m) ≡ length m
length_parts m addr bytes counted =
    simp (length-append, length-take, length-drop) (grind arith)

pub length_overwritten : (m : List ℕ) (addr : ℕ) (bytes : List ℕ) → length (overwritten m addr bytes) ≡ length m
length_overwritten m addr bytes =
    cond_both (fits m addr (length bytes)) (take addr m ++ bytes ++ drop (addr + length bytes) m) m (λ new. length new ≡ length m)
    (λ fit. length_parts m addr bytes (leb-true (length bytes) (length m - addr) fit)) (λ _. refl)

pub overwritten_here : (m : List ℕ) (addr : ℕ) (bytes : List ℕ) → addr + length bytes ≤ length m
    → slice_range (overwritten m addr bytes) addr (addr + length bytes) ≡ bytes
overwritten_here m addr bytes within =
    let first = length-take-le addr m (omega arith) in
    let count : addr + length bytes - addr ≡ length bytes = omega arith in
    rw (
      overwritten_within m addr bytes within,
      count,
      append_assoc (take addr m) bytes (drop (addr + length bytes) m),
      drop_at (take addr m) (bytes ++ drop (addr + length bytes) m) addr first,
    )
    (take_at bytes (drop (addr + length bytes) m) (length bytes) refl)

get_parts : (m : List ℕ) (addr : ℕ) (bytes : List ℕ) (k : ℕ) → length bytes ≤ length m - addr → (k < addr) ⊎ (addr + length bytes ≤ k) → k < length m
    → get_or (take addr m ++ bytes ++ drop (addr + length bytes) m) k 0 ≡ get_or m k 0
get_parts m addr bytes k counted apart within = search (rules, places)

pub overwritten_elsewhere : (m : List ℕ) (addr : ℕ) (bytes : List ℕ) (k : ℕ) → (k < addr) ⊎ (addr + length bytes ≤ k)
    → slice_get (overwritten m addr bytes) k ≡ slice_get m k
overwritten_elsewhere m addr bytes k apart =
    cond_both (fits m addr (length bytes)) (take addr m ++ bytes ++ drop (addr + length bytes) m) m (λ new. slice_get new k ≡ slice_get m k)
    (λ fit. kept (leb-true (length bytes) (length m - addr) fit) (cases_lt k (length m))) (λ _. refl)
  where
    kept : length bytes ≤ length m - addr → (k < length m) ⊎ (length m ≤ k)
        → slice_get (take addr m ++ bytes ++ drop (addr + length bytes) m) k ≡ slice_get m k
    kept counted (inl within) =
        let long = length_parts m addr bytes counted in
        slice_get-get_or (take addr m ++ bytes ++ drop (addr + length bytes) m) k 0 (omega arith)
        ∙ ap Some (get_parts m addr bytes k counted apart within)
        ∙ sym (slice_get-get_or m k 0 within)
    kept counted (inr past) =
        let long = length_parts m addr bytes counted in
        slice_get_past (take addr m ++ bytes ++ drop (addr + length bytes) m) k (omega arith) ∙ sym (slice_get_past m k past)
