-- What the part of a table up to an address says of the windows near below the address.
use Rattle.std.proofs.Common.{◌≡◌, ℕ, ◌-◌, ◌<◌, ◌≤◌, List, [], ◌∷◌, ◌++◌, Some, None, sym, ap, ◌∙◌, arith, false, true≢false, inl, inr, Less, Equal}
use Rattle.std.specs.Prelude.{is_some}
use Rattle.std.specs.Ordering.{is_gt, nat_cmp}
use Rattle.std.specs.declared.ops.Bound.TheVariants.{Included, Unbounded}
use Rattle.std.specs.Cmp.{nat_cmp_is}
use Rattle.std.proofs.lemmas.Bool.{cases_eq}
use Rattle.std.specs.BTreeMap.{BTreeMap, IsOrdered}
use Rattle.std.specs.BTreeMap.Range.{IsRangeOf}
use Rattle.std.proofs.lemmas.Map.Keys.{le_from_not_gt, ge_from_not_lt}
use Rattle.bus_map.specs.Windows.{DoNotOverlap, spot_at, windows_of}
use Rattle.bus_map.proofs.Tables.{found_at, none_near}

abbrev pub UpTo : ℕ → BTreeMap ℕ ℕ → List (ℕ × ℕ) → Type 0
UpTo addr m r = IsRangeOf nat_cmp Unbounded (Included addr) m r

in_range : (q addr : ℕ) → q ≤ addr → is_gt (nat_cmp q addr) ≡ false
in_range q addr low =
    elim (cases_eq q addr) [
      | inl same ↦ ap is_gt (sym (nat_cmp_is q addr Equal same))
      | inr other ↦ ap is_gt (sym (nat_cmp_is q addr Less (omega (arith, low, other))))
    ]

pub none_below : (m : BTreeMap ℕ ℕ) (addr : ℕ) (r : List (ℕ × ℕ)) → IsOrdered nat_cmp m → UpTo addr m r → r ≡ [] → spot_at (windows_of m.entries) addr ≡ None
none_below m addr r ordered part empty = none_near m addr ordered (λ q low some. absurd (true≢false (sym some ∙ ap is_some (part.5 empty q (tt, in_range q addr low)))))

pub last_is_far : (m : BTreeMap ℕ ℕ) (addr base device : ℕ) (r t : List (ℕ × ℕ)) → IsOrdered nat_cmp m → UpTo addr m r → r ≡ t ++ (base, device) ∷ [] → 4096 ≤ addr - base → spot_at (windows_of m.entries) addr ≡ None
last_is_far m addr base device r t ordered part last far = none_near m addr ordered (λ q low some.
    let above : q ≤ base = ge_from_not_lt base q (part.4 (base, device) t last q (tt, in_range q addr low) some) in omega (arith, above, far))

pub last_is_near : (m : BTreeMap ℕ ℕ) (addr base device : ℕ) (r t : List (ℕ × ℕ)) → IsOrdered nat_cmp m → DoNotOverlap (windows_of m.entries) → UpTo addr m r → r ≡ t ++ (base, device) ∷ [] → addr - base < 4096
    → spot_at (windows_of m.entries) addr ≡ Some (record { device = device; offset = addr - base })
last_is_near m addr base device r t ordered apart part last near =
    let entry = part.3 (base, device) t last in
    let low : base ≤ addr = le_from_not_gt base addr entry.0.1 in
    found_at m addr base device ordered apart entry.1 low (omega (arith, low, near))
